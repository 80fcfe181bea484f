use mathlib.Core.Path.{ap, ◌∙◌}
use Prim.Native.Nat.{ℕ}
use native.Mathlib.Omega.{arith}
use borrow.Author.Rules.{rules}
use lib.ListN.{replicate, length-replicate}
use Rattle.writing.proofs.Written.{written-part}
use Rattle.writing.proofs.pieces.put_zeros.Goals as goal

pub returns : goal.returns
returns c =
    written-part c.args.at _ (replicate c.args.count 48) c.args.buf.now
    (c.fill.ensures.after (λ _ e. e) ∙ ap (λ (n : ℕ). replicate n 48) (search rules))
    (rw length-replicate (omega arith))
