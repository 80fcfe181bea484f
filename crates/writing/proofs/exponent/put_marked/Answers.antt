use mathlib.Core.Path.{refl, ◌∙◌}
use mathlib.Core.List.{[], ◌∷◌}
use Prim.Native.Nat.{◌+◌}
use native.Mathlib.Omega.{arith}
use Rattle.meaning.specs.Writing.{decimal}
use Rattle.writing.proofs.Low.{low_all}
use Rattle.writing.proofs.Written.{follow}
use Rattle.writing.proofs.exponent.put_marked.Goals as goal

pub returns : goal.returns
returns c =
    follow c.args.at (c.args.at + 2) (69 ∷ c.args.mark ∷ []) (decimal c.args.number) _ c.put_two.ensures
    (c.put_low.ensures.buf_after ∙ rw (low_all _ _ c.requires.count))
    refl
    (omega arith)
