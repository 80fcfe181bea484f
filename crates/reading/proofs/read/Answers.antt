use mathlib.Core.Path.{◌≡◌, sym, ◌∙◌}
use mathlib.Core.Bool.{false, true≢false}
use Prim.Native.Nat.{ℕ, zero, suc, ◌<◌}
use native.Mathlib.Omega.{arith}
use lib.ListN.{length}
use lib.Dec.{eqb}
use borrow.Author.Tests.{eqb-true}
use Rattle.reading.proofs.Giving.{gives_refused}
use Rattle.reading.proofs.Letters.{read_empty, read_start}
use Rattle.reading.proofs.Where.{sign_is}
use Rattle.reading.proofs.read.Goals as goal

pub returns-then-is_empty : goal.returns-then-is_empty
returns-then-is_empty c =
    let none : length c.args.text.now ≡ 0 = eqb-true _ _ (sym c.is_empty.ensures ∙ c.if-is_empty.true) in
    rw (read_empty _ none) (gives_refused c.at.ensures.refusal c.at.ensures.place)

some : (n : ℕ) → eqb n 0 ≡ false → 0 < n
some zero e = absurd (true≢false e)
some (suc n) e = omega arith

pub of-requires-clause-some : goal.of-requires-clause-some
of-requires-clause-some c = some _ (sym c.is_empty.ensures ∙ c.if-is_empty.false)

pub of-requires-clause-signed : goal.of-requires-clause-signed
of-requires-clause-signed c =
    sign_is _ (some _ (sym c.is_empty.ensures ∙ c.if-is_empty.false)) ∙ sym c.start_of.ensures

pub returns : goal.returns
returns c =
    let one = some _ (sym c.is_empty.ensures ∙ c.if-is_empty.false) in
    let e = c.of.ensures in
    rw (read_start _ one _ c.start_of.ensures) (rw (e.text, e.negative, e.start) at c.after_sign.ensures)
