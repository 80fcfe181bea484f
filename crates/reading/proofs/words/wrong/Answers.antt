use mathlib.Core.Path.{◌≡◌, sym, ◌∙◌}
use mathlib.Core.List.{map}
use native.Mathlib.Omega.{arith}
use lib.ListN.{length}
use borrow.Author.Tests.{eq-eqb, ne_eqb}
use Rattle.meaning.specs.Reading.{lower, from}
use Rattle.reading.proofs.Letters.{e_found, e_missing}
use Rattle.reading.proofs.words.wrong.Goals as goal

pub returns-in-Some : goal.returns-in-Some
returns-in-Some c =
    let e = e_found c.args.rest.now c.in-Some.e (sym c.in-Some.is ∙ c.find_e.ensures) in
    let one : length (from 101 (map lower c.args.rest.now)) ≡ 1 = omega (arith, e, c.if-e-rest.true) in
    rw (eq-eqb _ 1 one)

pub returns-in_default : goal.returns-in_default
returns-in_default c =
    let e = e_found c.args.rest.now c.in-Some.e (sym c.in-Some.is ∙ c.find_e.ensures) in
    rw (ne_eqb (length (from 101 (map lower c.args.rest.now))) 1 (λ one. c.if-e-rest.false (omega (arith, e))))

pub returns-in_default-2 : goal.returns-in_default-2
returns-in_default-2 c =
    let e = e_missing c.args.rest.now (sym c.in_default.is ∙ c.find_e.ensures) in
    rw (ne_eqb (length (from 101 (map lower c.args.rest.now))) 1 (λ one. omega arith))
