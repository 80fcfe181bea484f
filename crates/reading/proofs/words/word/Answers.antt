use mathlib.Core.Path.{◌≡◌, refl, sym, ap, ◌∙◌}
use mathlib.Core.Bool.{Bool}
use mathlib.Core.List.{List, map}
use Prim.Native.Nat.{ℕ, ◌-◌}
use native.Mathlib.Omega.{arith}
use lib.ListN.{length, take, drop}
use Rattle.std.specs.Prelude.{IsTrue, ◌↔◌}
use Rattle.std.specs.Char.{to_ascii_lowercase}
use Rattle.meaning.specs.Reading.{lower, same}
use Rattle.reading.specs.declared.scan.Scan.{Scan}
use Rattle.reading.proofs.Giving.{gives_value, gives_refused}
use Rattle.reading.proofs.Letters.{word_is, nan_is, snan-is, infinity-is, inf-is, number_is}
use Rattle.reading.proofs.Split.{wrong_first}
use Rattle.reading.proofs.Where.{wrong-gives}
use Rattle.reading.proofs.words.word.Goals as goal
use Rattle.reading.proofs.words.word.Goals.{then-eq_ignore_ascii_case-3-via-then-eq_ignore_ascii_case-3, then-eq_ignore_ascii_case-3-via-else-eq_ignore_ascii_case-3+then-eq_ignore_ascii_case-4}
use Rattle.std.proofs.lemmas.List.{take_rest}

-- what a comparison of the rest with a word tells
test : (d : Scan) (w : List ℕ) {r : Bool} → (IsTrue r ↔ (map to_ascii_lowercase (take (length d.text.now - d.start) (drop d.start d.text.now)) ≡ map to_ascii_lowercase w)) → map lower w ≡ w → (b : Bool) → r ≡ b → same (map lower (drop d.start d.text.now)) w ≡ b
test d w h e b q = sym (word_is _ _ _ (rw take_rest at h) e) ∙ q

pub returns-then-eq_ignore_ascii_case : goal.returns-then-eq_ignore_ascii_case
returns-then-eq_ignore_ascii_case c =
    let n = c.nan.ensures in
    rw (nan_is _ _ _ (test c.args.scan.now _ c.eq_ignore_ascii_case.ensures.test refl _ c.if-eq_ignore_ascii_case.true)) (gives_value n)

pub returns-then-eq_ignore_ascii_case-2 : goal.returns-then-eq_ignore_ascii_case-2
returns-then-eq_ignore_ascii_case-2 c =
    let n = c.nan-then-eq_ignore_ascii_case-2.ensures in
    let a = test c.args.scan.now _ c.eq_ignore_ascii_case.ensures.test refl _ c.if-eq_ignore_ascii_case.false in
    let b = test c.args.scan.now _ c.eq_ignore_ascii_case-2.ensures.test refl _ c.if-eq_ignore_ascii_case-2.true in
    rw (snan-is _ _ _ a b) (gives_value n)

pub returns-then-eq_ignore_ascii_case-3 : goal.returns-then-eq_ignore_ascii_case-3
returns-then-eq_ignore_ascii_case-3 c =
    let n = c.infinity.ensures in
    let a = test c.args.scan.now _ c.eq_ignore_ascii_case.ensures.test refl _ c.if-eq_ignore_ascii_case.false in
    let b = test c.args.scan.now _ c.eq_ignore_ascii_case-2.ensures.test refl _ c.if-eq_ignore_ascii_case-2.false in
    elim c.then-eq_ignore_ascii_case-3.branch [
      | then-eq_ignore_ascii_case-3-via-then-eq_ignore_ascii_case-3 w ↦
          let e = test c.args.scan.now _ c.eq_ignore_ascii_case-3.ensures.test refl _ w.if-eq_ignore_ascii_case-3.true in
          rw (infinity-is _ _ _ a b e) (gives_value n)
      | then-eq_ignore_ascii_case-3-via-else-eq_ignore_ascii_case-3+then-eq_ignore_ascii_case-4 w ↦
          let e = test c.args.scan.now _ c.eq_ignore_ascii_case-3.ensures.test refl _ w.if-eq_ignore_ascii_case-3.false in
          let f = test c.args.scan.now _ w.eq_ignore_ascii_case-else-eq_ignore_ascii_case-3.ensures.test refl _ w.if-eq_ignore_ascii_case-4.true in
          rw (inf-is _ _ _ a b e f) (gives_value n)
    ]

pub returns : goal.returns
returns c =
    let d = c.args.scan.now in
    let a = test c.args.scan.now _ c.eq_ignore_ascii_case.ensures.test refl _ c.if-eq_ignore_ascii_case.false in
    let b = test c.args.scan.now _ c.eq_ignore_ascii_case-2.ensures.test refl _ c.if-eq_ignore_ascii_case-2.false in
    let e = test c.args.scan.now _ c.eq_ignore_ascii_case-3.ensures.test refl _ c.if-eq_ignore_ascii_case-3.false in
    let f = test c.args.scan.now _ c.eq_ignore_ascii_case-else-eq_ignore_ascii_case-3.ensures.test refl _ c.if-eq_ignore_ascii_case-4.false in
    let none = ap length c.requires in
    let w = rw take_rest at c.wrong-refusal.ensures in
    rw (number_is _ _ _ a b e f, wrong-gives _ _ d.signed d.within d.start (omega (arith, none)) d.negative _ (wrong_first _ c.requires), ← w)
    (gives_refused c.at.ensures.refusal (c.at.ensures.place ∙ c.early.ensures))
