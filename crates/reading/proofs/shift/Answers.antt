use mathlib.Core.Path.{◌≡◌, sym, ap, ◌∙◌}
use mathlib.Core.Bool.{Bool, true, false, true≢false}
use Prim.Native.Nat.{ℕ, ◌^◌, ◌≤◌, ◌<◌}
use native.Mathlib.Omega.{arith}
use lib.Dec.{ltb}
use lib.ListN.{length, get_or}
use borrow.Author.Tests.{eqb-true, eq-eqb, ltb-true, ltb-false}
use Rattle.meaning.specs.Reading.{lower}
use Rattle.reading.specs.declared.scan.Scan.{Scan}
use Rattle.reading.specs.Scan.{is_e}
use Rattle.reading.proofs.Letters.{is_e-lower}
use Rattle.reading.proofs.Points.{stop_within}
use Rattle.reading.proofs.Shifts.{end-wrong, end-right, other-wrong, split-empty, split-wrong, exponent-right, exponent-wrong}
use mathlib.Core.List.{List}
use Rattle.std.specs.Prelude.{Result, Ok, Err, IsErrAnd}
use Rattle.limbs.specs.Wide.{Shift}
use Rattle.reading.specs.declared.answer.Refusal.{Refusal}
use Rattle.reading.specs.declared.scan.Found.{Found}
use Rattle.reading.specs.Split.{Refusing, Shifted}
use Rattle.reading.proofs.shift.Goals as goal
use Rattle.std.proofs.lemmas.List.{take_rest}

within : (d : Scan) → d.stop ≤ length d.text.now
within d = stop_within _ _ _ _ d.scanned d.within

-- nothing follows the decimal part, or something does
ended : (d : Scan) → false ≡ ltb d.stop (length d.text.now) → d.stop ≡ length d.text.now
ended d e = let l = ltb-false d.stop (length d.text.now) (sym e) in omega (arith, within d)

more : (d : Scan) → true ≡ ltb d.stop (length d.text.now) → d.stop < length d.text.now
more d e = ltb-true d.stop (length d.text.now) (sym e)

-- and that is an `e`
letter : (d : Scan) (b : ℕ) {r : Bool} → b ≡ get_or d.text.now d.stop 0 → r ≡ is_e b → r ≡ true → lower (get_or d.text.now d.stop 0) ≡ 101
letter d b i e t =
    let x = get_or d.text.now d.stop 0 in
    eqb-true (lower x) 101 (sym (is_e-lower x) ∙ ap is_e (sym i) ∙ sym e ∙ t)

no_letter : (d : Scan) (b : ℕ) {r : Bool} → b ≡ get_or d.text.now d.stop 0 → r ≡ is_e b → r ≡ false → lower (get_or d.text.now d.stop 0) ≡ 101 → ⊥
no_letter d b i e f q =
    let x = get_or d.text.now d.stop 0 in
    true≢false (sym (eq-eqb (lower x) 101 q) ∙ sym (is_e-lower x) ∙ ap is_e (sym i) ∙ sym e ∙ f)

pub returns-then-not-has_digit : goal.returns-then-not-has_digit
returns-then-not-has_digit c =
    let d = c.args.scan.now in end-wrong _ _ _ _ d.scanned d.within d.signed (ended d c.in_default.ensures.lookup.0) c.if-not-has_digit.true

pub minus-requires : goal.minus-requires
minus-requires c = let d = c.args.scan.now in omega (arith, c.fraction-f.ensures, within d, d.small)

pub returns-in_default : goal.returns-in_default
returns-in_default c =
    let d = c.args.scan.now in
    let small : c.fraction-f.result < 2 ^ 63 = omega (arith, c.fraction-f.ensures, within d, d.small) in
    end-right _ _ _ _ d.scanned d.within d.signed (ended d c.in_default.ensures.lookup.0) _ _ c.if-not-has_digit.false c.fraction-f.ensures small c.minus.ensures

pub returns-then-not-eq_ignore_ascii_case : goal.returns-then-not-eq_ignore_ascii_case
returns-then-not-eq_ignore_ascii_case c =
    let d = c.args.scan.now in
    let l = c.in-Some.ensures.lookup in
    let other = no_letter d _ (l.4 (omega arith) 0) c.eq_ignore_ascii_case.ensures c.if-not-eq_ignore_ascii_case.true in
    let w = rw take_rest at c.wrong.ensures in
    rw w (other-wrong _ _ _ _ d.scanned d.within d.signed (more d l.0) other)

pub returns-then-stop-text : goal.returns-then-stop-text
returns-then-stop-text c =
    let d = c.args.scan.now in
    let l = c.in-Some.ensures.lookup in
    let split = letter d _ (l.4 (omega arith) 0) c.eq_ignore_ascii_case.ensures c.if-not-eq_ignore_ascii_case.false in
    split-empty _ _ _ _ d.scanned d.within d.signed (more d l.0) split c.if-stop-text.true

pub returns-then-not-has_digit-2 : goal.returns-then-not-has_digit-2
returns-then-not-has_digit-2 c =
    let d = c.args.scan.now in
    let l = c.in-Some.ensures.lookup in
    let m = more d l.0 in
    let split = letter d _ (l.4 (omega arith) 0) c.eq_ignore_ascii_case.ensures c.if-not-eq_ignore_ascii_case.false in
    split-wrong _ _ _ _ d.scanned d.within d.signed m split (omega (arith, m, c.if-stop-text.false)) c.if-not-has_digit-2.true

-- the error that a `?` makes of the exponent's
refused : (s : List ℕ) (start stop : ℕ) (found : Found) {e : Refusal} (r : Result Shift Refusal) → IsErrAnd r (λ q. q ≡ e) → Refusing s start stop e → Shifted s start stop found r
refused s start stop found (Ok x) h k = absurd h
refused s start stop found (Err q) h k = rw h k

pub returns-in_err-exponent_less : goal.returns-in_err-exponent_less
returns-in_err-exponent_less c =
    let d = c.args.scan.now in
    let l = c.in-Some.ensures.lookup in
    let m = more d l.0 in
    let split = letter d _ (l.4 (omega arith) 0) c.eq_ignore_ascii_case.ensures c.if-not-eq_ignore_ascii_case.false in
    refused _ _ _ _ c.from_residual.result c.from_residual.ensures.1
    (exponent-wrong _ _ _ _ d.scanned d.within d.signed m split (omega (arith, m, c.if-stop-text.false)) c.if-not-has_digit-2.false _ c.fraction-f.ensures _
    (rw take_rest at c.in_err-exponent_less.ensures))

pub returns : goal.returns
returns c =
    let d = c.args.scan.now in
    let l = c.in-Some.ensures.lookup in
    let m = more d l.0 in
    let split = letter d _ (l.4 (omega arith) 0) c.eq_ignore_ascii_case.ensures c.if-not-eq_ignore_ascii_case.false in
    exponent-right _ _ _ _ d.scanned d.within d.signed m split (omega (arith, m, c.if-stop-text.false)) c.if-not-has_digit-2.false _ c.fraction-f.ensures _
    (rw take_rest at c.in_ok-exponent_less.ensures)
