use mathlib.Core.Path.{◌≡◌, ◌∙◌}
use Prim.Native.Nat.{◌≤◌}
use native.Mathlib.Omega.{arith}
use Rattle.meaning.specs.Reading.{number}
use Rattle.limbs.specs.Value.{value}
use Rattle.reading.specs.Run.{whole_run}
use Rattle.reading.proofs.Giving.{gives_finite}
use Rattle.reading.proofs.Points.{fraction_few}
use Rattle.reading.proofs.Steps.{field_of}
use Rattle.reading.proofs.Whole.{whole-value, whole-counts, whole-steps}
use Rattle.reading.proofs.plain.Goals as goal

pub overflow_cast-field : goal.overflow_cast-field
overflow_cast-field c =
    let d = c.args.scan.now in omega (arith, c.fraction.ensures, fraction_few _ _ _ _ d.scanned d.within, c.requires.few)

pub overflow_sub-field : goal.overflow_sub-field
overflow_sub-field c =
    let d = c.args.scan.now in omega (arith, c.fraction.ensures, fraction_few _ _ _ _ d.scanned d.within, c.requires.few)

pub finite-requires-clause-digits : goal.finite-requires-clause-digits
finite-requires-clause-digits c =
    let d = c.args.scan.now in
    let v = c.of_u64-c.ensures ∙ whole-value d c.requires.one (omega (arith, c.requires.end, c.requires.few)) in
    rw (v, c.digits.ensures) (whole-counts d c.requires.one)

pub returns : goal.returns
returns c =
    let d = c.args.scan.now in
    let p = c.requires in
    let f : c.fraction.result ≤ 6176 = omega (arith, c.fraction.ensures, fraction_few _ _ _ _ d.scanned d.within, p.few) in
    let v : value c.of_u64-c.result ≡ number 0 (whole_run d) =
    c.of_u64-c.ensures ∙ whole-value d p.one (omega (arith, p.end, p.few)) in
    let r = field_of _ f in
    rw (← c.fraction.ensures, whole-steps d p.one (omega (arith, p.few)) _ r.0 r.1) (gives_finite c.finite.ensures r.2 v)
