use mathlib.Core.Path.{◌≡◌, refl, ◌∙◌}
use native.Mathlib.Omega.{arith}
use lib.ListN.{length, drop}
use Rattle.reading.specs.declared.scan.Scan.{Scan}
use Rattle.reading.specs.Scan.{decimals}
use Rattle.reading.specs.Run.{from_step2}
use Rattle.reading.specs.Split.{from_step3}
use Rattle.reading.proofs.Giving.{gives_refused}
use Rattle.reading.proofs.Letters.{no_word}
use Rattle.reading.proofs.Points.{stop_within, fraction_few}
use Rattle.reading.proofs.Shifts.{end-gives}
use Rattle.reading.proofs.after_sign.Goals as goal

-- what is left to do after step 2, where a digit or a point stands first
steps : (d : Scan) → (d.stop ≡ d.start → ⊥) → from_step2 d ≡ from_step3 d.text.now d.start d.negative
steps d e =
    let some : length (decimals (drop d.start d.text.now)) ≡ 0 → ⊥ = λ z. e (d.scanned.stops ∙ omega arith) in
    no_word _ _ _ some

pub returns-then-is_plain : goal.returns-then-is_plain
returns-then-is_plain c =
    let d = c.args.scan.now in
    let p = c.is_plain.ensures c.if-is_plain.true in
    let f = fraction_few _ _ _ _ d.scanned d.within in
    let e = end-gives _ _ _ _ d.scanned d.within d.signed p.end _ p.some refl (omega (arith, f, p.few)) d.negative in
    rw (steps d (λ z. omega (arith, p.some)) ∙ e) c.plain.ensures

pub early-requires-clause-within : goal.early-requires-clause-within
early-requires-clause-within c = let d = c.args.scan.now in stop_within _ _ _ _ d.scanned d.within

pub returns-in-Ok : goal.returns-in-Ok
returns-in-Ok c =
    let d = c.args.scan.now in
    let l = c.in-Ok.ensures in rw (steps d c.if-scan.false, l.gives d.negative) (c.finite.ensures l.power l.stands)

pub returns-in-Err : goal.returns-in-Err
returns-in-Err c =
    let d = c.args.scan.now in
    rw (steps d c.if-scan.false, c.in-Err.ensures.gives d.negative) (gives_refused c.at.ensures.refusal (c.at.ensures.place ∙ c.early.ensures))
