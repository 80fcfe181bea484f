-- What a value and a refusal give.
use mathlib.Core.Path.{◌≡◌, ap}
use mathlib.Core.Bool.{Bool}
use Prim.Native.Nat.{ℕ}
use Rattle.std.specs.Prelude.{Ok, Err}
use Rattle.meaning.specs.Decimal.{Decimal}
use Rattle.meaning.specs.Decimal.Decimal.{finite}
use Rattle.meaning.specs.Reading.{refused_at, accepted_as}
use Rattle.layout.specs.declared.Unpacked.{Unpacked}
use Rattle.layout.specs.Unpacked.{meant}
use Rattle.reading.specs.declared.answer.Refusal.{Refusal}
use Rattle.reading.specs.declared.answer.Refused.{Refused}
use Rattle.reading.specs.Told.{named, Gives}

pub gives_value : {u : Unpacked} {v : Decimal} → meant u ≡ v → Gives (accepted_as v) (Ok u)
gives_value e = record { tells = ap accepted_as e }

-- the value that answer::finite makes
pub gives_finite : {u : Unpacked} {g : Bool} {f v k w : ℕ} → meant u ≡ finite g f v → f ≡ k → v ≡ w → Gives (accepted_as (finite g k w)) (Ok u)
gives_finite e p q = gives_value (rw (← p, ← q) e)

pub gives_refused : {e : Refused} {r : Refusal} {p : ℕ} → e.refusal ≡ r → e.place ≡ p → Gives (refused_at (named r) p) (Err e)
gives_refused f g = record { tells = rw (f, g) }
