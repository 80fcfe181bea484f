-- What is left to do after steps 1, 3 and 6: document 01, 'Reading text'.
use Rattle.std.specs.Prelude.{◌≡◌, Bool, cond, ◌||◌, List, map, ℕ, eqb, length, drop, Result, MatchResult}
use Rattle.meaning.specs.Reading.{Located, lower, before, from, strip_zeros, refused_at, step3, step7}
use Rattle.limbs.specs.Wide.{Shift, Stands}
use Rattle.reading.specs.declared.answer.Refusal.{Refusal}
use Rattle.reading.specs.declared.answer.Refusal.TheVariants.{EmptyExponent, Unparseable}
use Rattle.reading.specs.declared.scan.Found.{Found}
use Rattle.reading.specs.Run.{run}
use Rattle.reading.specs.Told.{named}
use Rattle.reading.specs.Parted.{place_for, Parted}

-- where a text starts whose first byte is b: after its sign
abbrev pub start_of : ℕ → ℕ
start_of b = cond (eqb b 45 || eqb b 43) 1 0

-- the refusal of a wrong decimal part; t is what stands from the first `e` on
abbrev pub wrong_for : List ℕ → Refusal
wrong_for t = cond (eqb (length t) 1) EmptyExponent Unparseable

-- what steps 3 to 11 make of a text that starts at an offset, after its sign
abbrev pub from_step3 : List ℕ → ℕ → Bool → Located
from_step3 s start sign = let t = map lower (drop start s) in step3 s sign (before 101 t) (from 101 t)

-- steps 3 to 6 refuse it
pub record Refusing (s : List ℕ) (start stop : ℕ) (r : Refusal) : Type 0 where
  pub gives : (sign : Bool) → from_step3 s start sign ≡ refused_at (named r) (place_for r stop s)

-- steps 3 to 6 leave step 7 to do, with x and the run
pub record Leaving (s : List ℕ) (start stop : ℕ) (found : Found) (x : Shift) : Type 0 where
  pub power : ℕ
  pub stands : Stands power x
  pub parted : Parted s start
  pub gives : (sign : Bool) → from_step3 s start sign ≡ step7 s sign power (strip_zeros (run found.point start stop s))

abbrev pub Shifted : List ℕ → ℕ → ℕ → Found → Result Shift Refusal → Type 0
Shifted s start stop found r = MatchResult r (Leaving s start stop found) (Refusing s start stop)
