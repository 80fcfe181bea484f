-- What one pass over the decimal part of a text finds: document 01, 'Reading text', steps 4 and 6.
use Rattle.std.specs.Prelude.{◌≡◌, Bool, true, false, cond, ◌&&◌, ◌||◌, List, [], ◌∷◌, ℕ, ◌+◌, ◌-◌, ◌*◌, ◌≤◌, ◌<◌, eqb, length, drop, get_or}
use Rattle.std.specs.Char.{eq_ignore_ascii_case}
use Rattle.std.proofs.Math.Seq.{slice}
use Rattle.meaning.specs.Reading.{is_digit, number}
use Rattle.reading.specs.declared.scan.Found.{Found}

-- ---- the bytes of a decimal part

-- a digit or a point
abbrev pub is_plain : ℕ → Bool
is_plain b = is_digit b || eqb b 46

-- `e` in either case
abbrev pub is_e : ℕ → Bool
is_e b = eq_ignore_ascii_case b 101

unfoldable pub all_plain : List ℕ → Bool
all_plain [] = true
all_plain (b ∷ s) = is_plain b && all_plain s

-- the digits and points that a text begins with
unfoldable pub decimals : List ℕ → List ℕ
decimals [] = []
decimals (b ∷ s) = cond (is_plain b) (b ∷ decimals s) []

-- where the first b stands in a list whose first byte stands at i; n where there is none
unfoldable pub first_at : ℕ → ℕ → ℕ → List ℕ → ℕ
first_at b n i [] = n
first_at b n i (x ∷ s) = cond (eqb x b) i (first_at b n (i + 1) s)

-- where the second point stands
unfoldable pub second_at : ℕ → ℕ → List ℕ → ℕ
second_at n i [] = n
second_at n i (x ∷ s) = cond (eqb x 46) (first_at 46 n (i + 1) s) (second_at n (i + 1) s)

unfoldable pub points : List ℕ → ℕ
points [] = 0
points (x ∷ s) = cond (eqb x 46) (1 + points s) (points s)

unfoldable pub unpointed : List ℕ → List ℕ
unpointed [] = []
unpointed (x ∷ s) = cond (eqb x 46) (unpointed s) (x ∷ unpointed s)

-- ---- a step of the pass

-- nothing is found yet in a text of n bytes
abbrev pub none_found : ℕ → Found
none_found n = record { point = n; second = n; points = 0; value = 0 }

abbrev pub with_digit : Found → ℕ → Found
with_digit m b =
    record { point = m.point; second = m.second; points = m.points; value = m.value * 10 + (b - 48) }

-- the first two points are kept, and all are counted
abbrev pub with_point : Found → ℕ → Found
with_point m i =
    record {
      point = cond (eqb m.points 0) i m.point;
      second = cond (eqb m.points 1) i m.second;
      points = m.points + 1;
      value = m.value;
    }

-- ---- the whole pass

-- the decimal part ends at i
abbrev pub Stopped : List ℕ → ℕ → Type 0
Stopped s i = i < length s → is_plain (get_or s i 0) ≡ false

-- what it finds
pub record Scanned (s : List ℕ) (start stop : ℕ) (found : Found) : Type 0 where
  pub stops : stop ≡ start + length (decimals (drop start s))
  pub points : found.points ≡ points (decimals (drop start s))
  pub point : found.point ≡ first_at 46 (length s) start (decimals (drop start s))
  pub second : found.second ≡ second_at (length s) start (decimals (drop start s))
  -- only of a short text, with at most 19 bytes from start on: nothing is said about the value of a longer one
  pub value : length s ≤ start + 19 → found.value ≡ number 0 (unpointed (slice start stop s))
  pub ended : Stopped s stop
