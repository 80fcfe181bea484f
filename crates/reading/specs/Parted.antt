-- The places of a text's refusals, by what the pass over its decimal part found: document 02, ticket 2.
use Rattle.std.specs.Prelude.{◌≡◌, List, ℕ, ◌+◌, ◌-◌, ◌≤◌, ◌<◌, min, length, drop}
use Rattle.meaning.specs.Reading.{after_e, sign_length, decimal_of, second_point, first_cut}
use Rattle.reading.specs.declared.answer.Refusal.{Refusal}
use Rattle.reading.specs.declared.answer.Refusal.TheVariants.{EmptyExponent, Unparseable}
use Rattle.reading.specs.declared.scan.Found.{Found}
use Rattle.reading.specs.declared.scan.Scan.{Scan}
use Rattle.reading.specs.Scan.{decimals}
use Rattle.reading.specs.Run.{Offset, ZerosTo, Walked}

-- the place after the `e` that stands at `stop`, or the length of s where none does
abbrev pub behind : ℕ → List ℕ → ℕ
behind stop s = min (stop + 1) (length s)

-- the place of a refusal of steps 3 to 6: an empty exponent at the last byte, a wrong byte at the stop, the others after the `e`
abbrev pub place_for : Refusal → ℕ → List ℕ → ℕ
place_for EmptyExponent stop s = length s - 1
place_for Unparseable stop s = stop
place_for _ stop s = behind stop s

-- s has its sign before start, and from there on its decimal part, after which an `e` stands or nothing
pub record Parted (s : List ℕ) (start : ℕ) : Type 0 where
  pub sign : sign_length s ≡ start
  pub decimal : decimal_of s ≡ decimals (drop start s)

-- the places of steps 8 to 11, where the run begins at `first`
pub record Placed (s : List ℕ) (first stop : ℕ) (found : Found) : Type 0 where
  pub letter : after_e s ≡ behind stop s
  pub second : found.second < stop → second_point s ≡ found.second
  pub cut : (n i t r : ℕ) → Offset found.point first n i → t ≤ stop → ZerosTo found.point i t s r → r < t → first_cut n s ≡ r

-- the run of a scanned text can be walked from `first` on, and what is refused there has a place
pub record Walkable (d : Scan) (first : ℕ) : Type 0 where
  pub walked : Walked d.text.now first d.stop d.found
  pub placed : Placed d.text.now first d.stop d.found
