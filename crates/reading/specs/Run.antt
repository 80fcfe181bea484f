-- The run of step 7, as it lies in the text: document 01, 'Reading text', steps 6 to 10.
use Rattle.std.specs.Prelude.{◌≡◌, true, cond, List, [], ◌∷◌, ℕ, ◌+◌, ◌-◌, ◌^◌, ◌≤◌, ◌<◌, min, max, eqb, ltb, length, drop, map}
use Rattle.std.proofs.Math.Seq.{slice}
use Rattle.meaning.specs.Reading.{Located, lower, all_digits, strip_zeros, all_zeros, holds, step2, step7}
use Rattle.limbs.specs.declared.wide.Stand.{Stand}
use Rattle.reading.specs.declared.scan.Found.{Found}
use Rattle.reading.specs.declared.scan.Scan.{Scan}
use Rattle.reading.specs.Scan.{all_plain}

-- a list whose first byte stands at i, without the byte that stands at p
unfoldable pub without : ℕ → ℕ → List ℕ → List ℕ
without p i [] = []
without p i (b ∷ s) = cond (eqb i p) (without p (i + 1) s) (b ∷ without p (i + 1) s)

-- the bytes of s from offset i up to t, without the one at p
unfoldable pub run : ℕ → ℕ → ℕ → List ℕ → List ℕ
run p i t s = without p i (slice i t s)

-- the run of a scanned text from i up to t, and that of its whole decimal part
abbrev pub run_of : Scan → ℕ → ℕ → List ℕ
run_of d i t = run d.found.point i t d.text.now

abbrev pub whole_run : Scan → List ℕ
whole_run d = run_of d d.start d.stop

-- what steps 2 to 11 make of a text after its sign
abbrev pub from_step2 : Scan → Located
from_step2 d = step2 d.text.now d.negative (map lower (drop d.start d.text.now))

-- what steps 7 to 11 make of the run, at the exponent that stands as n
abbrev pub from_step7 : Scan → ℕ → Located
from_step7 d n = step7 d.text.now d.negative n (strip_zeros (whole_run d))

-- how many they are: those before p and those after it
abbrev pub counted : ℕ → ℕ → ℕ → ℕ
counted p i t = min p t - i + (t - max (p + 1) i)

-- r is the first offset up to which there are n of them
pub record Offset (p i n r : ℕ) : Type 0 where
  pub after : i ≤ r
  pub count : counted p i r ≡ n
  pub first : (t : ℕ) → i ≤ t → n ≤ counted p i t → r ≤ t

-- the run from i up to t begins with zeros up to r, and with no more
pub record ZerosTo (p i t : ℕ) (s : List ℕ) (r : ℕ) : Type 0 where
  pub after : i ≤ r
  pub within : r ≤ t
  pub strip : strip_zeros (run p i t s) ≡ run p r t s
  pub zeros : all_zeros (run p i t s) ≡ eqb r t
  pub apart : r < t → r ≡ p → ⊥

-- a run of n bytes, at least one, that begins with no zero
pub record Leads (r : List ℕ) (n : ℕ) : Type 0 where
  pub count : length r ≡ n
  pub some : 1 ≤ n
  pub first : strip_zeros r ≡ r

-- the run from i up to the stop can be walked: digits and points, and `second` is where its first point stands, if it has one
pub record Walked (s : List ℕ) (i stop : ℕ) (found : Found) : Type 0 where
  pub ordered : i ≤ stop
  pub within : stop ≤ length s
  pub plain : all_plain (run found.point i stop s) ≡ true
  pub second : (t : ℕ) → i ≤ t → t ≤ stop → holds 46 (run found.point i t s) ≡ ltb found.second t

-- digits that, written behind v, make a number of at most 34 digits
pub record Row (l : List ℕ) (v : ℕ) : Type 0 where
  pub digits : all_digits l ≡ true
  pub few : length l ≤ 34
  pub small : v < 10 ^ (34 - length l)

-- a text is all decimal part, of at most 19 bytes, with a digit and at most one point
pub record Plain (d : Scan) : Type 0 where
  pub end : d.stop ≡ length d.text.now
  pub few : d.stop - d.start ≤ 19
  pub some : d.found.points < d.stop - d.start
  pub one : d.found.points < 2

-- steps 7 to 11 cut and pad nothing: x is in range, and `width` bytes have at most 34 digits and one point
pub record Short (p : Stand) (width points : ℕ) : Type 0 where
  pub below : p.below ≡ 0
  pub above : p.above ≡ 0
  pub one : points < 2
  pub few : width - points ≤ 34
