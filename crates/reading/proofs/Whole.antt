-- The whole decimal part of a scanned text, with at most one point and 34 digits.
use mathlib.Core.Path.{◌≡◌, ap, ◌∙◌}
use mathlib.Core.Bool.{true}
use Prim.Native.Nat.{ℕ, ◌+◌, ◌-◌, ◌^◌, ◌≤◌, ◌<◌, max}
use native.Mathlib.Omega.{arith}
use lib.ListN.{length}
use Rattle.meaning.specs.Reading.{accepted_as, low, high, number, all_digits, strip_zeros}
use Rattle.meaning.specs.Decimal.Decimal.{finite}
use Rattle.limbs.specs.Count.{Counts}
use Rattle.reading.specs.declared.scan.Scan.{Scan}
use Rattle.reading.specs.Run.{whole_run, from_step7}
use Rattle.reading.proofs.Leading.{strip_counts}
use Rattle.reading.proofs.Points.{stop_low, short-digits, short-value, short-length}
use Rattle.reading.proofs.Steps.{steps_short, number_most}

module _ (d : Scan) (o : d.found.points < 2) where
  pub whole-digits : all_digits (whole_run d) ≡ true
  whole-digits = short-digits _ _ _ _ d.scanned d.within o d.stop (stop_low _ _ _ _ d.scanned d.within) (omega arith)

  pub whole-value : length d.text.now ≤ d.start + 19 → d.found.value ≡ number 0 (whole_run d)
  whole-value h =
      d.scanned.value h
      ∙ ap (number 0) (short-value _ _ _ _ d.scanned d.within o d.stop (stop_low _ _ _ _ d.scanned d.within) (omega arith))

  pub whole-counts : Counts (number 0 (whole_run d)) (max 1 (length (strip_zeros (whole_run d))))
  whole-counts = strip_counts (whole_run d) whole-digits

  module _ (few : d.stop - d.start - d.found.points ≤ 34) where
    pub whole-length : length (whole_run d) ≤ 34
    whole-length = rw (short-length _ _ _ _ d.scanned d.within o) few

    pub whole-most : number 0 (whole_run d) < 10 ^ 34
    whole-most = number_most (whole_run d) whole-digits whole-length

    pub whole-steps : (n : ℕ) → low ≤ n → n ≤ high → from_step7 d n ≡ accepted_as (finite d.negative (n - low) (number 0 (whole_run d)))
    whole-steps n h k = steps_short d.text.now d.negative n h k (whole_run d) whole-digits whole-length
