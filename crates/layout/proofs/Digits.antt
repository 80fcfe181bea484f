-- The count of an unpacked value is from 1 to 34, and 1 for zero.
use mathlib.Core.Path.{sym}
use lib.Dec.{lit<, lit≤}
use Prim.Native.Nat.{◌≤◌}
use Rattle.meaning.specs.Decimal.{Decimal, InRange}
use Rattle.meaning.specs.Decimal.Decimal.{nan, infinity, finite}
use Rattle.meaning.proofs.Digits.{decimal_some, few}
use Rattle.limbs.proofs.Counting.{counts_decimal, zero_counts}
use Rattle.layout.specs.Fields.{digits_of}
use Rattle.layout.specs.Unpacked.{meant, EveryOneIsTrue, CountIsOneToThirtyFour, ZeroHasOneDigit}

digits_few : (v : Decimal) → InRange v → (1 ≤ digits_of v) × (digits_of v ≤ 34)
unfolding digits_of
digits_few (nan s q) h = (lit≤ tt, lit≤ tt)
digits_few (infinity s) h = (lit≤ tt, lit≤ tt)
digits_few (finite s e c) h = (decimal_some c h.1, few c 33 h.1)

pub every_one_is_true : EveryOneIsTrue
unfolding meant
every_one_is_true u = (u.ranged, u.counted)

pub count_is_one_to_thirty_four : CountIsOneToThirtyFour
count_is_one_to_thirty_four u = let t = every_one_is_true u in rw t.1 (digits_few (meant u) t.0)

pub zero_has_one_digit : ZeroHasOneDigit
unfolding digits_of
zero_has_one_digit s e = sym (counts_decimal 0 1 (lit< tt) zero_counts)
