-- What an unpacked value means, and that its count is true.
use Rattle.std.specs.Prelude.{◌≡◌, Bool, ℕ, ◌≤◌}
use Rattle.meaning.specs.Decimal.{Decimal, InRange}
use Rattle.meaning.specs.Decimal.Decimal.{finite}
use Rattle.layout.specs.Fields.{said, digits_of}
use Rattle.layout.specs.declared.Unpacked.{Unpacked}

unfoldable pub meant : Unpacked → Decimal
meant u = said u.fields

-- the count that an unpacked value carries is that of what it means
abbrev pub TrueCount : Unpacked → Type 0
TrueCount u = u.digits ≡ digits_of (meant u)

-- every unpacked value is in range, and its count is true
abbrev pub EveryOneIsTrue : Type 0
EveryOneIsTrue = (u : Unpacked) → InRange (meant u) × TrueCount u

abbrev pub CountIsOneToThirtyFour : Type 0
CountIsOneToThirtyFour = (u : Unpacked) → (1 ≤ u.digits) × (u.digits ≤ 34)

abbrev pub ZeroHasOneDigit : Type 0
ZeroHasOneDigit = (s : Bool) (e : ℕ) → digits_of (finite s e 0) ≡ 1
