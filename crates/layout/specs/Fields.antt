-- What the fields of 16 bytes say, and how many digits that has.
use Rattle.std.specs.Prelude.{Bool, ℕ, length}
use Rattle.std.specs.Coded.{×_prop, Unit-prop, le_prop}
use Rattle.limbs.specs.Value.{value}
use Rattle.meaning.specs.Decimal.{Decimal, InRange}
use Rattle.meaning.specs.Decimal.Decimal.{nan, infinity, finite}
use Rattle.meaning.specs.Writing.{decimal}
use Rattle.layout.specs.declared.Kind.{Kind}
use Rattle.layout.specs.declared.Kind.TheVariants.{Nan, Infinity, Finite}
use Rattle.layout.specs.declared.Fields.{Fields}

abbrev pub said_by : Kind → Bool → ℕ → ℕ → Decimal
said_by (Nan q) s e c = nan s q
said_by Infinity s e c = infinity s
said_by Finite s e c = finite s e c

unfoldable pub said : Fields → Decimal
said f = said_by f.kind f.negative f.exponent (value f.coefficient)

-- how many decimal digits a value has: those of its coefficient, and 1 where it has none (document 02, ticket 5)
unfoldable pub digits_of : Decimal → ℕ
digits_of (nan s q) = 1
digits_of (infinity s) = 1
digits_of (finite s e c) = length (decimal c)

-- a value is in range in one way at most, so the fact can stand in a type
pub InRange-prop : (v : Decimal) → IsProp (InRange v)
InRange-prop (nan s q) = Unit-prop
InRange-prop (infinity s) = Unit-prop
InRange-prop (finite s e c) = ×_prop le_prop le_prop
