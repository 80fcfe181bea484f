-- What the code's order tells, the kinds of a value, and the magnitudes of two finite ones.
use Rattle.std.specs.Prelude.{Bool, true, false, ◌^◌, ◌<◌, Option, Some, None}
use Rattle.std.specs.declared.cmp.Ordering.{Ordering}
use Rattle.std.specs.declared.cmp.Ordering.TheVariants.{Less, Equal, Greater}
use Rattle.std.specs.Ordering.{nat_cmp}
use Rattle.limbs.specs.Value.{value}
use Rattle.limbs.specs.Count.{Counts}
use Rattle.layout.specs.declared.Kind.{Kind}
use Rattle.layout.specs.declared.Kind.TheVariants.{Nan, Infinity, Finite}
use Rattle.layout.specs.declared.Fields.{Fields}
use Rattle.layout.specs.declared.Unpacked.{Unpacked}
use Rattle.meaning.specs.Order as meaning
use Rattle.meaning.specs.Order.{scaled}
use Rattle.meaning.specs.Order.Relation.{less, equal, greater, unordered}

abbrev pub told_of : Ordering → meaning.Relation
told_of Less = less
told_of Equal = equal
told_of Greater = greater

-- no order is none of these
abbrev pub told : Option Ordering → meaning.Relation
told (Some o) = told_of o
told None = unordered

-- a negative value beside a greater one, any other beside a lesser
abbrev pub side_of : Bool → meaning.Relation
side_of true = less
side_of false = greater

abbrev pub is_finite : Kind → Bool
is_finite (Nan q) = false
is_finite Infinity = false
is_finite Finite = true

abbrev pub is_nan : Kind → Bool
is_nan (Nan q) = true
is_nan Infinity = false
is_nan Finite = false

-- a·10^x against c·10^e
abbrev pub magnitudes_of : Fields → Fields → Ordering
magnitudes_of f g =
    nat_cmp (scaled (value f.coefficient) f.exponent g.exponent) (scaled (value g.coefficient) g.exponent f.exponent)

-- a coefficient of the format, and its digits
abbrev pub Sized : Unpacked → Type 0
Sized u = (value u.fields.coefficient < 10 ^ 34) × Counts (value u.fields.coefficient) u.digits
