-- Laws of signed numbers, and of the relation of two values by their kinds and signs.
use mathlib.Core.Path.{◌≡◌, refl, sym, ap, ◌∙◌}
use mathlib.Core.Logic.{⊎_elim}
use mathlib.Core.Bool.{Bool, true, false, not, cond, true≢false}
use Prim.Native.Nat.{ℕ, ◌+◌, ◌-◌, ◌*◌, ◌^◌, ◌≤◌, ◌<◌, min}
use native.Mathlib.Nat.{add-zero, zero-add, zero-mul, le-mul_of_pos_right}
use native.Mathlib.Omega.{arith}
use lib.ListN.{length}
use Rattle.meaning.specs.Decimal.{InRange}
use Rattle.meaning.specs.Decimal.Decimal.{finite}
use Rattle.meaning.specs.Order.{compared, signed, scaled, relation}
use Rattle.meaning.specs.Order.Relation.{less, equal, greater, unordered}
use Rattle.meaning.specs.Writing.{decimal}
use Rattle.meaning.proofs.Numbers.{le_or, pow_pos}
use Rattle.meaning.proofs.Ordering.{shown, turns_round}
use Rattle.meaning.specs.Promises.{turned}
use Rattle.limbs.specs.Value.{value}
use Rattle.limbs.specs.Count.{Counts}
use Rattle.std.specs.declared.cmp.Ordering.{Ordering}
use Rattle.std.specs.Ordering.{nat_cmp, ordering_reverse}
use Rattle.limbs.proofs.Counting.{decimal_counts}
use Rattle.layout.specs.Fields.{said_by, said, digits_of}
use Rattle.layout.specs.declared.Fields.{Fields}
use Rattle.layout.specs.declared.Unpacked.{Unpacked}
use Rattle.layout.specs.declared.Kind.{Kind}
use Rattle.layout.specs.declared.Kind.TheVariants.{Nan, Infinity, Finite}
use Rattle.comparing.specs.Told.{told_of, side_of, is_finite, is_nan}
use Rattle.std.proofs.lemmas.Cmp.{nat_cmp_total}
use Rattle.comparing.proofs.Orders.{told-order}

-- ---- signed numbers

plain : (m n : ℕ) → signed false m false n ≡ compared m n
unfolding signed
plain m n = rw (add-zero, add-zero)

negatives : (m n : ℕ) → signed true m true n ≡ compared n m
unfolding signed
negatives m n = rw (zero-add, zero-add)

pub zeros : (s : Bool) → signed s 0 (not s) 0 ≡ equal
unfolding signed
zeros true = shown 0 0 equal refl
zeros false = shown 0 0 equal refl

pub apart : (s : Bool) (m n : ℕ) → 1 ≤ m + n → signed s m (not s) n ≡ side_of s
unfolding signed
apart true m n h = shown 0 (n + m) less (omega arith)
apart false m n h = shown (m + n) 0 greater h

-- where the signs are one the order decides, turned round for negative numbers
one_sign : (s : Bool) (m n : ℕ) → told_of (cond s (ordering_reverse (nat_cmp m n)) (nat_cmp m n)) ≡ signed s m s n
one_sign true m n = ap told_of (sym (nat_cmp_total.antisymm n m)) ∙ told-order n m ∙ sym (negatives m n)
one_sign false m n = told-order m n ∙ sym (plain m n)

-- where the signs differ a scale does not matter
apart_times : (s : Bool) (m n p q : ℕ) → 1 ≤ p → 1 ≤ q → signed s (m * p) (not s) (n * q) ≡ signed s m (not s) n
apart_times s m n p q g h =
    ⊎_elim
    (λ l. apart s (m * p) (n * q) (omega (arith, le-mul_of_pos_right m g, le-mul_of_pos_right n h)) ∙ sym (apart s m n l))
    (λ l. let y : m ≡ 0 = omega arith in let z : n ≡ 0 = omega arith in rw (y, z, zero-mul, zero-mul))
    (le_or 1 (m + n))

-- ---- two finite values, by their signs
module _ (s t : Bool) (x a e c : ℕ) where
  pub opposites : t ≡ not s → signed s a (not s) c ≡ relation (finite s x a) (finite t e c)
  unfolding relation
  opposites d =
      rw d (sym (apart_times s a c (10 ^ (x - min x e)) (10 ^ (e - min e x)) (pow_pos (x - min x e)) (pow_pos (e - min e x))))

  -- o is an order that was computed
  pub of_one_sign : {o : Ordering} → t ≡ s → o ≡ nat_cmp (scaled a x e) (scaled c e x) → told_of (cond s (ordering_reverse o) o) ≡ relation (finite s x a) (finite t e c)
  unfolding relation
  of_one_sign d g = rw (d, g) (one_sign s (scaled a x e) (scaled c e x))

-- ---- two values, by their kinds

finite_kind : (k : Kind) → is_finite k ≡ true → k ≡ Finite
finite_kind (Nan q) e = absurd (true≢false (sym e))
finite_kind Infinity e = absurd (true≢false (sym e))
finite_kind Finite e = refl

pub first_nan : (u v : Fields) → is_nan u.kind ≡ true → relation (said u) (said v) ≡ unordered
unfolding said relation
first_nan u v d = first u.kind d
  where
    first : (k : Kind) → is_nan k ≡ true → relation (said_by k u.negative u.exponent (value u.coefficient)) (said v) ≡ unordered
    first (Nan q) d = refl
    first Infinity d = absurd (true≢false (sym d))
    first Finite d = absurd (true≢false (sym d))

pub second_nan : (u v : Fields) → is_nan v.kind ≡ true → relation (said u) (said v) ≡ unordered
second_nan u v d = turns_round (said v) (said u) ∙ ap turned (first_nan v u d)

one_zero : (s t : Bool) → signed s 1 t 0 ≡ side_of s
unfolding signed
one_zero true true = shown _ _ less (omega arith)
one_zero true false = shown _ _ less (omega arith)
one_zero false true = shown _ _ greater (omega arith)
one_zero false false = shown _ _ greater (omega arith)

turned_side : (s : Bool) → turned (side_of s) ≡ side_of (not s)
turned_side true = refl
turned_side false = refl

pub from_infinity : (u v : Fields) → u.kind ≡ Infinity → is_finite v.kind ≡ true → relation (said u) (said v) ≡ side_of u.negative
unfolding said relation
from_infinity u v p q = rw (p, finite_kind v.kind q) (one_zero u.negative v.negative)

pub to_infinity : (u v : Fields) → is_finite u.kind ≡ true → v.kind ≡ Infinity → relation (said u) (said v) ≡ side_of (not v.negative)
to_infinity u v p q =
    turns_round (said v) (said u) ∙ ap turned (from_infinity v u q p) ∙ turned_side v.negative

infinities : (u v : Fields) → u.kind ≡ Infinity → v.kind ≡ Infinity → relation (said u) (said v) ≡ signed u.negative 1 v.negative 1
unfolding said relation
infinities u v p q = rw (p, q)

alike : (s : Bool) (n : ℕ) → signed s n s n ≡ equal
alike true n = negatives n n ∙ shown n n equal refl
alike false n = plain n n ∙ shown n n equal refl

pub one_infinity : (u v : Fields) → u.kind ≡ Infinity → v.kind ≡ Infinity → v.negative ≡ u.negative → relation (said u) (said v) ≡ equal
one_infinity u v p q d = infinities u v p q ∙ rw d (alike u.negative 1)

pub two_infinities : (u v : Fields) → u.kind ≡ Infinity → v.kind ≡ Infinity → v.negative ≡ not u.negative → relation (said u) (said v) ≡ side_of u.negative
two_infinities u v p q d = infinities u v p q ∙ rw d (apart u.negative 1 1 (omega arith))

pub of_finite : (u v : Fields) → is_finite u.kind ≡ true → is_finite v.kind ≡ true → relation (finite u.negative u.exponent (value u.coefficient)) (finite v.negative v.exponent (value v.coefficient)) ≡ relation (said u) (said v)
unfolding said
of_finite u v p q = rw (finite_kind u.kind p, finite_kind v.kind q)

-- a value that is no NaN equals itself
pub equals_itself : (u : Fields) → is_nan u.kind ≡ false → relation (said u) (said u) ≡ equal
unfolding said relation
equals_itself u d = itself u.kind d
  where
    itself : (k : Kind) → is_nan k ≡ false →
        relation (said_by k u.negative u.exponent (value u.coefficient)) (said_by k u.negative u.exponent (value u.coefficient)) ≡ equal
    itself (Nan q) d = absurd (true≢false d)
    itself Infinity d = alike u.negative 1
    itself Finite d = alike u.negative (scaled (value u.coefficient) u.exponent u.exponent)

-- ---- finite fields, and unpacked values

pub finite_ranged : (u : Fields) → InRange (said u) → is_finite u.kind ≡ true → value u.coefficient < 10 ^ 34
unfolding said
finite_ranged u h f = (rw (finite_kind u.kind f) at h).1

pub finite_counts : (u : Unpacked) → is_finite u.fields.kind ≡ true → Counts (value u.fields.coefficient) u.digits
unfolding said digits_of
finite_counts u f =
    let e : u.digits ≡ length (decimal (value u.fields.coefficient)) = rw (finite_kind u.fields.kind f) at u.counted in
    rw e (decimal_counts (value u.fields.coefficient) (finite_ranged u.fields u.ranged f))
