-- The order is antisymmetric, transitive, and equal exactly for one value; of two texts none is greater than the one handed back.
use mathlib.Core.Path.{◌≡◌, refl, sym, ap, ◌∙◌, subst}
use mathlib.Core.Logic.{◌⊎◌, inl, inr, ⊎_elim, ◌↔◌}
use mathlib.Core.Bool.{Bool, true, false, true≢false}
use Prim.Native.Nat.{ℕ, ◌+◌, ◌-◌, ◌*◌, ◌^◌, ◌≤◌, ◌<◌, min}
use native.Mathlib.Nat.{add-mul, zero-mul, zero-add, add-zero, one-mul, mul_assoc, min_comm, mul-lt-mul_of_pos_right, le-mul_of_pos_right}
use native.Mathlib.Omega.{arith}
use lib.Dec.{ltb}
use lib.Pow.{pow-add}
use borrow.Author.Tests.{ltb-true, ltb-false, lt-ltb, le-ltb}
use Rattle.meaning.specs.Refusals.{number_of}
use Rattle.meaning.specs.Decimal.{Decimal}
use Rattle.meaning.specs.Decimal.Decimal.{nan, infinity, finite}
use Rattle.meaning.specs.Reading.{Reading, read_text}
use Rattle.meaning.specs.Reading.Reading.{refused, accepted}
use Rattle.meaning.specs.Order.{Relation, compared, above, below, signed, scaled, relation, order_given, refusal_given, choice_of, chosen, larger}
use Rattle.meaning.specs.Order.Relation.{less, equal, greater, unordered}
use Rattle.meaning.specs.Order.Choice.{first, second, neither}
use Rattle.meaning.specs.Promises.{NotNan, OrderedUnlessNan, RefusedWithANan, OneOfThree, turned, TurnsRound, AtMost, LessIsTransitive, AtMostIsTransitive, EqualsCompareAlike, EqualIsSame, Counts, NoneIsGreater, NeitherUnlessBothCount}
use Rattle.meaning.proofs.Numbers.{by_test, pow_pos}

-- ---- two whole numbers

by_order : (m n : ℕ) (P : Relation → Type 0) → (m < n → P less) → (m ≡ n → P equal) → (n < m → P greater) → P (compared m n)
unfolding compared
by_order m n P f g h =
    by_test (ltb m n) (λ e. rw e (f (ltb-true m n e)))
    (λ e. by_test (ltb n m) (λ d. rw (e, d) (h (ltb-true n m d)))
    (λ d. rw (e, d) (g (omega (arith, ltb-false m n e, ltb-false n m d)))))

-- what a relation says of them
abbrev pub Says : ℕ → ℕ → Relation → Type 0
Says m n less = m < n
Says m n equal = m ≡ n
Says m n greater = n < m
Says m n unordered = ⊥

told : (m n : ℕ) (r : Relation) → compared m n ≡ r → Says m n r
told m n r e = subst (Says m n) e (by_order m n (Says m n) (λ h. h) (λ h. h) (λ h. h))

pub shown : (m n : ℕ) (r : Relation) → Says m n r → compared m n ≡ r
unfolding compared
shown m n less h = rw (lt-ltb m n h)
shown m n equal h = rw (le-ltb m n (omega (arith, h)), le-ltb n m (omega (arith, h)))
shown m n greater h = rw (le-ltb m n (omega (arith, h)), lt-ltb n m h)
shown m n unordered h = absurd h

turn : (m n : ℕ) → compared n m ≡ turned (compared m n)
turn m n =
    by_order m n (λ r. compared n m ≡ turned r) (shown n m greater) (λ h. shown n m equal (sym h)) (shown n m less)

-- where p - q is m - n
moved : (p q m n : ℕ) → p + n ≡ m + q → compared p q ≡ compared m n
moved p q m n e =
    by_order m n (λ r. compared p q ≡ r)
    (λ h. shown p q less (omega arith)) (λ h. shown p q equal (omega arith)) (λ h. shown p q greater (omega arith))

times : (m n k : ℕ) → 1 ≤ k → compared (m * k) (n * k) ≡ compared m n
times m n k l =
    by_order m n (λ r. compared (m * k) (n * k) ≡ r)
    (λ h. shown _ _ less (mul-lt-mul_of_pos_right h l))
    (λ h. shown _ _ equal (rw h))
    (λ h. shown _ _ greater (mul-lt-mul_of_pos_right h l))

-- ---- two signed numbers

-- one number: one size, and one sign unless that is zero
balanced : (s t : Bool) (m n : ℕ) → (above s m + below t n ≡ above t n + below s m) ↔ ((m ≡ n) × ((s ≡ t) ⊎ (m ≡ 0)))
balanced true true m n = (λ h. (omega arith, inl refl), λ p. omega arith)
balanced true false m n = (λ h. (omega arith, inr (omega arith)), λ p. ⊎_elim (λ d. absurd (true≢false d)) (λ z. omega arith) p.1)
balanced false true m n = (λ h. (omega arith, inr (omega arith)), λ p. ⊎_elim (λ d. absurd (true≢false (sym d))) (λ z. omega arith) p.1)
balanced false false m n = (λ h. (omega arith, inl refl), λ p. omega arith)

signed_equal : (s t : Bool) (m n : ℕ) → (signed s m t n ≡ equal) ↔ ((m ≡ n) × ((s ≡ t) ⊎ (m ≡ 0)))
unfolding signed
signed_equal s t m n = let b = balanced s t m n in (λ e. b.0 (told _ _ equal e), λ p. shown _ _ equal (b.1 p))

signed_times : (s t : Bool) (m n k : ℕ) → 1 ≤ k → signed s (m * k) t (n * k) ≡ signed s m t n
unfolding signed
signed_times true true m n k l = simp zero-add (times n m k l)
signed_times true false m n k l = rw (← add-mul) (rw zero-mul at (times 0 (n + m) k l))
signed_times false true m n k l = rw (← add-mul) (rw zero-mul at (times (m + n) 0 k l))
signed_times false false m n k l = simp add-zero (times m n k l)

-- the sign of the larger size decides
beyond : (s t : Bool) (m n k l : ℕ) → n < m → l < k → signed s m t n ≡ signed s k t l
unfolding signed
beyond true true m n k l h i = shown _ _ less (omega arith) ∙ sym (shown _ _ less (omega arith))
beyond true false m n k l h i = shown _ _ less (omega arith) ∙ sym (shown _ _ less (omega arith))
beyond false true m n k l h i = shown _ _ greater (omega arith) ∙ sym (shown _ _ greater (omega arith))
beyond false false m n k l h i = shown _ _ greater (omega arith) ∙ sym (shown _ _ greater (omega arith))

-- ---- two values as signed numbers: a finite one is a·10^x, an infinity a number N beyond every finite one at hand

whole : (a x e : ℕ) → scaled a x e * 10 ^ min x e ≡ a * 10 ^ x
whole a x e = let q : x - min x e + min x e ≡ x = omega arith in rw (mul_assoc, ← pow-add, q)

abbrev minus : Decimal → Bool
minus (nan s q) = s
minus (infinity s) = s
minus (finite s x a) = s

abbrev size : ℕ → Decimal → ℕ
size N (nan s q) = 0
size N (infinity s) = N
size N (finite s x a) = a * 10 ^ x

as_numbers : (N : ℕ) (v w : Decimal) → NotNan v → NotNan w → size 0 v < N → size 0 w < N → relation v w ≡ signed (minus v) (size N v) (minus w) (size N w)
unfolding relation signed
as_numbers N (nan s q) w i j h k = absurd i
as_numbers N (infinity s) (nan t q) i j h k = absurd j
as_numbers N (infinity s) (infinity t) i j h k = rw one-mul at (sym (signed_times s t 1 1 N h))
as_numbers N (infinity s) (finite t e c) i j h k = beyond s t 1 0 N (c * 10 ^ e) (omega arith) k
as_numbers N (finite s x a) (nan t q) i j h k = absurd j
as_numbers N (finite s x a) (infinity t) i j h k =
    turn _ _ ∙ ap turned (beyond t s 1 0 N (a * 10 ^ x) (omega arith) h) ∙ sym (turn _ _)
as_numbers N (finite s x a) (finite t e c) i j h k =
    sym (signed_times s t (scaled a x e) (scaled c e x) (10 ^ min x e) (pow_pos (min x e)))
    ∙ rw (whole a x e, min_comm x e, whole c e x)

-- ---- unordered with a NaN, else one of three

pub ordered_unless_nan : OrderedUnlessNan
unfolding relation signed
ordered_unless_nan (nan s q) w = (λ f. absurd (f refl), λ p. absurd p.0)
ordered_unless_nan (infinity s) (nan t q) = (λ f. absurd (f refl), λ p. absurd p.1)
ordered_unless_nan (infinity s) (infinity t) = (λ f. (tt, tt), λ p. told _ _ unordered)
ordered_unless_nan (infinity s) (finite t e c) = (λ f. (tt, tt), λ p. told _ _ unordered)
ordered_unless_nan (finite s x a) (nan t q) = (λ f. absurd (f refl), λ p. absurd p.1)
ordered_unless_nan (finite s x a) (infinity t) = (λ f. (tt, tt), λ p. told _ _ unordered)
ordered_unless_nan (finite s x a) (finite t e c) = (λ f. (tt, tt), λ p. told _ _ unordered)

unrefused : (r : Relation) → (r ≡ unordered → ⊥) → refusal_given r ≡ 0
unfolding refusal_given
unrefused less n = refl
unrefused equal n = refl
unrefused greater n = refl
unrefused unordered n = absurd (n refl)

pub refused_with_a_nan : RefusedWithANan
unfolding refusal_given number_of
refused_with_a_nan v w = (
  λ e. (ordered_unless_nan v w).0 (λ u. omega (arith, rw u at e)),
  λ p. unrefused (relation v w) ((ordered_unless_nan v w).1 p),
)

-- what is less or equal is no NaN
no_nans : (v w : Decimal) → AtMost v w → NotNan v × NotNan w
no_nans v w (inl e) = (ordered_unless_nan v w).0 (λ f. let z : ◌≡◌ {A = ℕ} 0 1 = cc in omega arith)
no_nans v w (inr e) = (ordered_unless_nan v w).0 (λ f. let z : ◌≡◌ {A = ℕ} 0 1 = cc in omega arith)

pub one_of_three : OneOfThree
unfolding order_given
one_of_three less = inl refl
one_of_three equal = inr (inl refl)
one_of_three greater = inr (inr refl)
one_of_three unordered = inr (inl refl)

-- ---- antisymmetric and transitive

pub turns_round : TurnsRound
unfolding relation signed
turns_round (nan s q) (nan t p) = refl
turns_round (nan s q) (infinity t) = refl
turns_round (nan s q) (finite t e c) = refl
turns_round (infinity s) (nan t q) = refl
turns_round (infinity s) (infinity t) = turn _ _
turns_round (infinity s) (finite t e c) = turn _ _
turns_round (finite s x a) (nan t q) = refl
turns_round (finite s x a) (infinity t) = turn _ _
turns_round (finite s x a) (finite t e c) = turn _ _

pub less_is_transitive : LessIsTransitive
unfolding signed
less_is_transitive u v w e f =
    let i = no_nans u v (inl e) in
    let j = no_nans v w (inl f) in
    let N = 1 + size 0 u + size 0 v + size 0 w in
    let uv = told _ _ less (sym (as_numbers N u v i.0 i.1 (omega arith) (omega arith)) ∙ e) in
    let vw = told _ _ less (sym (as_numbers N v w j.0 j.1 (omega arith) (omega arith)) ∙ f) in
    as_numbers N u w i.0 j.1 (omega arith) (omega arith) ∙ shown _ _ less (omega (arith, uv, vw))

number_alike : (u v w : Decimal) → NotNan w → relation u v ≡ equal → relation u w ≡ relation v w
unfolding signed
number_alike u v w j e =
    let i = no_nans u v (inr e) in
    let N = 1 + size 0 u + size 0 v + size 0 w in
    let uv = told _ _ equal (sym (as_numbers N u v i.0 i.1 (omega arith) (omega arith)) ∙ e) in
    as_numbers N u w i.0 j (omega arith) (omega arith)
    ∙ moved _ _ _ _ (omega (arith, uv))
    ∙ sym (as_numbers N v w i.1 j (omega arith) (omega arith))

pub equals_compare_alike : EqualsCompareAlike
unfolding relation
equals_compare_alike u v (nan s q) e = turns_round (nan s q) u ∙ sym (turns_round (nan s q) v)
equals_compare_alike u v (infinity s) e = number_alike u v (infinity s) tt e
equals_compare_alike u v (finite s x a) e = number_alike u v (finite s x a) tt e

pub at_most_is_transitive : AtMostIsTransitive
at_most_is_transitive u v w (inr e) k = rw (equals_compare_alike u v w e) k
at_most_is_transitive u v w (inl e) (inl f) = inl (less_is_transitive u v w e f)
at_most_is_transitive u v w (inl e) (inr f) =
    let g = equals_compare_alike w v u (turns_round v w ∙ ap turned f) in
    inl (turns_round w u ∙ ap turned g ∙ sym (turns_round v u) ∙ e)

-- ---- equal exactly for one value

pub equal_is_same : EqualIsSame
unfolding relation
equal_is_same (nan s q) w = (λ f. (no_nans (nan s q) w (inr f)).0, λ p. absurd p)
equal_is_same (infinity s) (nan t q) = (λ f. (no_nans (infinity s) (nan t q) (inr f)).1, λ p. absurd p)
equal_is_same (infinity s) (infinity t) =
    let q = signed_equal s t 1 1 in
    (λ f. ⊎_elim (λ p. p) (λ z. absurd (omega arith)) (q.0 f).1, λ p. q.1 (refl, inl p))
equal_is_same (infinity s) (finite t e c) = (λ f. omega (arith, (signed_equal s t 1 0).0 f), λ p. absurd p)
equal_is_same (finite s x a) (nan t q) = (λ f. (no_nans (finite s x a) (nan t q) (inr f)).1, λ p. absurd p)
equal_is_same (finite s x a) (infinity t) = (λ f. omega (arith, (signed_equal s t 0 1).0 f), λ p. absurd p)
equal_is_same (finite s x a) (finite t e c) =
    let q = signed_equal s t (scaled a x e) (scaled c e x) in
    let g = le-mul_of_pos_right a (pow_pos (x - min x e)) in (
      λ f. let p = q.0 f in (p.0 ∙ rw (min_comm e x), ⊎_elim inl (λ z. inr (omega (arith, g))) p.1),
      λ p. q.1 (p.0 ∙ rw (min_comm x e), ⊎_elim inl (λ z. inr (rw z (zero-mul _))) p.1),
    )

-- ---- the larger of two texts

pub none_is_greater : NoneIsGreater
unfolding larger
none_is_greater a b v w p q = go (relation v w) refl
  where
    go : (r : Relation) → relation v w ≡ r → ((larger a b ≡ first) × AtMost w v) ⊎ ((larger a b ≡ second) × (relation v w ≡ less))
    go less e = inr (rw (p.0, q.0, e), e)
    go equal e = inl (rw (p.0, q.0, e), inr (turns_round v w ∙ ap turned e))
    go greater e = inl (rw (p.0, q.0, e), inl (turns_round v w ∙ ap turned e))
    go unordered e = absurd ((ordered_unless_nan v w).1 (p.1, q.1) e)

pub neither_unless_both_count : NeitherUnlessBothCount
unfolding larger
neither_unless_both_count a b = (
  both (read_text a) (read_text b) refl refl,
  λ p n. ⊎_elim
      (λ h. let z : ◌≡◌ {A = ℕ} 0 1 = cc in omega arith)
      (λ h. let z : ◌≡◌ {A = ℕ} 0 1 = cc in omega arith)
      (none_is_greater a b p.0.0 p.1.0 p.0.1 p.1.1),
)
  where
    both : (r q : Reading) → read_text a ≡ r → read_text b ≡ q → (chosen r q ≡ neither → ⊥) → ((v : Decimal) × Counts a v) × ((w : Decimal) × Counts b w)
    both (refused r) q e f n = absurd (n refl)
    both (accepted v) (refused r) e f n = absurd (n refl)
    both (accepted v) (accepted w) e f n =
        let i = (ordered_unless_nan v w).0 (λ u. n (ap choice_of u)) in ((v, (e, i.0)), (w, (f, i.1)))
