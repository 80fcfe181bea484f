-- Laws of an exponent in steps 6 to 10, where a sign and 64 bits stand for it.
use mathlib.Core.Path.{◌≡◌, refl, subst}
use mathlib.Core.Logic.{inl, inr, ⊎_elim}
use mathlib.Core.Bool.{Bool, true, false}
use mathlib.Core.List.{List}
use Prim.Native.Nat.{ℕ, ◌+◌, ◌-◌, ◌^◌, ◌≤◌, ◌<◌, min, max}
use native.Mathlib.Omega.{arith}
use lib.Dec.{lit≤}
use Rattle.meaning.specs.Reading.{origin, low, high, Written}
use Rattle.meaning.specs.Reading.Written.{written, wrong}
use Rattle.meaning.proofs.Numbers.{le_or}
use Rattle.limbs.specs.Value.{value}
use Rattle.std.specs.Prelude.{Option, Some, None, Result, Ok, Err, unwrap_or}
use Rattle.std.specs.Option.{SomeIff}
use Rattle.limbs.specs.Wide.{Shift, Signed, WrittenAs, Sized, Stands, Raised, Narrowed, Lowered, stand_at}
use Rattle.limbs.specs.declared.wide.ExponentError.{ExponentError}
use Rattle.limbs.specs.declared.wide.ExponentError.TheVariants.{Invalid, Underflow}
use Rattle.limbs.specs.declared.wide.Exponent.{Exponent}
use Rattle.limbs.specs.declared.wide.Stand.{Stand}

-- ---- 2^127, which `omega` takes as an unknown

low_origin : low + 6176 ≡ origin
unfolding low origin
low_origin = refl

high_origin : high ≡ origin + 6111
unfolding high origin
high_origin = refl

origin_large : 2 ^ 64 ≤ origin
unfolding origin
origin_large = lit≤ tt

-- ---- step 6

pub exact : (far : ℕ) (neg : Bool) (size n : ℕ) → Signed neg size n → Sized far n neg size
unfolding Signed Sized
exact far true size n h = (omega arith, λ l. h)
exact far false size n h = (omega arith, λ l. h)

pub saturated : (neg : Bool) (size n : ℕ) → 2 ^ 64 ≤ size → Signed neg size n → Sized (2 ^ 64 - 1) n neg (2 ^ 64 - 1)
unfolding Signed Sized
saturated true size n l h = (omega arith, λ f. absurd (omega arith))
saturated false size n l h = (omega arith, λ f. absurd (omega arith))

-- what fits 64 bits, or the largest that does
pub narrowed : (neg : Bool) (size n : ℕ) (r : Option ℕ) → SomeIff r (size < 2 ^ 64) size → Signed neg size n → Sized (2 ^ 64 - 1) n neg (unwrap_or r (2 ^ 64 - 1))
narrowed neg size n (Some x) p h = rw p.1 (exact _ neg size n h)
narrowed neg size n None p h = saturated neg size n (⊎_elim (λ l. l) (λ l. absurd (p l)) (le_or (2 ^ 64) size)) h

pub minus_stands : (f : ℕ) → f < 2 ^ 63 → Sized (2 ^ 64 - 1) (origin - f) true f
minus_stands f h = exact _ true f (origin - f) (unfold Signed in omega (arith, origin_large))

minus-size : {neg : Bool} (n size : ℕ) → neg ≡ true → Signed neg size n → n + size ≡ origin
unfolding Signed
minus-size n size e h = subst (λ (b : Bool). Signed b size n) e h

plus_size : {neg : Bool} (n size : ℕ) → neg ≡ false → Signed neg size n → n ≡ origin + size
unfolding Signed
plus_size n size e h = subst (λ (b : Bool). Signed b size n) e h

stands : (neg : Bool) (n f total : ℕ) (x : Shift) → f ≤ n → Signed neg total (n - f) → Narrowed neg total x → Lowered (written n) f (Ok x)
unfolding Lowered
stands neg n f total x l h k = inr (l, k (n - f) h)

-- E is minus size, or size, and is n - 2^127
module _ {neg : Bool} (n size f : ℕ) (h : Signed neg size n) where
  pub lowered_out : neg ≡ true → origin < size + f → Lowered (written n) f (Err Underflow)
  unfolding Lowered
  lowered_out e l = inl (omega (arith, minus-size n size e h), refl)

  pub lowered_minus : (total : ℕ) (x : Shift) → neg ≡ true → total ≡ size + f → total ≤ origin → Narrowed true total x → Lowered (written n) f (Ok x)
  lowered_minus total x e t l k =
      let m = minus-size n size e h in stands true n f total x (omega arith) (unfold Signed in omega arith) k

  pub lowered_past : (total : ℕ) (x : Shift) → neg ≡ false → f < 2 ^ 63 → size < f → total ≡ f - size → Narrowed true total x → Lowered (written n) f (Ok x)
  lowered_past total x e b l t k =
      let m = plus_size n size e h in
      let o = origin_large in stands true n f total x (omega arith) (unfold Signed in omega arith) k

  pub lowered_plus : (total : ℕ) (x : Shift) → neg ≡ false → f ≤ size → total ≡ size - f → Narrowed false total x → Lowered (written n) f (Ok x)
  lowered_plus total x e l t k =
      let m = plus_size n size e h in stands false n f total x (omega arith) (unfold Signed in omega arith) k

-- steps 5 and 6
pub refused_wrong : (w : Written) (f : ℕ) → WrittenAs w None → Lowered w f (Err Invalid)
unfolding WrittenAs Lowered
refused_wrong wrong f h = refl
refused_wrong (written n) f h = absurd h

pub lowered_written : (w : Written) (e : Exponent (List ℕ)) (f : ℕ) (r : Result Shift ExponentError) → WrittenAs w (Some e) →
    ((n : ℕ) → Signed e.negative (value e.size) n → Lowered (written n) f r) → Lowered w f r
unfolding WrittenAs
lowered_written wrong e f r h k = absurd (cc)
lowered_written (written n) e f r h k = k n h

-- ---- step 8

minus_sized : {far : ℕ} {neg : Bool} (n size : ℕ) → neg ≡ true → Sized far n neg size → (n + size ≤ origin) × (size < far → n + size ≡ origin)
unfolding Sized
minus_sized {far} n size e h = subst (λ (b : Bool). Sized far n b size) e h

plus_sized : {far : ℕ} {neg : Bool} (n size : ℕ) → neg ≡ false → Sized far n neg size → (origin + size ≤ n) × (size < far → n ≡ origin + size)
unfolding Sized
plus_sized {far} n size e h = subst (λ (b : Bool). Sized far n b size) e h

module _ {neg : Bool} (n size cut : ℕ) (l : cut < 2 ^ 63) where
  pub raised_less : neg ≡ true → cut ≤ size → Sized (2 ^ 64 - 1) n neg size → Sized (2 ^ 63) (n + cut) true (size - cut)
  unfolding Sized
  raised_less e h k = let m = minus_sized n size e k in (omega arith, λ g. omega (arith, m.1 (omega arith)))

  pub raised_past : neg ≡ true → size < cut → Sized (2 ^ 64 - 1) n neg size → Sized (2 ^ 63) (n + cut) false (cut - size)
  raised_past e h k =
      let m = (minus_sized n size e k).1 (omega arith) in exact _ false (cut - size) (n + cut) (unfold Signed in omega arith)

  pub raised_far : neg ≡ false → 2 ^ 63 ≤ size → Sized (2 ^ 64 - 1) n neg size → Sized (2 ^ 63) (n + cut) neg size
  unfolding Sized
  raised_far e h k = let m = plus_sized n size e k in rw e (omega arith, λ g. absurd (omega arith))

  pub raised_more : neg ≡ false → size < 2 ^ 63 → Sized (2 ^ 64 - 1) n neg size → Sized (2 ^ 63) (n + cut) false (size + cut)
  raised_more e h k =
      let m = (plus_sized n size e k).1 (omega arith) in exact _ false (size + cut) (n + cut) (unfold Signed in omega arith)

-- what stands before step 8 may go on without it
weaker : (n size : ℕ) (neg : Bool) → Sized (2 ^ 64 - 1) n neg size → Sized (2 ^ 63) n neg size
unfolding Sized
weaker n size true k = (k.0, λ l. k.1 (omega arith))
weaker n size false k = (k.0, λ l. k.1 (omega arith))

pub stands_raised : (n : ℕ) (x : Shift) → Stands n x → Raised n x
stands_raised n x h = weaker n x.size x.negative h

-- ---- steps 7, 9 and 10

stand : (n : ℕ) {f b a : ℕ} → (f ≡ min (max n low) high - low) × (b ≡ min 35 (low - n)) × (a ≡ min 35 (n - high)) →
    ◌≡◌ {A = Stand} (record { field = f; below = b; above = a }) (stand_at n)
unfolding stand_at
stand n p = rw (p.0, p.1, p.2)

module _ {neg : Bool} (n size : ℕ) (h : Sized (2 ^ 63) n neg size) where
  pub place_minus : neg ≡ true → size ≤ 6176 → ◌≡◌ {A = Stand} (record { field = 6176 - size; below = 0; above = 0 }) (stand_at n)
  place_minus e l = let m = (minus_sized n size e h).1 (omega arith) in stand n (omega (arith, low_origin, high_origin))

  pub place_below : {b : ℕ} → neg ≡ true → 6176 < size → b ≡ min (size - 6176) 35 → ◌≡◌ {A = Stand} (record { field = 0; below = b; above = 0 }) (stand_at n)
  place_below e l k =
      let m = minus_sized n size e h in
      stand n
      (⊎_elim (λ g. omega (arith, low_origin, high_origin)) (λ g. omega (arith, low_origin, high_origin, m.1 g)) (le_or (2 ^ 63) size))

  pub place_plus : neg ≡ false → size ≤ 6111 → ◌≡◌ {A = Stand} (record { field = 6176 + size; below = 0; above = 0 }) (stand_at n)
  place_plus e l = let m = (plus_sized n size e h).1 (omega arith) in stand n (omega (arith, low_origin, high_origin))

  pub place_above : {a : ℕ} → neg ≡ false → 6111 < size → a ≡ min (size - 6111) 35 → ◌≡◌ {A = Stand} (record { field = 12287; below = 0; above = a }) (stand_at n)
  place_above e l k =
      let m = plus_sized n size e h in
      stand n
      (⊎_elim (λ g. omega (arith, low_origin, high_origin)) (λ g. omega (arith, low_origin, high_origin, m.1 g)) (le_or (2 ^ 63) size))
