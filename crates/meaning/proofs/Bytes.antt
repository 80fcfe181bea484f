-- Laws of `stored` and `bytes_of`: a number and its bytes, lowest first.
use mathlib.Core.Path.{◌≡◌, refl, ap}
use mathlib.Core.List.{List, [], ◌∷◌}
use Prim.Native.Nat.{ℕ, zero, suc, ◌+◌, ◌*◌, ◌/◌, ◌%◌, ◌^◌, ◌<◌}
use native.Mathlib.Nat.{pow-succ'}
use native.Mathlib.Omega.{arith}
use lib.ListN.{length}
use Rattle.meaning.specs.Layout.{stored, bytes_of}
use Rattle.meaning.specs.Promises.{Bytes, SixteenBytesAreANumber, ANumberIsSixteenBytes}

bytes_of-stored : (s : List ℕ) → Bytes s → bytes_of (length s) (stored s) ≡ s
unfolding bytes_of stored
bytes_of-stored [] h = refl
bytes_of-stored (b ∷ s) h =
    let l : b < 256 = h 0 in
    let p : (b + 256 * stored s) % 256 ≡ b = omega arith in
    let q : (b + 256 * stored s) / 256 ≡ stored s = omega arith in
    rw (p, q, bytes_of-stored s (λ i. h (suc i)))

stored_of_bytes : (k n : ℕ) → n < 256 ^ k → stored (bytes_of k n) ≡ n
unfolding bytes_of stored
stored_of_bytes zero n h = omega arith
stored_of_bytes (suc k) n h =
    rw (stored_of_bytes k (n / 256) (let p : n < 256 * 256 ^ k = rw pow-succ' at h in omega arith)) (omega arith)

stored-below : (s : List ℕ) → Bytes s → stored s < 256 ^ length s
unfolding stored
stored-below [] h = omega arith
stored-below (b ∷ s) h =
    let l : b < 256 = h 0 in
    rw pow-succ' (omega (arith, stored-below s (λ i. h (suc i))))

pub length-bytes_of : (k n : ℕ) → length (bytes_of k n) ≡ k
unfolding bytes_of
length-bytes_of zero n = refl
length-bytes_of (suc k) n = ap suc (length-bytes_of k (n / 256))

pub sixteen_bytes_are_a_number : SixteenBytesAreANumber
sixteen_bytes_are_a_number b e h = (rw e at (stored-below b h), rw e at (bytes_of-stored b h))

pub a_number_is_sixteen_bytes : ANumberIsSixteenBytes
a_number_is_sixteen_bytes n h = (length-bytes_of 16 n, stored_of_bytes 16 n h)
