-- The 128 bits of a stored value: IEEE 754-2008, 3.5.2, decimal128 in the binary integer form.
--
-- The standard's fields are the sign S of 1 bit, the combination field G of w + 5 = 17 bits (w is 12) and the trailing
-- significand T of 110 bits, in this order from the highest bit. G0 is the highest bit of G.
use Rattle.std.specs.Prelude.{ℕ, zero, suc, ◌+◌, ◌-◌, ◌*◌, ◌/◌, ◌%◌, ◌^◌, Bool, true, false, cond, List, [], ◌∷◌, eqb, ltb}
use Rattle.meaning.specs.Decimal.{Decimal}
use Rattle.meaning.specs.Decimal.Decimal.{nan, infinity, finite}

-- the number that bytes are, lowest byte first (01, 'The 128 bits': stored byte 0 holds the lowest eight)
unfoldable pub stored : List ℕ → ℕ
stored [] = 0
stored (b ∷ bs) = b + 256 * stored bs

-- the k lowest bytes of a number, lowest first
unfoldable pub bytes_of : ℕ → ℕ → List ℕ
bytes_of zero n = []
bytes_of (suc k) n = n % 256 ∷ bytes_of k (n / 256)

abbrev pub S : ℕ → Bool
S n = eqb (n / 2 ^ 127 % 2) 1

-- the bits Gi to Gj
abbrev pub G : ℕ → ℕ → ℕ → ℕ
G n i j = n / 2 ^ 110 % 2 ^ 17 / 2 ^ (16 - j) % 2 ^ (j + 1 - i)

abbrev pub T : ℕ → ℕ
T n = n % 2 ^ 110

-- a significand above 10^34 - 1 is not canonical, and stands for zero
abbrev pub or_zero : ℕ → ℕ
or_zero c = cond (ltb c (10 ^ 34)) c 0

-- 3.5.2, a) NaN, b) infinity, c) finite: 2) G0 and G1 ones, 1) not both
unfoldable pub decode : ℕ → Decimal
decode n =
    cond (eqb (G n 0 4) 0b11111)
    (nan (S n) (eqb (G n 5 5) 1))
    (cond (eqb (G n 0 4) 0b11110)
    (infinity (S n))
    (cond (eqb (G n 0 1) 0b11)
    (finite (S n) (G n 2 15) (or_zero ((0b1000 + G n 16 16) * 2 ^ 110 + T n)))
    (finite (S n) (G n 0 13) (or_zero (G n 14 16 * 2 ^ 110 + T n)))))

abbrev pub bit_of : Bool → ℕ
bit_of true = 1
bit_of false = 0

-- S, G and T as one number
abbrev pub joined : Bool → ℕ → ℕ → ℕ
joined s g t = bit_of s * 2 ^ 127 + g * 2 ^ 110 + t

-- always the first finite form; what is not said is zero (01, 'The 128 bits')
unfoldable pub encode : Decimal → ℕ
encode (nan s q) = joined s (0b11111 * 2 ^ 12 + bit_of q * 2 ^ 11) 0
encode (infinity s) = joined s (0b11110 * 2 ^ 12) 0
encode (finite s e c) = joined s (e * 2 ^ 3 + c / 2 ^ 110) (c % 2 ^ 110)
