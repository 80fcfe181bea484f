-- The pieces of a text: document 01, 'Writing text'.
use Rattle.std.specs.Prelude.{◌≡◌, Bool, cond, List, [], ◌∷◌, ◌++◌, ℕ, zero, suc, ◌+◌, ◌*◌, ◌/◌, ◌%◌, ◌^◌, ◌≤◌, ◌<◌, ltb, length, take, drop, All}
use Rattle.meaning.specs.Writing.{decimal, exponent_text, signed}

-- n is a coefficient of k digits; the bounds of k follow, and stand here for those who count bytes
pub record Sized (n k : ℕ) : Type 0 where
  pub below : n < 10 ^ 34
  pub count : k ≡ length (decimal n)
  pub some : 1 ≤ k
  pub few : k ≤ 34

-- `-`, or nothing
abbrev pub sign : Bool → List ℕ
sign s = signed s []

-- a point after the first m digits
abbrev pub point_at : ℕ → List ℕ → List ℕ
point_at m ds = take m ds ++ 46 ∷ drop m ds

-- the first digit; if there are more a point and the rest
unfoldable pub head : List ℕ → List ℕ
head ds = take 1 ds ++ cond (ltb 1 (length ds)) (46 ∷ drop 1 ds) []

-- how many bytes that is, of k digits
abbrev pub head_length : ℕ → ℕ
head_length k = cond (ltb 1 k) (k + 1) k

-- `E` and the exponent a - 6177
unfoldable pub tail : ℕ → List ℕ
tail a = 69 ∷ exponent_text a

-- the tail of a takes n bytes
pub record Tailed (a n : ℕ) : Type 0 where
  pub count : n ≡ length (tail a)
  pub some : 2 ≤ n
  pub few : n ≤ 6

-- the lowest k digits of n, highest first
unfoldable pub low : ℕ → ℕ → List ℕ
low zero n = []
low (suc k) n = low k (n / 10) ++ (48 + n % 10) ∷ []

-- chunks of nine digits, the lowest first, as one number
unfoldable pub joined : List ℕ → ℕ
joined [] = 0
joined (n ∷ ns) = n + 10 ^ 9 * joined ns

-- n in chunks of nine digits, the lowest first
pub record Chunks (n : ℕ) (ns : List ℕ) : Type 0 where
  pub nine : All (λ m. m < 10 ^ 9) ns
  pub whole : joined ns ≡ n
