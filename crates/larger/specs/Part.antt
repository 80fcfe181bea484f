-- The part of a lent text that is handed back. A slice is where it begins, a block and an offset, and its bytes.
use Rattle.std.specs.Prelude.{ℕ, ◌≡◌, ◌⊎◌, List, []}
use Rattle.std.specs.Borrow.{Bor}
use Rattle.meaning.specs.Order.{Choice, larger}
use Rattle.meaning.specs.Order.Choice.{first, second, neither}

abbrev pub Slice : Type 0
Slice = (ℕ × ℕ) × List ℕ

abbrev pub slice : Bor (List ℕ) → Slice
slice r = (r.ref_ptr, r.now)

-- the first text, the second, or an empty part of the first
abbrev pub named : Choice → Bor (List ℕ) → Bor (List ℕ) → Slice
named first a b = slice a
named second a b = slice b
named neither a b = (a.ref_ptr, [])

abbrev pub LargerAllows : Bor (List ℕ) → Bor (List ℕ) → Bor (List ℕ) → Type 0
LargerAllows a b r = slice r ≡ named (larger a.now b.now) a b

abbrev pub OneOfThreeSlices : Type 0
OneOfThreeSlices =
    (a b r : Bor (List ℕ)) → LargerAllows a b r →
    (slice r ≡ slice a) ⊎ ((slice r ≡ slice b) ⊎ (slice r ≡ (a.ref_ptr, [])))
