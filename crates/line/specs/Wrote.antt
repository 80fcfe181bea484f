-- A text in the lent output, and the record of a stored value.
use Rattle.std.specs.Prelude.{◌≡◌, List, [], ◌∷◌, ◌++◌, ℕ, ◌+◌, ◌≤◌, length}
use Rattle.meaning.specs.Layout.{stored, decode}
use Rattle.meaning.specs.Writing.{write_text, debug_text}
use Rattle.writing.specs.Written.{written}

-- t stands from `at` to r, and all else is as before
pub record Wrote (at : ℕ) (t before : List ℕ) (r : ℕ) (after : List ℕ) : Type 0 where
  pub end : r ≡ at + length t
  pub within : r ≤ length before
  pub buffer : after ≡ written at t before

-- the record of 16 stored bytes: 0, the written text, the debug form
unfoldable pub stored_text : List ℕ → List ℕ
stored_text s = 48 ∷ 9 ∷ write_text (decode (stored s)) ++ 9 ∷ debug_text s ++ 10 ∷ []
