-- A record while it is put together: document 01, 'The line program'.
use Rattle.std.specs.Prelude.{ℕ, ◌+◌, ◌≤◌, ◌<◌, ◌≡◌, List, [], ◌∷◌, ◌++◌, length, Result, Ok, Err}
use Rattle.meaning.specs.Writing.{hexes}
use Rattle.writing.specs.declared.NoRoom.{NoRoom}
use Rattle.writing.specs.Put.{no_room_error}
use Rattle.writing.specs.Written.{written}

-- what stands before the text: `0`, a tab, the hex digits, a tab
abbrev pub front : List ℕ → List ℕ
front s = 48 ∷ 9 ∷ hexes s ++ 9 ∷ []

-- the text stands at 35 where a tab, `0` and LF have room behind it; otherwise nothing is changed
pub record TextIn (t b : List ℕ) (r : Result ℕ NoRoom) (after : List ℕ) : Type 0 where
  pub room : length t + 38 ≤ length b → (r ≡ Ok (length t)) × (after ≡ written 35 t b)
  pub none : length b < length t + 38 → (r ≡ Err no_room_error) × (after ≡ b)

-- what stands before the place of a refusal: its number, `-` and `-`, each with a tab
abbrev pub dashes : ℕ → List ℕ
dashes number = (48 + number) ∷ 9 ∷ 45 ∷ 9 ∷ 45 ∷ 9 ∷ []
