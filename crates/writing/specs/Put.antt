-- A text put into a lent buffer, whole or not at all: document 01, 'Numbers of the refusals'.
use Rattle.std.specs.Prelude.{◌≡◌, cond, List, ◌++◌, ℕ, leb, length, drop, Result, Ok, Err}
use Rattle.writing.specs.declared.NoRoom.{NoRoom}

-- the only value of the refusal
abbrev pub no_room_error : NoRoom
no_room_error = record {}

-- accepted exactly when the text fits, with its length
unfoldable pub put_of : List ℕ → List ℕ → Result ℕ NoRoom
put_of text buf = cond (leb (length text) (length buf)) (Ok (length text)) (Err no_room_error)

-- the text and then the rest of the buffer, or the buffer as it was
unfoldable pub placed : List ℕ → List ℕ → List ℕ
placed text buf = cond (leb (length text) (length buf)) (text ++ drop (length text) buf) buf

-- what a putting function gives, and what it leaves in the buffer
pub record Puts (text buf : List ℕ) (r : Result ℕ NoRoom) (after : List ℕ) : Type 0 where
  pub answer : r ≡ put_of text buf
  pub buffer : after ≡ placed text buf
