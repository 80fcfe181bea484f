-- Laws of `Puts`: a text that has room, and one that has none.
use mathlib.Core.Path.{◌≡◌, ap, ◌∙◌}
use mathlib.Core.Bool.{Bool, true, false}
use mathlib.Core.List.{List}
use Prim.Native.Nat.{ℕ, ◌+◌, ◌≤◌, ◌<◌}
use native.Mathlib.Nat.{zero-add}
use native.Mathlib.Omega.{arith}
use lib.Dec.{leb}
use lib.ListN.{length, length-append}
use borrow.Author.Tests.{le-leb, lt-leb}
use Rattle.std.specs.Prelude.{Result, Ok, Err, IsErr}
use Rattle.meaning.specs.Writing.{signed}
use Rattle.writing.specs.declared.NoRoom.{NoRoom}
use Rattle.writing.specs.Put.{no_room_error, put_of, placed, Puts}
use Rattle.writing.specs.Pieces.{sign}
use Rattle.writing.specs.Written.{written}
use Rattle.writing.proofs.Written.{follow, length-written}
use Rattle.writing.proofs.Texts.{signed_text}

pub no_room : (t b : List ℕ) (n : ℕ) → n ≡ length t → length b < n → Puts t b (Err no_room_error) b
unfolding put_of placed
no_room t b n e h =
    let f : leb (length t) (length b) ≡ false = lt-leb (length t) (length b) (omega arith) in
    record { answer = simp f; buffer = simp f }

pub room : (t b : List ℕ) (n : ℕ) {c : List ℕ} → n ≡ length t → n ≤ length b → c ≡ written 0 t b → Puts t b (Ok n) c
unfolding put_of placed written
room t b n e h k =
    let f : leb (length t) (length b) ≡ true = le-leb (length t) (length b) (omega arith) in
    record { answer = simp (e, f); buffer = simp f (k ∙ rw zero-add) }

-- the same of a text of n bytes behind its sign
module _ (s : Bool) (t b : List ℕ) (n : ℕ) (long : n ≡ length t) where
  pub signed-length : length (sign s) + n ≡ length (signed s t)
  signed-length = omega (arith, ap length (signed_text s t), length-append (sign s) t)

  pub signed_no_room : (r : Result ℕ NoRoom) → IsErr r → length b < length (sign s) + n → Puts (signed s t) b r b
  signed_no_room (Err _) _ h = no_room (signed s t) b (length (sign s) + n) signed-length h
  signed_no_room (Ok _) f h = absurd (cc)

  pub signed_room : {at : ℕ} {c d : List ℕ} → at ≡ length (sign s) → length (sign s) + n ≤ length b → c ≡ written 0 (sign s) b →
      (at + n ≤ length c → d ≡ written at t c) → Puts (signed s t) b (Ok (at + n)) d
  signed_room {at} a h e f =
      let l = ap length e ∙ length-written 0 (sign s) b (omega arith) in
      room (signed s t) b (at + n) (rw a signed-length) (omega arith)
      (follow 0 at (sign s) t b e (f (omega arith)) (omega arith) (omega arith) ∙ rw signed_text)
