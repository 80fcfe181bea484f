-- Laws of a record while it is put together.
use mathlib.Core.Path.{◌≡◌, refl, sym, ap, ◌∙◌}
use mathlib.Core.Logic.{⊎_elim}
use mathlib.Core.List.{List, [], ◌∷◌, ◌++◌, append_assoc}
use Prim.Native.Nat.{ℕ, ◌+◌, ◌≤◌, ◌<◌}
use native.Mathlib.Nat.{zero-add}
use native.Mathlib.Omega.{arith}
use lib.ListN.{length, take, drop, set, length-append, length-drop, take-append-drop}
use lib.Seq.{length-take-le, drop_at, drop-drop, drop-append-le}
use borrow.Author.Tests.{le-leb, lt-leb}
use borrow.Rule.Slice.PartMut.{mid_of, put_mid, put_same}
use Rattle.meaning.specs.Decimal.{Decimal}
use Rattle.meaning.specs.Layout.{bytes_of, encode}
use Rattle.meaning.specs.Refusals.{number_of}
use Rattle.meaning.specs.Reading.{accepted_as, refused_at}
use Rattle.reading.specs.declared.answer.Refusal as reader
use Rattle.reading.specs.declared.answer.Refusal.TheVariants.{EmptyExponent, InvalidExponent, InvalidCoefficient, Overflow, Underflow, InexactRounding, Unparseable}
use Rattle.reading.specs.Told.{named}
use lib.Dec.{lit<}
use Rattle.meaning.specs.Writing.{decimal, hexes, write_text}
use Rattle.meaning.specs.Answers.{number_given}
use Rattle.meaning.specs.Stream.{record_text}
use Rattle.meaning.proofs.Numbers.{le_or}
use Rattle.meaning.proofs.Digits.{last}
use Rattle.meaning.proofs.Bytes.{length-bytes_of}
use Rattle.meaning.proofs.Lengths.{length-hexes}
use Rattle.std.specs.Prelude.{Result, Ok, Err, IsErr}
use Rattle.writing.specs.declared.NoRoom.{NoRoom}
use Rattle.writing.specs.Put.{put_of, placed, Puts, no_room_error}
use Rattle.writing.specs.Written.{written}
use Rattle.writing.proofs.Written.{follow, written_one, length-written}
use Rattle.writing.proofs.Puts.{room, no_room}
use Rattle.decimal128.specs.Record.{front, dashes, TextIn}

-- ---- the text, in the part of the buffer that is lent to it

-- what is left of a part behind n bytes, and what stands behind the part
rest_of : (n k : ℕ) (x : List ℕ) → n ≤ k → k ≤ length x → drop n (take k x) ++ drop k x ≡ drop n x
rest_of n k x h l =
    let e : n ≤ length (take k x) = omega (arith, length-take-le k x l) in
    sym (drop-append-le n (take k x) (drop k x) e) ∙ ap (drop n) (take-append-drop k x)

module _ (t b : List ℕ) (r : Result ℕ NoRoom) (p : List ℕ) (k : ℕ) (long : k + 38 ≡ length b) where
  part_length : length (mid_of 35 k b) ≡ k
  part_length = length-take-le k (drop 35 b) (omega (arith, length-drop 35 b))

  pub text_in : r ≡ put_of t (mid_of 35 k b) → p ≡ placed t (mid_of 35 k b) → TextIn t b r (put_mid 35 k b p)
  unfolding put_of placed written
  text_in e f =
      record {
        room = λ h.
            let g = le-leb (length t) (length (mid_of 35 k b)) (omega (arith, part_length)) in
            let q : p ≡ t ++ drop (length t) (mid_of 35 k b) = f ∙ simp g in (
              e ∙ simp g,
              rw q
                  (simp append_assoc
                  (rw (rest_of (length t) k (drop 35 b) (omega arith) (omega (arith, length-drop 35 b)), drop-drop))),
            );
        none = λ h.
            let g = lt-leb (length t) (length (mid_of 35 k b)) (omega (arith, part_length)) in
            let q : p ≡ mid_of 35 k b = f ∙ simp g in (
              e ∙ simp g,
              rw q (put_same 35 k b),
            );
      }

-- what is known where it was put, and where there was no room
module _ {t b after : List ℕ} {r : Result ℕ NoRoom} (k : TextIn t b r after) where
  pub was_put : {n : ℕ} → r ≡ Ok n → (n ≡ length t) × (n + 38 ≤ length b) × (after ≡ written 35 t b)
  was_put {n} e =
      ⊎_elim
      (λ h. let f = k.room h in let m : n ≡ length t = (let g = f.0 in cc) in (m, omega arith, f.1))
      (λ h. absurd (let f = (k.none h).0 in let z : ◌≡◌ {A = ℕ} 0 1 = cc in omega arith))
      (le_or (length t + 38) (length b))

  pub had_no_room : r ≡ Err no_room_error → (length b < length t + 38) × (after ≡ b)
  had_no_room e =
      ⊎_elim
      (λ h. absurd (let f = (k.room h).0 in let z : ◌≡◌ {A = ℕ} 0 1 = cc in omega arith))
      (λ h. (h, (k.none h).1))
      (le_or (length t + 38) (length b))

-- ---- what stands before it and behind it

pub length_front : (s : List ℕ) → length s ≡ 16 → length (front s) ≡ 35
length_front s e = simp length-append (omega (arith, length-hexes s))

record_is : (v : Decimal) → record_text (accepted_as v) ≡ (front (bytes_of 16 (encode v)) ++ write_text v) ++ 9 ∷ 48 ∷ 10 ∷ []
unfolding record_text number_given decimal
record_is v = rw (last 39 0 [] (omega arith)) (simp append_assoc)

-- the front is put before a text that stands already
front-before : (f t b : List ℕ) → length f ≡ 35 → length f ≤ length b → written 0 f (written 35 t b) ≡ written 0 (f ++ t) b
unfolding written
front-before f t b e h =
    rw (e, drop_at (take 35 b) (t ++ drop (35 + length t) b) 35 (length-take-le 35 b (omega arith)))
    (simp (append_assoc, length-append) (rw (e, zero-add)))

module _ (v : Decimal) (b : List ℕ) where
  record_length : length (record_text (accepted_as v)) ≡ length (write_text v) + 38
  record_length =
      ap length (record_is v)
      ∙ simp length-append (omega (arith, length-hexes (bytes_of 16 (encode v)), length-bytes_of 16 (encode v)))

  pub record_none : length b < length (write_text v) + 38 → Puts (record_text (accepted_as v)) b (Err no_room_error) b
  record_none h = no_room (record_text (accepted_as v)) b (length (write_text v) + 38) (sym record_length) h

  pub record_kept : {after : List ℕ} (r q : Result ℕ NoRoom) → TextIn (write_text v) b r after → r ≡ Err no_room_error → IsErr q → Puts (record_text (accepted_as v)) b q after
  record_kept r (Err _) k e f = let h = had_no_room k e in rw h.1 (record_none h.0)
  record_kept r (Ok n) k e f = absurd (cc)

  pub record_room : {c d x bytes : List ℕ} (n : ℕ) → n ≡ length (write_text v) → n + 38 ≤ length b → c ≡ written 35 (write_text v) b → bytes ≡ bytes_of 16 (encode v) → d ≡ written 0 (front bytes) c → x ≡ written (35 + n) (9 ∷ 48 ∷ []) d → Puts (record_text (accepted_as v)) b (Ok (38 + n)) (set x (37 + n) 10)
  record_room {c} {d} {x} {bytes} n e h f o i j =
      let g : d ≡ written 0 (front (bytes_of 16 (encode v))) c = i ∙ ap (λ (l : List ℕ). written 0 (front l) c) o in
      let s = front (bytes_of 16 (encode v)) in
      let l : length s ≡ 35 = length_front (bytes_of 16 (encode v)) (length-bytes_of 16 (encode v)) in
      let t = write_text v in
      let lc : length c ≡ length b = ap length f ∙ length-written 35 t b (omega arith) in
      let ld : length d ≡ length b = ap length g ∙ length-written 0 s c (omega arith) ∙ lc in
      let q : d ≡ written 0 (s ++ t) b = g ∙ rw f (front-before s t b l (omega arith)) in
      let lx : length x ≡ length b = ap length j ∙ length-written (35 + n) (9 ∷ 48 ∷ []) d (omega arith) ∙ ld in
      let y : x ≡ written 0 ((s ++ t) ++ 9 ∷ 48 ∷ []) b =
      follow 0 (35 + n) (s ++ t) (9 ∷ 48 ∷ []) b q j (omega (arith, length-append s t)) (omega arith) in
      room (record_text (accepted_as v)) b (38 + n) (omega (arith, record_length)) (omega arith)
      (follow 0 (37 + n) ((s ++ t) ++ 9 ∷ 48 ∷ []) (10 ∷ []) b y (written_one (37 + n) 10 x (omega arith)) (omega (arith, length-append (s ++ t) (9 ∷ 48 ∷ []), length-append s t)) (omega arith)
      ∙ rw (record_is v) (simp append_assoc))

-- ---- the record of a refusal

-- the reader's refusals have numbers of one digit
named_small : (r : reader.Refusal) → number_of (named r) < 10
unfolding number_of
named_small EmptyExponent = lit< tt
named_small InvalidExponent = lit< tt
named_small InvalidCoefficient = lit< tt
named_small Overflow = lit< tt
named_small Underflow = lit< tt
named_small InexactRounding = lit< tt
named_small Unparseable = lit< tt

pub number_small : (r : reader.Refusal) {n : ℕ} → n ≡ number_of (named r) → n < 10
number_small r e = rw e (named_small r)

refused_is : (r : reader.Refusal) (place : ℕ) → record_text (refused_at (named r) place) ≡ dashes (number_of (named r)) ++ decimal place ++ 10 ∷ []
unfolding record_text number_given decimal
refused_is r place = rw (last 39 (number_of (named r)) [] (named_small r))

-- v is the place, in limbs whose digits are counted
module _ (r : reader.Refusal) (place k : ℕ) (b : List ℕ) {v : ℕ} (is : v ≡ place) (e : k ≡ length (decimal v)) where
  refused_length : 7 + k ≡ length (record_text (refused_at (named r) place))
  refused_length = let long = rw is at e in rw (refused_is r place) (simp length-append (omega arith))

  pub refused_none : length b ≤ 6 + k → Puts (record_text (refused_at (named r) place)) b (Err no_room_error) b
  refused_none h = no_room (record_text (refused_at (named r) place)) b (7 + k) refused_length (omega arith)

  pub refused_room : {number : ℕ} {c d : List ℕ} → 6 + k < length b → number ≡ number_of (named r) → c ≡ written 0 (dashes number) b → d ≡ written 6 (decimal v) c → Puts (record_text (refused_at (named r) place)) b (Ok (6 + k + 1)) (set d (6 + k) 10)
  refused_room {number} {c} {d} h n f put =
      let long = rw is at e in
      let g = rw is at put in
      let lc : length c ≡ length b = ap length f ∙ length-written 0 (dashes number) b (omega arith) in
      let ld : length d ≡ length b = ap length g ∙ length-written 6 (decimal place) c (omega arith) ∙ lc in
      let seven : 6 + k + 1 ≡ 7 + k = omega arith in
      rw seven
      (room (record_text (refused_at (named r) place)) b (7 + k) refused_length (omega arith)
      (rw (refused_is r place, ← n)
      (follow 0 (6 + k) (dashes number ++ decimal place) (10 ∷ []) b
      (follow 0 6 (dashes number) (decimal place) b f g refl (omega arith))
      (written_one (6 + k) 10 d (omega arith))
      (omega (arith, length-append (dashes number) (decimal place)))
      (omega arith))))

-- ---- what stands before a text

pub front_put : (s b : List ℕ) {c d : List ℕ} → length s ≡ 16 → 35 ≤ length b → c ≡ written 0 (48 ∷ 9 ∷ []) b → d ≡ written 2 (hexes s) c → set d 34 9 ≡ written 0 (front s) b
front_put s b {c} {d} e h f g =
    let l = length-hexes s in
    let lc : length c ≡ length b = ap length f ∙ length-written 0 (48 ∷ 9 ∷ []) b (omega arith) in
    let ld : length d ≡ length b = ap length g ∙ length-written 2 (hexes s) c (omega arith) ∙ lc in
    follow 0 34 (48 ∷ 9 ∷ hexes s) (9 ∷ []) b
    (follow 0 2 (48 ∷ 9 ∷ []) (hexes s) b f g refl (omega arith))
    (written_one 34 9 d (omega arith)) (omega arith) (omega arith)
