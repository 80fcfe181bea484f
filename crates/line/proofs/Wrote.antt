-- Laws of `Wrote`: a text that was put, one text behind another, and the records that are known beforehand.
use Rattle.std.proofs.Common.{◌≡◌, refl, sym, ap, ◌∙◌, true, ◌&&◌, List, [], ◌∷◌, ◌++◌, append_assoc, append-nil, ℕ, ◌+◌, ◌-◌, ◌≤◌, ◌<◌, zero-add, add-zero, arith, length, take, drop, set, length-append, length-drop, length-set, drop_of_length-le, take_all, take_at, drop-drop, length-take-le, eqb, leb, leb-true, le-leb, ne_eqb, eq-eqb}
use borrow.Author.Tests.{lt-leb}
use borrow.Rule.Slice.PartMut.{mid_of, put_mid}
use Rattle.std.proofs.lemmas.Bool.{false_from_ne_true}
use Rattle.meaning.specs.Refusals.{number_of}
use Rattle.meaning.specs.Layout.{stored, decode}
use Rattle.meaning.specs.Reading.{read_at}
use Rattle.meaning.specs.Writing.{decimal, digits_before, write_text, debug_text}
use Rattle.meaning.specs.Answers.{number_given}
use Rattle.meaning.specs.Stream.{record_text, unread, line_record, malformed, stored_record, all_hex, unhex}
use Rattle.meaning.proofs.Fields.{decodes_in_range}
use Rattle.meaning.proofs.Numbers.{by_test}
use Rattle.meaning.proofs.Lengths.{text_has_at_most_42}
use Rattle.std.specs.Prelude.{Result}
use Rattle.writing.specs.declared.NoRoom.{NoRoom}
use Rattle.writing.specs.Put.{put_of, placed, Puts}
use Rattle.writing.specs.Written.{written}
use Rattle.writing.proofs.Written.{follow, length-written, written_none, written_one}
use Rattle.decimal128.specs.Operations.{put_length}
use Rattle.line.specs.Wrote.{Wrote, stored_text}

-- ---- one text

pub wrote_same : {at r : ℕ} {t u b a : List ℕ} → t ≡ u → Wrote at t b r a → Wrote at u b r a
wrote_same e k = rw e at k

pub wrote_none : (at : ℕ) (b : List ℕ) → at ≤ length b → Wrote at [] b at b
wrote_none at b h = record { end = sym (add-zero at); within = h; buffer = sym (written_none at b) }

pub length_wrote : {at r : ℕ} {t b a : List ℕ} → Wrote at t b r a → length a ≡ length b
length_wrote {at} {t = t} {b = b} k =
    let e = k.end in
    let h = k.within in
    ap length k.buffer ∙ length-written at t b (omega arith)

pub wrote_byte : (at x : ℕ) (b : List ℕ) → at < length b → Wrote at (x ∷ []) b (at + 1) (set b at x)
wrote_byte at x b h = record { end = refl; within = omega arith; buffer = written_one at x b h }

-- one text behind another
pub wrote_then : {at m n : ℕ} {t u b c d : List ℕ} → Wrote at t b m c → Wrote m u c n d → Wrote at (t ++ u) b n d
wrote_then {at} {m} {n} {t} {u} {b} {c} k l =
    let e = k.end in
    let g = l.end in
    let h = l.within in
    let i = k.within in
    record {
      end = omega (arith, length-append t u);
      within = omega (arith, length_wrote k);
      buffer = follow at m t u b k.buffer l.buffer (sym e) i;
    }

-- what stands at the front
pub wrote_front : {r : ℕ} {t b a : List ℕ} → Wrote 0 t b r a → take r a ≡ t
unfolding written
wrote_front {t = t} {b = b} k = rw (k.buffer, k.end, zero-add) (take_at t (drop (length t) b) (length t) refl)

-- a text that had room was put whole
pub put_whole : {t b a : List ℕ} {p : Result ℕ NoRoom} {n : ℕ} → Puts t b p a → n ≡ put_length p → length t ≤ length b → Wrote 0 t b n a
unfolding put_of placed written
put_whole {t} {b} {n = n} k e h =
    let g = le-leb (length t) (length b) h in
    let l : n ≡ length t = e ∙ ap put_length k.answer ∙ simp g in
    record { end = omega arith; within = omega arith; buffer = k.buffer ∙ simp g (rw zero-add) }

-- what was written in the part of the output from `at` on
pub wrote_in : {t p : List ℕ} (b : List ℕ) (at : ℕ) {r : ℕ} → at ≤ length b → Wrote 0 t (mid_of at (length b - at) b) r p → Wrote at t b (at + r) (put_mid at (length b - at) b p)
unfolding written
wrote_in {t} b at {r} h k =
    let k0 = length b - at in
    let e = k.end in
    let w = k.within in
    let l : length (drop at b) ≡ k0 = length-drop at b in
    let m : mid_of at k0 b ≡ drop at b = take_all k0 (drop at b) (omega arith) in
    let q = k.buffer in
    record {
      end = omega arith;
      within = omega (arith, ap length m);
      buffer = rw (q, m, drop_of_length-le (drop at b) {i = k0} (omega arith), append-nil, zero-add, drop-drop);
    }

-- a text that was put there and had room
pub put_in : {t a : List ℕ} {p : Result ℕ NoRoom} {n : ℕ} (b : List ℕ) (at : ℕ) → Puts t (mid_of at (length b - at) b) p a → n ≡ put_length p → at + length t ≤ length b → Wrote at t b (at + n) (put_mid at (length b - at) b a)
put_in b at k e h =
    let l : length (mid_of at (length b - at) b) ≡ length b - at = length-take-le (length b - at) (drop at b) (omega (arith, length-drop at b)) in
    wrote_in b at (omega arith) (put_whole k e (omega arith))

-- whatever was put there ends in the buffer
pub put_fits : {t a : List ℕ} {p : Result ℕ NoRoom} {n : ℕ} (b : List ℕ) (at : ℕ) → Puts t (mid_of at (length b - at) b) p a → n ≡ put_length p → at ≤ length b → at + n ≤ length b
unfolding put_of
put_fits {t} {n = n} b at k e h =
    let part = mid_of at (length b - at) b in
    let l : length part ≡ length b - at = length-take-le (length b - at) (drop at b) (omega (arith, length-drop at b)) in
    by_test (leb (length t) (length part))
    (λ fits. let m : n ≡ length t = e ∙ ap put_length k.answer ∙ simp fits in omega (arith, leb-true (length t) (length part) fits))
    (λ none. let m : n ≡ 0 = e ∙ ap put_length k.answer ∙ simp none in omega arith)

-- ---- the record of a stored value

pub few : (s : List ℕ) → length (write_text (decode (stored s))) ≤ 42
few s = text_has_at_most_42 (decode (stored s)) (decodes_in_range (stored s))

pub record_put : (s b : List ℕ) {c d e : List ℕ} {m n : ℕ} → 90 ≤ length b → m ≤ 44 → n ≡ m + 1 + 44 → c ≡ written 0 (48 ∷ 9 ∷ []) b → Wrote 2 (write_text (decode (stored s))) c m d → Wrote (m + 1) (debug_text s) (set d m 9) n e → Wrote 0 (stored_text s) b (n + 1) (set e n 10)
unfolding stored_text
record_put s b {c} {d} {e} {m} {n} room few long front text debug =
    let f : Wrote 0 (48 ∷ 9 ∷ []) b 2 c = record { end = refl; within = omega arith; buffer = front } in
    let ld : length d ≡ length b = length_wrote text ∙ length_wrote f in
    let le : length e ≡ length b = length_wrote debug ∙ length-set d m 9 ∙ ld in
    let t = wrote_then (wrote_then f text) (wrote_byte m 9 d (omega arith)) in
    wrote_same (simp append_assoc) (wrote_then (wrote_then t debug) (wrote_byte n 10 e (omega arith)))

-- ---- the records that are known beforehand

pub long_text : (p : List ℕ) → 4096 < length p → 49 ∷ 48 ∷ 9 ∷ 45 ∷ 9 ∷ 45 ∷ 9 ∷ 45 ∷ 10 ∷ [] ≡ line_record p
unfolding line_record unread number_given number_of decimal digits_before
long_text p h = rw (lt-leb (length p) 4096 h)

pub short_text : (p : List ℕ) → length p ≤ 4096 → record_text (read_at p) ≡ line_record p
unfolding line_record
short_text p h = rw (le-leb (length p) 4096 h)

pub malformed_is : 56 ∷ 9 ∷ 45 ∷ 9 ∷ 45 ∷ 10 ∷ [] ≡ malformed
unfolding malformed number_given number_of decimal digits_before
malformed_is = refl

module _ (s : List ℕ) where
  pub other_length : (length s ≡ 32 → ⊥) → malformed ≡ stored_record s
  unfolding stored_record
  other_length h = rw (ne_eqb (length s) 32 h)

  pub all_hex_lem : length s ≡ 32 → all_hex s ≡ true → stored_text (unhex s) ≡ stored_record s
  unfolding stored_record stored_text
  all_hex_lem e h = rw (eq-eqb (length s) 32 e, h)

  pub stored_accepted : (eqb (length s) 32 && all_hex s) ≡ true → stored_text (unhex s) ≡ stored_record s
  unfolding stored_record stored_text
  stored_accepted hex = rw hex

  pub stored_malformed : ((eqb (length s) 32 && all_hex s) ≡ true → ⊥) → malformed ≡ stored_record s
  unfolding stored_record
  stored_malformed no_hex = rw (false_from_ne_true (eqb (length s) 32 && all_hex s) no_hex)
