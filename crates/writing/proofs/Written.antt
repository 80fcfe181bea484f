-- Laws of `written`: a write of nothing, of one byte and of a part, and a write right behind or right before another.
use mathlib.Core.Path.{◌≡◌, refl, sym, ap, ◌∙◌}
use mathlib.Core.List.{List, [], ◌∷◌, ◌++◌, append_assoc}
use Prim.Native.Nat.{ℕ, ◌+◌, ◌≤◌, ◌<◌}
use native.Mathlib.Nat.{add_assoc, add-zero}
use native.Mathlib.Numerals.{add-one}
use native.Mathlib.Omega.{arith}
use borrow.Rule.Slice.PartMut.{put_mid}
use lib.ListN.{length, take, drop, set, get_or, length-append, take-append-drop, length-set}
use Rattle.std.proofs.Common.{take-suc}
use lib.Seq.{paste, set_split, length-take-le, drop_at, take-take, take-append-le, drop-drop}
use Rattle.std.proofs.lemmas.List.Edits.{paste_all, length-paste, paste-paste}
use Rattle.writing.specs.Written.{written}

pub written_none : (at : ℕ) (b : List ℕ) → written at [] b ≡ b
unfolding written
written_none at b = rw add-zero (take-append-drop at b)

pub written_one : (at x : ℕ) (b : List ℕ) → at < length b → set b at x ≡ written at (x ∷ []) b
unfolding written
written_one at x b h = set_split b at x h ∙ rw add-one

-- in the library's word
written_paste : (at : ℕ) (s b : List ℕ) → written at s b ≡ paste b at s (length s)
unfolding written
written_paste at s b = sym (paste_all b at s (length s) refl)

pub length-written : (at : ℕ) (s b : List ℕ) → at + length s ≤ length b → length (written at s b) ≡ length b
length-written at s b h = rw written_paste (length-paste b at s (length s) h (omega arith))

-- a part of k bytes that was written as one
pub written-part : (at k : ℕ) (s b : List ℕ) {t : List ℕ} → t ≡ s → k ≡ length s → put_mid at k b t ≡ written at s b
unfolding written
written-part at k s b e l = rw (e, l, drop-drop)

-- a write right behind a write
pub follow : (at n : ℕ) (s t b : List ℕ) {c d : List ℕ} → c ≡ written at s b → d ≡ written n t c → at + length s ≡ n → n ≤ length b → d ≡ written at (s ++ t) b
follow at n s t b e f g h =
    f
    ∙ rw (e, ← g, written_paste at s b, written_paste (at + length s) t (paste b at s (length s)), paste-paste b at s t (length s) (length t) refl refl (omega arith), written_paste at (s ++ t) b, length-append)

-- the next byte of a text that is put byte by byte
pub written-next : (at i : ℕ) (s b : List ℕ) {c : List ℕ} → c ≡ written at (take i s) b → i < length s → at + length s ≤ length b → set c (at + i) (get_or s i 0) ≡ written at (take (i + 1) s) b
written-next at i s b {c} e h l =
    let taken : length (take i s) ≡ i = length-take-le i s (omega arith) in
    let same : length c ≡ length b = ap length e ∙ length-written at (take i s) b (omega arith) in
    follow at (at + i) (take i s) (get_or s i 0 ∷ []) b e (written_one (at + i) (get_or s i 0) c (omega arith)) (omega arith) (omega arith)
    ∙ rw (add-one i, take-suc s i 0 h) refl

-- two bytes
pub written_two : (at x y : ℕ) (b : List ℕ) → at + 1 < length b → set (set b at x) (at + 1) y ≡ written at (x ∷ y ∷ []) b
written_two at x y b h =
    follow at (at + 1) (x ∷ []) (y ∷ []) b
    (written_one at x b (omega arith))
    (written_one (at + 1) y (set b at x) (simp length-set h))
    refl
    (omega arith)

-- ---- from the end

-- a text right before a text that stands already
pub written-before : (at n : ℕ) (s t b : List ℕ) → at + length s ≡ n → n ≤ length b → written at s (written n t b) ≡ written at (s ++ t) b
unfolding written
written-before at n s t b e h =
    let l = length-take-le n b h in
    let c = t ++ drop (n + length t) b in
    rw (e, take-append-le at (take n b) c (rw l (omega arith)), take-take at n b (omega arith), drop_at (take n b) c n l, append_assoc, length-append, ← add_assoc)
    (rw e)
