-- Laws of a stream that is handed over in chunks: the line that has not ended, one step, and one step behind
-- another.
use Rattle.std.proofs.Common.{slice_range, position, ◌==◌, take_all, length-drop, drop-drop, ap₂, ◌≡◌, refl, sym, ap, ◌∙◌, List, [], ◌∷◌, ◌++◌, append-nil, ℕ, ◌+◌, ◌-◌, ◌≤◌, ◌<◌, arith, length, take, drop, replicate, length-take-le, take-add, ne_eqb, Option, Some, None}
use Rattle.std.proofs.Math.ListN.{length-replicate}
use borrow.Rule.Slice.PartMut.{mid_of, put_mid}
use Rattle.meaning.specs.Stream.{without_cr, records_of, lines_after}
use Rattle.line.specs.declared.feeding.Fed.{Fed}
use Rattle.line.specs.Wrote.{Wrote}
use Rattle.line.specs.Feed.{done, left, Holds, Took, Feeds}
use Rattle.line.proofs.Laws.{done-append, left-append, done_none, left_none, done-to-lf, left-to-lf, none_before, with_lf, none_at_all}
use Rattle.line.proofs.Wrote.{wrote_none, wrote_then, wrote_in, length_wrote}

-- ---- parts of a chunk

none_taken : (a : ℕ) (l : List ℕ) → slice_range l a a ≡ []
none_taken a l = let zero : a - a ≡ 0 = omega arith in ap (λ (n : ℕ). take n (drop a l)) zero

slice_split : (a b c : ℕ) (l : List ℕ) → a ≤ b → b ≤ c → slice_range l a c ≡ slice_range l a b ++ slice_range l b c
slice_split a b c l h k =
    let rest : drop (b - a) (drop a l) ≡ drop b l = drop-drop (b - a) a l ∙ ap (λ (n : ℕ). drop n l) (omega arith) in
    let both : c - a ≡ (b - a) + (c - b) = omega arith in
    ap (λ (n : ℕ). take n (drop a l)) both
    ∙ take-add (b - a) (c - b) (drop a l)
    ∙ ap (λ (t : List ℕ). slice_range l a b ++ take (c - b) t) rest

-- what the code takes from a on, and its first n bytes
part_taken : (a n : ℕ) (l : List ℕ) → slice_range l a (a + n) ≡ take n (slice_range l a (length l))
part_taken a n l =
    ap₂ (λ (m : ℕ) (t : List ℕ). take m t) (omega arith)
    (sym (take_all (length l - a) (drop a l) (omega (arith, length-drop a l))))

-- ---- the line that has not ended

longer_line : (p : List ℕ) × (4097 < length p)
longer_line = let n : ℕ = 4098 in let b : ℕ = 0 in (replicate n b, rw length-replicate (omega arith))

-- some line has not ended, whatever is kept of it
some_line : (pending : Option (List ℕ)) → (p : List ℕ) × Holds pending p
some_line (Some kept) = (kept, refl)
some_line None = longer_line

-- what is written of a line has room, whichever line it is
pub wrote_fits : (f : List ℕ → List ℕ) (pending : Option (List ℕ)) {out out' : List ℕ} {r : ℕ} → ((p : List ℕ) → Holds pending p → Wrote 0 (f p) out r out') → r ≤ length out
wrote_fits f pending wrote = (wrote (some_line pending).0 (some_line pending).1).within

pub last_line : (f : List ℕ → List ℕ) (pending : Option (List ℕ)) (p : List ℕ) → (pending ≡ Some [] → ⊥) → Holds pending p → f (without_cr p) ≡ records_of f (lines_after p [])
unfolding records_of lines_after
last_line f (Some []) p n h = absurd (n refl)
last_line f (Some (b ∷ s)) p n h = rw (ne_eqb (length p) 0 (λ e. let l = ap length h in omega arith), append-nil)
last_line f None p n h = rw (ne_eqb (length p) 0 (λ e. omega arith), append-nil)

pub no_last_line : (f : List ℕ → List ℕ) (p : List ℕ) → p ≡ [] → [] ≡ records_of f (lines_after p [])
unfolding records_of lines_after
no_last_line f p h = rw h

-- ---- one step: the search for LF goes through the rest of the chunk

module _ (f : List ℕ → List ℕ) (chunk : List ℕ) (a : Fed) {pending pending' : Option (List ℕ)} {out : List ℕ} (in_chunk : a.from ≤ length chunk) (fits : a.count ≤ length out) where
  -- to the chunk's end
  pub to_end : position (λ b. b == 10) (slice_range chunk a.from (length chunk)) ≡ None → ((p : List ℕ) → Holds pending p → Holds pending' (p ++ slice_range chunk a.from (length chunk))) → Feeds f chunk a pending out (record { from = length chunk; count = a.count }) pending' out
  to_end none h =
      let no_lf = none_at_all (slice_range chunk a.from (length chunk)) none in
      record {
        on = in_chunk;
        within = λ _. omega arith;
        took = λ p k.
            record {
              wrote = rw (done_none f p (slice_range chunk a.from (length chunk)) no_lf) (wrote_none a.count out fits);
              holds = rw (left_none p (slice_range chunk a.from (length chunk)) no_lf) (h p k);
            };
      }

  -- to behind LF
  pub to_lf : {n w : ℕ} {o : List ℕ} → position (λ b. b == 10) (slice_range chunk a.from (length chunk)) ≡ Some n → n < length (slice_range chunk a.from (length chunk)) → pending' ≡ Some [] → ((p : List ℕ) → Holds pending p → Wrote 0 (f (without_cr (p ++ take n (slice_range chunk a.from (length chunk))))) (mid_of a.count (length out - a.count) out) w o) → Feeds f chunk a pending out (record { from = a.from + n + 1; count = a.count + w }) pending' (put_mid a.count (length out - a.count) out o)
  to_lf {n} lf before e h =
      let rest = slice_range chunk a.from (length chunk) in
      let no_lf = none_before rest n lf in
      let length-rest : length rest ≡ length chunk - a.from = length-take-le (length chunk - a.from) (drop a.from chunk) (omega (arith, length-drop a.from chunk)) in
      let part : slice_range chunk a.from (a.from + n + 1) ≡ take n rest ++ 10 ∷ [] =
      ap (slice_range chunk a.from) (omega arith) ∙ part_taken a.from (n + 1) chunk ∙ with_lf rest n lf in
      record {
        on = omega arith;
        within = λ _. omega arith;
        took = λ p k.
            record {
              wrote = rw (part, done-to-lf f p (take n rest) no_lf) (wrote_in out a.count fits (h p k));
              holds = rw (part, left-to-lf f p (take n rest) no_lf, e) refl;
            };
      }

-- ---- steps one behind the other

module _ (f : List ℕ → List ℕ) (chunk : List ℕ) where
  pub feeds_none : (a : Fed) (pending : Option (List ℕ)) (out : List ℕ) → a.count ≤ length out → Feeds f chunk a pending out a pending out
  unfolding done left
  feeds_none a pending out h =
      record {
        on = omega arith;
        within = λ e. e;
        took = λ p k. rw (none_taken a.from chunk) (record { wrote = wrote_none a.count out h; holds = k });
      }

  pub feeds_then : {a b c : Fed} {pending pending' pending'' : Option (List ℕ)} {out out' out'' : List ℕ} → Feeds f chunk a pending out b pending' out' → Feeds f chunk b pending' out' c pending'' out'' → b.from ≤ length chunk → Feeds f chunk a pending out c pending'' out''
  feeds_then {a} {b} {c} k l h =
      let s = slice_split a.from b.from c.from chunk k.on l.on in
      record {
        on = omega (arith, k.on, l.on);
        within = λ e. l.within (k.within e);
        took = λ p g.
            let x = k.took p g in
            let y = l.took (left p (slice_range chunk a.from b.from)) x.holds in
            record { wrote = rw (s, done-append) (wrote_then x.wrote y.wrote); holds = rw (s, left-append) y.holds };
      }

  -- what a step leaves of the output's length, and of its room
  module _ {a b : Fed} {pending pending' : Option (List ℕ)} {out out' : List ℕ} (k : Feeds f chunk a pending out b pending' out') where
    some : Took f (some_line pending).0 (slice_range chunk a.from b.from) a out b pending' out'
    some = k.took (some_line pending).0 (some_line pending).1

    pub same-room : length out' ≡ length out
    same-room = length_wrote some.wrote

    pub room-left : b.count ≤ length out
    room-left = some.wrote.within
