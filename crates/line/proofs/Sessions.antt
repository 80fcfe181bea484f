-- Whoever feeds a stream by the contract of `feed` writes the records of the whole, however it is cut.
use Rattle.std.proofs.lemmas.List.Folds.{drop_split}
use Rattle.std.proofs.Common.{slice_range, ◌≡◌, refl, sym, ap, ◌∙◌, List, [], ◌++◌, append_assoc, ℕ, drop, drop_of_length-le, Option}
use Rattle.meaning.specs.Stream.{records_of, lines_after, stream_records}
use Rattle.line.specs.Feed.{left, Holds}
use Rattle.line.specs.Session.{joined, Session, ChunksDoNotMatter}
use Rattle.line.specs.Session.Session.{feeding, reading, finishing}
use Rattle.line.proofs.Laws.{records_after}
use Rattle.line.proofs.Wrote.{wrote_front}

-- where p stands before: the records of p, of the rest of the chunk and of the chunks after it
module _ (f : List ℕ → List ℕ) where
  session_writes : {pending : Option (List ℕ)} {chunk w : List ℕ} {from : ℕ} {chunks : List (List ℕ)} → Session f pending chunk from chunks w → (p : List ℕ) → Holds pending p → w ≡ records_of f (lines_after p (drop from chunk ++ joined chunks))
  unfolding joined
  session_writes (feeding {chunk = chunk} {from = from} {b = b} {chunks = chunks} l k s) p h =
      let t = k.took p h in
      let part = slice_range chunk from b.from in
      let rest = drop b.from chunk ++ joined chunks in
      let e : drop from chunk ++ joined chunks ≡ part ++ rest = ap (λ (s : List ℕ). s ++ joined chunks) (drop_split chunk from b.from k.on) ∙ append_assoc part (drop b.from chunk) (joined chunks) in
      rw (wrote_front t.wrote, session_writes s (left p part) t.holds) (records_after f p part rest ∙ ap (λ (x : List ℕ). records_of f (lines_after p x)) (sym e))
  session_writes (reading {chunk = chunk} {from = from} l s) p h =
      rw (drop_of_length-le chunk {i = from} l) (session_writes s p h)
  session_writes (finishing {chunk = chunk} {from = from} l k) p h =
      rw (drop_of_length-le chunk {i = from} l) (wrote_front (k p h))

pub chunks_do_not_matter : ChunksDoNotMatter
unfolding stream_records
chunks_do_not_matter f chunks w s = session_writes f s [] refl
