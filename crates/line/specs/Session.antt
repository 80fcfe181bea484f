-- A stream that is fed chunk by chunk, and finished: what the programs do with `feed` and `finish`, by their contracts.
use Rattle.std.specs.Prelude.{◌≡◌, List, [], ◌∷◌, ◌++◌, ℕ, ◌≤◌, ◌<◌, Option, Some, length, take}
use Rattle.meaning.specs.Stream.{stream_records}
use Rattle.line.specs.declared.feeding.Fed.{Fed}
use Rattle.line.specs.Feed.{Feeds, Finishes}

unfoldable pub joined : List (List ℕ) → List ℕ
joined [] = []
joined (c ∷ cs) = c ++ joined cs

-- a session from here on: `pending` is what is kept of the line that has not ended, the chunk is read from `from` on, the
-- other chunks follow, and w is what is written: the front of the output after each call
pub data Session (f : List ℕ → List ℕ) : Option (List ℕ) → List ℕ → ℕ → List (List ℕ) → List ℕ → Type 0 where
  feeding : {pending pending' : Option (List ℕ)} {out out' chunk w : List ℕ} {from : ℕ} {b : Fed} {chunks : List (List ℕ)} → from < length chunk → Feeds f chunk (record { from = from; count = 0 }) pending out b pending' out' → Session f pending' chunk b.from chunks w → Session f pending chunk from chunks (take b.count out' ++ w)
  reading : {pending : Option (List ℕ)} {chunk next w : List ℕ} {from : ℕ} {chunks : List (List ℕ)} → length chunk ≤ from → Session f pending next 0 chunks w → Session f pending chunk from (next ∷ chunks) w
  finishing : {pending : Option (List ℕ)} {out out' chunk : List ℕ} {from r : ℕ} → length chunk ≤ from → Finishes f pending out r out' → Session f pending chunk from [] (take r out')

-- however a stream is cut into chunks, and wherever `feed` stops in them, what is written is the records of the whole
abbrev pub ChunksDoNotMatter : Type 0
ChunksDoNotMatter =
    (f : List ℕ → List ℕ) (chunks : List (List ℕ)) (w : List ℕ) →
    Session f (Some []) [] 0 chunks w → w ≡ stream_records f (joined chunks)
