-- A stream of lines, handed over in chunks: what is done of it, and what is left. The whole stream: Rattle.meaning.specs.Stream.
use Rattle.std.specs.Prelude.{◌≡◌, ◌==◌, if◌then◌else◌, List, [], ◌∷◌, ◌++◌, ℕ, ◌≤◌, ◌<◌, Option, Some, None, length, slice_range}
use Rattle.meaning.specs.Stream.{without_cr, records_of, lines_after}
use Rattle.line.specs.declared.feeding.Fed.{Fed}
use Rattle.line.specs.Wrote.{Wrote}

-- the records of the lines that end in s, where p stands before it in its first line; f gives a text's record
unfoldable pub done : (List ℕ → List ℕ) → List ℕ → List ℕ → List ℕ
done f p [] = []
done f p (b ∷ s) = if b == 10 then f (without_cr p) ++ done f [] s else done f (p ++ b ∷ []) s

-- what stands after the last LF of p and s
unfoldable pub left : List ℕ → List ℕ → List ℕ
left p [] = p
left p (b ∷ s) = if b == 10 then left [] s else left (p ++ b ∷ []) s

-- p is the line that has not ended: a line that is kept, byte for byte, or one of more than 4,097 bytes, of which nothing is
-- kept. 4,097 are the longest text and a CR, which may yet belong to the line end
abbrev pub Holds : Option (List ℕ) → List ℕ → Type 0
Holds (Some kept) p = p ≡ kept
Holds None p = 4097 < length p

-- ---- what a call of `feed` does, from a to b: the chunk is read from `a.from` to `b.from`

-- where p stands before: the records of the lines that ended, behind those of before, and what is left of p and the part
pub record Took (f : List ℕ → List ℕ) (p part : List ℕ) (a : Fed) (out : List ℕ) (b : Fed) (pending' : Option (List ℕ)) (out' : List ℕ) : Type 0 where
  pub wrote : Wrote a.count (done f p part) out b.count out'
  pub holds : Holds pending' (left p part)

pub record Feeds (f : List ℕ → List ℕ) (chunk : List ℕ) (a : Fed) (pending : Option (List ℕ)) (out : List ℕ) (b : Fed) (pending' : Option (List ℕ)) (out' : List ℕ) : Type 0 where
  pub on : a.from ≤ b.from
  pub within : a.from ≤ length chunk → b.from ≤ length chunk
  pub took : (p : List ℕ) → Holds pending p → Took f p (slice_range chunk a.from b.from) a out b pending' out'

-- the record of the last line
abbrev pub Finishes : (List ℕ → List ℕ) → (pending : Option (List ℕ)) (out : List ℕ) → ℕ → List ℕ → Type 0
Finishes f pending out r out' = (p : List ℕ) → Holds pending p → Wrote 0 (records_of f (lines_after p [])) out r out'
