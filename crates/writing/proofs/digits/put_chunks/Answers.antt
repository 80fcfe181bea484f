use mathlib.Core.Path.{ap, ◌∙◌}
use Prim.Native.Nat.{ℕ, ◌<◌}
use native.Mathlib.Omega.{arith}
use lib.ListN.{length}
use borrow.Author.Rules.{rules}
use Rattle.meaning.proofs.Numbers.{pow-le}
use Rattle.writing.specs.Pieces.{low}
use Rattle.writing.specs.Written.{written}
use Rattle.writing.proofs.Nines.{chunk_first, chunk_last, chunks_after, chunk_turn}
use Rattle.writing.proofs.digits.put_chunks.Goals as goal

pub chunks-chunk-items-requires : goal.chunks-chunk-items-requires
chunks-chunk-items-requires c = omega (arith, pow-le {i = c.args.count} {j = 34} c.requires.few)

pub put_few-requires-clause-below : goal.put_few-requires-clause-below
put_few-requires-clause-below c =
    let l = c.loop-chunk in
    chunk_first _ l.chunk-index l.left (search rules) l.invariant.below

pub returns-then-left-le9 : goal.returns-then-left-le9
returns-then-left-le9 c =
    let l = c.loop-chunk in
    c.put_few.ensures
    ∙ ap (λ (n : ℕ). written c.args.at (low l.left n) l.buf) (chunk_last _ l.chunk-index l.left (search rules) c.if-left-le9.true l.invariant.below)
    ∙ l.invariant.gives

pub loop-chunk-preserved : goal.loop-chunk-preserved
loop-chunk-preserved c =
    let l = c.loop-chunk in
    let chunks = c.chunks-chunk-items.result in
    let here : l.chunk-index < length chunks = search rules in
    let many = c.if-left-le9.false in
    let nine = c.chunks-chunk-items.ensures.nine l.chunk-index 0 here in
    record {
      some = omega arith;
      count = omega arith;
      below = chunks_after chunks l.chunk-index l.left here many nine l.invariant.below;
      gives = chunk_turn chunks l.chunk-index l.left here c.args.at l.buf many (omega arith) nine c.put_few-in-loop-chunk.ensures ∙ l.invariant.gives;
    }
