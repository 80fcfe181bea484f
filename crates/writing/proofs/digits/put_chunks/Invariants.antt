use mathlib.Core.Path.{◌≡◌}
use Prim.Native.Nat.{◌+◌, ◌*◌, ◌^◌, ◌<◌}
use lib.ListN.{drop}
use Rattle.limbs.specs.Value.{value}
use Rattle.writing.specs.Pieces.{low, joined}
use Rattle.writing.specs.Written.{written}
use Rattle.writing.proofs.digits.put_chunks.Given as goal

-- the chunks that are left, written now, give the buffer that is wanted
abbrev pub invariant-loop-chunk : goal.invariant-loop-chunk
invariant-loop-chunk l = record {
  some : 0 < l.left;
  count : l.left + 9 * l.chunk-index ≡ l.count;
  below : joined (drop l.chunk-index l.chunk-items) < 10 ^ l.left;
  gives : written l.at (low l.left (joined (drop l.chunk-index l.chunk-items))) l.buf ≡ written l.at (low l.count (value l.fn.limbs)) l.initial.buf;
}
