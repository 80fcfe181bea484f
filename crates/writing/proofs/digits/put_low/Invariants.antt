use mathlib.Core.Path.{◌≡◌}
use Prim.Native.Nat.{◌/◌, ◌^◌, ◌≤◌}
use Rattle.writing.specs.Pieces.{low}
use Rattle.writing.specs.Written.{written}
use Rattle.writing.proofs.digits.put_low.Given as goal

-- the digits that are left, written now, give the buffer that is wanted
abbrev pub invariant-digits : goal.invariant-digits
invariant-digits l = record {
  small : l.rest ≤ l.number;
  above : l.rest / 10 ^ l.j ≡ l.number / 10 ^ l.count;
  gives : written l.at (low l.j l.rest) l.buf ≡ written l.at (low l.count l.number) l.initial.buf;
}
