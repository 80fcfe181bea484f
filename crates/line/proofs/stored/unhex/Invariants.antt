use Rattle.std.proofs.Common.{◌≡◌, ◌*◌, length, take, drop}
use Rattle.meaning.specs.Stream.{all_hex, unhex}
use Rattle.line.proofs.stored.unhex.Given as goal

abbrev pub invariant-loop-i : goal.invariant-loop-i
invariant-loop-i l =
    (length l.bytes ≡ 16) × (take l.i l.bytes ≡ take l.i (unhex l.text)) × (all_hex (drop (2 * l.i) l.text) ≡ all_hex l.text)
