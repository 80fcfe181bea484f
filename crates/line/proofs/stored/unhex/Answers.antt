use Rattle.std.proofs.Common.{◌+◌, ◌*◌, sym, ◌∙◌, arith, length-set}
use Rattle.line.proofs.Hex.{hex_here, hex_stops, hex_pair, hex_all, not_hex, is_hex, next_byte, all_bytes}
use Rattle.line.proofs.stored.unhex.Goals as goal

pub returns-in_err-high : goal.returns-in_err-high
returns-in_err-high c =
    let l = c.loop-i in
    rw c.from_residual.ensures (not_hex _ (sym l.invariant.2 ∙ hex_stops _ (2 * l.i) (omega arith) c.in_err-high.ensures))

pub returns-in_err-low : goal.returns-in_err-low
returns-in_err-low c =
    let l = c.loop-i in
    rw c.from_residual-in_err-low.ensures
    (not_hex _ (sym l.invariant.2 ∙ hex_here _ (2 * l.i) (omega arith) c.in_ok-high.ensures.0 ∙ hex_stops _ (2 * l.i + 1) (omega arith) c.in_err-low.ensures))

pub loop-i-preserved : goal.loop-i-preserved
loop-i-preserved c =
    let l = c.loop-i in
    let high = c.in_ok-high.ensures in
    let low = c.in_ok-low.ensures in (
      simp length-set l.invariant.0,
      rw (high.1, low.1) (next_byte c.args.text.now l.bytes l.i c.if-text-ne32.false l.invariant.0 l.invariant.1 (omega arith)),
      hex_pair _ l.i (omega arith) high.0 low.0 ∙ l.invariant.2,
    )

pub returns : goal.returns
returns c =
    let l = c.loop-i in
    (is_hex _ c.if-text-ne32.false (sym l.invariant.2 ∙ hex_all _ (2 * l.i) (omega arith)), all_bytes _ _ l.i c.if-text-ne32.false l.invariant.0 l.invariant.1 c.loop-i-test.false)
