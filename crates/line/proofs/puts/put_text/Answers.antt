use Rattle.std.proofs.Common.{arith}
use Rattle.line.proofs.Wrote.{put_in, put_fits, few}
use Rattle.line.proofs.puts.put_text.Goals as goal

pub returns : goal.returns
returns c =
    let n = few c.args.value.bytes in
    let w = put_in c.args.out.now c.args.at c.write.ensures c.put_len.ensures (omega (arith, c.requires)) in
    record { wrote = w; few = omega (arith, w.end) }

pub overflow_add-result : goal.overflow_add-result
overflow_add-result c = omega (arith, put_fits c.args.out.now c.args.at c.write.ensures c.put_len.ensures (omega (arith, c.requires)))
