use Rattle.std.proofs.Common.{◌≡◌, length, arith, rules}
use Rattle.meaning.proofs.Lengths.{debug_form_has_44}
use Rattle.line.proofs.Wrote.{put_in, put_fits}
use Rattle.line.proofs.puts.put_debug.Goals as goal

pub returns : goal.returns
returns c =
    let sixteen : length c.args.value.bytes ≡ 16 = search rules in
    let n = debug_form_has_44 c.args.value.bytes sixteen in
    let w = put_in c.args.out.now c.args.at c.debug.ensures c.put_len.ensures (omega (arith, c.requires)) in
    record { wrote = w; long = omega (arith, w.end) }

pub overflow_add-result : goal.overflow_add-result
overflow_add-result c = omega (arith, put_fits c.args.out.now c.args.at c.debug.ensures c.put_len.ensures (omega (arith, c.requires)))
