use Rattle.std.proofs.Common.{arith}
use Rattle.meaning.proofs.Records.{record_has_at_most_80}
use Rattle.line.proofs.Wrote.{wrote_same, put_whole, short_text}
use Rattle.line.proofs.records.TextsRecord.record.Goals as goal

pub returns : goal.returns
returns c =
    let short = c.if-text-gt-LONGEST.false in
    let n = record_has_at_most_80 c.args.text.now in
    let e = short_text c.args.text.now short in
    wrote_same e (put_whole c.«record».ensures c.put_len.ensures (rw e (omega (arith, c.requires))))
