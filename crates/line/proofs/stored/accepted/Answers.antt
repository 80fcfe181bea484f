use Rattle.line.proofs.Wrote.{record_put}
use Rattle.line.proofs.stored.accepted.Goals as goal

pub returns : goal.returns
returns c =
    let text = c.put_text-text_end.ensures in
    let debug = c.put_debug-end.ensures in
    record_put c.args.bytes c.args.out.now c.requires text.few debug.long
    c.put_all.ensures
    (rw (c.from_bytes-value.ensures) at text.wrote)
    (rw (c.from_bytes-value.ensures) at debug.wrote)
