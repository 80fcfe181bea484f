use mathlib.Core.Path.{◌≡◌}
use lib.ListN.{length}
use borrow.Author.Rules.{rules}
use Rattle.meaning.specs.Reading.{bytes}
use Rattle.meaning.specs.Writing.{debug_text}
use Rattle.writing.proofs.Texts.{length_debug, debug_in}
use Rattle.writing.proofs.Puts.{no_room, room}
use Rattle.writing.proofs.debug.Goals as goal

pub returns-then-buf-len : goal.returns-then-buf-len
returns-then-buf-len c =
    let sixteen : length c.args.bytes ≡ 16 = search rules in
    let p = no_room (debug_text c.args.bytes) c.args.buf.now 44 (length_debug _ sixteen) c.if-buf-len.true in
    (record { value = p.answer; buf_after = p.buffer })

pub returns : goal.returns
unfolding bytes
returns c =
    let sixteen : length c.args.bytes ≡ 16 = search rules in
    let h = c.if-buf-len.false in
    let p = room (debug_text c.args.bytes) c.args.buf.now 44 (length_debug _ sixteen) h (debug_in _ sixteen c.args.buf.now h c.put_all.ensures c.put_hexes.ensures) in
    (record { value = p.answer; buf_after = p.buffer })
