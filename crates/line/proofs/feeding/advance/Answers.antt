use Rattle.std.proofs.Common.{◌∙◌, ◌-◌, drop, length, sym, arith, length-drop, length-take-le}
use Rattle.line.proofs.Chunks.{to_end, to_lf, wrote_fits}
use Rattle.line.proofs.feeding.advance.Goals as goal

pub overflow_add-result-in-Some-2 : goal.overflow_add-result-in-Some-2
overflow_add-result-in-Some-2 g c =
    let out = c.args.out.now in
    let count = c.args.fed.count in
    let room = length-take-le (length out - count) (drop count out) (omega (arith, length-drop count out)) in
    omega (arith, wrote_fits _ _ c.end-wrote.ensures.wrote)

pub returns-in-Some-clause-feeds : goal.returns-in-Some-clause-feeds
returns-in-Some-clause-feeds g c =
    let lf = c.next_lf.ensures in
    to_lf _ c.args.chunk.now c.args.fed (omega (arith, c.requires.in_chunk)) (omega (arith, c.requires.room))
    (sym lf.first ∙ c.in-Some.is) c.in-Some.ensures.within c.end-wrote.ensures.empty c.end-wrote.ensures.wrote

pub returns-in-None-clause-feeds : goal.returns-in-None-clause-feeds
returns-in-None-clause-feeds g c =
    to_end _ c.args.chunk.now c.args.fed (omega (arith, c.requires.in_chunk)) (omega (arith, c.requires.room))
    (sym c.next_lf.ensures.first ∙ c.in-None.is) c.extend.ensures
