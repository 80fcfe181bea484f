use mathlib.Core.Path.{sym, ◌∙◌}
use Rattle.reading.proofs.Rows.{passed_none, passed-more}
use Rattle.reading.proofs.scan.past_eights.Goals as goal
use Rattle.std.proofs.lemmas.List.{take_rest}

pub loop-eight-init : goal.loop-eight-init
loop-eight-init c = passed_none _ c.args.from _ c.requires (take_rest c.args.text.now c.args.from)

pub loop-eight-preserved : goal.loop-eight-preserved
loop-eight-preserved c =
    let e = c.in-Some.ensures.cases in
    passed-more _ _ _ _ _ c.loop-eight.invariant e.0 e.1 e.2 (sym c.are_digits.ensures ∙ c.if-not-are_digits.false)
