use mathlib.Core.Path.{◌∙◌}
use Rattle.layout.proofs.Laws.{upper_half, le_eight}
use borrow.Author.Rules.{rules}
use Rattle.layout.proofs.upper.Goals as goal

pub returns : goal.returns
returns c =
    upper_half c.args.b (search rules) (λ i. search rules) _ (c.from_le_bytes.ensures ∙ le_eight _ _ _ _ _ _ _ _)
