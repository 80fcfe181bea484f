use mathlib.Core.Path.{refl, sym, ap, ◌∙◌}
use Rattle.meaning.specs.Layout.{bytes_of}
use Rattle.limbs.proofs.Laws.{value_four}
use Rattle.layout.proofs.Laws.{limb_bytes}
use borrow.Author.Rules.{rules}
use Rattle.layout.proofs.bytes_of.Goals as goal

pub returns : goal.returns
unfolding bytes_of
returns c =
    limb_bytes _ _ _ 12 _ c.to_le_bytes.ensures (search rules)
    (limb_bytes _ _ _ 8 _ c.to_le_bytes-2.ensures (search rules)
    (limb_bytes _ _ _ 4 _ c.to_le_bytes-3.ensures (search rules)
    (limb_bytes _ _ 0 0 _ c.to_le_bytes-4.ensures (search rules) refl)))
    ∙ sym (ap (bytes_of 16) (value_four c.args.w (search rules)))
