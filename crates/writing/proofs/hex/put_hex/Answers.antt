use mathlib.Core.Path.{◌∙◌}
use Rattle.meaning.specs.Writing.{hexes}
use Rattle.writing.proofs.hex.put_hex.Goals as goal

pub returns : goal.returns
returns c = unfold hexes in c.put_two.ensures ∙ rw (c.digit.ensures, c.digit-2.ensures)
