use mathlib.Core.Logic.{⊎_elim}
use mathlib.Core.Path.{ap, ◌∙◌}
use Rattle.layout.specs.Fields.{digits_of}
use Rattle.layout.proofs.Laws.{of_kind, finite_range}
use Rattle.layout.proofs.digits_of.Goals as goal

pub digits-requires : goal.digits-requires
digits-requires c = (finite_range c.args.f c.in-Finite.is c.requires).1

pub returns-in-Nan : goal.returns-in-Nan
unfolding digits_of
returns-in-Nan c = ⊎_elim (λ e. ap digits_of (of_kind c.args.f e.1)) (λ e. ap digits_of (of_kind c.args.f e)) c.in-Nan.is

pub returns-in-Finite : goal.returns-in-Finite
unfolding digits_of
returns-in-Finite c = c.digits.ensures ∙ ap digits_of (of_kind c.args.f c.in-Finite.is)
