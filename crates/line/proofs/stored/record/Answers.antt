use Rattle.std.proofs.Common.{ap, ◌∙◌}
use Rattle.line.specs.Wrote.{stored_text}
use Rattle.line.proofs.Wrote.{wrote_same, stored_accepted, stored_malformed}
use Rattle.line.proofs.stored.record.Goals as goal

pub returns-in-Some : goal.returns-in-Some
returns-in-Some c =
    let hex = c.in-Some.ensures in
    wrote_same (ap stored_text hex.1 ∙ stored_accepted _ hex.0) c.accepted.ensures

pub returns-in-None : goal.returns-in-None
returns-in-None c = wrote_same (stored_malformed _ c.in-None.ensures) c.malformed.ensures
