use Rattle.std.proofs.Common.{◌≡◌, None, arith, rules}
use Rattle.meaning.specs.Stream.{without_cr}
use Rattle.line.proofs.Ends.{one_off}
use Rattle.line.proofs.pending.Pending.record.Goals as goal

pub returns-in-None : goal.returns-in-None
returns-in-None g c =
    let longer : c.args.self.now ≡ None = search rules in
    λ p h. c.too_long.ensures (without_cr p) (omega (arith, one_off p, rw longer at h))
