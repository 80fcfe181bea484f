use Rattle.std.proofs.Common.{◌≡◌, length, arith, rules}
use Rattle.line.proofs.Chunks.{room-left}
use Rattle.line.proofs.program.Program.feed.Goals as goal

pub write-requires : goal.write-requires
write-requires g c =
    let room : length c.loop-from.self.out ≡ 65536 = search rules in
    omega (arith, room-left _ _ c.feed-fed.ensures.feeds)
