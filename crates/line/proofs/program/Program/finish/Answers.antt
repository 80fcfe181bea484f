use Rattle.std.proofs.Common.{◌≡◌, length, arith, rules}
use Rattle.line.proofs.Chunks.{wrote_fits}
use Rattle.line.proofs.program.Program.finish.Goals as goal

pub write-requires : goal.write-requires
write-requires g c =
    let room : length c.args.self.now.out ≡ 65536 = search rules in
    omega (arith, wrote_fits _ _ c.finish-count.ensures)
