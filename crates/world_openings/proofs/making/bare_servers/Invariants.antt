use Rattle.world_openings.proofs.Prelude.{AreBare}
use Rattle.world_openings.proofs.making.bare_servers.Given as goal

abbrev pub invariant-loop-n : goal.invariant-loop-n
invariant-loop-n l = AreBare l.from l.room l.flushes l.n l.servers.items
