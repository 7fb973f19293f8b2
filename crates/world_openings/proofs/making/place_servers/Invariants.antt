use Rattle.world_openings.proofs.Prelude.{ArePlaced, HaveLogs}
use Rattle.world_openings.proofs.making.place_servers.Given as goal

abbrev pub invariant-loop-n : goal.invariant-loop-n
invariant-loop-n l = record {
  placed : ArePlaced l.from.servers l.n l.initial.servers l.servers;
  logs : HaveLogs l.from.servers l.servers;
}
