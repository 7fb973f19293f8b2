use Rattle.std.proofs.Common.{◌≡◌, ◌-◌, ◌^◌, take, min}
use Rattle.scenario_reader.specs.ReadOpenings.{listed_count}
use Rattle.scenario_reader.proofs.opening.listed_count.Given as goal

abbrev pub invariant-loop-server : goal.invariant-loop-server
invariant-loop-server l = l.count ≡ min (listed_count (take l.server-index l.servers)) (2 ^ 64 - 1)
