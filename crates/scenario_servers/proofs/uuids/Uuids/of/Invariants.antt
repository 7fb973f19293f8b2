use Rattle.scenario_servers.proofs.UuidTables.{IsTabledTo}
use Rattle.scenario_servers.proofs.uuids.Uuids.of.Given as goal

abbrev pub invariant-loop-number : goal.invariant-loop-number
invariant-loop-number l = IsTabledTo l.items l.number l.listed.items l.numbers
