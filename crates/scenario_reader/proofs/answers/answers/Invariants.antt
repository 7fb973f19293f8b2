use Rattle.std.proofs.Common.{◌≡◌, map, take}
use Rattle.scenario_reader.specs.AliasTable.{alias_at, passes_by, AreKnown}
use Rattle.scenario_reader.proofs.answers.answers.Given as goal

abbrev pub invariant-loop-server : goal.invariant-loop-server
invariant-loop-server l = record {
  told : l.answers.items ≡ map (passes_by (alias_at l.aliases) l.filters) (take l.server-index l.servers);
  known : AreKnown l.known (alias_at l.aliases) l.filters;
}
