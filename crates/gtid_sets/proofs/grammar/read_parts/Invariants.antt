use Rattle.std.proofs.Common.{◌≡◌, ◌-◌, ◌≤◌, length, drop}
use Rattle.gtid_sets.proofs.Prelude.{All, IsInterval, behind, is_comma, parts_at, pieces}
use Rattle.gtid_sets.proofs.grammar.read_parts.Given as goal

abbrev pub invariant-parts : goal.invariant-parts
invariant-parts l = record {
  each : All IsInterval l.found.items;
  within : l.from ≤ length l.text;
  same : behind l.fn.found.items (parts_at 0 (pieces is_comma l.text)) ≡ behind l.found.items (parts_at l.from (pieces is_comma (drop l.from l.text)));
}

abbrev pub decreases-parts : goal.decreases-parts
decreases-parts l = length l.text - l.from
