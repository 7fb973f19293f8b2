use Rattle.std.proofs.Common.{◌≡◌, ◌+◌, ◌-◌, ◌≤◌, length, drop}
use Rattle.gtid_sets.proofs.Prelude.{All, IsInterval, behind, intervals_at, is_colon, pieces}
use Rattle.gtid_sets.proofs.grammar.read_intervals.Given as goal

abbrev pub invariant-intervals : goal.invariant-intervals
invariant-intervals l = record {
  each : All IsInterval l.found.items;
  within : l.from ≤ length l.text;
  same : behind l.fn.found.items (intervals_at l.uuid l.offset (pieces is_colon l.text)) ≡ behind l.found.items (intervals_at l.uuid (l.offset + l.from) (pieces is_colon (drop l.from l.text)));
}

abbrev pub decreases-intervals : goal.decreases-intervals
decreases-intervals l = length l.text - l.from
