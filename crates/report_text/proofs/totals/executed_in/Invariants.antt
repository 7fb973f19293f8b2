use Rattle.std.proofs.Common.{◌≡◌, ◌≤◌, ◌*◌, ◌^◌, length, take, sum_by}
use Rattle.report_text.proofs.totals.executed_in.Given as goal

abbrev pub invariant-loop-no : goal.invariant-loop-no
invariant-loop-no l = record {
  sum : l.executed ≡ sum_by (λ s. length s.history.txns) (take l.no l.world.servers);
  within : l.executed ≤ l.no * 2 ^ 64;
}
