use Rattle.std.proofs.Common.{ℕ, ◌<◌, ◌≤◌, get_or, length}
use Rattle.openings.specs.Listed.{transactions}
use Rattle.openings.specs.Servers.{parts_of}
use Rattle.openings.specs.declared.init.ServerInit.{ServerInit}
use Rattle.run_tests.proofs.made.assert_empty.Given as goal

abbrev pub invariant-loop-server : goal.invariant-loop-server
invariant-loop-server g l = record {
  histories : (k : ℕ) (d : ServerInit) → k < l.server-index → transactions (parts_of (get_or l.servers k d)) ≤ 0;
  flush_points : (k : ℕ) (d : ServerInit) → k < l.server-index → length (get_or l.servers k d).flushes ≤ 2;
}
