use Rattle.std.proofs.Common.{ℕ, ◌<◌, ◌≤◌, get_or, length}
use Rattle.openings.specs.Listed.{transactions}
use Rattle.openings.specs.Servers.{parts_of}
use Rattle.openings.specs.declared.init.ServerInit.{ServerInit}
use Rattle.model_tests.proofs.given.fits.Given as goal

abbrev pub invariant-loop-init : goal.invariant-loop-init
invariant-loop-init l = record {
  histories : (k : ℕ) (d : ServerInit) → k < l.init-index → transactions (parts_of (get_or l.init-items k d)) ≤ l.room;
  flush_points : (k : ℕ) (d : ServerInit) → k < l.init-index → length (get_or l.init-items k d).flushes ≤ l.flushes;
}
