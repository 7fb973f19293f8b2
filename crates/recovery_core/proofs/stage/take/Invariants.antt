use Rattle.std.proofs.Common.{◌≡◌, take, length}
use Rattle.recovery_core.proofs.Prelude.{taken}
use Rattle.recovery_core.proofs.stage.take.Given as goal

abbrev pub invariant-loop-no : goal.invariant-loop-no
invariant-loop-no l = record {
  taken : l.leases ≡ taken l.initial.leases (take l.no-index l.servers) l.job;
  len : length l.leases ≡ length l.initial.leases;
}
