use Rattle.std.proofs.Common.{◌≡◌, take, length}
use Rattle.instance_keeper.proofs.Prelude.{taken}
use Rattle.instance_keeper.proofs.lease.take.Given as goal

abbrev pub invariant-loop-no : goal.invariant-loop-no
invariant-loop-no l = record {
  taken : l.leases ≡ taken l.initial.leases (take l.no-index l.list) l.job;
  len : length l.leases ≡ length l.initial.leases;
}
