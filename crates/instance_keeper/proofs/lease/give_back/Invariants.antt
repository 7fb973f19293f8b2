use Rattle.std.proofs.Common.{◌≡◌}
use Rattle.instance_keeper.proofs.Leasing.{freed_below}
use Rattle.instance_keeper.proofs.lease.give_back.Given as goal

abbrev pub invariant-loop-lease : goal.invariant-loop-lease
invariant-loop-lease l = l.leases ≡ freed_below l.job l.lease-index l.initial.leases
