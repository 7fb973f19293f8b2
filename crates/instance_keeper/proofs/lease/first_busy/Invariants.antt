use Rattle.std.proofs.Common.{◌≡◌, drop}
use Rattle.instance_keeper.proofs.Prelude.{first_busy}
use Rattle.instance_keeper.proofs.lease.first_busy.Given as goal

abbrev pub invariant-loop-no : goal.invariant-loop-no
invariant-loop-no l = first_busy l.leases (drop l.no-index l.list) ≡ first_busy l.leases l.list
