use Rattle.std.proofs.Common.{◌≡◌, drop, None, slice_index_or}
use Rattle.recovery_core.proofs.Prelude.{ServerNo, busy_by, first_about}
use Rattle.recovery_core.proofs.stage.busy.Given as goal

abbrev pub invariant-loop-no : goal.invariant-loop-no
invariant-loop-no l =
    first_about (λ (n : ServerNo). busy_by n (slice_index_or l.leases n.0 None)) (drop l.no-index l.servers)
    ≡ first_about (λ (n : ServerNo). busy_by n (slice_index_or l.leases n.0 None)) l.servers
