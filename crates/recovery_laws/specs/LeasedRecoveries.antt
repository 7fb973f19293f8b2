-- That each server that a recovery changes is leased to it.
use Rattle.std.specs.Prelude.{ℕ}
use Rattle.recovery_laws.specs.Prelude.{IsLeased, IsListOf, IsOf, KeepsOf, Leases, Purpose, Recovery, ServerNo, Taken}

-- a server may be read without a lease
abbrev pub IsAny : ℕ → Type 0
IsAny n = Unit {0}

-- each server that the recovery of a job's number may change, now or later, is leased to it
abbrev pub LeasedRecovery : Leases → ℕ → Recovery → Type 0
LeasedRecovery l id r = IsOf (IsLeased l id) IsAny id r

-- beside the replicas a takeover changes the master, and the replica that is to take its place
abbrev pub IsLeasedList : Leases → ℕ → Purpose → ServerNo → Type 0
IsLeasedList l id u f = IsListOf (IsLeased l id) IsAny u f

-- a turn changes only servers that are leased to the recovery, and leaves it so
abbrev pub KeepsLeased : Leases → ℕ → Taken → Type 0
KeepsLeased l id t = KeepsOf (IsLeased l id) IsAny id t
