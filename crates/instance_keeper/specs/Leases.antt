-- Leases of servers, by the servers' numbers: a job that has a server's lease is the only one that may change it.
use Rattle.std.specs.Prelude.{ℕ, ◌==◌, Bool, false, if◌then◌else◌, List, [], ◌∷◌, map, fold, slice_set, slice_index_or, Option, None, Some}
use Rattle.instance_keeper.specs.Prelude.{ServerNo}
use Rattle.instance_keeper.specs.declared.lease.LeaseFault.{LeaseFault}
use Rattle.instance_keeper.specs.declared.lease.LeaseFault.TheVariants as fault

abbrev pub busy_by : ServerNo → Option ℕ → Option LeaseFault → Option LeaseFault
busy_by k None rest = rest
busy_by k (Some job) rest = Some (fault.Busy k job)

-- the first server of the list that has a lease, and its job
abbrev pub first_busy : List (Option ℕ) → List ServerNo → Option LeaseFault
first_busy leases [] = None
first_busy leases (k ∷ ks) = busy_by k (slice_index_or leases k.0 None) (first_busy leases ks)

-- with the leases of a list
abbrev pub taken : List (Option ℕ) → List ServerNo → ℕ → List (Option ℕ)
taken leases list job = fold (λ ls k. slice_set ls k.0 (Some job)) leases list

abbrev pub is_of : Option ℕ → ℕ → Bool
is_of None job = false
is_of (Some other) job = other == job

abbrev pub freed : ℕ → Option ℕ → Option ℕ
freed job lease = if is_of lease job then None else lease

-- without the leases of a job
abbrev pub given_back : List (Option ℕ) → ℕ → List (Option ℕ)
given_back leases job = map (freed job) leases
