-- Recoveries that begin one after another.
use Rattle.std.specs.Prelude.{◌≡◌, ℕ, ◌+◌, ◌<◌, ◌==◌, true, All, List, [], ◌∷◌, fold, slice_index_or, Option, None}
use Rattle.recovery_core.specs.Prelude.{AuditState, IsListOf, IsNamedRecovery, MayBegin, Recovery, ServerNo, Unended, begun, begun_recovery}
use Rattle.recovery_core.specs.Prelude.{first_busy, list_any, taken}
use Rattle.recovery_core.specs.Tries.{Begins}

abbrev pub IsListed : List ServerNo → ℕ → Type 0
IsListed list n = list_any (λ k. k.0 == n) list ≡ true

-- a recovery is as it begins, of some servers for some purpose
abbrev pub IsFresh : Recovery → Type 0
IsFresh r = r ≡ begun_recovery r.purpose r.means r.core.id r.core.wait r.failed r.replicas r.order

-- A recovery can begin over so many servers, on these leases and this audit, after the job of this number. Its list has
-- the failed server, its replicas and what its purpose lets it change, of which nobody has a lease. Its entry has no
-- end.
pub record CanBegin (count : ℕ) (leases : List (Option ℕ)) (audit : AuditState) (last : ℕ) (x : Begins) : Type 0 where
  pub within : All (λ n. n.0 < count) x.list
  pub free : (n : ℕ) → IsListed x.list n → slice_index_or leases n None ≡ None
  pub idle : first_busy leases x.list ≡ None
  pub list : x.list ≡ x.job.failed ∷ x.job.replicas
  pub listed : IsListOf (IsListed x.list) (λ n. n < count) x.job.purpose x.job.failed
  pub fresh : IsFresh x.job
  pub named : IsNamedRecovery count x.job
  pub number : x.job.core.id ≡ last + 1
  pub may : MayBegin audit x.entry
  pub failed : x.entry.failed ≡ x.job.failed
  pub ended : x.entry.ended ≡ None
  pub outcome : x.entry.outcome ≡ Unended

-- each can on what those before it left
abbrev pub BeginInTurn : ℕ → List (Option ℕ) → AuditState → ℕ → List Begins → Type 0
BeginInTurn count leases audit last [] = Unit {0}
BeginInTurn count leases audit last (x ∷ xs) =
    CanBegin count leases audit last x × BeginInTurn count (taken leases x.list x.job.core.id) (begun audit x.entry) x.job.core.id xs

-- the leases and the audit after them
abbrev pub leases_after : List (Option ℕ) → List Begins → List (Option ℕ)
leases_after leases xs = fold (λ ls x. taken ls x.list x.job.core.id) leases xs

abbrev pub audit_after : AuditState → List Begins → AuditState
audit_after audit xs = fold (λ a x. begun a x.entry) audit xs
