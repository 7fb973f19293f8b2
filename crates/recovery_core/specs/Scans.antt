-- A scan: each instance whose analysis asks for a recovery is tried, in name order, on what the tries before it left.
use Rattle.std.specs.Prelude.{◌≡◌, ◌<◌, ◌≤◌, ◌^◌, ◌-◌, ℕ, ◌+◌, All, length, Some, Bool, true, false, List, [], ◌∷◌, ◌++◌, filter, fold, slice_index_or, Option, Result, Ok, Err}
use Rattle.recovery_core.specs.Prelude.{Action, AuditState, BookState, Entry, IntermediateRecovery, Line, MasterRecovery, Nothing, Refusal, ServerNo, World}
use Rattle.recovery_core.specs.Prelude.{action_of, analysis, begun, label_at, taken}
use Rattle.recovery_core.specs.declared.attempt.Attempt.{Attempt}
use Rattle.recovery_core.specs.Checks.{code_at}
use Rattle.recovery_core.specs.Recoveries.{recovery_refusal}
use Rattle.recovery_core.specs.Prelude.line
use Rattle.recovery_core.specs.declared.scanning.Terms.{Terms}
use Rattle.recovery_core.specs.Tries.{Begins, recovery_try}

abbrev pub is_asked : Action → Bool
is_asked MasterRecovery = true
is_asked IntermediateRecovery = true
is_asked Nothing = false

-- the instances whose analysis asks for a recovery, in name order
abbrev pub actionable_in : BookState → List Entry
actionable_in b = filter (λ e. is_asked (action_of e.code)) (analysis b)

-- the entry of a server that is there
pub record IsEntryIn (b : BookState) (e : Entry) : Type 0 where
  pub within : e.no.0 < length b.names
  pub code : code_at b e.no ≡ Some e.code

-- no operator asks for a scan's recoveries; the filters' answers are by server number, the block periods by the
-- clusters' labels
abbrev pub attempt_of : List Bool → List Bool → (List ℕ → ℕ) → BookState → Terms → ServerNo → Attempt
attempt_of masters intermediates period b t n = record {
  by_master = slice_index_or masters n.0 false;
  by_intermediate = slice_index_or intermediates n.0 false;
  enabled = t.enabled;
  by_hand = false;
  block = period (label_at b n);
  now = t.now;
}

-- how far a scan has come: the leases and the audit with what it has begun, the number of the last job, and what it
-- answers and begins, in order
pub record Staged : Type 0 where
  pub leases : List (Option ℕ)
  pub audit : AuditState
  pub last : ℕ
  pub lines : List Line
  pub begun : List Begins

-- a server can be tried there: each server has its place among the leases, and the audit's moments are small
pub record IsReady (b : BookState) (s : Staged) : Type 0 where
  pub leases : length s.leases ≡ length b.names
  pub begun : All (λ r. r.begun.0 ≤ 2 ^ 63) s.audit.recoveries

-- each entry that begins leaves an id
abbrev pub HasRoom : List Begins → Type 0
HasRoom xs = All (λ x. x.entry.id < 2 ^ 64 - 1) xs

abbrev pub from_start : BookState → AuditState → ℕ → Staged
from_start b audit last = record { leases = b.leases; audit = audit; last = last; lines = []; begun = [] }

-- a recovery begins as the next job, or is refused
abbrev pub after_try : Staged → Entry → Result Begins Refusal → Staged
after_try s e (Ok x) = record {
  leases = taken s.leases x.list (s.last + 1);
  audit = begun s.audit x.entry;
  last = s.last + 1;
  lines = s.lines ++ line.Begun e.no e.code (s.last + 1) ∷ [];
  begun = s.begun ++ x ∷ [];
}
after_try s e (Err r) = record s { lines = s.lines ++ line.Refused e.no e.code r ∷ [] }

-- as it is tried if a scan has come so far
abbrev pub staged_refusal : World → BookState → Attempt → Staged → ServerNo → Option Refusal
staged_refusal w b a s f = recovery_refusal w (record b { leases = s.leases }) s.audit a f

abbrev pub staged_try : World → BookState → Attempt → ℕ → Staged → ServerNo → Result Begins Refusal
staged_try w b a wait s f = recovery_try w (record b { leases = s.leases }) s.audit a wait (s.last + 1) f

abbrev pub scan_step : World → BookState → (ServerNo → Attempt) → ℕ → Staged → Entry → Staged
scan_step w b attempt wait s e = after_try s e (staged_try w b (attempt e.no) wait s e.no)

abbrev pub scanned_over : World → BookState → (ServerNo → Attempt) → ℕ → Staged → List Entry → Staged
scanned_over w b attempt wait s entries = fold (scan_step w b attempt wait) s entries

-- a scan, by how each server is tried, how often an operation may wait, and the number of the last job
abbrev pub scanned : World → BookState → AuditState → (ServerNo → Attempt) → ℕ → ℕ → Staged
scanned w b audit attempt wait last = scanned_over w b attempt wait (from_start b audit last) (actionable_in b)
