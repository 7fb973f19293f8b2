-- Checks of recoveries and takeovers, beside those of the permission table's other rows.
use Rattle.std.specs.Prelude.{ℕ, Bool, false, ◌&&◌, not, Option, Some, None, Result, Ok, Err, option_map, is_some}
use Rattle.recovery_core.specs.Prelude.{AuditState, BookState, Code, Held, Refusal, ServerNo, World, attached_of, downtime_at, entry_at, has_candidate, has_log}
use Rattle.recovery_core.specs.Prelude.{is_given, is_replica_of, is_valid, label_at, may_begin, only_if, same_label, source_of}
use Rattle.recovery_core.specs.Prelude.held
use Rattle.recovery_core.specs.Prelude.refusal
use Rattle.recovery_core.specs.declared.attempt.Attempt.{Attempt}

-- the code of an instance
abbrev pub code_at : BookState → ServerNo → Option Code
code_at b n = option_map (λ e. e.code) (entry_at b n)

-- 21: recoveries are disabled
abbrev pub disabled : Attempt → Option Refusal
disabled a = only_if (not a.enabled) refusal.GloballyDisabled

-- 22: the failed server is in downtime
abbrev pub downtimed : BookState → Attempt → ServerNo → Option Refusal
downtimed b a f = option_map refusal.Downtimed (downtime_at b f a.now)

-- 23: the filters of such recoveries don't have the cluster
abbrev pub filtered : Bool → Option Refusal
filtered passes = only_if (not passes) refusal.FilteredOut

-- 24, 25: another recovery of the cluster holds this one back
abbrev pub refused_as : Held → Refusal
refused_as (held.Unended id) = refusal.OpenRecovery id
refused_as (held.Blocked id until) = refusal.Blocked id until

abbrev pub held_by : Result ℕ Held → Option Refusal
held_by (Ok id) = None
held_by (Err h) = Some (refused_as h)

abbrev pub held_back : BookState → AuditState → Attempt → ServerNo → Option Refusal
held_back b audit a f = held_by (may_begin audit (label_at b f) a.now.0)

-- 26: none of a master's replicas may be promoted
abbrev pub without_candidate : World → BookState → Attempt → ServerNo → Option Refusal
without_candidate w b a f = only_if (not (has_candidate w b a.now f)) refusal.NoCandidate

-- A server can take the replicas of an intermediate master below it, its source: it is a valid instance, logs, and is
-- of the same cluster. It isn't one of them, because the book may have a loop.
abbrev pub can_succeed : World → BookState → ServerNo → ServerNo → Bool
can_succeed w b f s = is_valid b s && (has_log w s && (same_label w s f && not (is_replica_of b f s)))

abbrev pub has_successor : World → BookState → ServerNo → Option ServerNo → Bool
has_successor w b f None = false
has_successor w b f (Some s) = can_succeed w b f s

-- 26: the source of an intermediate master can't
abbrev pub without_successor : World → BookState → ServerNo → Option Refusal
without_successor w b f = only_if (not (has_successor w b f (source_of b f))) refusal.NoCandidate

-- 27: a master has no source
abbrev pub no_master : BookState → ServerNo → Option Refusal
no_master b i = only_if (is_some (source_of b i)) refusal.NotMaster

-- 28: the server isn't attached to the master
abbrev pub no_replica : BookState → ServerNo → ServerNo → Option Refusal
no_replica b i d = only_if (not (is_given i (attached_of b d))) refusal.NotReplica
