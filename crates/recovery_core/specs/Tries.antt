-- Recoveries and takeovers that are tried.
use Rattle.std.specs.Prelude.{ℕ, false, List, Option, None, Some, Result, Ok, Err}
use Rattle.recovery_core.specs.Prelude.{AuditState, BookState, Code, HookState, Kind, Moment, Recovery, Refusal, ServerNo, UnknownInstance, World}
use Rattle.recovery_core.specs.Prelude.{begun_recovery, label_at, replicas_of, source_of}
use Rattle.recovery_core.specs.declared.attempt.Attempt.{Attempt}
use Rattle.recovery_core.specs.Checks.{code_at}
use Rattle.recovery_core.specs.Takeovers.{followers_of, takeover_refusal}
use Rattle.recovery_core.specs.Recoveries.{recovery_list, recovery_purpose, recovery_refusal}
use Rattle.recovery_core.specs.Prelude.KeptRows.{Recovery as KeptRecovery}
use Rattle.recovery_core.specs.Prelude.ending
use Rattle.recovery_core.specs.Prelude.kind
use Rattle.recovery_core.specs.Prelude.means
use Rattle.recovery_core.specs.Prelude.purpose

-- What begins: the servers of which the job takes the leases, the job, and its entry in the audit. Then the analysis of
-- the failed server for the hooks, which a takeover hasn't, because it runs none. Last its hooks, with their values.
pub record Begins : Type 0 where
  pub list : List ServerNo
  pub job : Recovery
  pub entry : KeptRecovery
  pub code : Option Code
  pub hooks : Option HookState

-- the entry of a recovery that begins, with the block period that its cluster has then
abbrev pub entry_of : BookState → AuditState → Moment → ℕ → Kind → ServerNo → KeptRecovery
entry_of b audit now block what f = record {
  id = audit.next;
  cluster = label_at b f;
  kind = what;
  failed = f;
  begun = now;
  ended = None;
  outcome = ending.Unended;
  acked = false;
  block = block;
}

-- what is recovered, by whether the failed server has a source
abbrev pub kind_by : Option ServerNo → Kind
kind_by None = kind.Master
kind_by (Some s) = kind.Intermediate

abbrev pub recovery_kind : BookState → ServerNo → Kind
recovery_kind b f = kind_by (source_of b f)

-- the recovery of a server, as the job of a number, whose operations may wait so often each
abbrev pub recovery_begins : BookState → AuditState → Moment → ℕ → ℕ → ℕ → ServerNo → Begins
recovery_begins b audit now block wait job f = record {
  list = recovery_list b f;
  job = begun_recovery (recovery_purpose b f) means.Bridges job wait f (replicas_of b f) (replicas_of b f);
  entry = entry_of b audit now block (recovery_kind b f) f;
  code = code_at b f;
  hooks = None;
}

-- a replica's takeover of a master's place; it reports the master, too
abbrev pub takeover_begins : BookState → AuditState → Moment → ℕ → ℕ → ℕ → ServerNo → ServerNo → Begins
takeover_begins b audit now block wait job i d = record {
  list = recovery_list b i;
  job = begun_recovery (purpose.Takeover d) means.Bridges job wait i (replicas_of b i) (followers_of b i d);
  entry = entry_of b audit now block kind.Takeover i;
  code = None;
  hooks = None;
}

-- what is refused doesn't begin
abbrev pub unless_refused : Option Refusal → Begins → Result Begins Refusal
unless_refused None x = Ok x
unless_refused (Some r) x = Err r

abbrev pub recovery_try : World → BookState → AuditState → Attempt → ℕ → ℕ → ServerNo → Result Begins Refusal
recovery_try w b audit a wait job f = unless_refused (recovery_refusal w b audit a f) (recovery_begins b audit a.now a.block wait job f)

abbrev pub takeover_try : World → BookState → AuditState → Attempt → ℕ → ℕ → ServerNo → ServerNo → Result Begins Refusal
takeover_try w b audit a wait job i d = unless_refused (takeover_refusal w b audit a i d) (takeover_begins b audit a.now a.block wait job i d)

-- if a replica is given
abbrev pub given_try : World → BookState → AuditState → Attempt → ℕ → ℕ → ServerNo → Option ServerNo → Result Begins Refusal
given_try w b audit a wait job i None = Err UnknownInstance
given_try w b audit a wait job i (Some d) = takeover_try w b audit a wait job i d

-- of a kind that is asked for: any recovery but a takeover is of the kind of its failed server
abbrev pub kind_try : World → BookState → AuditState → Attempt → ℕ → ℕ → ServerNo → Option ServerNo → Option Kind → Result Begins Refusal
kind_try w b audit a wait job f d None = recovery_try w b audit a wait job f
kind_try w b audit a wait job f d (Some kind.Master) = recovery_try w b audit a wait job f
kind_try w b audit a wait job f d (Some kind.Intermediate) = recovery_try w b audit a wait job f
kind_try w b audit a wait job f d (Some kind.Takeover) = given_try w b audit a wait job f d
