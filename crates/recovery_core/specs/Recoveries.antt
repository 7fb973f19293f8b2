-- What refuses the recovery of a server, and what it is for.
use Rattle.std.specs.Prelude.{Bool, List, [], ◌∷◌, Option, Some, None, if◌then◌else◌}
use Rattle.recovery_core.specs.Prelude.{Action, AuditState, BookState, Busy, Case, Code, IntermediateRecovery, MasterRecovery, NotActionable, Nothing, Purpose}
use Rattle.recovery_core.specs.Prelude.{Refusal, ServerNo, UnknownInstance, World, action_of, first_of, first_refusal, option_or, replicas_of, source_of}
use Rattle.recovery_core.specs.Prelude.purpose
use Rattle.recovery_core.specs.declared.attempt.Attempt.{Attempt}
use Rattle.recovery_core.specs.Checks.{code_at, disabled, downtimed, filtered, held_back, without_candidate, without_successor}

-- the servers of which the recovery takes the leases: the failed one and its replicas, in name order
abbrev pub recovery_list : BookState → ServerNo → List ServerNo
recovery_list b f = f ∷ replicas_of b f

-- no server is to move, or must be reached
abbrev pub case_over : ServerNo → List ServerNo → Case
case_over f replicas = record { i = f; to = None; leased = f ∷ replicas; reached = []; moves = []; sources = []; crossed = [] }

abbrev pub case_of : BookState → ServerNo → Case
case_of b f = case_over f (replicas_of b f)

-- 21 to 23: what holds a recovery back that begins by itself; by hand it begins in spite of these
abbrev pub unasked : BookState → Attempt → ServerNo → Bool → Option Refusal
unasked b a f passes = if a.by_hand then None else first_of (disabled a ∷ downtimed b a f ∷ filtered passes ∷ [])

-- 21 to 25: by whether the cluster passes the filters
abbrev pub held_off : BookState → AuditState → Attempt → ServerNo → Bool → Option Refusal
held_off b audit a f passes = option_or (unasked b a f passes) (held_back b audit a f)

-- 20 to 26, by what the failed server's code asks for
abbrev pub refusal_for : World → BookState → AuditState → Attempt → ServerNo → Code → Action → Option Refusal
refusal_for w b audit a f code Nothing = Some (NotActionable code)
refusal_for w b audit a f code MasterRecovery = option_or (held_off b audit a f a.by_master) (without_candidate w b a f)
refusal_for w b audit a f code IntermediateRecovery = option_or (held_off b audit a f a.by_intermediate) (without_successor w b f)

abbrev pub refusal_by : World → BookState → AuditState → Attempt → ServerNo → Option Code → Option Refusal
refusal_by w b audit a f None = Some UnknownInstance
refusal_by w b audit a f (Some code) =
    option_or (first_refusal w b (case_of b f) (Busy ∷ [])) (refusal_for w b audit a f code (action_of code))

-- the refusal with the lowest number that applies to the recovery of a server
abbrev pub recovery_refusal : World → BookState → AuditState → Attempt → ServerNo → Option Refusal
recovery_refusal w b audit a f = refusal_by w b audit a f (code_at b f)

-- what a recovery is for, by whether the failed server has a source
abbrev pub purpose_by : Option ServerNo → Purpose
purpose_by None = purpose.Master
purpose_by (Some s) = purpose.Intermediate s

abbrev pub recovery_purpose : BookState → ServerNo → Purpose
recovery_purpose b f = purpose_by (source_of b f)
