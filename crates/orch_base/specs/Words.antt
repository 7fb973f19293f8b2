-- How values that every layer uses are spelled.
use Rattle.std.specs.Prelude.{◌++◌, ℕ, List, codes, decimal}
use Rattle.orch_base.specs.declared.code.Code.{Code}
use Rattle.orch_base.specs.declared.code.Code.TheVariants as code
use Rattle.orch_base.specs.declared.recovery.CauseName.{CauseName}
use Rattle.orch_base.specs.declared.recovery.CauseName.TheVariants as cause
use Rattle.orch_base.specs.declared.recovery.Kind.{Kind}
use Rattle.orch_base.specs.declared.recovery.Kind.TheVariants as kind
use Rattle.orch_base.specs.declared.rule.Rule.{Rule}
use Rattle.orch_base.specs.declared.rule.Rule.TheVariants as rule
use Rattle.orch_base.specs.declared.server.Version.{Version}

-- an analysis by orchestrator's name
abbrev pub code_text : Code → List ℕ
code_text code.MasterSingleReplicaDead = codes "MasterSingleReplicaDead"
code_text code.MasterSingleReplicaNotReplicating = codes "MasterSingleReplicaNotReplicating"
code_text code.AllMasterReplicasNotReplicating = codes "AllMasterReplicasNotReplicating"
code_text code.AllMasterReplicasNotReplicatingOrDead = codes "AllMasterReplicasNotReplicatingOrDead"
code_text code.DeadMasterWithoutReplicas = codes "DeadMasterWithoutReplicas"
code_text code.DeadMasterAndReplicas = codes "DeadMasterAndReplicas"
code_text code.DeadMaster = codes "DeadMaster"
code_text code.DeadMasterAndSomeReplicas = codes "DeadMasterAndSomeReplicas"
code_text code.UnreachableMasterWithLaggingReplicas = codes "UnreachableMasterWithLaggingReplicas"
code_text code.UnreachableMaster = codes "UnreachableMaster"
code_text code.AllIntermediateMasterReplicasNotReplicating = codes "AllIntermediateMasterReplicasNotReplicating"
code_text code.DeadIntermediateMasterAndReplicas = codes "DeadIntermediateMasterAndReplicas"
code_text code.DeadIntermediateMasterWithSingleReplica = codes "DeadIntermediateMasterWithSingleReplica"
code_text code.DeadIntermediateMaster = codes "DeadIntermediateMaster"
code_text code.DeadIntermediateMasterAndSomeReplicas = codes "DeadIntermediateMasterAndSomeReplicas"
code_text code.UnreachableIntermediateMasterWithLaggingReplicas = codes "UnreachableIntermediateMasterWithLaggingReplicas"
code_text code.UnreachableIntermediateMaster = codes "UnreachableIntermediateMaster"
code_text code.NoProblem = codes "NoProblem"

-- a rule of promotion
abbrev pub rule_text : Rule → List ℕ
rule_text rule.Prefer = codes "prefer"
rule_text rule.Neutral = codes "neutral"
rule_text rule.PreferNot = codes "prefer_not"
rule_text rule.MustNot = codes "must_not"

-- what is recovered
abbrev pub kind_text : Kind → List ℕ
kind_text kind.Master = codes "master"
kind_text kind.Intermediate = codes "intermediate"
kind_text kind.Takeover = codes "takeover"

-- the name of a cause
abbrev pub cause_name_text : CauseName → List ℕ
cause_name_text cause.Unreachable = codes "Unreachable"
cause_name_text cause.WaitSpent = codes "WaitSpent"
cause_name_text cause.Interfered = codes "Interfered"
cause_name_text cause.Running = codes "Running"
cause_name_text cause.Loop = codes "Loop"
cause_name_text cause.Errant = codes "Errant"
cause_name_text cause.Moved = codes "Moved"
cause_name_text cause.Reachable = codes "Reachable"
cause_name_text cause.NoCandidate = codes "NoCandidate"
cause_name_text cause.Purged = codes "Purged"
cause_name_text cause.NoMark = codes "NoMark"
cause_name_text cause.Mismatch = codes "Mismatch"
cause_name_text cause.HookFailed = codes "HookFailed"

abbrev pub version_text : Version → List ℕ
version_text v = decimal v.major ++ codes "." ++ decimal v.minor ++ codes "." ++ decimal v.patch
