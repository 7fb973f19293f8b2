-- The table of analyses: what each code means for an instance and its replicas.
use Rattle.std.specs.Prelude.{◌≤◌, ◌==◌, ◌&&◌, nat_le, nat_lt, not, Bool, false, List, [], ◌∷◌, ◌++◌, map, find, unwrap_or, if◌then◌else◌}
use Rattle.std.specs.List.{list_any}
use Rattle.instance_keeper.specs.OrchBase.declared.code.Code.{Code}
use Rattle.instance_keeper.specs.OrchBase.declared.code.Code.TheVariants.{MasterSingleReplicaDead, MasterSingleReplicaNotReplicating, AllMasterReplicasNotReplicating, AllMasterReplicasNotReplicatingOrDead, DeadMasterWithoutReplicas, DeadMasterAndReplicas, DeadMaster, DeadMasterAndSomeReplicas, UnreachableMasterWithLaggingReplicas, UnreachableMaster, AllIntermediateMasterReplicasNotReplicating, DeadIntermediateMasterAndReplicas, DeadIntermediateMasterWithSingleReplica, DeadIntermediateMaster, DeadIntermediateMasterAndSomeReplicas, UnreachableIntermediateMasterWithLaggingReplicas, UnreachableIntermediateMaster, NoProblem}
use Rattle.failure_analysis.specs.declared.code.Action.{Action}
use Rattle.failure_analysis.specs.declared.code.Action.TheVariants.{MasterRecovery, IntermediateRecovery, Nothing}
use Rattle.failure_analysis.specs.declared.code.Counts.{Counts}

-- each count is a part of the one before it
pub record AreCounts (c : Counts) : Type 0 where
  pub lagging : c.lagging ≤ c.replicating
  pub replicating : c.replicating ≤ c.valid_replicas
  pub valid : c.valid_replicas ≤ c.replicas

-- ---- the rows: of an instance with or without a source, valid or not

abbrev pub is_valid_master : Counts → Bool
is_valid_master c = not c.has_source && c.valid

abbrev pub is_dead_master : Counts → Bool
is_dead_master c = not c.has_source && not c.valid

abbrev pub is_valid_intermediate : Counts → Bool
is_valid_intermediate c = c.has_source && c.valid

abbrev pub is_dead_intermediate : Counts → Bool
is_dead_intermediate c = c.has_source && not c.valid

-- how many replicas there are, how many of them are valid, and whether these replicate
abbrev pub has_one : Counts → Bool
has_one c = c.replicas == 1

abbrev pub has_some : Counts → Bool
has_some c = nat_le 1 c.replicas

abbrev pub has_several : Counts → Bool
has_several c = nat_le 2 c.replicas

abbrev pub none_valid : Counts → Bool
none_valid c = c.valid_replicas == 0

abbrev pub all_valid : Counts → Bool
all_valid c = c.valid_replicas == c.replicas

abbrev pub not_all_valid : Counts → Bool
not_all_valid c = nat_lt c.valid_replicas c.replicas

abbrev pub some_valid : Counts → Bool
some_valid c = nat_lt 0 c.valid_replicas && nat_lt c.valid_replicas c.replicas

abbrev pub none_replicates : Counts → Bool
none_replicates c = c.replicating == 0

abbrev pub all_lag : Counts → Bool
all_lag c = nat_lt 0 c.replicating && c.lagging == c.replicating

abbrev pub not_all_lag : Counts → Bool
not_all_lag c = nat_lt 0 c.replicating && nat_lt c.lagging c.replicating

-- the condition of a code's row; the last row, of NoProblem, has none of its own
abbrev pub is_of_row : Code → Counts → Bool
is_of_row MasterSingleReplicaDead c = is_valid_master c && (has_one c && none_valid c)
is_of_row MasterSingleReplicaNotReplicating c = is_valid_master c && (has_one c && (c.valid_replicas == 1 && none_replicates c))
is_of_row AllMasterReplicasNotReplicating c = is_valid_master c && (has_several c && (all_valid c && none_replicates c))
is_of_row AllMasterReplicasNotReplicatingOrDead c = is_valid_master c && (has_several c && (not_all_valid c && none_replicates c))
is_of_row DeadMasterWithoutReplicas c = is_dead_master c && c.replicas == 0
is_of_row DeadMasterAndReplicas c = is_dead_master c && (has_some c && none_valid c)
is_of_row DeadMaster c = is_dead_master c && (has_some c && (all_valid c && none_replicates c))
is_of_row DeadMasterAndSomeReplicas c = is_dead_master c && (some_valid c && none_replicates c)
is_of_row UnreachableMasterWithLaggingReplicas c = is_dead_master c && all_lag c
is_of_row UnreachableMaster c = is_dead_master c && not_all_lag c
is_of_row AllIntermediateMasterReplicasNotReplicating c = is_valid_intermediate c && (has_some c && none_replicates c)
is_of_row DeadIntermediateMasterAndReplicas c = is_dead_intermediate c && (has_some c && none_valid c)
is_of_row DeadIntermediateMasterWithSingleReplica c = is_dead_intermediate c && (has_one c && (c.valid_replicas == 1 && none_replicates c))
is_of_row DeadIntermediateMaster c = is_dead_intermediate c && (has_several c && (all_valid c && none_replicates c))
is_of_row DeadIntermediateMasterAndSomeReplicas c = is_dead_intermediate c && (some_valid c && none_replicates c)
is_of_row UnreachableIntermediateMasterWithLaggingReplicas c = is_dead_intermediate c && all_lag c
is_of_row UnreachableIntermediateMaster c = is_dead_intermediate c && not_all_lag c
is_of_row NoProblem c = false

-- the codes of the rows with a condition, in the table's order
abbrev pub problems : List Code
problems = MasterSingleReplicaDead ∷ MasterSingleReplicaNotReplicating ∷ AllMasterReplicasNotReplicating ∷ AllMasterReplicasNotReplicatingOrDead
    ∷ DeadMasterWithoutReplicas ∷ DeadMasterAndReplicas ∷ DeadMaster ∷ DeadMasterAndSomeReplicas ∷ UnreachableMasterWithLaggingReplicas ∷ UnreachableMaster
    ∷ AllIntermediateMasterReplicasNotReplicating ∷ DeadIntermediateMasterAndReplicas ∷ DeadIntermediateMasterWithSingleReplica ∷ DeadIntermediateMaster
    ∷ DeadIntermediateMasterAndSomeReplicas ∷ UnreachableIntermediateMasterWithLaggingReplicas ∷ UnreachableIntermediateMaster ∷ []

-- whether the condition of each row holds; the last row is for what no other row is for
abbrev pub conditions : Counts → List Bool
conditions c = map (λ code. is_of_row code c) problems ++ not (list_any (λ code. is_of_row code c) problems) ∷ []

-- the code of the row that applies
unfoldable pub code_of : Counts → Code
code_of c = unwrap_or (find (λ code. is_of_row code c) problems) NoProblem

abbrev pub action_of : Code → Action
action_of DeadMaster = MasterRecovery
action_of DeadMasterAndSomeReplicas = MasterRecovery
action_of DeadIntermediateMasterWithSingleReplica = IntermediateRecovery
action_of DeadIntermediateMaster = IntermediateRecovery
action_of DeadIntermediateMasterAndSomeReplicas = IntermediateRecovery
action_of MasterSingleReplicaDead = Nothing
action_of MasterSingleReplicaNotReplicating = Nothing
action_of AllMasterReplicasNotReplicating = Nothing
action_of AllMasterReplicasNotReplicatingOrDead = Nothing
action_of DeadMasterWithoutReplicas = Nothing
action_of DeadMasterAndReplicas = Nothing
action_of UnreachableMasterWithLaggingReplicas = Nothing
action_of UnreachableMaster = Nothing
action_of AllIntermediateMasterReplicasNotReplicating = Nothing
action_of DeadIntermediateMasterAndReplicas = Nothing
action_of UnreachableIntermediateMasterWithLaggingReplicas = Nothing
action_of UnreachableIntermediateMaster = Nothing
action_of NoProblem = Nothing

-- what is asked for, by the counts alone: a server that wasn't reached is recovered if some of its replicas were
-- reached and none replicates
abbrev pub action_by : Counts → Action
action_by c = if not c.valid && (nat_lt 0 c.valid_replicas && none_replicates c)
    then (if c.has_source then IntermediateRecovery else MasterRecovery)
    else Nothing
