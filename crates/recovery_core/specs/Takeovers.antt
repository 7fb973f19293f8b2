-- What refuses the takeover of a master's place by a replica.
use Rattle.std.specs.Prelude.{Bool, ◌==◌, ◌&&◌, ◌||◌, not, List, [], ◌∷◌, filter, Option, Some}
use Rattle.recovery_core.specs.Prelude.{AuditState, BookState, Busy, Case, Check, DestNotLogging, Refusal, SameInstance, SameServerId, ServerNo}
use Rattle.recovery_core.specs.Prelude.{UnknownInstance, Unreachable, VersionLower, World, by_name, first_of, first_refusal, is_instance, is_replica_of}
use Rattle.recovery_core.specs.Prelude.{moves_to, only_if, replicas_of}
use Rattle.recovery_core.specs.declared.attempt.Attempt.{Attempt}
use Rattle.recovery_core.specs.Checks.{held_back, no_master, no_replica}

-- the servers that come below the designated one: the master and its other replicas
abbrev pub comes_below : BookState → ServerNo → ServerNo → ServerNo → Bool
comes_below b i d n = not (n.0 == d.0) && ((n.0 == i.0) || is_replica_of b i n)

-- in name order
abbrev pub followers_of : BookState → ServerNo → ServerNo → List ServerNo
followers_of b i d = filter (comes_below b i d) (by_name b.names)

abbrev pub case_over : ServerNo → ServerNo → List ServerNo → List ServerNo → Case
case_over i d replicas followers = record {
  i = i;
  to = Some d;
  leased = i ∷ replicas;
  reached = i ∷ d ∷ [];
  moves = moves_to followers (Some d);
  sources = d ∷ [];
  crossed = [];
}

abbrev pub case_of : BookState → ServerNo → ServerNo → Case
case_of b i d = case_over i d (replicas_of b i) (followers_of b i d)

abbrev pub row : List Check
row = SameInstance ∷ Busy ∷ Unreachable ∷ DestNotLogging ∷ SameServerId ∷ VersionLower ∷ []

-- the refusal with the lowest number that applies to the takeover of a master's place
abbrev pub takeover_refusal : World → BookState → AuditState → Attempt → ServerNo → ServerNo → Option Refusal
takeover_refusal w b audit a i d =
    first_of (only_if (not (is_instance b i && is_instance b d)) UnknownInstance
    ∷ first_refusal w b (case_of b i d) row
    ∷ held_back b audit a i ∷ no_master b i ∷ no_replica b i d ∷ [])
