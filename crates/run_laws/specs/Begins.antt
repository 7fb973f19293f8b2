-- Whom a recovery names as it begins, and beside which others it does.
use Rattle.std.specs.Prelude.{◌≡◌, List, [], ◌∷◌, map, All}
use Rattle.run_laws.specs.Prelude.{AreReplicas, AuditState, Begins, BookState, IsClear, Moment, Recovery as KeptRecovery, begun, replicas_of}

-- the replicas are those that the book has of the failed server, and no server is named twice
pub record NamesReplicasOnce (b : BookState) (x : Begins) : Type 0 where
  pub replicas : x.job.replicas ≡ replicas_of b x.job.failed
  pub once : AreReplicas x.job.purpose x.job.failed x.job.replicas

-- A recovery begins beside an audit, as its next one, at a moment. None of its cluster holds it back there: each is
-- ended, and is acknowledged or began at least its own block period ago.
pub record BeginsApart (now : Moment) (a : AuditState) (r : KeptRecovery) : Type 0 where
  pub number : r.id ≡ a.next
  pub moment : r.begun ≡ now
  pub clear : All (IsClear r.cluster now.0) a.recoveries

-- each beside what those before it left
abbrev pub BeginApartInTurn : Moment → AuditState → List KeptRecovery → Type 0
BeginApartInTurn now a [] = Unit {0}
BeginApartInTurn now a (r ∷ rs) = BeginsApart now a r × BeginApartInTurn now (begun a r) rs

-- the entries with which they begin
abbrev pub entries_of : List Begins → List KeptRecovery
entries_of xs = map (λ x. x.entry) xs
