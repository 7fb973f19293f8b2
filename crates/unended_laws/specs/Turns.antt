-- Turns of unended recoveries.
use Rattle.std.specs.Prelude.{◌≡◌, ℕ, ◌<◌, List, Some, IfSome, All}
use Rattle.unended_laws.specs.Prelude.{BookState, Docket, Flight, Line, Moment, Outcome, Taken, Unended, World, job_at, run, taken}
use Rattle.unended_jobs.specs.RecoveryPlans.Recoveries.{Recovery}
use Rattle.unended_laws.specs.Prelude.step
use Rattle.unended_laws.specs.Prelude.unended

-- the turn of an unended recovery by its number, on a book with the same bridges: with this read number, at this moment
pub record RecoveryTurn (f : Flight) (us : List Unended) : Type 0 where
  pub id : ℕ
  pub recovery : Recovery
  pub docket : Docket
  pub found : job_at us id ≡ Some (unended.Recovery recovery docket)
  pub book : BookState
  pub rings : f.rings ≡ book.rings
  pub at_read : ℕ
  pub at_moment : Moment

abbrev pub taken_in : (f : Flight) (us : List Unended) → RecoveryTurn f us → Taken
taken_in f us t = taken f.world t.book t.at_read t.at_moment t.recovery

-- the world after its exchanges, and the recovery and its outcome after it
abbrev pub world_then : (f : Flight) (us : List Unended) → RecoveryTurn f us → World
world_then f us t = run f.world (taken_in f us t).exchanges

abbrev pub recovery_then : (f : Flight) (us : List Unended) → RecoveryTurn f us → Recovery
recovery_then f us t = (taken_in f us t).recovery

abbrev pub outcome_then : (f : Flight) (us : List Unended) → RecoveryTurn f us → Outcome
outcome_then f us t = (recovery_then f us t).outcome

-- the recovery is done in it, with these lines
abbrev pub IsDoneIn : (f : Flight) (us : List Unended) → RecoveryTurn f us → List Line → Type 0
IsDoneIn f us t lines = (taken_in f us t).step ≡ step.Done lines

-- the servers of an outcome are of so many
pub record IsNamedOutcome (count : ℕ) (o : Outcome) : Type 0 where
  pub promoted : IfSome o.promoted (λ n. n.0 < count)
  pub followers : All (λ x. x.no.0 < count) o.followers
  pub sources : All (λ x. x.source.0 < count) o.followers
  pub lost : All (λ l. l.no.0 < count) o.lost
