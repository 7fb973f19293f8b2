-- What each turn of an unended recovery owes.
use Rattle.std.specs.Prelude.{◌≡◌, ◌∷◌, ℕ, All, Bool, true, List, [], Some}
use Rattle.recovery_runs.specs.Prelude.{AsksAsDue, AttachesAsSent, BeginsWhole, Cause, ClosesFirst, DecidesOverAll, Decisions, Docket, ExplainsTruly, Fact}
use Rattle.recovery_runs.specs.Prelude.{IsExplained, IsIts, IsNeverInterfered, IsTriedNow, KeepsHands, Line, MakesWell, Op, OpensAgain, OpensAlone}
use Rattle.recovery_runs.specs.Prelude.{Recovery, ServerNo, SparesItsMaster, StartsHands, State, WaitsItsTurns, Way, decided, ground_of, is_going, job_at, moment_at}
use Rattle.recovery_runs.specs.Prelude.{server_of}
use Rattle.recovery_runs.specs.Prelude.jobstep as step
use Rattle.recovery_runs.specs.Prelude.op
use Rattle.recovery_runs.specs.Prelude.stage
use Rattle.recovery_runs.specs.Prelude.unended
use Rattle.recovery_runs.specs.Finishes.{recovery_after, turn_taken}

-- the recovery as it is decided in its next turn
abbrev pub decided_at : State → Recovery → Recovery
decided_at s r = decided (ground_of s.world s.book (moment_at s)) r

-- If it decides whom to choose each replica is drained, or lost. So is each before the first is handed over to a
-- successor. A turn changes no server but its replicas, and in a takeover the master and the designated one. One after
-- which it goes on changes what it may, and starts and stops only whom its stage does. It asks nothing of a takeover's
-- master but to refuse writes, and attaches it only when the designated one takes its place. One of a takeover changes
-- nothing else before its master refuses writes. None finds a replica that goes below its new source at another
-- position than the one at which it was stopped. The master that a takeover has closed has no source: so it takes
-- writes again without one if the takeover fails.
-- What it came to in this very turn is a fact of the turn. If each fact that is true in it counts, and what it came to
-- before counts, all of it counts.
--
-- Each attachment is the one by which its replica was sent, or by which two servers change places, and what it answers
-- becomes of the replica. Each wait ends by the status of the turn, or as the last one that the job has. A stage that
-- waits does all its operations. Whom it stops and doesn't start again it starts if it fails, and then a takeover's
-- master takes writes again.
pub record TurnsWell (s : State) (r : Recovery) : Type 0 where
  pub chooses : (d : Recovery) → Decisions (ground_of s.world s.book (moment_at s)) r d → DecidesOverAll d
  pub servers : All (λ e. IsIts r.purpose r.failed r.replicas (server_of e)) (turn_taken s r).exchanges
  pub changes : is_going (turn_taken s r).step ≡ true → MakesWell s.world (ground_of s.world s.book (moment_at s)) r (turn_taken s r).exchanges
  pub asks : is_going (turn_taken s r).step ≡ true → AsksAsDue (ground_of s.world s.book (moment_at s)) r (turn_taken s r).exchanges
  pub spares : is_going (turn_taken s r).step ≡ true → SparesItsMaster (ground_of s.world s.book (moment_at s)) r (turn_taken s r).exchanges
  pub finds : (d : Recovery) → Decisions (ground_of s.world s.book (moment_at s)) r d → IsNeverInterfered s.world d
  pub alone : (d : Recovery) → Decisions (ground_of s.world s.book (moment_at s)) r d → OpensAlone s.world d
  pub closes : is_going (turn_taken s r).step ≡ true → All (ClosesFirst s.world r) (turn_taken s r).exchanges
  pub told : (P : Fact → Bool) → ExplainsTruly s.world s.book (moment_at s) r P → IsExplained P r → IsExplained P (recovery_after s r)
  pub attaches : (P : Fact → Bool) → ExplainsTruly s.world s.book (moment_at s) r P → IsExplained P r → is_going (turn_taken s r).step ≡ true
      → AttachesAsSent P (ground_of s.world s.book (moment_at s)) r (turn_taken s r).exchanges
  pub answered : (n : ServerNo) (y : Way) (o : Op) → (decided_at s r).stage ≡ stage.Move n y → (decided_at s r).core.ops ≡ o ∷ op.Start n ∷ []
      → IsTriedNow s.world (decided_at s r) n y (turn_taken s r)
  pub waits : WaitsItsTurns s.world (decided_at s r) (turn_taken s r)
  pub begins : is_going (turn_taken s r).step ≡ true → BeginsWhole (ground_of s.world s.book (moment_at s)) r (turn_taken s r)
  pub hands : is_going (turn_taken s r).step ≡ true → KeepsHands r (turn_taken s r)
  pub starts : (c : Cause) (lines : List Line) → (turn_taken s r).step ≡ step.Failed c lines → StartsHands r (turn_taken s r)
  pub opens : (c : Cause) (lines : List Line) → (turn_taken s r).step ≡ step.Failed c lines → OpensAgain s.world (decided_at s r) (turn_taken s r)

-- so each unended recovery takes its next turn
abbrev pub RecoveriesTurnWell : State → Type 0
RecoveriesTurnWell s = (id : ℕ) (r : Recovery) (docket : Docket) → job_at s.jobs id ≡ Some (unended.Recovery r docket) → TurnsWell s r
