-- The turns in which the recoveries of a run began, and which facts were true in its turns.
use Rattle.recovery_runs.specs.Prelude.{Docket, Fact, IsOfDocket, Recovery, Row, SameAim, State, Turn, act_in, engine, replicas_of, run_turns, step}
use Rattle.recovery_runs.specs.Prelude.act
use Rattle.recovery_runs.specs.Prelude.unended
use Rattle.std.specs.Prelude.{◌≡◌, ◌<◌, ℕ, Bool, List, Some, Contains, slice_get, take}
use Rattle.recovery_runs.specs.Facts.{ExplainsTurn}
use Rattle.recovery_runs.specs.Begun.{HasHooks, TellsAll, jobs_begun}

-- A recovery is what one has become that began in a turn of this state, with its entry in the audit, if it has one. It
-- is about the same, its replicas are those that the book had attached to the failed server then, and it reports all.
-- Its hooks are those that it had then, which got the failed server as it was then.
pub record BeganIn (s : State) (t : Turn) (r : Recovery) (docket : Docket) : Type 0 where
  pub was : Recovery
  pub had : Docket
  pub among : Contains (jobs_begun s t) (unended.Recovery was had)
  pub number : r.core.id ≡ was.core.id
  pub aim : SameAim was r
  pub replicas : r.replicas ≡ replicas_of s.book r.failed
  pub tells : TellsAll r
  pub same : IsOfDocket had docket
  pub hooks : HasHooks s r.purpose r.failed had.hooks

-- It began in one of these turns from this state on.
pub record Began (from : State) (xs : List (List Row × Turn)) (r : Recovery) (docket : Docket) : Type 0 where
  pub place : ℕ
  pub turn : List Row × Turn
  pub taken : slice_get xs place ≡ Some turn
  pub begins : BeganIn (run_turns engine from (take place xs)) turn.1 r docket

-- in each of these turns each fact that is true in it, if it is one of the job of this number, counts
abbrev pub ExplainsAlong : (Fact → Bool) → ℕ → State → List (List Row × Turn) → Type 0
ExplainsAlong P id from xs = (k : ℕ) (x : List Row × Turn) → slice_get xs k ≡ Some x → ExplainsTurn P id (run_turns engine from (take k xs)) x.1

-- in a turn of the job of this number, whoever takes it, the servers stay as they are
abbrev pub IsStill : ℕ → State → List Row × Turn → Type 0
IsStill id s x = act_in s x.1 ≡ Some (act.Job id) → (step x.0 s x.1).world ≡ s.world

-- so it is in each of these turns from this place on
abbrev pub StaysStill : ℕ → ℕ → State → List (List Row × Turn) → Type 0
StaysStill place id from xs = (k : ℕ) (x : List Row × Turn) → place < k → slice_get xs k ≡ Some x → IsStill id (run_turns engine from (take k xs)) x
