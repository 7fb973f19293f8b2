-- What the turn of a run in which a recovery is done owes.
use Rattle.std.specs.Prelude.{◌≡◌, ◌<◌, ◌++◌, ◌-◌, ◌^◌, ℕ, Bool, List, Some}
use Rattle.recovery_runs.specs.Prelude.{AllFit, Cause, Docket, Fact, HookState, IsExplained, IsQuiet, IsToldOf, KeepsUp, Line, Recovery, Row, Scenario}
use Rattle.recovery_runs.specs.Prelude.{ServerNo, State, Turn, World, alias_of, moment_at, option_map, owed, recovery_at, reply_of, step, times}
use Rattle.recovery_runs.specs.Prelude.act
use Rattle.recovery_runs.specs.Prelude.answered
use Rattle.recovery_runs.specs.Prelude.cause
use Rattle.recovery_runs.specs.Prelude.turn
use Rattle.recovery_runs.specs.Booking.{BooksAtLast, LoadGiven}
use Rattle.recovery_runs.specs.Facts.{ExplainsTurn}
use Rattle.recovery_runs.specs.Finishes.{KeepsHistories, OwesNothing, TellsFailed, finished_so, own_lines, promoted_then, recovery_after, told_hooks}
use Rattle.recovery_runs.specs.Origins.{Began, ExplainsAlong, StaysStill}

-- the servers after it
abbrev pub world_then : List Row → State → ℕ → World
world_then rows s id = (step rows s (turn.Act (act.Job id))).world

-- A recovery that finishes well.
-- - Its reply is the lines, its own and those of all its hooks.
-- - Its outcome covers the replicas, which are those that the book had attached to the failed server when it began, and
--   is what the lines report.
-- - Whoever is owed has a line in it, as promoted, following or lost.
-- - In a state without errant writes the promoted server has the histories.
-- - The reasons of its lost, what it drained, whom it chose and promoted are facts that were true in one of its turns.
--   They count if each that was true counts.
-- - Nobody is lost because none may be promoted, and its entry ends with the promoted server.
-- - The applier of each follower is on, and isn't to stop at a coordinate. The exceptions are a takeover's old master,
--   whose threads stay off, and a better one that was given up and then not reached. That of a regroup's chosen one is
--   on, too, unless it isn't attached. A takeover's old master refuses writes.
-- - In a master's place the book has the promoted one, and shows it without a source and writable. What it has of a
--   takeover's old master shows that one below it. So it is if no restart loaded a later reading than were given, and
--   the count of readings isn't at its end.
pub record FinishesWell (count : ℕ) (from : State) (xs : List (List Row × Turn)) (rows : List Row) (s : State) (id : ℕ) (r : Recovery) (docket : Docket) (lines : List Line) : Type 0 where
  pub reply : reply_of s (turn.Act (act.Job id)) ≡ answered.Told lines
  pub hooks : lines ≡ own_lines s r ++ told_hooks docket.hooks (promoted_then s r)
  pub owes : OwesNothing count (world_then rows s id) r (recovery_after s r) (own_lines s r)
  pub began : Began from xs r docket
  pub tells : (n : ServerNo) → 0 < times n.0 (owed r.purpose r.failed r.replicas) → IsToldOf r.purpose (recovery_after s r).outcome (own_lines s r) n
  pub histories : IsQuiet (world_then rows s id) → KeepsHistories (world_then rows s id) r (recovery_after s r)
  pub told : (P : Fact → Bool) → ExplainsAlong P id from xs → ExplainsTurn P id s (turn.Act (act.Job id)) → IsExplained P (recovery_after s r)
  pub fit : AllFit (recovery_after s r).outcome.lost
  pub upkeep : (P : Fact → Bool) → ExplainsAlong P id from xs → ExplainsTurn P id s (turn.Act (act.Job id)) → KeepsUp P (world_then rows s id) (recovery_after s r)
  pub booked : LoadGiven from xs → (step rows s (turn.Act (act.Job id))).reads < 2 ^ 64 - 1 → BooksAtLast (step rows s (turn.Act (act.Job id))).book (recovery_after s r)
  pub ends : (e : ℕ) (n : ServerNo) → docket.entry ≡ Some e → (recovery_after s r).outcome.promoted ≡ Some n
      → recovery_at (step rows s (turn.Act (act.Job id))).audit e ≡ option_map (finished_so (moment_at s) r.purpose n) (recovery_at s.audit e)

-- Its reply is the cause and the lines of its hooks, and it began in one of the turns. If a hook ended it neither this
-- turn nor one of those from its start on has changed a server.
pub record FailsWell (from : State) (xs : List (List Row × Turn)) (rows : List Row) (s : State) (id : ℕ) (r : Recovery) (docket : Docket) (c : Cause) (lines : List Line) : Type 0 where
  pub reply : reply_of s (turn.Act (act.Job id)) ≡ answered.Failed (record { cause = c; lines = lines })
  pub hooks : TellsFailed docket.hooks r.failed c lines
  pub began : Began from xs r docket
  pub still : (number exit : ℕ) → c ≡ cause.HookFailed number exit → StaysStill began.place id from xs × (world_then rows s id ≡ s.world)

-- the hooks of a recovery are the scenario's, and the alias that they get is that of its cluster's label
pub record AreScenarios (s : Scenario) (h : HookState) : Type 0 where
  pub hooks : h.hooks ≡ s.hooks
  pub alias : h.told.alias ≡ alias_of s.aliases h.told.cluster
