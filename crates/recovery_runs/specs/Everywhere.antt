-- The recoveries in each state of each run: in which turn they began, what they report, and how they finish.
use Rattle.std.specs.Prelude.{◌≡◌, ℕ, Bool, List, Some, length}
use Rattle.recovery_runs.specs.Prelude.{Cause, ComesTo, Docket, Fact, HookState, IsEarly, IsExplained, Line, Recovery, Row, Scenario, State, Turn}
use Rattle.recovery_runs.specs.Prelude.{job_at, start, step}
use Rattle.recovery_runs.specs.Prelude.act
use Rattle.recovery_runs.specs.Prelude.turn
use Rattle.recovery_runs.specs.Prelude.unended
use Rattle.recovery_runs.specs.Finishes.{IsFailure, IsFinish, recovery_after}
use Rattle.recovery_runs.specs.Facts.{ExplainsTurn}
use Rattle.recovery_runs.specs.Origins.{Began, ExplainsAlong}
use Rattle.recovery_runs.specs.RunFinishes.{AreScenarios, FailsWell, FinishesWell}

-- an unended one began in one of the turns of its run
abbrev pub RecoveriesBegan : Type 0
RecoveriesBegan = (s : Scenario) (xs : List (List Row × Turn)) (now : State) (comes : ComesTo s xs now) (id : ℕ) (r : Recovery) (docket : Docket) → job_at now.jobs id ≡ Some (unended.Recovery r docket)
    → Began (start s comes.wait comes.rows) xs r docket

-- if each fact that is true in a turn of it counts, what it came to has facts that count
abbrev pub RecoveriesAreExplained : Type 0
RecoveriesAreExplained = (s : Scenario) (xs : List (List Row × Turn)) (now : State) (comes : ComesTo s xs now) (P : Fact → Bool) (id : ℕ) (r : Recovery) (docket : Docket)
    → ExplainsAlong P id (start s comes.wait comes.rows) xs → job_at now.jobs id ≡ Some (unended.Recovery r docket) → IsExplained P r

-- and so has what it comes to in its next turn
abbrev pub NextAreExplained : Type 0
NextAreExplained = (s : Scenario) (xs : List (List Row × Turn)) (now : State) (comes : ComesTo s xs now) (P : Fact → Bool) (id : ℕ) (r : Recovery) (docket : Docket)
    → ExplainsAlong P id (start s comes.wait comes.rows) xs → ExplainsTurn P id now (turn.Act (act.Job id)) → job_at now.jobs id ≡ Some (unended.Recovery r docket) → IsExplained P (recovery_after now r)

-- the turn in which it is done leaves nothing owed, whatever rows the row store hands back
abbrev pub RecoveriesFinishWell : Type 0
RecoveriesFinishWell = (s : Scenario) (xs : List (List Row × Turn)) (now : State) (comes : ComesTo s xs now) (rows : List Row) (id : ℕ) (r : Recovery) (docket : Docket) (lines : List Line) → IsFinish now id r docket lines
    → FinishesWell (length s.opening.servers) (start s comes.wait comes.rows) xs rows now id r docket lines

-- the turn in which one fails has the lines of its hooks, and none has changed a server if one of these ended it
abbrev pub RecoveriesFailWell : Type 0
RecoveriesFailWell = (s : Scenario) (xs : List (List Row × Turn)) (now : State) (comes : ComesTo s xs now) (rows : List Row) (id : ℕ) (r : Recovery) (docket : Docket) (c : Cause) (lines : List Line) → IsFailure now id r docket c lines
    → FailsWell (start s comes.wait comes.rows) xs rows now id r docket c lines

-- and one before all hooks have run that are to before it changes no server, whatever rows the row store hands back
abbrev pub EarlyTurnsStayStill : Type 0
EarlyTurnsStayStill = (s : Scenario) (xs : List (List Row × Turn)) (now : State) (comes : ComesTo s xs now) (rows : List Row) (id : ℕ) (r : Recovery) (docket : Docket) (h : HookState)
    → job_at now.jobs id ≡ Some (unended.Recovery r docket) → docket.hooks ≡ Some h → IsEarly h → (step rows now (turn.Act (act.Job id))).world ≡ now.world

-- the hooks of an unended one are the scenario's
abbrev pub HooksAreScenarios : Type 0
HooksAreScenarios = (s : Scenario) (xs : List (List Row × Turn)) (now : State) (comes : ComesTo s xs now) (id : ℕ) (r : Recovery) (docket : Docket) (h : HookState)
    → job_at now.jobs id ≡ Some (unended.Recovery r docket) → docket.hooks ≡ Some h → AreScenarios s h
