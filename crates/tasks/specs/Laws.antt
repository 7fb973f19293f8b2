-- Laws of tasks.
use Rattle.std.specs.Prelude.{◌≡◌, ℕ, List, Option, None, Some, length, map}
use Rattle.tasks.specs.Prelude.{CommandTurn, HostPort, Moment, Places, Recorded, Row, Scenario, State, Turn, claimed, reply_of, step}
use Rattle.tasks.specs.Prelude.act
use Rattle.tasks.specs.Prelude.answered
use Rattle.tasks.specs.Prelude.claim
use Rattle.tasks.specs.Prelude.turn
use Rattle.tasks.specs.declared.asked.Task.{Task}
use Rattle.tasks.specs.Asked.{AskOfRead, IsAsked, IsTaken, asked_of}
use Rattle.tasks.specs.Known.{Begins, IsFixed, cut_answer, task_answer}
use Rattle.tasks.specs.Plans.{planned_reply}
use Rattle.tasks.specs.Report.{tally_of}
use Rattle.tasks.specs.Stages.{claim_ahead, own_turn}
use Rattle.tasks.specs.Works.{Comes, Work}

-- what an accepted command line asks of a scenario fits the servers
abbrev pub TakenAreAsked : Type 0
TakenAreAsked = (p : Places) (names : List HostPort) → IsTaken p → AskOfRead p → IsAsked (length names) (asked_of p names)

-- kept rows that are known fix the run
abbrev pub KnownRowsFixRuns : Type 0
KnownRowsFixRuns = (w : Work) (rows : List Row) (ts : List Turn) (kept : Option (List Row)) (run : Recorded) → w.old ≡ Some rows → Comes w ts kept run → IsFixed w rows ts kept run

-- what is left of a task that is cut begins what it answers
abbrev pub CutTextsBeginAnswers : Type 0
CutTextsBeginAnswers = (c : Task) (s : Scenario) (rows : List Row) (k : ℕ) → Begins (cut_answer c s rows k) (task_answer c s rows).out

-- the replies that are counted are those of the turns that were taken, one for each, in their order
abbrev pub RepliesAreOfTurns : Type 0
RepliesAreOfTurns = (w : Work) (ts : List Turn) (kept : Option (List Row)) (run : Recorded) → Comes w ts kept run → map (λ e. e.0) run.journal ≡ ts

-- and so a summary counts them
abbrev pub SummariesCountTurns : Type 0
SummariesCountTurns = (w : Work) (ts : List Turn) (kept : Option (List Row)) (run : Recorded) → Comes w ts kept run → (tally_of run.journal).turns ≡ length ts

-- a command that claims ahead is taken as the first one, if that one got the claim
abbrev pub ClaimedCommandsAreTaken : Type 0
ClaimedCommandsAreTaken = (rows : List Row) (s : State) (c : CommandTurn) (until : Moment) → claim_ahead s ≡ Some (turn.Claim 1) → claimed s 1 ≡ claim.Held until → own_turn c (step rows s (turn.Claim 1)) ≡ Some (turn.As 1 (act.Command c))

-- and isn't taken if another's claim lasts
abbrev pub TakenClaimsTakeNoCommand : Type 0
TakenClaimsTakeNoCommand = (rows : List Row) (s : State) (c : CommandTurn) (other : ℕ) (until : Moment) → claim_ahead s ≡ Some (turn.Claim 1) → claimed s 1 ≡ claim.Taken other until → own_turn c (step rows s (turn.Claim 1)) ≡ None

-- a plan is answered as the command's own turn would be, if none claims ahead
abbrev pub PlansAreAnsweredAsCommands : Type 0
PlansAreAnsweredAsCommands = (s : State) (c : CommandTurn) (t : Turn) → claim_ahead s ≡ None → own_turn c s ≡ Some t → planned_reply c s ≡ reply_of s t

-- and as the claim would be, if another's lasts
abbrev pub PlansTellClaimsThatLast : Type 0
PlansTellClaimsThatLast = (s : State) (c : CommandTurn) (other : ℕ) (until : Moment) → claim_ahead s ≡ Some (turn.Claim 1) → claimed s 1 ≡ claim.Taken other until → planned_reply c s ≡ answered.Taken other until
