-- What the turns of a driver, a poller and a worker are.
use Rattle.std.specs.Prelude.{◌≡◌, ℕ, Bool, true, false, [], Option, Some, None, length}
use Rattle.orch_core.specs.OrchBase.declared.server.ServerNo.{ServerNo}
use Rattle.orch_core.specs.Turns.declared.turn.Turn.{Turn}
use Rattle.orch_core.specs.Turns.declared.turn.Turn.TheVariants as turn
use Rattle.orch_core.specs.Turns.declared.turn.Act.TheVariants as act
use Rattle.orch_core.specs.Due.{IsDue}
use Rattle.live_desk.specs.Desks.{DeskState, IsNextOf, IsNextOfAny, taken}
use Rattle.live_desk.specs.Entries.{turns_in}
use Rattle.live_desk.specs.Kinds.{is_replication}
use Rattle.live_desk.specs.declared.roles.Work.{Work}
use Rattle.live_desk.specs.declared.roles.Work.TheVariants as work

-- such a turn was taken
pub record Takes (d : DeskState) (by : ℕ) (P : Turn → Type 0) (now : DeskState) : Type 0 where
  pub t : Turn
  pub is : P t
  pub after : now ≡ taken d by t

-- if there is more, such a turn was taken; else nothing was left, and nothing changed
abbrev pub TakesOrEnds : DeskState → ℕ → (Turn → Type 0) → Type 0 → DeskState → Bool → Type 0
TakesOrEnds d by P Over now true = Takes d by P now
TakesOrEnds d by P Over now false = Over × (now ≡ d)

-- the driver takes the next listed turn while one is left, and then fetches and applies
pub record IsDrive (d : DeskState) (t : Turn) : Type 0 where
  pub listed : IsNextOfAny t d.listed
  pub other : d.listed ≡ [] → is_replication t ≡ true

-- a poller reads the server that is due, or stores what it read
abbrev pub IsPoll : DeskState → ℕ → Bool → Turn → Type 0
IsPoll d poller true t = t ≡ turn.Act (act.PollStore poller)
IsPoll d poller false t = (n : ServerNo) × IsDue (length d.scenario.opening.servers) (turns_in d.entries) n.0 × (t ≡ turn.Act (act.PollRead poller n))

-- a worker without a job takes the next command, and ends if none is left; with a job it takes the job's turn
abbrev pub Works : DeskState → ℕ → Option ℕ → DeskState → Work → Type 0
Works d by None now work.Over = (d.commands ≡ []) × (now ≡ d)
Works d by None now work.Free = Takes d by (λ t. IsNextOf true t d.commands) now
Works d by None now (work.Busy id) = Takes d by (λ t. IsNextOf true t d.commands) now
Works d by (Some job) now work.Over = ⊥
Works d by (Some job) now work.Free = Takes d by (λ t. t ≡ turn.Act (act.Job job)) now
Works d by (Some job) now (work.Busy id) = Takes d by (λ t. t ≡ turn.Act (act.Job job)) now × (id ≡ job)
