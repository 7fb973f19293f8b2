-- Turns: the exchanges that each makes.
use Rattle.std.specs.Prelude.{ℕ, ◌+◌, ◌^◌, List, [], ◌∷◌, min, Option, Some, None}
use Rattle.orch_core.specs.Prelude.{Act, Apply, Befall, Exchange, Fetch, Purge, Rotate, Step, Turn, Write, job_exchanges}
use Rattle.orch_core.specs.Prelude.act
use Rattle.orch_core.specs.Prelude.event
use Rattle.orch_core.specs.Prelude.step
use Rattle.orch_core.specs.Prelude.turn
use Rattle.orch_core.specs.Jobs.{turned_at}
use Rattle.orch_core.specs.Nodes.{act_in}
use Rattle.orch_core.specs.States.{State}

-- what happens to a server is one exchange
abbrev pub exchange_of : Step → Exchange
exchange_of (step.Write n size) = Write n.0 size
exchange_of (step.Fetch n) = Fetch n.0
exchange_of (step.Apply n) = Apply n.0
exchange_of (step.Fail n) = Befall n.0 event.Fail
exchange_of (step.Heal n) = Befall n.0 event.Heal
exchange_of (step.Cut n link) = Befall n.0 (event.Cut link)
exchange_of (step.Join n link) = Befall n.0 (event.Join link)
exchange_of (step.Rotate n) = Rotate n.0
exchange_of (step.Purge n file) = Purge n.0 file

-- of what orchestrator does only a job's turn makes any: what its operation comes to
abbrev pub act_exchanges : State → Act → List Exchange
act_exchanges s (act.PollRead p n) = []
act_exchanges s (act.PollStore p) = []
act_exchanges s (act.Command c) = []
act_exchanges s (act.Job job) = job_exchanges (turned_at s job)
act_exchanges s act.Scan = []
act_exchanges s act.Restart = []

abbrev pub done_exchanges : State → Option Act → List Exchange
done_exchanges s None = []
done_exchanges s (Some a) = act_exchanges s a

-- the exchanges that a turn makes in a state, in order
abbrev pub exchanges_at : State → Turn → List Exchange
exchanges_at s (turn.Step x) = exchange_of x ∷ []
exchanges_at s (turn.Tick seconds) = []
exchanges_at s (turn.Act a) = act_exchanges s a
exchanges_at s (turn.As node a) = done_exchanges s (act_in s (turn.As node a))
exchanges_at s (turn.Claim node) = done_exchanges s (act_in s (turn.Claim node))
exchanges_at s (turn.Release node) = []

-- so many seconds later; the moment never passes 2^63
abbrev pub later : ℕ → ℕ → ℕ
later now seconds = min (now + seconds) (2 ^ 63)
