-- Runs: states, one turn after another.
use Rattle.std.specs.Prelude.{◌≡◌, Bool, false, true, List, [], ◌∷◌, ◌++◌, fold, map, Option, Some, None}
use Rattle.orch_core.specs.Prelude.{Act, Change, Reply, Row, Turn, changed, option_map}
use Rattle.orch_core.specs.Prelude.act
use Rattle.orch_core.specs.After.{step}
use Rattle.orch_core.specs.Nodes.{act_in}
use Rattle.orch_core.specs.States.{State}
use Rattle.orch_core.specs.Polls.{changes_of}
use Rattle.orch_core.specs.Replies.{reply_of}

-- a state, and each turn so far with its reply, in order
pub record Recorded : Type 0 where
  pub state : State
  pub journal : List (Turn × Reply)

-- a restart asks the row store for its rows
abbrev pub act_asks : Act → Bool
act_asks (act.PollRead p n) = false
act_asks (act.PollStore p) = false
act_asks (act.Command c) = false
act_asks (act.Job job) = false
act_asks act.Scan = false
act_asks act.Restart = true

abbrev pub done_asks : Option Act → Bool
done_asks None = false
done_asks (Some a) = act_asks a

-- and so does each turn in which orchestrator starts again
abbrev pub asks : State → Turn → Bool
asks s t = done_asks (act_in s t)

-- a turn joins the journal with its reply
abbrev pub record_turn : List Row → Recorded → Turn → Recorded
record_turn rows r t = record { state = step rows r.state t; journal = r.journal ++ (t, reply_of r.state t) ∷ [] }

-- What a turn makes of one kind of state, and the changes of the kept rows that it makes, by the rows that the row
-- store has. Also whether it asks for these.
pub record Machine (A : Type 0) : Type 0 where
  pub next : List Row → A → Turn → A
  pub changes : List Row → A → Turn → List Change
  pub asks : A → Turn → Bool

-- without a journal
abbrev pub engine : Machine State
engine = record { next = step; changes = changes_of; asks = asks }

-- and with one
abbrev pub recorder : Machine Recorded
recorder = record { next = record_turn; changes = λ rows r t. changes_of rows r.state t; asks = λ r t. asks r.state t }

-- the state after turns, each with the rows that the row store has then
abbrev pub run_turns : {A : Type 0} → Machine A → A → List (List Row × Turn) → A
run_turns m s [] = s
run_turns m s (x ∷ xs) = run_turns m (m.next x.0 s x.1) xs

-- the turns alone
abbrev pub turns_of : List (List Row × Turn) → List Turn
turns_of xs = map (λ x. x.1) xs

-- a state, and the kept rows beside it
pub record Held (A : Type 0) : Type 0 where
  pub rows : List Row
  pub state : A

-- both after a turn, if nobody else changes the rows
abbrev pub held_step : {A : Type 0} → Machine A → Held A → Turn → Held A
held_step m h t = record { rows = changed h.rows (m.changes h.rows h.state t); state = m.next h.rows h.state t }

abbrev pub held_run : {A : Type 0} → Machine A → Held A → List Turn → Held A
held_run m h ts = fold (held_step m) h ts

-- the turns lead from one state to another: by the kept rows, if they are known, and else by some rows at each turn
abbrev pub LeadsTo : {A : Type 0} → Machine A → Option (List Row) → A → List Turn → A → Type 0
LeadsTo m None s ts now = (xs : List (List Row × Turn)) × (turns_of xs ≡ ts) × (now ≡ run_turns m s xs)
LeadsTo m (Some rows) s ts now = now ≡ (held_run m (record { rows = rows; state = s }) ts).state

-- the kept rows after the turns, if they are known
abbrev pub kept_after : {A : Type 0} → Machine A → Option (List Row) → A → List Turn → Option (List Row)
kept_after m kept s ts = option_map (λ rows. (held_run m (record { rows = rows; state = s }) ts).rows) kept
