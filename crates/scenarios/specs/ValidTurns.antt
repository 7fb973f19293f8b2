-- Turns that can be taken, and what each may add.
use Rattle.std.specs.Prelude.{◌≡◌, ℕ, ◌<◌, ◌≤◌, Bool, false, true, length, IfSome}
use Rattle.commands.specs.declared.turn.CommandTurn.{CommandTurn}
use Rattle.commands.specs.Turns.{fits}
use Rattle.turns.specs.declared.turn.Step.{Step}
use Rattle.turns.specs.declared.turn.Step.TheVariants as step
use Rattle.turns.specs.declared.turn.Act.{Act}
use Rattle.turns.specs.declared.turn.Act.TheVariants as act
use Rattle.turns.specs.declared.turn.Turn.{Turn}
use Rattle.turns.specs.declared.turn.Turn.TheVariants as turn

-- so many pollers
abbrev pub pollers : ℕ
pollers = 64

-- A command over so many servers: what it needs is there, each number and text is in its range, and a pattern has an
-- answer for each server.
pub record IsCommand (count : ℕ) (t : CommandTurn) : Type 0 where
  pub fits : fits count t ≡ true
  pub duration : IfSome t.keys.duration (λ n. (1 ≤ n) × (n ≤ 31536000))
  pub reason : IfSome t.keys.reason (λ text. length text ≤ 255)
  pub owner : IfSome t.keys.owner (λ text. length text ≤ 255)
  pub answers : IfSome t.keys.pattern (λ f. length f.answers ≡ count)

-- the step is of one of so many servers, and its numbers are in their ranges
abbrev pub IsStep : ℕ → Step → Type 0
IsStep count (step.Write n size) = (n.0 < count) × (0 < size) × (size ≤ 1000000)
IsStep count (step.Fetch n) = n.0 < count
IsStep count (step.Apply n) = n.0 < count
IsStep count (step.Fail n) = n.0 < count
IsStep count (step.Heal n) = n.0 < count
IsStep count (step.Cut n link) = n.0 < count
IsStep count (step.Join n link) = n.0 < count
IsStep count (step.Rotate n) = n.0 < count
IsStep count (step.Purge n file) = (n.0 < count) × (1 ≤ file) × (file ≤ 4294967295)

-- the pollers and servers are there, and a command is one over the servers
abbrev pub IsAct : ℕ → Act → Type 0
IsAct count (act.PollRead p n) = (p < pollers) × (n.0 < count)
IsAct count (act.PollStore p) = p < pollers
IsAct count (act.Command c) = IsCommand count c
IsAct count (act.Job job) = Unit {0}
IsAct count act.Scan = Unit {0}
IsAct count act.Restart = Unit {0}

-- the turn is of these servers, and its numbers are in their ranges
abbrev pub IsTurn : ℕ → Turn → Type 0
IsTurn count (turn.Step s) = IsStep count s
IsTurn count (turn.Tick seconds) = seconds ≤ 1000000000
IsTurn count (turn.Act a) = IsAct count a
IsTurn count (turn.As node a) = IsAct count a
IsTurn count (turn.Claim node) = Unit {0}
IsTurn count (turn.Release node) = Unit {0}

-- one of so many orchestrators, counted from 1
abbrev pub IsNumberOf : ℕ → ℕ → Type 0
IsNumberOf nodes node = (1 ≤ node) × (node ≤ nodes)

-- the orchestrator that the turn names, if it names one, is one of so many
abbrev pub NamesOneOf : ℕ → Turn → Type 0
NamesOneOf nodes (turn.Step s) = Unit {0}
NamesOneOf nodes (turn.Tick seconds) = Unit {0}
NamesOneOf nodes (turn.Act a) = Unit {0}
NamesOneOf nodes (turn.As node a) = IsNumberOf nodes node
NamesOneOf nodes (turn.Claim node) = IsNumberOf nodes node
NamesOneOf nodes (turn.Release node) = IsNumberOf nodes node

-- both
abbrev pub IsTurnOf : ℕ → ℕ → Turn → Type 0
IsTurnOf count nodes t = IsTurn count t × NamesOneOf nodes t

-- an ordinary client's transaction
abbrev pub is_write_step : Step → Bool
is_write_step (step.Write n size) = true
is_write_step (step.Fetch n) = false
is_write_step (step.Apply n) = false
is_write_step (step.Fail n) = false
is_write_step (step.Heal n) = false
is_write_step (step.Cut n link) = false
is_write_step (step.Join n link) = false
is_write_step (step.Rotate n) = false
is_write_step (step.Purge n file) = false

abbrev pub is_write : Turn → Bool
is_write (turn.Step s) = is_write_step s
is_write (turn.Tick seconds) = false
is_write (turn.Act a) = false
is_write (turn.As node a) = false
is_write (turn.Claim node) = false
is_write (turn.Release node) = false

-- a new file of a binary log
abbrev pub is_rotate_step : Step → Bool
is_rotate_step (step.Rotate n) = true
is_rotate_step (step.Write n size) = false
is_rotate_step (step.Fetch n) = false
is_rotate_step (step.Apply n) = false
is_rotate_step (step.Fail n) = false
is_rotate_step (step.Heal n) = false
is_rotate_step (step.Cut n link) = false
is_rotate_step (step.Join n link) = false
is_rotate_step (step.Purge n file) = false

abbrev pub is_rotate : Turn → Bool
is_rotate (turn.Step s) = is_rotate_step s
is_rotate (turn.Tick seconds) = false
is_rotate (turn.Act a) = false
is_rotate (turn.As node a) = false
is_rotate (turn.Claim node) = false
is_rotate (turn.Release node) = false
