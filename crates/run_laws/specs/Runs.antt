-- Runs from a scenario's opening state, whatever rows the row store hands back at the opening and at each turn.
use Rattle.std.specs.Prelude.{◌≡◌, ◌≤◌, ℕ, Bool, List, [], ◌∷◌, ◌++◌, All, count_by, length, slice_get, take, Some}
use Rattle.run_laws.specs.Prelude.{CommandTurn, IsQuiet, IsScenario, IsTurn, NamesOneOf, Row, Scenario, State, Turn, engine, reply_of, run_turns}
use Rattle.run_laws.specs.Prelude.{start, turns_of}
use Rattle.run_laws.specs.Prelude.act
use Rattle.run_laws.specs.Prelude.answered
use Rattle.run_laws.specs.Prelude.turn

-- so many waits, these rows and these turns over a scenario's servers, by its orchestrators, led to this state
pub record ComesTo (s : Scenario) (xs : List (List Row × Turn)) (now : State) : Type 0 where
  pub scenario : IsScenario s
  pub wait : ℕ
  pub rows : List Row
  pub turns : All (IsTurn (length s.opening.servers)) (turns_of xs)
  pub named : All (NamesOneOf s.nodes) (turns_of xs)
  pub state : now ≡ run_turns engine (start s wait rows) xs

-- and these were the scenario's own first k turns
pub record ComesBy (s : Scenario) (xs : List (List Row × Turn)) (k : ℕ) (now : State) : Type 0 where
  pub comes : ComesTo s xs now
  pub own : turns_of xs ≡ take k s.turns

-- and one more turn can be taken, with which there are no more turns of a kind than the scenario has
pub record ComesWithin (is : Turn → Bool) (s : Scenario) (xs : List (List Row × Turn)) (t : Turn) (now : State) : Type 0 where
  pub comes : ComesTo s xs now
  pub next : IsTurn (length s.opening.servers) t
  pub names : NamesOneOf s.nodes t
  pub few : count_by is (turns_of xs ++ t ∷ []) ≤ count_by is s.turns

-- and this turn can be taken next
pub record ComesBefore (s : Scenario) (xs : List (List Row × Turn)) (now : State) (t : Turn) : Type 0 where
  pub comes : ComesTo s xs now
  pub next : IsTurn (length s.opening.servers) t
  pub names : NamesOneOf s.nodes t

-- a command begins the job of a number
abbrev pub IsBegun : State → CommandTurn → ℕ → Type 0
IsBegun s c id = reply_of s (turn.Act (act.Command c)) ≡ answered.Begun id

-- ---- everywhere in runs

-- in every state of every run of a scenario
abbrev pub InEveryStateOf : (Scenario → State → Type 0) → Type 0
InEveryStateOf P = (s : Scenario) (xs : List (List Row × Turn)) (now : State) → ComesTo s xs now → P s now

abbrev pub InEveryState : (State → Type 0) → Type 0
InEveryState P = InEveryStateOf (λ s now. P now)

-- in every one without errant writes
abbrev pub InEveryQuietState : (State → Type 0) → Type 0
InEveryQuietState P = InEveryState (λ now. IsQuiet now.world → P now)

-- at every turn of every run
abbrev pub AtEveryTurn : (State → Turn → Type 0) → Type 0
AtEveryTurn P = (s : Scenario) (xs : List (List Row × Turn)) (now : State) (t : Turn) → ComesBefore s xs now t → P now t

-- ---- runs themselves

-- a scenario's own turns are turns over its servers
abbrev pub OwnTurnsCome : Type 0
OwnTurnsCome = (s : Scenario) (wait : ℕ) (rows : List Row) (xs : List (List Row × Turn)) (k : ℕ) → IsScenario s → turns_of xs ≡ take k s.turns → ComesBy s xs k (run_turns engine (start s wait rows) xs)

-- and there are no more of a kind among them than the scenario has
abbrev pub OwnTurnsAreFew : Type 0
OwnTurnsAreFew = (is : Turn → Bool) (s : Scenario) (xs : List (List Row × Turn)) (k : ℕ) (t : Turn) (now : State) → ComesBy s xs k now → slice_get s.turns k ≡ Some t → ComesWithin is s xs t now

-- if the last state of a run has no errant writes, each before it has none
abbrev pub QuietRunsWereQuiet : Type 0
QuietRunsWereQuiet = (s : State) (xs : List (List Row × Turn)) (k : ℕ) → IsQuiet (run_turns engine s xs).world → IsQuiet (run_turns engine s (take k xs)).world
