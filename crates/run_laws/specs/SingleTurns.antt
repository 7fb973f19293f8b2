-- What single turns and openings leave, whatever rows the row store hands back.
use Rattle.std.specs.Prelude.{◌≡◌, ℕ, List}
use Rattle.run_laws.specs.Prelude.{AllMayPass, AllPassWell, IsScenario, IsTurn, Row, Scenario, State, Turn, passing, start, step}
use Rattle.run_laws.specs.Flights.{flight_of, passages_of}
use Rattle.run_laws.specs.Ready.{Ready}
use Rattle.run_laws.specs.States.{HeldState, SoundState}

-- ---- at which turns and openings

-- at each turn over so many servers, in a state that speaks of them
abbrev pub WhereReady : (ℕ → State → Turn → Type 0) → Type 0
WhereReady P = (count : ℕ) (s : State) (t : Turn) → Ready count s → IsTurn count t → P count s t

-- if the state has `Held`, too
abbrev pub WhereHeld : (State → Turn → Type 0) → Type 0
WhereHeld P = (count : ℕ) (s : State) (t : Turn) → Ready count s → HeldState s → IsTurn count t → P s t

-- and if it has `Sound`
abbrev pub WhereSound : (State → Turn → Type 0) → Type 0
WhereSound P = (count : ℕ) (s : State) (t : Turn) → Ready count s → HeldState s → SoundState s → IsTurn count t → P s t

-- as a scenario's run begins
abbrev pub AtEveryOpening : (Scenario → State → Type 0) → Type 0
AtEveryOpening P = (s : Scenario) (wait : ℕ) (rows : List Row) → IsScenario s → P s (start s wait rows)

-- ---- what a turn is and leaves

-- it leaves a state of this kind
abbrev pub TurnLeaves : (State → Type 0) → State → Turn → Type 0
TurnLeaves P s t = (rows : List Row) → P (step rows s t)

-- and leaves a state of a kind one of the same kind
abbrev pub TurnKeeps : (State → Type 0) → State → Turn → Type 0
TurnKeeps P s t = P s → TurnLeaves P s t

-- it is its `Passage`s
abbrev pub IsItsPassages : State → Turn → Type 0
IsItsPassages s t = (rows : List Row) → flight_of (step rows s t) ≡ passing (flight_of s) (passages_of s t)

-- each of which may pass
abbrev pub TurnMayPass : State → Turn → Type 0
TurnMayPass s t = AllMayPass (flight_of s) (passages_of s t)

-- and passes well
abbrev pub TurnPassesWell : State → Turn → Type 0
TurnPassesWell s t = AllPassWell (flight_of s) (passages_of s t)
