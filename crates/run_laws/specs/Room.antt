-- What no exchange of a run finds: a transaction that was executed before, a history that is full, a log without room.
use Rattle.std.specs.Prelude.{◌≡◌, ◌≢◌, ℕ, List, Some, slice_get, take}
use Rattle.run_laws.specs.Prelude.{Coord, Exchange, IsNotFull, IsQuiet, Row, Scenario, ServerNo, State, Turn, apply, exchanges_at, is_rotate}
use Rattle.run_laws.specs.Prelude.{is_write, rotate, run}
use Rattle.run_laws.specs.Prelude.applied
use Rattle.run_laws.specs.Prelude.rotated
use Rattle.run_laws.specs.Prelude.turn
use Rattle.run_laws.specs.Prelude.turns_step as step
use Rattle.run_laws.specs.Runs.{ComesWithin}

-- no applier answers that it skipped a transaction as executed before
abbrev pub SkipsNothing : State → Type 0
SkipsNothing s = (n : ℕ) (to : Coord) → (apply s.world n).0 ≢ applied.Skipped to

-- with no more write turns than the scenario has no exchange finds a history full if the world before it has no errant
-- writes
abbrev pub NoHistoryIsFull : Type 0
NoHistoryIsFull = (s : Scenario) (xs : List (List Row × Turn)) (t : Turn) (now : State) (j : ℕ) (e : Exchange) → ComesWithin is_write s xs t now → slice_get (exchanges_at now t) j ≡ Some e
    → IsQuiet (run now.world (take j (exchanges_at now t))) → IsNotFull (run now.world (take j (exchanges_at now t))) e

-- with no more rotate turns than it has no rotate turn finds a log without room for a new file
abbrev pub NoLogIsFull : Type 0
NoLogIsFull = (s : Scenario) (xs : List (List Row × Turn)) (now : State) (n : ServerNo) → ComesWithin is_rotate s xs (turn.Step (step.Rotate n)) now → (rotate now.world n.0).0 ≢ rotated.Full
