-- A turn after which a recovery goes on, by whether its operation ended the stage.
use Rattle.std.specs.Prelude.{◌≡◌, Bool, true, false, Option, Some, None}
use Rattle.recovery_turns.specs.Prelude.{Job, Recovery, at_end, entered, is_waiting, moved, result_lines}
use Rattle.recovery_turns.specs.declared.progress.LastLines.{LastLines}

abbrev pub stepped_by : Recovery → Bool → Recovery
stepped_by r true = entered r (moved r.stage)
stepped_by r false = r

abbrev pub progressed_by : Recovery → Bool → Bool → Recovery
progressed_by r ending true = r
progressed_by r ending false = let s = stepped_by r ending in at_end s s.core.ops

-- its job is this one after an operation that ended the stage or didn't
abbrev pub followed : Recovery → Bool → Job → Recovery
followed r ending j = progressed_by (record r { core = j }) ending (is_waiting j)

-- the lines are those that a recovery reports
abbrev pub IsTold : Recovery → Option LastLines → Type 0
IsTold r None = ⊥
IsTold r (Some l) = (l.stage ≡ result_lines r) × (l.told ≡ result_lines r)
