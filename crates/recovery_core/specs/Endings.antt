-- How a recovery's entry in the audit ends.
use Rattle.std.specs.Prelude.{Bool, false, Option, None, Some}
use Rattle.recovery_core.specs.Prelude.{Ending, JobStep, Purpose, Recovery, ServerNo, cause_name, is_takeover}
use Rattle.recovery_core.specs.Prelude.ending
use Rattle.recovery_core.specs.Prelude.named
use Rattle.recovery_core.specs.Prelude.step

-- by the promoted server: without one nothing could be chosen
abbrev pub done_with : Option ServerNo → Ending
done_with None = ending.Failed named.NoCandidate
done_with (Some n) = ending.Promoted n

-- the end of a recovery's entry after a turn: none while the recovery goes on
abbrev pub ending_with : Option ServerNo → JobStep → Option Ending
ending_with promoted step.Going = None
ending_with promoted (step.Done lines) = Some (done_with promoted)
ending_with promoted (step.Failed c lines) = Some (ending.Failed (cause_name c))

abbrev pub ending_of : Recovery → JobStep → Option Ending
ending_of r s = ending_with r.outcome.promoted s

-- a takeover that is done is acknowledged in the same turn
abbrev pub is_acknowledged_for : Purpose → JobStep → Bool
is_acknowledged_for u step.Going = false
is_acknowledged_for u (step.Done lines) = is_takeover u
is_acknowledged_for u (step.Failed c lines) = false

abbrev pub is_acknowledged : Recovery → JobStep → Bool
is_acknowledged r s = is_acknowledged_for r.purpose s
