-- Whether a scenario was read.
use Rattle.std.specs.Prelude.{◌≡◌, ℕ, ⊤, List, Option, Some, None, Result, Ok, Err}
use Rattle.top_call.specs.Prelude.{Fault, ReadFault, Scenario}
use Rattle.top_call.specs.Prelude.reading
use Rattle.top_call.specs.declared.reading.Stop.{Stop}
use Rattle.top_call.specs.declared.reading.Stop.TheVariants as stops

-- for the bytes that the source had, if they are known, and else for some bytes
abbrev pub OfRead : Option (List ℕ) → (List ℕ → Type 0) → Type 0
OfRead None P = (bytes : List ℕ) × P bytes
OfRead (Some bytes) P = P bytes

-- what stops if reading has a fault
abbrev pub stop_by : ReadFault → Stop
stop_by reading.Memory = stops.Memory
stop_by (reading.Fault f) = stops.Fault f

-- what reading gives is this scenario, or this fault
abbrev pub ReadsAs : Result Scenario Fault → Result Scenario Stop → Type 0
ReadsAs read (Ok s) = read ≡ Ok s
ReadsAs read (Err stops.Memory) = ⊤
ReadsAs read (Err stops.Source) = ⊤
ReadsAs read (Err (stops.Fault f)) = read ≡ Err f
