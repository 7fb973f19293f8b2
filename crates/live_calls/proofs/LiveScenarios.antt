-- What a live run reads.
use Rattle.std.proofs.Common.{◌≡◌, ◌∙◌, ℕ, List, Ok, Err, ap, Result}
use Rattle.live_calls.proofs.Prelude.{Fault, Gives, ReadFault, ReadsAs, Scenario, Stop, fault_of, live_scenario, of_one, one_node, scenario_in}
use Rattle.live_calls.proofs.Prelude.{stop_by}
use Rattle.live_calls.proofs.Prelude.reading
use Rattle.live_calls.proofs.Prelude.stops
use Rattle.top_call.specs.OrchBase.Gives.{◌>>=◌}

-- a fault of the bytes is met before
pub stays_read : (bytes : List ℕ) (e : Stop) → ReadsAs (scenario_in bytes) (Err e) → ReadsAs (live_scenario bytes) (Err e)
stays_read bytes stops.Memory read = tt
stays_read bytes stops.Source read = tt
stays_read bytes (stops.Fault f) read = ap (λ (r : Result Scenario Fault). r >>= of_one) read

module _ (bytes : List ℕ) (s : Scenario) (read : scenario_in bytes ≡ Ok s) where
  with_nodes : (r : Result (Unit {0}) Fault) → one_node s.nodes ≡ r → live_scenario bytes ≡ (r >>= (λ one. Ok s))
  with_nodes r is = ap (λ (x : Result Scenario Fault). x >>= of_one) read ∙ ap (λ (x : Result (Unit {0}) Fault). x >>= (λ one. Ok s)) is

  pub one_read : one_node s.nodes ≡ Ok tt → live_scenario bytes ≡ Ok s
  one_read is = with_nodes (Ok tt) is

  pub several_read : (fault : ReadFault) → Gives {X = Unit {0}} {Y = Unit {0}} (λ one. tt) fault_of (Err fault) (one_node s.nodes) → ReadsAs (live_scenario bytes) (Err (stop_by fault))
  several_read reading.Memory gives = tt
  several_read (reading.Fault f) gives = with_nodes (Err f) gives

-- if the bytes are a scenario of one orchestrator
pub alone_read : (bytes : List ℕ) (s : Scenario) → scenario_in bytes ≡ Ok s → s.nodes ≡ 1 → live_scenario bytes ≡ Ok s
alone_read bytes s read one = one_read bytes s read (ap one_node one)
