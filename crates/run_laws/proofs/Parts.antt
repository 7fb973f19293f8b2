-- Recoveries begin without overlap in every state of a run, with the block periods of the scenario.
use Rattle.std.proofs.Common.{◌≡◌, List, subst, All}
use Rattle.run_laws.proofs.Prelude.{All-map, BeginApartInTurn, Begins, ComesTo, Configuration, Recovery, Row, Scenario, State, Turn, entries_begun}
use Rattle.run_laws.proofs.Prelude.{period_by, period_of, recoveries_begun}
use Rattle.run_laws.proofs.Beginnings.{turn-apart, turn-periods}
use Rattle.run_laws.proofs.Periods.{configured-comes}

pub apart-in-turn : (s : Scenario) (xs : List (List Row × Turn)) (now : State) (t : Turn) → ComesTo s xs now → BeginApartInTurn (record { 0 = now.moment }) now.audit (entries_begun now t)
apart-in-turn s xs now t comes = turn-apart now t

pub periods-in-turn : (s : Scenario) (xs : List (List Row × Turn)) (now : State) (t : Turn) → ComesTo s xs now → All (λ r. r.block ≡ period_of s r.cluster) (entries_begun now t)
periods-in-turn s xs now t comes =
    All-map (λ (r : Recovery). r.block ≡ period_of s r.cluster) (λ (x : Begins). x.entry) (recoveries_begun now t)
    (subst (λ (c : Configuration). All (λ (x : Begins). x.entry.block ≡ period_by c x.entry.cluster) (recoveries_begun now t)) (configured-comes s xs now comes) (turn-periods now t))
