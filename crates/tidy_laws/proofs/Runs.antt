-- Each state of each run has `IsNeat`, and so `IsTidy`.
use Rattle.std.proofs.Common.{ℕ, List, [], ◌∷◌, length, sym, subst, All}
use Rattle.tidy_laws.proofs.Prelude.{All-head, All-nil, All-tail, Clusters, ComesTo, Goes, Goes-start, Goes-step, IsTidy, IsTurn, IsUnendedWithin}
use Rattle.tidy_laws.proofs.Prelude.{Row, Scenario, State, Turn, UntilsCanBePrinted, cluster_at, engine, run_turns, start, start_world}
use Rattle.tidy_laws.proofs.Prelude.{step as turn_step, turns_of}
use Rattle.tidy_laws.proofs.Starting.{neat-start}
use Rattle.tidy_laws.proofs.States.{IsNeatState, neat-step}
use Rattle.tidy_laws.proofs.Tidying.{tidied}

neat-run : (c : Clusters) (count : ℕ) (s : State) (xs : List (List Row × Turn)) → All (IsTurn count) (turns_of xs) → Goes count s → IsNeatState c s → IsNeatState c (run_turns engine s xs)
neat-run c count s [] all goes neat = neat
neat-run c count s (x ∷ xs) all goes neat =
    let here = All-head (IsTurn count) x.1 (turns_of xs) all in
    neat-run c count (turn_step x.0 s x.1) xs (All-tail (IsTurn count) x.1 (turns_of xs) all) (Goes-step count x.0 s x.1 here goes)
    (neat-step c count x.0 s x.1 goes.ready goes.held here neat)

neat-comes : (s : Scenario) (xs : List (List Row × Turn)) (now : State) → ComesTo s xs now → UntilsCanBePrinted s → IsNeatState (cluster_at (start_world s)) now
neat-comes s xs now comes untils =
    subst (IsNeatState (cluster_at (start_world s))) (sym comes.state)
    (neat-run (cluster_at (start_world s)) (length s.opening.servers) (start s comes.wait comes.rows) xs comes.turns (Goes-start s comes.wait comes.rows comes.scenario)
    (record {
      flight = neat-start s comes.wait comes.rows comes.scenario untils;
      jobs = All-nil (IsUnendedWithin (cluster_at (start_world s)));
    }))

pub tidy-comes : (s : Scenario) (xs : List (List Row × Turn)) (now : State) → ComesTo s xs now → UntilsCanBePrinted s → IsTidy now.world
tidy-comes s xs now comes untils =
    let neat = neat-comes s xs now comes untils in
    tidied (cluster_at (start_world s)) now.world neat.flight.placed neat.flight.trim
