-- Each turn of an unended recovery owes nothing.
use Rattle.std.proofs.Common.{ℕ, List, refl, take, true}
use Rattle.recovery_runs.proofs.Prelude.{ComesTo, HeldState, RecoveriesTurnWell, Scenario, Speaks, State, UpState, engine, fails-opening}
use Rattle.recovery_runs.proofs.Prelude.{fails-starting, flight_of, found-number, moment_at, next_count, run_turns, turn-answered}
use Rattle.recovery_runs.proofs.Prelude.{turn-changes, turn-chooses, turn-due, turn-finds, turn-hands, turn-held, turn-its, turn-rings, turn-sends}
use Rattle.recovery_runs.proofs.Prelude.{turn-shuts, turn-spares, turn-speaks, turn-stands, turn-waits, turn-whole}
use Rattle.recovery_runs.proofs.Prelude.unended
use Rattle.recovery_runs.proofs.Finishing.{facts-true, turn_in}
use Rattle.recovery_runs.proofs.Origins.{Step}
use Rattle.recovery_runs.proofs.Tending.{Cares, begun, tends-comes, up-comes}
use Rattle.recovery_runs.proofs.Upkeep.{all-counts}

turn-well : (s : State) → HeldState s → Cares s → ((id : ℕ) → UpState (λ x. true) id s) → RecoveriesTurnWell s
turn-well s held cares ups id r docket found =
    let speaks : Speaks r = turn-speaks (flight_of s) s.jobs (turn_in s id r docket found) held cares.speaking in record {
      chooses = turn-chooses (flight_of s) s.jobs (turn_in s id r docket found) held cares.covered;
      servers = turn-its s.world s.book (next_count s.reads) (moment_at s) r speaks.changes;
      changes = turn-changes (flight_of s) s.jobs (turn_in s id r docket found) held cares.covered;
      asks = λ going. turn-due (flight_of s) s.jobs (turn_in s id r docket found) held cares.speaking going;
      spares = λ going. turn-spares (flight_of s) s.jobs (turn_in s id r docket found) held cares.covered cares.speaking going;
      closes =
          turn-shuts (λ x. true) id (flight_of s) s.jobs (turn_in s id r docket found) held cares.covered cares.speaking (λ d x so is. refl) (ups id)
          (found-number s.jobs id (unended.Recovery r docket) found);
      finds =
          turn-finds (λ x. true) id (flight_of s) s.jobs (turn_in s id r docket found) held cares.covered cares.speaking (λ d x so is. refl) (ups id)
          (found-number s.jobs id (unended.Recovery r docket) found);
      alone =
          turn-stands (λ x. true) id (flight_of s) s.jobs (turn_in s id r docket found) held cares.covered cares.speaking (λ d x so is. refl) (ups id)
          (found-number s.jobs id (unended.Recovery r docket) found);
      told = λ P explains was. facts-true s id r docket found P held cares.speaking explains was;
      attaches = λ P explains was going. turn-sends (flight_of s) s.jobs (turn_in s id r docket found) held P cares.speaking explains was going;
      answered = λ n y o at due.
          turn-answered s.world s.book (next_count s.reads) (moment_at s) r (turn-rings (flight_of s) s.jobs (turn_in s id r docket found) held)
          (turn-held (flight_of s) s.jobs (turn_in s id r docket found) held) speaks n y o at due;
      waits = turn-waits s.world s.book (next_count s.reads) (moment_at s) r speaks;
      begins = λ going. turn-whole (flight_of s) s.jobs (turn_in s id r docket found) held cares.speaking going;
      hands = λ going. turn-hands s.world s.book (next_count s.reads) (moment_at s) r going;
      starts = λ c lines failed. fails-starting s.world s.book (next_count s.reads) (moment_at s) r c lines failed;
      opens = λ c lines failed. fails-opening s.world s.book (next_count s.reads) (moment_at s) r c lines failed;
    }

-- in every state of every run
pub turn-comes : (s : Scenario) (xs : List Step) (now : State) → ComesTo s xs now → RecoveriesTurnWell now
turn-comes s xs now comes = let t = tends-comes s xs now comes in turn-well now t.goes.held t.cares (λ id. up-comes s xs now comes (λ x. true) id (λ place x taken. all-counts id (run_turns engine (begun s xs now comes) (take place xs)) x.1))
