-- What holds of each state of a live run.
use Rattle.std.proofs.Common.{ℕ, List, [], refl}
use Rattle.live_calls.proofs.Prelude.{Comes, LiveGoesWell, alone, begins, finishes, holds, hooks, live_work, loses, obeys_at, run_of}
use Rattle.live_calls.proofs.Prelude.{scenario_in_sound, start}

pub goes_well : (words : List (List ℕ)) (bytes : List ℕ) → LiveGoesWell words bytes
goes_well words bytes = λ p s ts taken live read all.
    let w = live_work p s ts in
    let run = (run_of s p.wait ts).state in
    let scenario = scenario_in_sound bytes s read in
    let comes : Comes w ts w.new run = record { begun = start s p.wait []; opens = refl; ran = record { state = refl; rows = refl } } in
    record {
      safe = holds w ts w.new run scenario all comes;
      commands = λ rows c. obeys_at rows run.state c;
      begins = λ rows t. begins w ts w.new run scenario all comes refl rows t;
      alone = alone w ts w.new run scenario all comes refl;
      finishes = λ rows id r docket lines is. finishes w ts w.new run scenario all comes rows id r docket lines is;
      losses = λ id r docket at. loses w ts w.new run scenario all comes id r docket at;
      hooks = λ rows id r docket at. hooks w ts w.new run scenario all comes rows id r docket at;
    }
