-- That what a recovery reports is true, from its start on.
use Rattle.std.specs.Prelude.{◌≡◌, ℕ, Bool, All, Option, Some, None}
use Rattle.recovery_runs.specs.Prelude.{Act, Docket, ExplainsTruly, Fact, IsExplained, Recovery, State, Turn, Unended, act_in, job_at, moment_at}
use Rattle.recovery_runs.specs.Prelude.{number_of}
use Rattle.recovery_runs.specs.Prelude.act
use Rattle.recovery_runs.specs.Prelude.unended

-- what a recovery came to so far has facts that count
abbrev pub HasFacts : (Fact → Bool) → Unended → Type 0
HasFacts P (unended.Plan j) = Unit {0}
HasFacts P (unended.Recovery r docket) = IsExplained P r

-- of the job of this number
abbrev pub ExplainedState : (Fact → Bool) → ℕ → State → Type 0
ExplainedState P id s = All (λ u. number_of u ≡ id → HasFacts P u) s.jobs

-- each fact that is true in the turn of that job counts
abbrev pub ExplainsAct : (Fact → Bool) → ℕ → State → Act → Type 0
ExplainsAct P id s (act.PollRead p n) = Unit {0}
ExplainsAct P id s (act.PollStore p) = Unit {0}
ExplainsAct P id s (act.Command c) = Unit {0}
ExplainsAct P id s (act.Job job) =
    job ≡ id → (r : Recovery) (docket : Docket) → job_at s.jobs id ≡ Some (unended.Recovery r docket) → ExplainsTruly s.world s.book (moment_at s) r P
ExplainsAct P id s act.Scan = Unit {0}
ExplainsAct P id s act.Restart = Unit {0}

abbrev pub ExplainsDone : (Fact → Bool) → ℕ → State → Option Act → Type 0
ExplainsDone P id s None = Unit {0}
ExplainsDone P id s (Some a) = ExplainsAct P id s a

abbrev pub ExplainsTurn : (Fact → Bool) → ℕ → State → Turn → Type 0
ExplainsTurn P id s t = ExplainsDone P id s (act_in s t)
