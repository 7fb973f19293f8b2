-- Rounds: how a job is run to its end.
use Rattle.std.specs.Prelude.{◌≡◌, ℕ, zero, suc, ◌≤◌, ◌<◌, true, false, List, [], ◌++◌, fold, Option, Some, None}
use Rattle.orch_core.specs.Prelude.{Reply, Row, Turn, TurnFault, by_name, is_open, most_turns, round_over}
use Rattle.orch_core.specs.Prelude.act
use Rattle.orch_core.specs.Prelude.turn
use Rattle.orch_core.specs.Keeping.{Ran, WasCutOff}
use Rattle.orch_core.specs.Replies.{reply_of}
use Rattle.orch_core.specs.After.{step}
use Rattle.orch_core.specs.Runs.{Machine, engine}
use Rattle.orch_core.specs.States.{State}

-- the servers' names never change
abbrev pub round_of : State → ℕ → List Turn
round_of s job = round_over (by_name s.book.names) job

-- so many times the same turns
abbrev pub times : ℕ → List Turn → List Turn
times zero ts = []
times (suc k) ts = ts ++ times k ts

-- the state after turns of which none starts orchestrator again: no row is asked for
abbrev pub after_turns : State → List Turn → State
after_turns s ts = fold (step []) s ts

-- after so many rounds of a job
abbrev pub after_rounds : State → ℕ → ℕ → State
after_rounds s job k = after_turns s (times k (round_of s job))

-- so many rounds are the least after which the job isn't open; it is open before each of them
pub record IsFinish (s : State) (job k : ℕ) : Type 0 where
  pub goes_on : (i : ℕ) → i < k → is_open (after_rounds s job i).jobs job ≡ true
  pub ended : is_open (after_rounds s job k).jobs job ≡ false
  pub within : k ≤ most_turns s.jobs job

-- the rounds of a job led from one state, and the kept rows beside it, to another, in which it isn't open
pub record Finished {A : Type 0} (m : Machine A) (state : A → State) (kept : Option (List Row)) (a : A) (job : ℕ) (kept' : Option (List Row)) (now : A) : Type 0 where
  pub k : ℕ
  pub rounds : IsFinish (state a) job k
  pub ran : Ran m kept a (times k (round_of (state a) job)) kept' now

-- the rounds of a job were cut off at one of their turns; the job was open before each of them
pub record WasCutShort {A : Type 0} (m : Machine A) (state : A → State) (kept : Option (List Row)) (a : A) (job : ℕ) (kept' : Option (List Row)) (now : A) (why : TurnFault) : Type 0 where
  pub k : ℕ
  pub goes_on : (i : ℕ) → i < k → is_open (after_rounds (state a) job i).jobs job ≡ true
  pub within : k ≤ most_turns (state a).jobs job
  pub cut : WasCutOff m kept a (times k (round_of (state a) job)) kept' now why

-- what the job answers in the last of so many rounds
abbrev pub told_in : State → ℕ → ℕ → Option Reply
told_in s job zero = None
told_in s job (suc k) = Some (reply_of (after_rounds s job k) (turn.Act (act.Job job)))

-- the rounds led so from one state to another, and the job answered this in the last of them
pub record FinishedBy (kept : Option (List Row)) (s : State) (job : ℕ) (kept' : Option (List Row)) (now : State) (told : Option Reply) : Type 0 where
  pub finished : Finished engine (λ s. s) kept s job kept' now
  pub answer : told ≡ told_in s job finished.k
