-- What is taken after a single command's own turn: the rounds of the job that it began.
use Rattle.std.specs.Prelude.{ℕ, zero, suc, List, [], ◌++◌, if◌then◌else◌, Option, Some, None}
use Rattle.tasks.specs.Prelude.{Recorded, State, Turn, after_turns, is_open, most_turns, option_and_then, round_of}
pub use Rattle.tasks.specs.Begun.{begun_by}
use Rattle.tasks.specs.Report.{last_reply}

-- these turns again and again while the job is open, at most so many times
abbrev pub rounds_while : List Turn → ℕ → State → ℕ → List Turn
rounds_while round zero s job = []
rounds_while round (suc n) s job = if is_open s.jobs job then round ++ rounds_while round n (after_turns s round) job else []

-- the rounds of a job, until it has ended
unfoldable pub rounds_of : State → ℕ → List Turn
rounds_of s job = rounds_while (round_of s job) (most_turns s.jobs job) s job

-- the job that the command's own turn began, which is in the last reply
abbrev pub own_job : Recorded → Option ℕ
own_job run = option_and_then begun_by (last_reply run.journal)

abbrev pub closing_by : Option ℕ → State → List Turn
closing_by None s = []
closing_by (Some job) s = rounds_of s job

-- the turns that follow the command's own, by the run that led to there
abbrev pub closing : Recorded → List Turn
closing run = closing_by (own_job run) run.state
