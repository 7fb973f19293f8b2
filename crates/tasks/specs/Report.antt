-- What a task answers: a function of the task and of the last state of its run.
use Rattle.std.specs.Prelude.{ℕ, ◌==◌, List, [], ◌∷◌, ◌++◌, ◌&&◌, ◌||◌, Bool, true, false, not, if◌then◌else◌, length, map, count_by, Option, Some, None}
use Rattle.tasks.specs.Prelude.{Act, CommandTurn, HostPort, NotQuiet, Recorded, Reply, Scenario, State, Tally, Turn, UnknownInstance, dump_text}
use Rattle.tasks.specs.Prelude.{lines_text, list_any, number_of, plain_text_of, recovery_lines, summary_text, tables_text, unwrap_or}
use Rattle.tasks.specs.Prelude.act
use Rattle.tasks.specs.Prelude.answered
use Rattle.tasks.specs.Prelude.turn
use Rattle.tasks.specs.Begun.{begun_by}
use Rattle.tasks.specs.Plans.{Planned, begun_state, planned_in, planned_reply, planned_text}
use Rattle.tasks.specs.declared.asked.Asked.{Asked}
use Rattle.tasks.specs.declared.asked.Asked.TheVariants as asked
use Rattle.tasks.specs.declared.asked.Extra.{Extra}
use Rattle.tasks.specs.declared.asked.Extra.TheVariants as extra
use Rattle.tasks.specs.declared.asked.Task.{Task}
use Rattle.tasks.specs.declared.verdict.Verdict.{Verdict}
use Rattle.tasks.specs.declared.verdict.Verdict.TheVariants as verdict

-- what is written on out and on err if nothing fails, and whether a written reply is refused or failed
pub record Answer : Type 0 where
  pub out : List ℕ
  pub err : List ℕ
  pub is_refused : Bool

-- the lines of all replies so far
abbrev pub replies_text : List HostPort → Recorded → List ℕ
replies_text names run = lines_text names 1 run.journal

-- the tables of a state: its servers, the audit's recoveries by rising id, and its unended jobs
abbrev pub tables_of : State → List ℕ
tables_of s = tables_text s.world (recovery_lines s.audit.recoveries) (map number_of s.jobs)

-- the lines of all replies, then the tables
abbrev pub report_text : List HostPort → Recorded → List ℕ
report_text names run = replies_text names run ++ tables_of run.state

-- a command is refused, a job fails, or a claim is taken by another; an exchange and a poll never
abbrev pub verdict_of : Reply → Verdict
verdict_of (answered.Refused r) = verdict.Refused
verdict_of (answered.Failed cause) = verdict.Failed
verdict_of (answered.Write a) = verdict.Neither
verdict_of (answered.Fetch a) = verdict.Neither
verdict_of (answered.Apply a) = verdict.Neither
verdict_of answered.Done = verdict.Neither
verdict_of (answered.Rotate a) = verdict.Neither
verdict_of (answered.Purge a) = verdict.Neither
verdict_of (answered.Now t) = verdict.Neither
verdict_of (answered.Read n) = verdict.Neither
verdict_of (answered.ReadUnreachable n) = verdict.Neither
verdict_of answered.Unknown = verdict.Neither
verdict_of answered.Stored = verdict.Neither
verdict_of (answered.Old n) = verdict.Neither
verdict_of answered.Nothing = verdict.Neither
verdict_of (answered.Told lines) = verdict.Neither
verdict_of (answered.Begun job) = verdict.Neither
verdict_of answered.Going = verdict.Neither
verdict_of answered.NoJob = verdict.Neither
verdict_of (answered.Held until) = verdict.Neither
verdict_of (answered.Taken node until) = verdict.Taken
verdict_of answered.Released = verdict.Neither
verdict_of answered.NotHeld = verdict.Neither
verdict_of answered.Lapsed = verdict.Neither

abbrev pub is_refusal : Verdict → Bool
is_refusal verdict.Neither = false
is_refusal verdict.Refused = true
is_refusal verdict.Failed = false
is_refusal verdict.Taken = false

abbrev pub is_failure : Verdict → Bool
is_failure verdict.Neither = false
is_failure verdict.Refused = false
is_failure verdict.Failed = true
is_failure verdict.Taken = false

-- it is one of the two
abbrev pub is_bad : Verdict → Bool
is_bad verdict.Neither = false
is_bad verdict.Refused = true
is_bad verdict.Failed = true
is_bad verdict.Taken = false

abbrev pub is_of_claim : Verdict → Bool
is_of_claim verdict.Neither = false
is_of_claim verdict.Refused = false
is_of_claim verdict.Failed = false
is_of_claim verdict.Taken = true

abbrev pub is_refused : Reply → Bool
is_refused r = is_bad (verdict_of r)

-- another's claim lasts
abbrev pub is_taken : Reply → Bool
is_taken r = is_of_claim (verdict_of r)

-- a single command answers so on err, and its status is that of a refusal
abbrev pub is_for_err : Reply → Bool
is_for_err r = is_refused r || is_taken r

unfoldable pub any_refused : Recorded → Bool
any_refused run = list_any (λ e. is_refused e.1) run.journal

-- a run of the scenario
abbrev pub run_answer : List HostPort → Recorded → Answer
run_answer names run = record { out = report_text names run; err = []; is_refused = any_refused run }

-- how many turns were taken, and how many of their replies are refused, and how many failed
abbrev pub tally_of : List (Turn × Reply) → Tally
tally_of journal = record {
  turns = length journal;
  refused = count_by (λ e. is_refusal (verdict_of e.1)) journal;
  failed = count_by (λ e. is_failure (verdict_of e.1)) journal;
}

-- a run's summary: what its replies come to, and its last state. It has no reply, and so none that is refused
abbrev pub summary_of : Tally → State → Answer
summary_of tally s = record { out = summary_text tally s.world (length s.audit.recoveries); err = []; is_refused = false }

-- a single command: its lines, or on err its refusal or whose claim lasts; and the tables if they are asked for, but
-- not if another's claim lasts
abbrev pub told_answer : Bool → List HostPort → State → Reply → Answer
told_answer tables names s r = record {
  out = (if is_for_err r then [] else plain_text_of names r) ++ (if tables && not (is_taken r) then tables_of s else []);
  err = if is_for_err r then plain_text_of names r else [];
  is_refused = is_for_err r;
}

-- ---- the servers as a scenario

-- the world as a scenario that begins at the present moment; its refusal if a server with a source accepted a write
abbrev pub dump_of : List HostPort → Scenario → State → Answer
dump_of names s at =
    if at.world.errant == 0 then record { out = dump_text at.world s at.moment; err = []; is_refused = false } else told_answer false names at (answered.Refused (NotQuiet at.world.errant))

-- A single command with the servers after it. They are on out, or why they can't be given so is on err. What the
-- command is answered comes first on err.
abbrev pub dumped_answer : List HostPort → Scenario → State → Reply → Answer
dumped_answer names s at r = record {
  out = (dump_of names s at).out;
  err = plain_text_of names r ++ (dump_of names s at).err;
  is_refused = is_for_err r || (dump_of names s at).is_refused;
}

-- a single command with what is asked for beside its answer
abbrev pub extra_answer : Extra → List HostPort → Scenario → State → Reply → Answer
extra_answer extra.Nothing names s at r = told_answer false names at r
extra_answer extra.Tables names s at r = told_answer true names at r
extra_answer extra.Dump names s at r = dumped_answer names s at r

-- no tables follow a command that took no turn of its own
abbrev pub without_tables : Extra → Extra
without_tables extra.Nothing = extra.Nothing
without_tables extra.Tables = extra.Nothing
without_tables extra.Dump = extra.Dump

-- ---- a command's own reply: that of the last turn that is a command, a job's or a claim

abbrev pub is_commands_act : Act → Bool
is_commands_act (act.PollRead p n) = false
is_commands_act (act.PollStore p) = false
is_commands_act (act.Command c) = true
is_commands_act (act.Job job) = true
is_commands_act act.Scan = false
is_commands_act act.Restart = false

abbrev pub is_commands : Turn → Bool
is_commands (turn.Step x) = false
is_commands (turn.Tick seconds) = false
is_commands (turn.Act a) = is_commands_act a
is_commands (turn.As node a) = is_commands_act a
is_commands (turn.Claim node) = true
is_commands (turn.Release node) = false

-- the reply of this turn, unless a later one has one
abbrev pub or_reply : Option Reply → Turn × Reply → Option Reply
or_reply (Some r) e = Some r
or_reply None e = if is_commands e.0 then Some e.1 else None

abbrev pub last_reply : List (Turn × Reply) → Option Reply
last_reply [] = None
last_reply (e ∷ es) = or_reply (last_reply es) e

-- nothing was asked
abbrev pub no_answer : Answer
no_answer = record { out = []; err = []; is_refused = false }

-- a command's own turns have one
abbrev pub own_answer : Extra → List HostPort → Scenario → State → Option Reply → Answer
own_answer x names s at r = extra_answer x names s at (unwrap_or r answered.Lapsed)

-- ---- a command's plan

abbrev pub told_plan : List HostPort → Planned → Answer
told_plan names p = record { out = planned_text names p; err = []; is_refused = false }

-- the plan of the job that the command began; else the reply, without tables
abbrev pub plan_answer_by : List HostPort → CommandTurn → State → Reply → Option ℕ → Answer
plan_answer_by names c s r None = told_answer false names s r
plan_answer_by names c s r (Some job) = told_plan names (planned_in s c.command job)

-- what is answered in place of a single command, after the scenario's turns
unfoldable pub plan_answer : CommandTurn → List HostPort → State → Answer
plan_answer c names s = plan_answer_by names c (begun_state c s) (planned_reply c s) (begun_by (planned_reply c s))

-- What is answered to each thing that a command line asks, by the last state. Beside a single command's answer is what
-- is asked for, but no tables if no turn of the command's own was taken.
abbrev pub asked_answer : Asked → Extra → List HostPort → Scenario → Recorded → Answer
asked_answer asked.Run x names s run = run_answer names run
asked_answer asked.Summary x names s run = summary_of (tally_of run.journal) run.state
asked_answer asked.Dump x names s run = dump_of names s run.state
asked_answer (asked.Turn t) x names s run = own_answer x names s run.state (last_reply run.journal)
asked_answer (asked.Plan c) x names s run = plan_answer c names run.state
asked_answer asked.Unknown x names s run = extra_answer (without_tables x) names s run.state (answered.Refused UnknownInstance)
asked_answer asked.Nothing x names s run = no_answer

abbrev pub answer_of : Task → List HostPort → Scenario → Recorded → Answer
answer_of c names s run = asked_answer c.asked c.extra names s run

-- what is left of a run that was cut: its replies so far; of its summary, and of any other command, nothing
abbrev pub cut_text : Asked → List HostPort → Recorded → List ℕ
cut_text asked.Run names run = replies_text names run
cut_text asked.Summary names run = []
cut_text asked.Dump names run = []
cut_text (asked.Turn t) names run = []
cut_text (asked.Plan t) names run = []
cut_text asked.Unknown names run = []
cut_text asked.Nothing names run = []
