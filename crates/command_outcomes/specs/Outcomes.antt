-- Commands: what each answers, and what it changes.
use Rattle.std.specs.Prelude.{◌+◌, ℕ, Bool, true, false, map, unwrap_or, List, [], ◌∷◌, Option, Some, None, Result, Ok, Err}
use Rattle.command_outcomes.specs.Prelude.{Asks, Attempt, AuditState, Begins as RecoveryBegins, BookState, Change, Command, CommandTurn, Decided, Decides}
use Rattle.command_outcomes.specs.Prelude.{Decision, Discovers, Forgets, Kind, Lead, Line, Observation, Planner, Recovers, Refusal, Reply, Route, ServerNo, Staged}
use Rattle.command_outcomes.specs.Prelude.{Status as Seen, TakesOver, Terms, Unended, UnknownInstance, Unreachable, World, allowed, attempt_of, busy}
use Rattle.command_outcomes.specs.Prelude.{decided_of, discovery_change, given_try, instance_at, kind_try, label_at, lines_of, looks_at, next_count, option_to_list}
use Rattle.command_outcomes.specs.Prelude.{permitted, put_recovery, recovery_try, route_of, rows_of, scanned, unknown_in}
use Rattle.command_outcomes.specs.Jobs.{job_by, lead_of, leases_by, refusal_by}
use Rattle.command_outcomes.specs.Prelude.TheVariants.{Begins}
use Rattle.command_outcomes.specs.Prelude.answered
use Rattle.command_outcomes.specs.Prelude.change
use Rattle.command_outcomes.specs.Prelude.key
use Rattle.command_outcomes.specs.Prelude.line
use Rattle.command_outcomes.specs.Prelude.table
use Rattle.command_outcomes.specs.declared.configuration.Configuration.{Configuration}
use Rattle.command_outcomes.specs.declared.command.Numbers.{Numbers}
use Rattle.command_outcomes.specs.declared.command.Update.{Update}
use Rattle.command_outcomes.specs.declared.command.Update.TheVariants as update
use Rattle.command_outcomes.specs.HookTelling.{told_try, with_told}
use Rattle.command_outcomes.specs.Periods.{period_by}
use Rattle.command_outcomes.specs.Readings.{reading_by}

-- of two tests the first that refuses
abbrev pub first_of : Option Refusal → Option Refusal → Option Refusal
first_of None later = later
first_of (Some refusal) later = Some refusal

-- nothing is made of what is known
abbrev pub stays : Update
stays = update.Stays

-- what a command answers, what it makes of what is known, how it changes the kept rows, and the greatest read number
-- after it
pub record Outcome : Type 0 where
  pub reply : Reply
  pub book : Update
  pub rows : List Change
  pub reads : ℕ

-- a refusal changes nothing
abbrev pub refusal : ℕ → Refusal → Outcome
refusal reads r = record { reply = answered.Refused r; book = stays; rows = []; reads = reads }

-- one line, what it makes of the book, and the changes of the kept rows
abbrev pub told_with : ℕ → Line → Update → List Change → Outcome
told_with reads line u cs = record { reply = answered.Told (line ∷ []); book = u; rows = cs; reads = reads }

-- lines, and no change
abbrev pub only_lines : ℕ → List Line → Outcome
only_lines reads lines = record { reply = answered.Told lines; book = stays; rows = []; reads = reads }

-- ---- discover reads the server itself

abbrev pub discovered : BookState → ℕ → Observation → Option Seen → Outcome
discovered b reads o None = refusal reads (Unreachable o.no)
discovered b reads o (Some seen) = told_with o.read (line.Server o.no) (update.Discovery o) (option_to_list (discovery_change (instance_at b o.no) o seen))

-- ---- forget removes the instance

-- 4: a job has its lease
abbrev pub busy_given : BookState → Option ServerNo → Option Refusal
busy_given b None = None
busy_given b (Some i) = busy b i

-- 2, then 4
abbrev pub removal_refusal : BookState → Command → Option Refusal
removal_refusal b c = first_of (unknown_in b c) (busy_given b c.i)

-- what is left to a command's lease check, if its first checks come to that
abbrev pub busy_if : BookState → Bool → ServerNo → Option Refusal
busy_if b true i = busy b i
busy_if b false i = None

-- what a command's first checks refuse that need no forest of sources
abbrev pub early_about : BookState → Lead → Option ServerNo → Option ServerNo → Option Refusal
early_about b l None d = None
early_about b l (Some i) d = busy_if b (looks_at l i d) i

abbrev pub early_refusal : BookState → Command → Planner → Option Refusal
early_refusal b c p = first_of (unknown_in b c) (early_about b (lead_of p) c.i c.d)

abbrev pub removal : ServerNo → Change
removal i = change.Remove table.Instance (key.Server i)

abbrev pub forgotten : ℕ → Result Unit Refusal → ServerNo → Outcome
forgotten reads (Err r) i = refusal reads r
forgotten reads (Ok permit) i = told_with reads (line.Server i) (update.Change (removal i)) (removal i ∷ [])

-- ---- a question is answered by the book and the audit

abbrev pub asked : ℕ → Result Unit Refusal → List Line → Outcome
asked reads (Err r) lines = refusal reads r
asked reads (Ok permit) lines = only_lines reads lines

-- a command that does nothing else has the lines of its question, and none if it asks nothing
abbrev pub question : BookState → AuditState → ℕ → CommandTurn → Outcome
question b a reads t = asked reads (permitted b t.command) (lines_of b a.recoveries t t.command.name)

-- ---- a decision is kept

abbrev pub decided : ℕ → AuditState → Result Unit Refusal → Decided → Outcome
decided reads a (Err r) d = refusal reads r
decided reads a (Ok permit) d = record { reply = answered.Told d.lines; book = update.Decides d.effect; rows = rows_of a d.effect; reads = reads }

abbrev pub decision : BookState → AuditState → Numbers → CommandTurn → Decision → Outcome
decision b a n t d = decided n.reads a (permitted b t.command) (decided_of b a n.moment t.keys t.command.i d)

-- ---- a command begins a job

-- a job that begins with the next number, and the servers of which it takes the leases
abbrev pub begun : Numbers → Option Refusal → List ServerNo → Unended → Outcome
begun n (Some r) list job = refusal n.reads r
begun n None list job = record { reply = answered.Begun (n.last_job + 1); book = update.Begins (record { list = list; job = job }); rows = []; reads = n.reads }

-- by the permission table the refusal of the lowest number that applies, and by the plan the job
abbrev pub begun_by : World → BookState → Numbers → Command → Planner → Outcome
begun_by w b n c p = begun n (refusal_by w b n.moment n.every c p) (leases_by w b c p) (job_by w b c p (n.last_job + 1) n.wait n.every)

-- ---- a recovery begins

-- an operator asks for that of a server: the switch, downtimes and filters make no difference
abbrev pub by_hand : BookState → Configuration → Numbers → ServerNo → Attempt
by_hand b c n f = record { by_master = true; by_intermediate = true; enabled = true; by_hand = true; block = period_by c (label_at b f); now = n.moment }

-- each entry is kept
abbrev pub entries_put : List RecoveryBegins → List Change
entries_put xs = map (λ x. put_recovery x.entry) xs

-- a recovery begins with the next number, or is refused
abbrev pub recovery_begun : Numbers → Result RecoveryBegins Refusal → Outcome
recovery_begun n (Err r) = refusal n.reads r
recovery_begun n (Ok x) = record { reply = answered.Begun (n.last_job + 1); book = update.Recovers (x ∷ []); rows = entries_put (x ∷ []); reads = n.reads }

abbrev pub recovered : World → BookState → AuditState → Configuration → Numbers → ServerNo → Outcome
recovered w b a c n f = recovery_begun n (told_try c b (recovery_try w b a (by_hand b c n f) n.wait (n.last_job + 1) f))

-- a replica takes a master's place
abbrev pub taken_over : World → BookState → AuditState → Configuration → Numbers → Option ServerNo → ServerNo → Outcome
taken_over w b a c n d i = recovery_begun n (told_try c b (given_try w b a (by_hand b c n i) n.wait (n.last_job + 1) i d))

-- of a kind that is asked for
abbrev pub begun_by_hand : World → BookState → AuditState → Configuration → Numbers → Option Kind → ServerNo → Option ServerNo → Outcome
begun_by_hand w b a c n what i d = recovery_begun n (told_try c b (kind_try w b a (by_hand b c n i) n.wait (n.last_job + 1) i d what))

abbrev pub terms_of : BookState → Numbers → Terms
terms_of b n = record { enabled = unwrap_or b.switch true; wait = n.wait; now = n.moment }

-- a scan tries what the analysis asks for, and answers for each try; hooks get what begins
abbrev pub with_hooks : Configuration → BookState → Staged → Staged
with_hooks c b s = record s { begun = map (with_told c b) s.begun }

abbrev pub scan_told : Numbers → Staged → Outcome
scan_told n s = record { reply = answered.Told s.lines; book = update.Recovers s.begun; rows = entries_put s.begun; reads = n.reads }

abbrev pub scan_by : World → BookState → AuditState → Configuration → Numbers → Outcome
scan_by w b a c n = scan_told n (with_hooks c b (scanned w b a (attempt_of c.master c.intermediate (period_by c) b (terms_of b n)) n.wait n.last_job))

-- ---- all commands

-- what is read of a server with the next number
abbrev pub next_reading : World → Numbers → ServerNo → Observation
next_reading w n i = reading_by w i (next_count n.reads) n.moment.0

-- about the instance, if one is given
abbrev pub about : Outcome → (ServerNo → Outcome) → Option ServerNo → Outcome
about none some None = none
about none some (Some i) = some i

-- the outcome of a command, by what it does
abbrev pub outcome_by : World → BookState → AuditState → Configuration → Numbers → CommandTurn → Route → Outcome
outcome_by w b a c n t Discovers = about (question b a n.reads t) (λ i. discovered b n.reads (next_reading w n i) (next_reading w n i).seen) t.command.i
outcome_by w b a c n t Forgets = about (question b a n.reads t) (forgotten n.reads (allowed (removal_refusal b t.command))) t.command.i
outcome_by w b a c n t (Asks q) = question b a n.reads t
outcome_by w b a c n t (Decides d) = decision b a n t d
outcome_by w b a c n t (Begins p) = begun_by w b n t.command p
outcome_by w b a c n t Recovers = about (refusal n.reads UnknownInstance) (recovered w b a c n) t.command.i
outcome_by w b a c n t TakesOver = about (refusal n.reads UnknownInstance) (taken_over w b a c n t.command.d) t.command.i

-- the outcome of a command, by the numbers that it goes by
unfoldable pub outcome_of : World → BookState → AuditState → Configuration → Numbers → CommandTurn → Outcome
outcome_of w b a c n t = outcome_by w b a c n t (route_of t.command.name)
