-- What commands and scans answer and begin.
use Rattle.std.specs.Prelude.{◌≡◌, ℕ, ◌+◌, ◌∷◌, ◌++◌, false, true, All, List, [], None, Some, length, map, slice_index_or}
use Rattle.run_laws.specs.Prelude.{Action, AreTries, Code, Command, CommandTurn, IntermediateRecovery, Line, MasterRecovery, Nothing, Refusal, Row}
use Rattle.run_laws.specs.Prelude.{ServerNo, State, action_of, actionable_in, changes_of, code_at, downtime_at, entries_put, leases_after, number_of}
use Rattle.run_laws.specs.Prelude.{recovery_job, refusal_at, reply_of, route_of, step, taken}
use Rattle.run_laws.specs.Prelude.RefusedCommands.{IsAnswer}
use Rattle.run_laws.specs.Prelude.act
use Rattle.run_laws.specs.Prelude.answered
use Rattle.run_laws.specs.Prelude.turn
use Rattle.run_laws.specs.Lowest.{RefusedByLowest}
use Rattle.run_laws.specs.BegunJobs.{BegunJob, begun_of, entry_kept, with_entry}
use Rattle.run_laws.specs.Entries.{attempt_in, recoveries_scanned}
use Rattle.run_laws.specs.Failures.{SpendsWaitsLast}
use Rattle.run_laws.specs.Lines.{AreLinesOf}
use Rattle.run_laws.specs.Runs.{IsBegun}

-- ---- a command

-- it is refused exactly with the refusal of the permission table, and otherwise begins its job or is done
abbrev pub CommandsAnswerByTable : Type 0
CommandsAnswerByTable = (s : State) (c : CommandTurn) → IsAnswer (route_of c.command.name) (refusal_at s c.command) (reply_of s (turn.Act (act.Command c)))

-- that refusal has the lowest number of what the command's checks refuse
abbrev pub LowestRefuse : Type 0
LowestRefuse = (s : State) (c : Command) → RefusedByLowest s c

-- a refused one changes no kept row, and nothing of the state
abbrev pub RefusedChangeNothing : Type 0
RefusedChangeNothing = (rows : List Row) (s : State) (c : CommandTurn) (r : Refusal) → reply_of s (turn.Act (act.Command c)) ≡ answered.Refused r
    → (changes_of rows s (turn.Act (act.Command c)) ≡ []) × (step rows s (turn.Act (act.Command c)) ≡ s)

-- a job that is begun has the next number
abbrev pub BegunHaveNextNumber : Type 0
BegunHaveNextNumber = (s : State) (c : CommandTurn) (id : ℕ) → IsBegun s c id → id ≡ s.last_job + 1

-- and is the command's
abbrev pub BegunAreTheCommands : Type 0
BegunAreTheCommands = (s : State) (c : CommandTurn) (id : ℕ) → IsBegun s c id → (x : BegunJob) × (begun_of s c.command ≡ Some x)

-- if the command begins this job
abbrev pub WhereBegun : (State → CommandTurn → BegunJob → Type 0) → Type 0
WhereBegun P = (s : State) (c : CommandTurn) (x : BegunJob) → begun_of s c.command ≡ Some x → P s c x

abbrev pub IsReplied : State → CommandTurn → BegunJob → Type 0
IsReplied s c x = IsBegun s c (s.last_job + 1)

abbrev pub HasNextNumber : State → CommandTurn → BegunJob → Type 0
HasNextNumber s c x = number_of x.job ≡ s.last_job + 1

-- it joins the unended ones
abbrev pub JoinsJobs : State → CommandTurn → BegunJob → Type 0
JoinsJobs s c x = (rows : List Row) → (step rows s (turn.Act (act.Command c))).jobs ≡ s.jobs ++ x.job ∷ []

abbrev pub IsLastJob : State → CommandTurn → BegunJob → Type 0
IsLastJob s c x = (rows : List Row) → (step rows s (turn.Act (act.Command c))).last_job ≡ s.last_job + 1

-- it takes the leases of its command's list
abbrev pub TakesLeases : State → CommandTurn → BegunJob → Type 0
TakesLeases s c x = (rows : List Row) → (step rows s (turn.Act (act.Command c))).book.leases ≡ taken s.book.leases x.list (s.last_job + 1)

-- a recovery and a takeover begin with their entry in the audit
abbrev pub EntersAudit : State → CommandTurn → BegunJob → Type 0
EntersAudit s c x = (rows : List Row) → (step rows s (turn.Act (act.Command c))).audit ≡ with_entry s.audit x.entry

-- which is kept
abbrev pub KeepsEntry : State → CommandTurn → BegunJob → Type 0
KeepsEntry s c x = (rows : List Row) → changes_of rows s (turn.Act (act.Command c)) ≡ entry_kept x.entry

-- a plan's job spends its waits last
abbrev pub SpendsWaits : State → CommandTurn → BegunJob → Type 0
SpendsWaits s c x = SpendsWaitsLast x.job

-- ---- a scan

-- it has a line for each instance whose analysis asks for a recovery, in name order
abbrev pub ScansTellEachTry : Type 0
ScansTellEachTry = (s : State) → (lines : List Line) × (reply_of s (turn.Act act.Scan) ≡ answered.Told lines) × AreLinesOf s.last_job (actionable_in s.book) (recoveries_scanned s) lines

-- Each of these tries begins exactly if no check of the permission table refuses it, on what those before it left. Else
-- its line has what refuses it with the lowest number.
abbrev pub TriesByTable : State → Type 0
TriesByTable s = (lines : List Line) × (reply_of s (turn.Act act.Scan) ≡ answered.Told lines)
    × AreTries (record { world = s.world; book = s.book; by = attempt_in s }) (record { leases = s.book.leases; audit = s.audit; last = s.last_job }) (actionable_in s.book) (recoveries_scanned s) lines

abbrev pub ScansTryByTable : Type 0
ScansTryByTable = (s : State) → TriesByTable s

-- what begins joins the unended jobs
abbrev pub ScannedJoinJobs : Type 0
ScannedJoinJobs = (rows : List Row) (s : State) → (step rows s (turn.Act act.Scan)).jobs ≡ s.jobs ++ map recovery_job (recoveries_scanned s)

abbrev pub ScannedAreLastJobs : Type 0
ScannedAreLastJobs = (rows : List Row) (s : State) → (step rows s (turn.Act act.Scan)).last_job ≡ s.last_job + length (recoveries_scanned s)

-- it takes its leases
abbrev pub ScannedTakeLeases : Type 0
ScannedTakeLeases = (rows : List Row) (s : State) → (step rows s (turn.Act act.Scan)).book.leases ≡ leases_after s.book.leases (recoveries_scanned s)

-- and its entries are kept
abbrev pub ScannedKeepEntries : Type 0
ScannedKeepEntries = (rows : List Row) (s : State) → changes_of rows s (turn.Act act.Scan) ≡ entries_put (recoveries_scanned s)

-- what it begins it begins by itself: recoveries are enabled then, the server isn't in downtime, and the scenario's
-- filters for its analysis have its cluster
abbrev pub PassesFilter : State → ServerNo → Action → Type 0
PassesFilter s f Nothing = ⊥
PassesFilter s f MasterRecovery = slice_index_or s.configuration.master f.0 false ≡ true
PassesFilter s f IntermediateRecovery = slice_index_or s.configuration.intermediate f.0 false ≡ true

pub record IsUnasked (s : State) (f : ServerNo) : Type 0 where
  pub enabled : s.book.switch ≡ Some false → ⊥
  pub up : downtime_at s.book f (record { 0 = s.moment }) ≡ None
  pub passes : (code : Code) → code_at s.book f ≡ Some code → PassesFilter s f (action_of code)

abbrev pub ScansBeginUnasked : Type 0
ScansBeginUnasked = (s : State) → All (λ x. IsUnasked s x.job.failed) (recoveries_scanned s)
