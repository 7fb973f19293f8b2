-- What holds for each run of the turns that a command line takes over the scenario that bytes are, whatever rows the
-- row store hands back. It holds for the run of a call's report, too.
use Rattle.std.specs.Prelude.{All, ◌≡◌, ℕ, ◌+◌, ◌^◌, ◌≤◌, Bool, false, List, [], ◌∷◌, ◌++◌, length, map, take, ◌⊎◌, Some}
use Rattle.top_call.specs.Prelude.{RecoveriesBookTheirEnd, RecoveriesTurnWell}
use Rattle.top_call.specs.Prelude.{ActsWhereActive, AreScenarios, AuditIs, Began, BeginApartInTurn, BegunJob, Cause, ClaimsWait, CommandTurn, Docket}
use Rattle.top_call.specs.Prelude.{EntriesHaveJobs, ExplainsAlong, ExplainsTurn, Fact, FailsWell, FinishesWell, FoundMatchesEnd, HeldState, HookState}
use Rattle.top_call.specs.Prelude.{IsAimed, IsAnswer, IsApart, IsClaimRow, IsEarly, IsExplained, IsFailure, IsFinish, IsOn, IsOnOwn, IsOnTurns}
use Rattle.top_call.specs.Prelude.{IsQuiet, IsRising, ItsClaimIsKept, JobsHaveLeases, JobsLeaveOthers, LapsedDoesNothing, LeasesNameJobs, Line}
use Rattle.top_call.specs.Prelude.{MatchesEnd, OneIsActive, PassingLeavesNewJobs, PassingLeavesNoJob, PassingStartsAgain, Placed, PlansAreDone}
use Rattle.top_call.specs.Prelude.{PlansFailForWhatBefell, Recorded, RecoveriesFailForWhatBefell, Recovery, Refusal, RefusedByLowest, RestartKeepsAll}
use Rattle.top_call.specs.Prelude.{Row, Safe, Scenario, SoundState, SpendsWaitsLast, State, TriesByTable, Turn, Work, asks, begun_of, changes_of}
use Rattle.top_call.specs.Prelude.{claim_key, closed, course_of, engine, entries_begun, entries_put, entry_kept, interrupted_at, job_at, leases_after}
use Rattle.top_call.specs.Prelude.{moment_at, own_lines, period_of, promoted_then, recoveries_begun, recoveries_scanned, recovery_after, recovery_job}
use Rattle.top_call.specs.Prelude.{refusal_at, reply_of, route_of, row_in, run_turns, start, step, taken, told_hooks, turns_of, with_entry}
use Rattle.top_call.specs.Prelude.{ActiveActAlike, BegunMayWait, DiscoveriesRead, DoneAsTold, HeldLastAMinute, HoldsNone, InstancesStay, IsUnasked}
use Rattle.top_call.specs.Prelude.{JobsRise, JobsStore, LapsedKeepNothing, LooksBefore, MayWait, NothingIsToCome, OpeningsGiveNumbers, PassesTime}
use Rattle.top_call.specs.Prelude.{PassingRestarts, PollsRead, PollsStore, ReadingsNeverSink, RenewingClaimsAlone, RestartsCountOn, Returns}
use Rattle.top_call.specs.Prelude.{TakenChangeNothing}
use Rattle.top_call.specs.Prelude.act
use Rattle.top_call.specs.Prelude.answered
use Rattle.top_call.specs.Prelude.turn
use Rattle.top_call.specs.Prelude.unended
use Rattle.top_call.specs.Ends.{IsTask}

-- ---- states

-- What holds for a state with its jobs.
-- - It has the invariant `Held`, its servers have `Placed`, and its recoveries don't overlap: each cluster has at most
--   one that isn't ended.
-- - Each of these has its unended job, and each job's entry isn't ended.
-- - A lease names an unended job. A job has the leases of all that it may still change, and its turn leaves every other
--   server as it is.
-- - The cause of a plan's job that fails happened in that turn, and one to which nothing happens is done. A recovery
--   fails for what happened, too, and owes nothing in its next turn. At its end in a master's place its turns leave the
--   book as the servers are that they read.
-- - If the state has `IsQuiet`, it has `Sound`, and its servers have `Safe`. If the log of one matches another's, all
--   that the first has executed is a prefix of what the other has. It ends at that coordinate. So it is for each match
--   that a job found, as long as its server is at that position.
pub record IsSafeState (s : State) : Type 0 where
  pub placed : Placed s.world
  pub held : HeldState s
  pub apart : IsApart s.audit
  pub entries : EntriesHaveJobs s
  pub named : LeasesNameJobs s
  pub leased : JobsHaveLeases s
  pub others : JobsLeaveOthers s
  pub fails : PlansFailForWhatBefell s
  pub done : PlansAreDone s
  pub failed : RecoveriesFailForWhatBefell s
  pub turns : RecoveriesTurnWell s
  pub books : RecoveriesBookTheirEnd s
  pub sound : IsQuiet s.world → SoundState s
  pub safe : IsQuiet s.world → Safe s.world
  pub matched : IsQuiet s.world → MatchesEnd s
  pub met : IsQuiet s.world → FoundMatchesEnd s

-- So is every state: after any of the scenario's turns, the command's claim and its own turn. It is so after any turn
-- of the rounds that follow until the job that it began has ended.
abbrev pub IsSafeRun : List (List ℕ) → List ℕ → Type 0
IsSafeRun words bytes = (w : Work) (run : Recorded) → IsTask words bytes w → IsOn (course_of w) run → IsSafeState run.state

-- ---- commands

-- A job that a command turn begins: it has the next number, joins the unended ones, and takes the leases of its
-- command's list. A recovery and a takeover begin with their entry in the audit, which is kept. A plan's job that fails
-- because its waits are spent spent them all last.
pub record Begins (rows : List Row) (s : State) (c : CommandTurn) (job : ℕ) : Type 0 where
  pub begun : BegunJob
  pub is_begun : begun_of s c.command ≡ Some begun
  pub number : job ≡ s.last_job + 1
  pub joins : (step rows s (turn.Act (act.Command c))).jobs ≡ s.jobs ++ begun.job ∷ []
  pub leases : (step rows s (turn.Act (act.Command c))).book.leases ≡ taken s.book.leases begun.list (s.last_job + 1)
  pub audit : (step rows s (turn.Act (act.Command c))).audit ≡ with_entry s.audit begun.entry
  pub kept : changes_of rows s (turn.Act (act.Command c)) ≡ entry_kept begun.entry
  pub waits : SpendsWaitsLast begun.job

-- A command turn is refused exactly with the refusal of the permission table, else it begins its job or is done. That
-- refusal is what one of its checks refuses, and none of them refuses with a lower number. A refused one changes
-- nothing, and no kept row.
pub record Obeys (rows : List Row) (s : State) (c : CommandTurn) : Type 0 where
  pub answer : IsAnswer (route_of c.command.name) (refusal_at s c.command) (reply_of s (turn.Act (act.Command c)))
  pub lowest : RefusedByLowest s c.command
  pub refused : (r : Refusal) → reply_of s (turn.Act (act.Command c)) ≡ answered.Refused r
      → (changes_of rows s (turn.Act (act.Command c)) ≡ []) × (step rows s (turn.Act (act.Command c)) ≡ s)
  pub begun : (job : ℕ) → reply_of s (turn.Act (act.Command c)) ≡ answered.Begun job → Begins rows s c job

-- so any command turn would in every state of the run
abbrev pub ObeysTable : List (List ℕ) → List ℕ → Type 0
ObeysTable words bytes = (w : Work) (run : Recorded) (rows : List Row) (c : CommandTurn) → IsTask words bytes w → IsOn (course_of w) run → Obeys rows run.state c

-- ---- recoveries that begin

-- A scan answers for each of its tries by the permission table. It begins nothing while recoveries are disabled, of a
-- server in downtime, or of a cluster that the filters don't have. What begins joins the unended jobs, takes its
-- leases, and its entries are kept.
pub record Scans (rows : List Row) (s : State) : Type 0 where
  pub tries : TriesByTable s
  pub unasked : All (λ x. IsUnasked s x.job.failed) (recoveries_scanned s)
  pub joins : (step rows s (turn.Act act.Scan)).jobs ≡ s.jobs ++ map recovery_job (recoveries_scanned s)
  pub leases : (step rows s (turn.Act act.Scan)).book.leases ≡ leases_after s.book.leases (recoveries_scanned s)
  pub kept : changes_of rows s (turn.Act act.Scan) ≡ entries_put (recoveries_scanned s)

-- by the rows that are kept after the run's turns a restart keeps all, while the ids of recoveries fit their type
abbrev pub OwnRestartKeepsAll : Work → State → Type 0
OwnRestartKeepsAll w s = (old new : List Row) → w.old ≡ Some old → w.new ≡ Some new → IsRising old → s.audit.next ≤ 2 ^ 64
    → (step new s (turn.Act act.Restart)).audit ≡ closed s.audit (interrupted_at new s)

-- Each recovery that a turn begins, by a command or by a scan, doesn't overlap with others. Look at those of its
-- cluster, with those that the turn began before it: each is ended, and is acknowledged or began at least its own block
-- period ago. It has its cluster's period. It was asked for in the turn, and its entry has what it is about.
--
-- Except for a restart, which loads the kept rows, a turn adds no other recovery. Each that was there changes by its
-- own job or an acknowledgement of its cluster, and by nothing else. A restart by the rows that keep all keeps each,
-- with those ended as interrupted that aren't ended. If the row store's rows are known, the run's own ones are such. A
-- scan's tries go by the permission table.
pub record BeginsApart (w : Work) (rows : List Row) (s : State) (t : Turn) : Type 0 where
  pub apart : BeginApartInTurn (moment_at s) s.audit (entries_begun s t)
  pub periods : All (λ r. r.block ≡ period_of w.scenario r.cluster) (entries_begun s t)
  pub aims : All (IsAimed s t) (recoveries_begun s t)
  pub all : asks s t ≡ false → AuditIs rows s t
  pub restart : RestartKeepsAll (length w.scenario.opening.servers) rows s
  pub own : OwnRestartKeepsAll w s
  pub scans : Scans rows s

-- so any turn would in every state of the run, by the scenario's block periods
abbrev pub BeginApart : List (List ℕ) → List ℕ → Type 0
BeginApart words bytes = (w : Work) (run : Recorded) (rows : List Row) (t : Turn) → IsTask words bytes w → IsOn (course_of w) run → BeginsApart w rows run.state t

-- ---- several orchestrators

-- by the rows that are kept after the run's turns, while the ids of recoveries fit their type
abbrev pub OwnClaimRow : Work → State → Type 0
OwnClaimRow w s = (old new : List Row) → w.old ≡ Some old → w.new ≡ Some new → IsRising old → s.audit.next ≤ 2 ^ 64
    → IsClaimRow (length w.scenario.opening.servers) (row_in new claim_key) s.claims.kept

-- At most one of them is active, and the kept claim is then its own. Each of their turns that doesn't lapse is the
-- active one's, and one that lapsed does nothing. No claim is granted before another's has run out. If one passes,
-- orchestrator starts again, so that no job is left, and the jobs of all later states were begun after that. If the row
-- store's rows are known, the claim's row is the kept claim's.
--
-- A turn of one that remembers that it is active answers, keeps and does what the same turn without several
-- orchestrators does. A lapsed one keeps nothing. A claim that passes is the restart and the claim. One of the node
-- that had the last is the claim alone. Each lasts 60 seconds, and one that is taken changes nothing.
pub record IsActiveAlone (w : Work) (s : State) : Type 0 where
  pub one : OneIsActive s
  pub kept : ItsClaimIsKept s
  pub acting : (t : Turn) → ActsWhereActive s t
  pub lapsed : (t : Turn) → LapsedDoesNothing s t
  pub waits : (t : Turn) → ClaimsWait s t
  pub restart : (t : Turn) → PassingStartsAgain s t
  pub jobs : (t : Turn) → PassingLeavesNoJob s t
  pub since : (t : Turn) → PassingLeavesNewJobs (length w.scenario.opening.servers) s t
  pub row : OwnClaimRow w s
  pub alike : ActiveActAlike s
  pub keeps_nothing : LapsedKeepNothing s
  pub passing : PassingRestarts s
  pub renewing : RenewingClaimsAlone s
  pub minute : HeldLastAMinute s
  pub taken : TakenChangeNothing s

-- so it is in every state of the run
abbrev pub ActAlone : List (List ℕ) → List ℕ → Type 0
ActAlone words bytes = (w : Work) (run : Recorded) → IsTask words bytes w → IsOn (course_of w) run → IsActiveAlone w run.state

-- ---- recoveries that are done

-- the turns so far are some of the scenario's
pub record IsInTurns (w : Work) (run : Recorded) (ts : List Turn) : Type 0 where
  pub at : IsOnTurns (course_of w) run
  pub are : ts ≡ take at.k w.scenario.turns

-- or all of these and some of the command's own after them
pub record IsInOwn (w : Work) (run : Recorded) (ts : List Turn) : Type 0 where
  pub at : IsOnOwn (course_of w) run
  pub are : ts ≡ w.scenario.turns ++ at.ts

abbrev pub AreSoFar : Work → Recorded → List Turn → Type 0
AreSoFar w run ts = IsInTurns w run ts ⊎ IsInOwn w run ts

-- they lead from an opening of the scenario to this state, by some rows at the opening and at each turn
pub record Through (s : Scenario) (wait : ℕ) (ts : List Turn) (now : State) : Type 0 where
  pub rows : List Row
  pub xs : List (List Row × Turn)
  pub turns : turns_of xs ≡ ts
  pub state : now ≡ run_turns engine (start s wait rows) xs

-- By whatever rows they lead there, the turn in which a recovery is done leaves nothing owed to its replicas. These are
-- the ones that the book had attached to the failed server when it began in one of the turns so far.
pub record Finishes (w : Work) (ts : List Turn) (rows : List Row) (s : State) (id : ℕ) (r : Recovery) (docket : Docket) (lines : List Line) : Type 0 where
  pub through : Through w.scenario w.task.waits ts s
  pub well : (by : Through w.scenario w.task.waits ts s) → FinishesWell (length w.scenario.opening.servers) (start w.scenario w.task.waits by.rows) by.xs rows s id r docket lines

-- so each does, in the scenario's turns and in the command's own
abbrev pub FinishWell : List (List ℕ) → List ℕ → Type 0
FinishWell words bytes = (w : Work) (run : Recorded) (ts : List Turn) (rows : List Row) (id : ℕ) (r : Recovery) (docket : Docket) (lines : List Line) → IsTask words bytes w → AreSoFar w run ts
    → IsFinish run.state id r docket lines → Finishes w ts rows run.state id r docket lines

-- ---- why replicas are lost, and who is chosen

-- The facts of an unended recovery after its next turn, whether it goes on, is done or fails. They are the reasons of
-- those that it has lost, what it drained, whom it chose and among whom, and whom it promoted. They were true of the
-- servers and the book in one of its turns, from the one on in which it began. If each that was true counts, all of
-- them count. So it is by whatever rows the turns lead there.
pub record TellsTruly (w : Work) (ts : List Turn) (s : State) (id : ℕ) (r : Recovery) (docket : Docket) : Type 0 where
  pub through : Through w.scenario w.task.waits ts s
  pub began : (by : Through w.scenario w.task.waits ts s) → Began (start w.scenario w.task.waits by.rows) by.xs r docket
  pub told : (by : Through w.scenario w.task.waits ts s) (P : Fact → Bool) → ExplainsAlong P id (start w.scenario w.task.waits by.rows) by.xs → ExplainsTurn P id s (turn.Act (act.Job id)) → IsExplained P (recovery_after s r)

-- so each does, in the scenario's turns and in the command's own
abbrev pub TellTruly : List (List ℕ) → List ℕ → Type 0
TellTruly words bytes = (w : Work) (run : Recorded) (ts : List Turn) (id : ℕ) (r : Recovery) (docket : Docket) → IsTask words bytes w → AreSoFar w run ts
    → job_at run.state.jobs id ≡ Some (unended.Recovery r docket) → TellsTruly w ts run.state id r docket

-- ---- hooks

-- An unended recovery that began by a command or by a scan has the scenario's hooks, which got its failed server when
-- it began. A takeover and a regroup have none. The turn in which it is done has, after its own lines, those of the
-- hooks. These are all hooks before it, up to the first with another exit than 0, and all after it. The turn in which
-- it fails has those before it, and of all that run then. It has none if its failed server was reached, which is why it
-- fails.
--
-- Until all have run that are to before it, no turn of it changes a server, whatever rows the row store hands back. So
-- none has if one of these ended it. So it is by whatever rows the turns lead there.
pub record TellsHooks (w : Work) (ts : List Turn) (rows : List Row) (s : State) (id : ℕ) (r : Recovery) (docket : Docket) : Type 0 where
  pub through : Through w.scenario w.task.waits ts s
  pub own : (h : HookState) → docket.hooks ≡ Some h → AreScenarios w.scenario h
  pub done : (lines : List Line) → IsFinish s id r docket lines → lines ≡ own_lines s r ++ told_hooks docket.hooks (promoted_then s r)
  pub failed : (c : Cause) (lines : List Line) → IsFailure s id r docket c lines
      → (by : Through w.scenario w.task.waits ts s) → FailsWell (start w.scenario w.task.waits by.rows) by.xs rows s id r docket c lines
  pub still : (h : HookState) → docket.hooks ≡ Some h → IsEarly h → (step rows s (turn.Act (act.Job id))).world ≡ s.world

-- so each does, in the scenario's turns and in the rounds
abbrev pub TellHooks : List (List ℕ) → List ℕ → Type 0
TellHooks words bytes = (w : Work) (run : Recorded) (ts : List Turn) (rows : List Row) (id : ℕ) (r : Recovery) (docket : Docket) → IsTask words bytes w → AreSoFar w run ts
    → job_at run.state.jobs id ≡ Some (unended.Recovery r docket) → TellsHooks w ts rows run.state id r docket

-- ---- how recoveries begin their work

-- The first turn of an unended recovery looks at its failed server. What it answers, and what the hooks before it
-- answer, is so by the servers as they are then. So it is by whatever rows the turns lead there.
pub record LooksFirstIn (w : Work) (ts : List Turn) (s : State) (id : ℕ) (r : Recovery) (docket : Docket) : Type 0 where
  pub through : Through w.scenario w.task.waits ts s
  pub looks : (by : Through w.scenario w.task.waits ts s) → LooksBefore (start w.scenario w.task.waits by.rows) by.xs s id r docket

-- so each does, in the scenario's turns and in the rounds
abbrev pub LookFirst : List (List ℕ) → List ℕ → Type 0
LookFirst words bytes = (w : Work) (run : Recorded) (ts : List Turn) (id : ℕ) (r : Recovery) (docket : Docket) → IsTask words bytes w → AreSoFar w run ts
    → job_at run.state.jobs id ≡ Some (unended.Recovery r docket) → LooksFirstIn w ts run.state id r docket

-- ---- time, waits and numbers

-- Only a tick lets time pass, and no recovery is of a later moment. The numbers of jobs rise. Each operation of each
-- job may wait as often as the command line allows, from its start on. What a plan has in its hands is started by what
-- is left of it. Once a plan is done, each server that its lines have below another is attached to it, and applies.
pub record KeepsTime (w : Work) (s : State) : Type 0 where
  pub time : (t : Turn) → PassesTime s t
  pub past : NothingIsToCome s
  pub rising : JobsRise s
  pub last : (rows : List Row) (t : Turn) → s.last_job ≤ (step rows s t).last_job
  pub wait : s.configuration.wait ≡ w.task.waits
  pub waits : All (MayWait w.task.waits) s.jobs
  pub hands : All (λ u. Returns u × HoldsNone u) s.jobs
  pub holds : DoneAsTold s
  pub begun : BegunMayWait s

-- so it is in every state of the run
abbrev pub KeepTime : List (List ℕ) → List ℕ → Type 0
KeepTime words bytes = (w : Work) (run : Recorded) → IsTask words bytes w → IsOn (course_of w) run → KeepsTime w run.state

-- ---- what is read

-- In any state what is read of a server is what one status shows then, and it is stored, with numbers that rise. Only a
-- restart and a command that forgets it take an instance out of the book. A restart goes on with the count of readings,
-- whatever rows it loads.
pub record StoresReadings : Type 0 where
  pub polls : PollsRead
  pub stores : PollsStore
  pub discoveries : DiscoveriesRead
  pub jobs : JobsStore
  pub never_sink : ReadingsNeverSink
  pub stay : InstancesStay
  pub openings : OpeningsGiveNumbers
  pub restarts : RestartsCountOn
