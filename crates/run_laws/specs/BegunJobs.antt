-- The job that a command begins, by what the command does.
use Rattle.std.specs.Prelude.{◌+◌, List, [], ◌∷◌, Option, Some, None, Result, Ok, Err}
use Rattle.run_laws.specs.Prelude.{Asks, AuditState, Begins as RecoveryBegins, Change, Command, Decides, Discovers, Forgets, Planner, Recovers}
use Rattle.run_laws.specs.Prelude.{Recovery, Refusal, Route, ServerNo, State, TakesOver, Unended, begun, by_hand, job_by, leases_by, numbers_of}
use Rattle.run_laws.specs.Prelude.{put_recovery, recovery_job, recovery_try, refusal_by, route_of, takeover_try, told_try}
use Rattle.run_laws.specs.Prelude.TheVariants.{Begins}

-- the servers of which it takes the leases, the job, and of a recovery and a takeover its entry in the audit
pub record BegunJob : Type 0 where
  pub list : List ServerNo
  pub job : Unended
  pub entry : Option Recovery

-- a plan or a regroup, if nothing refuses it
abbrev pub of_plan : Option Refusal → List ServerNo → Unended → Option BegunJob
of_plan None list job = Some (record { list = list; job = job; entry = None })
of_plan (Some r) list job = None

-- a recovery or a takeover, if nothing refuses it
abbrev pub of_try : Result RecoveryBegins Refusal → Option BegunJob
of_try (Ok x) = Some (record { list = x.list; job = recovery_job x; entry = Some x.entry })
of_try (Err r) = None

abbrev pub planned : State → Command → Planner → Option BegunJob
planned s c p =
    of_plan (refusal_by s.world s.book (record { 0 = s.moment }) s.configuration.every c p) (leases_by s.world s.book c p)
    (job_by s.world s.book c p (s.last_job + 1) s.configuration.wait s.configuration.every)

-- of the instance that is given
abbrev pub recovering : State → Option ServerNo → Option BegunJob
recovering s None = None
recovering s (Some i) = of_try (told_try s.configuration s.book (recovery_try s.world s.book s.audit (by_hand s.book s.configuration (numbers_of s) i) s.configuration.wait (s.last_job + 1) i))

-- by the designated server that is given
abbrev pub taking_by : State → ServerNo → Option ServerNo → Option BegunJob
taking_by s i None = None
taking_by s i (Some d) = of_try (told_try s.configuration s.book (takeover_try s.world s.book s.audit (by_hand s.book s.configuration (numbers_of s) i) s.configuration.wait (s.last_job + 1) i d))

abbrev pub taking_over : State → Option ServerNo → Option ServerNo → Option BegunJob
taking_over s None d = None
taking_over s (Some i) d = taking_by s i d

abbrev pub begun_by : State → Command → Route → Option BegunJob
begun_by s c Discovers = None
begun_by s c Forgets = None
begun_by s c (Asks question) = None
begun_by s c (Decides decision) = None
begun_by s c (Begins p) = planned s c p
begun_by s c Recovers = recovering s c.i
begun_by s c TakesOver = taking_over s c.i c.d

-- none if the command is refused, or begins no job
abbrev pub begun_of : State → Command → Option BegunJob
begun_of s c = begun_by s c (route_of c.name)

-- ---- its entry

-- an audit with it
abbrev pub with_entry : AuditState → Option Recovery → AuditState
with_entry a None = a
with_entry a (Some r) = begun a r

-- how it is kept
abbrev pub entry_kept : Option Recovery → List Change
entry_kept None = []
entry_kept (Some r) = put_recovery r ∷ []
