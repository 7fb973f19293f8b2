-- The jobs that a turn begins.
use Rattle.std.specs.Prelude.{◌≡◌, ◌<◌, ◌⊎◌, true, Contains, List, [], Option, Some, None, is_some, slice_get}
use Rattle.recovery_runs.specs.Prelude.{Act, AreReplicas, Code, Docket, HookState, HostPort, IsFresh, IsOfDocket, Outcome, Purpose, Recovery, SameAim}
use Rattle.recovery_runs.specs.Prelude.{ServerNo, State, Turn, Unended, act_in, begun_hooks, code_at, command_outcome, first_source, instance_at, is_takeover, known_of}
use Rattle.recovery_runs.specs.Prelude.{label_at, owed, replicas_of, scan_outcome, times, told_of, updated}
use Rattle.recovery_runs.specs.Prelude.act
use Rattle.recovery_runs.specs.Prelude.purpose
use Rattle.recovery_runs.specs.Prelude.unended

-- those of what a command or a scan answers: the jobs that it leaves if there are none before it
abbrev pub jobs_of : State → Outcome → List Unended
jobs_of s o = (updated (record (known_of s) { jobs = [] }) o.book).jobs

-- a command begins one at most, and a scan a recovery for each try that isn't refused
abbrev pub jobs_in_act : State → Act → List Unended
jobs_in_act s (act.PollRead p n) = []
jobs_in_act s (act.PollStore p) = []
jobs_in_act s (act.Command c) = jobs_of s (command_outcome s c)
jobs_in_act s (act.Job job) = []
jobs_in_act s act.Scan = jobs_of s (scan_outcome s)
jobs_in_act s act.Restart = []

abbrev pub jobs_done : State → Option Act → List Unended
jobs_done s None = []
jobs_done s (Some a) = jobs_in_act s a

abbrev pub jobs_begun : State → Turn → List Unended
jobs_begun s t = jobs_done s (act_in s t)

-- whoever is owed is in the order in which a recovery reports, except for a new source that is named at its start
abbrev pub TellsAll : Recovery → Type 0
TellsAll r = (n : ServerNo) → 0 < times n.0 (owed r.purpose r.failed r.replicas) → Contains r.order n ⊎ (first_source r.purpose ≡ Some n)

-- the hooks of the scenario, none of which ran; their values are the failed server, the label of its cluster, and its
-- analysis as it is now
pub record AreHooksOf (s : State) (f : ServerNo) (o : Option HookState) : Type 0 where
  pub code : Code
  pub name : HostPort
  pub is_code : code_at s.book f ≡ Some code
  pub is_name : slice_get s.book.names f.0 ≡ Some name
  pub hooks : o ≡ Some (begun_hooks s.configuration.hooks (told_of s.configuration name (label_at s.book f) code))

-- a regroup and a takeover run none
abbrev pub HasHooks : State → Purpose → ServerNo → Option HookState → Type 0
HasHooks s purpose.Regroup f o = o ≡ None
HasHooks s purpose.Master f o = AreHooksOf s f o
HasHooks s (purpose.Intermediate n) f o = AreHooksOf s f o
HasHooks s (purpose.Takeover d) f o = o ≡ None

-- A recovery as it begins, of the replicas that the book has of the failed server, which names none twice, and reports
-- all. It has its hooks. The book has a takeover's master.
pub record IsBegunOnce (s : State) (r : Recovery) (docket : Docket) : Type 0 where
  pub fresh : IsFresh r
  pub replicas : r.replicas ≡ replicas_of s.book r.failed
  pub once : AreReplicas r.purpose r.failed r.replicas
  pub tells : TellsAll r
  pub hooks : HasHooks s r.purpose r.failed docket.hooks
  pub known : is_takeover r.purpose ≡ true → is_some (instance_at s.book r.failed) ≡ true

-- so a job begins
abbrev pub BeginsOnce : State → Unended → Type 0
BeginsOnce s (unended.Plan j) = Unit {0}
BeginsOnce s (unended.Recovery r docket) = IsBegunOnce s r docket

-- a recovery was one of these, with its number, its entry and its hooks, and is about whom it was about
pub record WasAmong (us : List Unended) (r : Recovery) (docket : Docket) : Type 0 where
  pub was : Recovery
  pub had : Docket
  pub among : Contains us (unended.Recovery was had)
  pub number : r.core.id ≡ was.core.id
  pub aim : SameAim was r
  pub same : IsOfDocket had docket

abbrev pub ComesOf : List Unended → Unended → Type 0
ComesOf us (unended.Plan j) = Unit {0}
ComesOf us (unended.Recovery r docket) = WasAmong us r docket
