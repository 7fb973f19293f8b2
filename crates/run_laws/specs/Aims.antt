-- For whom and for what a turn's recoveries begin.
use Rattle.std.specs.Prelude.{◌≡◌, false, Option, Some, None, Contains}
use Rattle.run_laws.specs.Prelude.{Act, Asks, Begins as RecoveryBegins, BookState, Command, Decides, Discovers, Entry, Forgets, Kind, Purpose}
use Rattle.run_laws.specs.Prelude.{Recovers, Route, ServerNo, State, TakesOver, Turn, act_in, actionable_in, is_takeover, label_at, route_of}
use Rattle.run_laws.specs.Prelude.{source_of}
use Rattle.run_laws.specs.Prelude.TheVariants.{Begins}
use Rattle.run_laws.specs.Prelude.act
use Rattle.run_laws.specs.Prelude.kind
use Rattle.run_laws.specs.Prelude.purpose

-- ---- what it is for

-- by the book a failed master has no source, and an intermediate one's replicas go to the source that it has
abbrev pub IsFor : BookState → ServerNo → Kind → Purpose → Type 0
IsFor b f what purpose.Regroup = ⊥
IsFor b f what purpose.Master = (what ≡ kind.Master) × (source_of b f ≡ None)
IsFor b f what (purpose.Intermediate s) = (what ≡ kind.Intermediate) × (source_of b f ≡ Some s)
IsFor b f what (purpose.Takeover d) = what ≡ kind.Takeover

-- its entry names the failed server and its cluster's label, and is of the kind
pub record IsAbout (b : BookState) (x : RecoveryBegins) : Type 0 where
  pub failed : x.entry.failed ≡ x.job.failed
  pub cluster : x.entry.cluster ≡ label_at b x.job.failed
  pub purpose : IsFor b x.job.failed x.entry.kind x.job.purpose

-- ---- who asked for it

-- a command is given the server that is recovered, or the master and the replica that takes its place
abbrev pub IsAskedBy : Command → Route → RecoveryBegins → Type 0
IsAskedBy c Discovers x = ⊥
IsAskedBy c Forgets x = ⊥
IsAskedBy c (Asks question) x = ⊥
IsAskedBy c (Decides decision) x = ⊥
IsAskedBy c (Begins p) x = ⊥
IsAskedBy c Recovers x = (c.i ≡ Some x.job.failed) × (is_takeover x.job.purpose ≡ false)
IsAskedBy c TakesOver x = (c.i ≡ Some x.job.failed) × ((d : ServerNo) × (c.d ≡ Some d) × (x.job.purpose ≡ purpose.Takeover d))

-- of a scan the analysis asks for the recovery of that server
abbrev pub IsScanned : BookState → RecoveryBegins → Type 0
IsScanned b x = (e : Entry) × Contains (actionable_in b) e × (e.no ≡ x.job.failed) × (is_takeover x.job.purpose ≡ false)

abbrev pub IsAskedIn : State → Act → RecoveryBegins → Type 0
IsAskedIn s (act.PollRead p n) x = ⊥
IsAskedIn s (act.PollStore p) x = ⊥
IsAskedIn s (act.Command c) x = IsAskedBy c.command (route_of c.command.name) x
IsAskedIn s (act.Job job) x = ⊥
IsAskedIn s act.Scan x = IsScanned s.book x
IsAskedIn s act.Restart x = ⊥

abbrev pub IsAskedOf : State → Option Act → RecoveryBegins → Type 0
IsAskedOf s None x = ⊥
IsAskedOf s (Some a) x = IsAskedIn s a x

abbrev pub IsAsked : State → Turn → RecoveryBegins → Type 0
IsAsked s t x = IsAskedOf s (act_in s t) x

-- a recovery that a turn begins was asked for in it, and its entry has what it is about
pub record IsAimed (s : State) (t : Turn) (x : RecoveryBegins) : Type 0 where
  pub asked : IsAsked s t x
  pub about : IsAbout s.book x
