-- Servers with jobs: what is kept of a run beside the instances of the book, on which no reattachment rests.
use Rattle.std.specs.Prelude.{◌≡◌, ℕ, ◌==◌, not, if◌then◌else◌, List, [], ◌∷◌, ◌++◌, length, map, filter, replicate, slice_set, Option, Some, None, IfSome, All}
use Rattle.job_laws.specs.Prelude.{Bridge, Exchange, Job, Moment, Observation, Placed, Safe, ServerNo, Shows, Stands, Status, Turned, World, after}
use Rattle.job_laws.specs.Prelude.{bridge_in, freed, is_going, list_any, position_of, ringed, run, turned}
use Rattle.job_laws.specs.Held.{HeldJob, Spans}
use Rattle.job_laws.specs.Matched.{AllMeet}
use Rattle.job_laws.specs.Sound.{IsBridged, AllBridged}
use Rattle.job_laws.specs.Leases.{Leases, AreLeased, job_at}

-- the servers, the bridges that are kept of each, the oldest first, the pollers' slots, the jobs, and who has each
-- lease
pub record Flight : Type 0 where
  pub world : World
  pub rings : List (List Bridge)
  pub slots : List (Option Observation)
  pub jobs : List Job
  pub leases : Leases

-- ---- what holds

-- a reading that reached its server shows what the server has
abbrev pub IsShown : World → Observation → Type 0
IsShown w o = (seen : Status) → o.seen ≡ Some seen → Shows w o.no.0 seen

abbrev pub IsShownBridged : World → Observation → Type 0
IsShownBridged w o = (seen : Status) → o.seen ≡ Some seen → IsBridged w o.no.0 (position_of seen)

abbrev pub StandsIn : World → Bridge → Type 0
StandsIn w b = Stands w b.no.0 b.source.0 b.own b.exec

-- what holds in every state, with errant writes or without
pub record Held (f : Flight) : Type 0 where
  pub placed : Placed f.world
  pub rings : All (All (Spans f.world)) f.rings
  pub slots : All (λ slot. IfSome slot (IsShown f.world)) f.slots
  pub jobs : All (HeldJob f.world) f.jobs
  pub leased : AreLeased f.leases f.jobs

-- what holds in every state without errant writes, beside
pub record Sound (f : Flight) : Type 0 where
  pub safe : Safe f.world
  pub rings : All (All (StandsIn f.world)) f.rings
  pub slots : All (λ slot. IfSome slot (IsShownBridged f.world)) f.slots
  pub jobs : All (λ j. AllBridged f.world j.seen) f.jobs
  pub met : All (λ j. AllMeet f.world j.matches) f.jobs

abbrev pub no_leases : Leases
no_leases n = None

-- with these servers a run begins: nothing is kept yet
abbrev pub opened_flight : World → ℕ → ℕ → Flight
opened_flight w rings slots =
    record { world = w; rings = replicate rings []; slots = replicate slots None; jobs = []; leases = no_leases }

-- ---- turns that are no job's

abbrev pub exchanged : Flight → Exchange → Flight
exchanged f e = record f { world = after f.world e }

-- a poll's reading leaves its slot empty or takes its place there
abbrev pub slotted : Flight → ℕ → Option Observation → Flight
slotted f p o = record f { slots = slice_set f.slots p o }

-- a reading is stored: its bridge is kept
abbrev pub stored : Flight → Observation → Flight
stored f o = record f { rings = ringed f.rings o.no (bridge_in o.no o.seen) }

-- an instance is forgotten, and its bridges with it
abbrev pub forgotten : Flight → ServerNo → Flight
forgotten f n = record f { rings = slice_set f.rings n.0 [] }

-- orchestrator starts again
abbrev pub restarted : Flight → Flight
restarted f =
    record f { rings = replicate (length f.rings) []; slots = replicate (length f.slots) None; jobs = []; leases = no_leases }

-- ---- jobs

-- the servers of a list are leased to a job
abbrev pub leased_to : Leases → List ServerNo → ℕ → Leases
leased_to leases list id = λ n. if list_any (λ k. k.0 == n) list then Some id else leases n

-- without those of a job
abbrev pub without_leases : Leases → ℕ → Leases
without_leases leases id = λ n. freed id (leases n)

abbrev pub begun : Flight → List ServerNo → Job → Flight
begun f list j = record f { jobs = f.jobs ++ j ∷ []; leases = leased_to f.leases list j.id }

-- a job in place of the one with its number
abbrev pub replaced : List Job → ℕ → Job → List Job
replaced jobs id j = map (λ k. if k.id == id then j else k) jobs

abbrev pub without_job : List Job → ℕ → List Job
without_job jobs id = filter (λ k. not (k.id == id)) jobs

-- a job that goes on takes its place; one that is ended is gone, and its leases are free
abbrev pub after_turn : Flight → ℕ → Turned → Flight
after_turn f id t = record f {
  world = run f.world t.exchanges;
  jobs = if is_going t.step then replaced f.jobs id t.job else without_job f.jobs id;
  leases = if is_going t.step then f.leases else without_leases f.leases id;
}

-- a turn of a job; what it observed is stored separately
abbrev pub job_turned : Flight → ℕ → Moment → ℕ → Option Job → Flight
job_turned f read now id None = f
job_turned f read now id (Some j) = after_turn f id (turned f.world read now j)

-- a turn of the job of this number
abbrev pub after_job : Flight → ℕ → Moment → ℕ → Flight
after_job f read now id = job_turned f read now id (job_at f.jobs id)
