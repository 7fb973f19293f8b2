-- A state of a run as a `Flight`, and each turn as `Passage`s of it.
use Rattle.std.specs.Prelude.{ℕ, ◌+◌, ◌&&◌, nat_lt, Bool, true, false, not, is_some, if◌then◌else◌, List, [], ◌∷◌, map, Option, Some, None, Result, Ok, Err}
use Rattle.run_laws.specs.Prelude.{Act, Asks, Begins as RecoveryBegins, BookState, Command, Decides, Discovers, Flight, Forgets, Instance, Moment}
use Rattle.run_laws.specs.Prelude.{Observation, Passage, Planner, Recovers, Refusal, Route, ServerNo, State, TakesOver, Turn, Unended, act_in}
use Rattle.run_laws.specs.Prelude.{allowed, by_hand, core_of, exchange_of, instance_at, job_at, job_by, leases_by, leases_of, next_count, numbers_of}
use Rattle.run_laws.specs.Prelude.{passages_by, reading, recovery_job, recovery_try, refusal_by, removal_refusal, route_of, slot_at, takeover_try}
use Rattle.run_laws.specs.Prelude.{told_try}
use Rattle.run_laws.specs.Prelude.TheVariants.{Begins}
use Rattle.run_laws.specs.Prelude.act
use Rattle.run_laws.specs.Prelude.pass
use Rattle.run_laws.specs.Prelude.turn
use Rattle.run_laws.specs.Entries.{recoveries_scanned}

-- What is kept beside the instances: the servers, the bridges, the slots, and for each job the operations that are
-- left. For a recovery they are those of its stage. Also who has each lease.
abbrev pub flight_of : State → Flight
flight_of s = record { world = s.world; rings = s.book.rings; slots = s.slots; jobs = map core_of s.jobs; leases = leases_of s.book.leases }

-- ---- which readings the book takes

-- of an instance that it has, unless it is older than the kept one
abbrev pub takes_over : Option Instance → Observation → Bool
takes_over None o = false
takes_over (Some kept) o = not (nat_lt o.read kept.read)

abbrev pub takes : BookState → Option Observation → Bool
takes b None = false
takes b (Some o) = takes_over (instance_at b o.no) o

-- a discovery that reached its server also of an instance that it lacks
abbrev pub takes_first : Option Instance → Observation → Bool
takes_first None o = true
takes_first (Some kept) o = not (nat_lt o.read kept.read)

abbrev pub discovers : BookState → Observation → Bool
discovers b o = is_some o.seen && takes_first (instance_at b o.no) o

-- ---- the `Passage`s of each turn

abbrev pub moment_at : State → Moment
moment_at s = record { 0 = s.moment }

-- a poll that reads a server which the book knows
abbrev pub by_poll : State → ℕ → ServerNo → List Passage
by_poll s p n = if is_some (instance_at s.book n) then pass.Polling p n (next_count s.reads) (moment_at s) ∷ [] else []

abbrev pub by_discovery : State → ServerNo → List Passage
by_discovery s i = if discovers s.book (reading s i) then pass.Discovering i (next_count s.reads) (moment_at s) ∷ [] else []

abbrev pub by_removal : Result Unit Refusal → ServerNo → List Passage
by_removal (Ok permit) i = pass.Forgetting i ∷ []
by_removal (Err r) i = []

-- about the instance, if one is given
abbrev pub by_instance : (ServerNo → List Passage) → Option ServerNo → List Passage
by_instance some None = []
by_instance some (Some i) = some i

abbrev pub by_permission : State → Command → Planner → Option Refusal → List Passage
by_permission s c p None = pass.Beginning (leases_by s.world s.book c p) (core_of (job_by s.world s.book c p (s.last_job + 1) s.configuration.wait s.configuration.every)) ∷ []
by_permission s c p (Some r) = []

-- recoveries that begin one after another
abbrev pub by_recoveries : List RecoveryBegins → List Passage
by_recoveries xs = map (λ x. pass.Beginning x.list (core_of (recovery_job x))) xs

-- one that is tried
abbrev pub by_try : Result RecoveryBegins Refusal → List Passage
by_try (Ok x) = by_recoveries (x ∷ [])
by_try (Err r) = []

abbrev pub by_recovery : State → ServerNo → List Passage
by_recovery s f = by_try (told_try s.configuration s.book (recovery_try s.world s.book s.audit (by_hand s.book s.configuration (numbers_of s) f) s.configuration.wait (s.last_job + 1) f))

-- a replica takes a master's place, if one is given
abbrev pub by_takeover : State → Option ServerNo → ServerNo → List Passage
by_takeover s None i = []
by_takeover s (Some d) i = by_try (told_try s.configuration s.book (takeover_try s.world s.book s.audit (by_hand s.book s.configuration (numbers_of s) i) s.configuration.wait (s.last_job + 1) i d))

-- a job's turn, by the operations of its plan or as its recovery decides it
abbrev pub by_job : State → ℕ → Option Unended → List Passage
by_job s id o = passages_by s.world s.book (next_count s.reads) (moment_at s) (takes s.book) id o

-- a question and a decision leave the servers and all that jobs go by
abbrev pub by_route : State → Command → Route → List Passage
by_route s c Discovers = by_instance (by_discovery s) c.i
by_route s c Forgets = by_instance (by_removal (allowed (removal_refusal s.book c))) c.i
by_route s c (Asks question) = []
by_route s c (Decides decision) = []
by_route s c (Begins p) = by_permission s c p (refusal_by s.world s.book (moment_at s) s.configuration.every c p)
by_route s c Recovers = by_instance (by_recovery s) c.i
by_route s c TakesOver = by_instance (by_takeover s c.d) c.i

abbrev pub by_command : State → Command → List Passage
by_command s c = by_route s c (route_of c.name)

abbrev pub act_passages : State → Act → List Passage
act_passages s (act.PollRead p n) = by_poll s p n
act_passages s (act.PollStore p) = pass.Storing p (takes s.book (slot_at s p)) ∷ []
act_passages s (act.Command c) = by_command s c.command
act_passages s (act.Job job) = by_job s job (job_at s.jobs job)
act_passages s act.Scan = by_recoveries (recoveries_scanned s)
act_passages s act.Restart = pass.Restarting ∷ []

abbrev pub done_passages : State → Option Act → List Passage
done_passages s None = []
done_passages s (Some a) = act_passages s a

-- what happens to a server is one exchange, which is no job's
abbrev pub passages_of : State → Turn → List Passage
passages_of s (turn.Step x) = pass.Exchanging (exchange_of x) ∷ []
passages_of s (turn.Tick seconds) = []
passages_of s (turn.Act a) = act_passages s a
passages_of s (turn.As node a) = done_passages s (act_in s (turn.As node a))
passages_of s (turn.Claim node) = done_passages s (act_in s (turn.Claim node))
passages_of s (turn.Release node) = []
