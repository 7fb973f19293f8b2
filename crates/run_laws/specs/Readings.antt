-- What is read of servers, and what becomes of it in the book.
use Rattle.std.specs.Prelude.{◌≡◌, ◌≢◌, ℕ, ◌<◌, ◌≤◌, List, [], ◌∷◌, length, true, false, is_some, unwrap_or, Option, Some, None}
use Rattle.run_laws.specs.Prelude.{BookState, CommandTurn, Deed, Discovers, Forgets, Instance, Observation, Op, Row, Scenario, ServerNo, State}
use Rattle.run_laws.specs.Prelude.{Status, Turn, Unended, act_in, after_store, asks, decided, deed_of, front_hook, ground_of, instance_at, job_at}
use Rattle.run_laws.specs.Prelude.{last_read, leases_of, next_count, refusal_at, reloaded_rows, route_of, seen_in, slot_at, start, status, step}
use Rattle.run_laws.specs.Prelude.act
use Rattle.run_laws.specs.Prelude.deed
use Rattle.run_laws.specs.Prelude.turn
use Rattle.run_laws.specs.Prelude.unended

-- what one status shows of a server now, with the next read number
abbrev pub shown_at : State → ServerNo → Observation
shown_at s n = record { no = n; read = next_count s.reads; moment = record { 0 = s.moment }; seen = seen_in (status s.world n.0) }

-- ---- what becomes of a reading

-- An instance as a reading leaves it that isn't old: with its number and moment, valid exactly if it reached its
-- server. It has what was seen of that then, or else before.
abbrev pub as_read : Instance → Observation → Instance
as_read kept o = record { no = o.no; read = o.read; moment = o.moment; valid = is_some o.seen; seen = unwrap_or o.seen kept.seen }

-- a reading in a book that has, or lacks, the instance: it makes nothing if the book lacks it or has a later one
pub record IsKeptSo (b : BookState) (o : Observation) (now : BookState) : Type 0 where
  pub lacking : instance_at b o.no ≡ None → now.instances ≡ b.instances
  pub old : (kept : Instance) → instance_at b o.no ≡ Some kept → o.read < kept.read → now.instances ≡ b.instances
  pub newer : (kept : Instance) → instance_at b o.no ≡ Some kept → kept.read ≤ o.read → instance_at now o.no ≡ Some (as_read kept o)
  pub others : (n : ServerNo) → n.0 ≢ o.no.0 → instance_at now n ≡ instance_at b n

-- ---- polls

-- a poller that reads a server which the book knows has that in its slot
pub record IsPolled (s : State) (p : ℕ) (n : ServerNo) (now : State) : Type 0 where
  pub reads : now.reads ≡ next_count s.reads
  pub slot : slot_at now p ≡ Some (shown_at s n)

abbrev pub PollsRead : Type 0
PollsRead = (rows : List Row) (s : State) (p : ℕ) (n : ServerNo) → p < length s.slots → is_some (instance_at s.book n) ≡ true → IsPolled s p n (step rows s (turn.Act (act.PollRead p n)))

-- what is in the slot is stored, and the slot is empty then
pub record IsEmptied (s : State) (p : ℕ) (o : Observation) (now : State) : Type 0 where
  pub kept : IsKeptSo s.book o now.book
  pub empty : slot_at now p ≡ None

abbrev pub PollsStore : Type 0
PollsStore = (rows : List Row) (s : State) (p : ℕ) (o : Observation) → slot_at s p ≡ Some o → IsEmptied s p o (step rows s (turn.Act (act.PollStore p)))

-- ---- discoveries

-- a discovery that reaches its server reads it: the book has it from then on, if it has no later reading
pub record IsDiscovered (s : State) (i : ServerNo) (seen : Status) (now : State) : Type 0 where
  pub reads : now.reads ≡ next_count s.reads
  pub first : instance_at s.book i ≡ None → i.0 < length s.book.instances
      → instance_at now.book i ≡ Some (record { no = i; read = next_count s.reads; moment = record { 0 = s.moment }; valid = true; seen = seen })
  pub known : (kept : Instance) → instance_at s.book i ≡ Some kept → IsKeptSo s.book (shown_at s i) now.book

abbrev pub DiscoveriesRead : Type 0
DiscoveriesRead = (rows : List Row) (s : State) (c : CommandTurn) (i : ServerNo) (seen : Status) → route_of c.command.name ≡ Discovers → c.command.i ≡ Some i
    → seen_in (status s.world i.0) ≡ Some seen → IsDiscovered s i seen (step rows s (turn.Act (act.Command c)))

-- ---- jobs

-- The operations that a job is to do in its turn, and what is done first. They are those of a plan, or of its recovery
-- as it is decided in the turn; none in a hook's turn.
abbrev pub first_op : List Op → Option Deed
first_op [] = None
first_op (x ∷ xs) = Some (deed_of x)

abbrev pub unless_hook : {A : Type 0} → Option A → List Op → Option Deed
unless_hook None ops = first_op ops
unless_hook (Some hook) ops = None

abbrev pub deed_in : State → Unended → Option Deed
deed_in s (unended.Plan j) = first_op j.ops
deed_in s (unended.Recovery r docket) = unless_hook (front_hook docket.hooks) (decided (ground_of s.world s.book (record { 0 = s.moment })) r).core.ops

-- a job's turn that looks at a server reads it with the next number, whether it reaches it or not, and what it reads is
-- stored
pub record IsStoredBy (s : State) (n : ServerNo) (now : State) : Type 0 where
  pub reads : now.reads ≡ next_count s.reads
  pub kept : IsKeptSo s.book (shown_at s n) now.book

abbrev pub JobsStore : Type 0
JobsStore = (rows : List Row) (s : State) (id : ℕ) (u : Unended) (n : ServerNo) (from : Option ServerNo) → job_at s.jobs id ≡ Some u → deed_in s u ≡ Some (deed.Look n from)
    → IsStoredBy s n (step rows s (turn.Act (act.Job id)))

-- ---- instances

-- the turn is a command to forget this instance: no check refuses it, and no job has its lease
pub record IsForgotten (s : State) (t : Turn) (n : ServerNo) : Type 0 where
  pub command : CommandTurn
  pub taken : act_in s t ≡ Some (act.Command command)
  pub route : route_of command.command.name ≡ Forgets
  pub given : command.command.i ≡ Some n
  pub may : refusal_at s command.command ≡ None
  pub free : leases_of s.book.leases n.0 ≡ None

-- only that and a restart take an instance out of the book
abbrev pub InstancesStay : Type 0
InstancesStay = (rows : List Row) (s : State) (t : Turn) (n : ServerNo) (was : Instance) → asks s t ≡ false → instance_at s.book n ≡ Some was
    → instance_at (step rows s t).book n ≡ None → IsForgotten s t n

-- ---- numbers of readings

-- no instance goes back to an earlier reading but by a restart
abbrev pub ReadingsNeverSink : Type 0
ReadingsNeverSink = (rows : List Row) (s : State) (t : Turn) (n : ServerNo) (was now : Instance) → asks s t ≡ false → instance_at s.book n ≡ Some was
    → instance_at (step rows s t).book n ≡ Some now → was.read ≤ now.read

-- no kept reading has a number above those that were given
abbrev pub NumbersAreGiven : State → Type 0
NumbersAreGiven s = (n : ServerNo) (i : Instance) → instance_at s.book n ≡ Some i → i.read ≤ s.reads

abbrev pub OpeningsGiveNumbers : Type 0
OpeningsGiveNumbers = (s : Scenario) (wait : ℕ) (rows : List Row) → NumbersAreGiven (start s wait rows)

-- ---- restarts

-- A restart goes on with the count of readings. An instance that it loads has a number of the rows that count, and no
-- number is above the greatest of these. It may be above the count, if the rows are another run's. So each reading of
-- the instance that has a lower number is old, and the first one that hasn't is stored.
pub record CountsOn (most : ℕ) (s now : State) : Type 0 where
  pub reads : now.reads ≡ s.reads
  pub within : (n : ServerNo) (i : Instance) → instance_at now.book n ≡ Some i → i.read ≤ most
  pub old : (i : Instance) (o : Observation) → instance_at now.book o.no ≡ Some i → o.read < i.read → (after_store now.book o).instances ≡ now.book.instances
  pub newer : (i : Instance) (o : Observation) → instance_at now.book o.no ≡ Some i → i.read ≤ o.read → instance_at (after_store now.book o) o.no ≡ Some (as_read i o)

abbrev pub RestartsCountOn : Type 0
RestartsCountOn = (rows : List Row) (s : State) → CountsOn (last_read (reloaded_rows rows s)) s (step rows s (turn.Act act.Restart))
