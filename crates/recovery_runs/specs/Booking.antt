-- What the last readings of a recovery leave in the book.
use Rattle.std.specs.Prelude.{◌≡◌, ℕ, ◌≤◌, true, false, List, Some, Option, slice_get, take}
use Rattle.recovery_runs.specs.Prelude.{BookState, Docket, Instance, Line, NumbersAreGiven, Recovery, Row, ServerNo, State, Status, Turn, Unended, Without}
use Rattle.recovery_runs.specs.Prelude.{asks, attached_no, crowns, deed_in, engine, instance_at, job_at, next_count, run_turns, seen_in, status, step}
use Rattle.recovery_runs.specs.Prelude.act
use Rattle.recovery_runs.specs.Prelude.deed
use Rattle.recovery_runs.specs.Prelude.purpose
use Rattle.recovery_runs.specs.Prelude.stage
use Rattle.recovery_runs.specs.Prelude.turn
use Rattle.recovery_runs.specs.Prelude.unended
use Rattle.recovery_runs.specs.TurnsWell.{decided_at}

-- the book has a server so, by a reading that reached it
pub record HasSo (Q : Status → Type 0) (b : BookState) (n : ServerNo) : Type 0 where
  pub instance : Instance
  pub there : instance_at b n ≡ Some instance
  pub valid : instance.valid ≡ true
  pub is : Q instance.seen

-- it has no source and takes writes
abbrev pub TakesWrites : Status → Type 0
TakesWrites seen = (seen.source ≡ Without) × (seen.read_only ≡ false)

-- it is attached to this one
abbrev pub IsBelow : ServerNo → Status → Type 0
IsBelow d seen = attached_no seen.source ≡ Some d.0

-- the next turn of a job looks at a server and reaches it, and the book has no later reading of it
pub record LooksAt (s : State) (u : Unended) (n : ServerNo) : Type 0 where
  pub from : Option ServerNo
  pub due : deed_in s u ≡ Some (deed.Look n from)
  pub seen : Status
  pub reached : seen_in (status s.world n.0) ≡ Some seen
  pub kept : Instance
  pub there : instance_at s.book n ≡ Some kept
  pub earlier : kept.read ≤ next_count s.reads

-- At its end, in a master's place, a recovery looks at the promoted server, and a takeover before that at its old
-- master. These turns leave the book so, whatever rows are handed back. The promoted one has no source and takes
-- writes, and the old master is attached to the designated one.
pub record BooksItsEnd (s : State) (id : ℕ) (r : Recovery) (docket : Docket) : Type 0 where
  pub promoted : (rows : List Row) (n : ServerNo) (lines : List Line) → crowns (decided_at s r).purpose ≡ true → (decided_at s r).stage ≡ stage.Close lines
      → (decided_at s r).outcome.promoted ≡ Some n → LooksAt s (unended.Recovery r docket) n → HasSo TakesWrites (step rows s (turn.Act (act.Job id))).book n
  pub old : (rows : List Row) (d : ServerNo) (lines : List Line) → (decided_at s r).purpose ≡ purpose.Takeover d → (decided_at s r).stage ≡ stage.Close lines
      → LooksAt s (unended.Recovery r docket) (decided_at s r).failed → HasSo (IsBelow d) (step rows s (turn.Act (act.Job id))).book (decided_at s r).failed

-- so each unended recovery does
abbrev pub RecoveriesBookTheirEnd : State → Type 0
RecoveriesBookTheirEnd s = (id : ℕ) (r : Recovery) (docket : Docket) → job_at s.jobs id ≡ Some (unended.Recovery r docket) → BooksItsEnd s id r docket

-- ---- when it is done

-- a turn that loads kept rows loads no later reading than were given
abbrev pub LoadsGiven : State → List Row × Turn → Type 0
LoadsGiven s x = asks s x.1 ≡ true → NumbersAreGiven (step x.0 s x.1)

-- so does each of these turns
abbrev pub LoadGiven : State → List (List Row × Turn) → Type 0
LoadGiven from xs = (k : ℕ) (x : List Row × Turn) → slice_get xs k ≡ Some x → LoadsGiven (run_turns engine from (take k xs)) x

-- if the book has the server, what was seen of it last is so
abbrev pub SawSo : (Status → Type 0) → BookState → ServerNo → Type 0
SawSo Q b n = (i : Instance) → instance_at b n ≡ Some i → Q i.seen

-- the book has the server, and what was seen of it last is so
abbrev pub HasSeen : (Status → Type 0) → BookState → ServerNo → Type 0
HasSeen Q b n = (i : Instance) × (instance_at b n ≡ Some i) × Q i.seen

-- The book has the server that was promoted in a master's place, and shows it without a source and writable. It has a
-- takeover's old master, and shows it below the designated one. So it is whatever was read and stored after the
-- recovery read them last.
pub record BooksAtLast (b : BookState) (r : Recovery) : Type 0 where
  pub promoted : (n : ServerNo) → crowns r.purpose ≡ true → r.outcome.promoted ≡ Some n → HasSeen TakesWrites b n
  pub old : (d : ServerNo) → r.purpose ≡ purpose.Takeover d → HasSeen (IsBelow d) b r.failed
