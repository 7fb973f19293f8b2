-- What a command or a scan leaves of a state.
use Rattle.std.specs.Prelude.{◌≡◌, ◌+◌, ◌<◌, ◌≤◌, ◌^◌, ℕ, ⊤, length, All, None}
use Rattle.orch_core.specs.Prelude.{IsUnended, IsUpdate, Knowledge, Outcome, Unended, Update, number_of, updated}
use Rattle.orch_core.specs.Prelude.update
use Rattle.orch_core.specs.States.{State, entry_id}

-- the book, the audit and the jobs of a state
abbrev pub known_of : State → Knowledge
known_of s = record { book = s.book; audit = s.audit; jobs = s.jobs; last_job = s.last_job }

abbrev pub with_known : State → Knowledge → State
with_known s k = record s { book = k.book; audit = k.audit; jobs = k.jobs; last_job = k.last_job }

abbrev pub settled : State → Outcome → State
settled s o = with_known (record s { reads = o.reads }) (updated (known_of s) o.book)

-- a job that begins has the next number, its numbers are in their ranges, and it has no entry
pub record IsNextJob (count : ℕ) (last : ℕ) (j : Unended) : Type 0 where
  pub number : number_of j ≡ last + 1
  pub range : IsUnended count j
  pub entry : entry_id j ≡ None

-- of a job that begins; recoveries begin in turn
abbrev pub IsNext : ℕ → ℕ → Update → Type 0
IsNext count last update.Stays = ⊤
IsNext count last (update.Change c) = ⊤
IsNext count last (update.Discovery o) = ⊤
IsNext count last (update.Decides e) = ⊤
IsNext count last (update.Begins x) = IsNextJob count last x.job
IsNext count last (update.Recovers xs) = ⊤

-- entries begin by 2^63
abbrev pub BeginInTime : Update → Type 0
BeginInTime update.Stays = ⊤
BeginInTime (update.Change c) = ⊤
BeginInTime (update.Discovery o) = ⊤
BeginInTime (update.Decides e) = ⊤
BeginInTime (update.Begins x) = ⊤
BeginInTime (update.Recovers xs) = All (λ x. x.entry.begun.0 ≤ 2 ^ 63) xs

-- a state can take an outcome, if the number of its last job fits its type
pub record CanSettle (s : State) (o : Outcome) : Type 0 where
  pub update : IsUpdate (known_of s) o.book
  pub next : (updated (known_of s) o.book).last_job < 2 ^ 64 → IsNext (length s.world.servers) s.last_job o.book
  pub time : BeginInTime o.book
