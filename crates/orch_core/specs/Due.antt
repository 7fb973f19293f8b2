-- Which server is to be read next.
use Rattle.std.specs.Prelude.{◌≡◌, slice_index, length, ℕ, ◌+◌, ◌<◌, ◌≤◌, ◌==◌, List, [], ◌∷◌, if◌then◌else◌}
use Rattle.orch_core.specs.Prelude.{Act, Turn}
use Rattle.orch_core.specs.Prelude.act
use Rattle.orch_core.specs.Prelude.turn

-- the place of a turn, if it is a poll-read of this server, and else what was there before
abbrev pub act_polled : ℕ → ℕ → ℕ → Act → ℕ
act_polled n before place (act.PollRead p m) = if m.0 == n then place else before
act_polled n before place (act.PollStore p) = before
act_polled n before place (act.Command c) = before
act_polled n before place (act.Job job) = before
act_polled n before place act.Scan = before
act_polled n before place act.Restart = before

abbrev pub polled_at : ℕ → ℕ → ℕ → Turn → ℕ
polled_at n before place (turn.Step x) = before
polled_at n before place (turn.Tick seconds) = before
polled_at n before place (turn.Act a) = act_polled n before place a
polled_at n before place (turn.As node a) = act_polled n before place a
polled_at n before place (turn.Claim node) = before
polled_at n before place (turn.Release node) = before

-- the place, from 1, of the last poll-read turn of a server after so many turns, or what was there before
abbrev pub last_poll_from : ℕ → ℕ → ℕ → List Turn → ℕ
last_poll_from n before place [] = before
last_poll_from n before place (t ∷ ts) = last_poll_from n (polled_at n before (place + 1) t) (place + 1) ts

-- the place in a list of turns, from 1, of the last poll-read turn of a server, or 0 if it had none
abbrev pub last_poll : ℕ → List Turn → ℕ
last_poll n ts = last_poll_from n 0 0 ts

-- Of so many servers, the one with the least number among those that had no poll-read turn yet. If each had one, the
-- one whose last poll-read turn is the earliest.
pub record IsDue (count : ℕ) (ts : List Turn) (n : ℕ) : Type 0 where
  pub known : n < count
  pub earliest : (m : ℕ) → m < count → last_poll n ts ≤ last_poll m ts
  pub first : (m : ℕ) → m < n → last_poll n ts < last_poll m ts

-- what orchestrator does at this place is noted for the server that it reads
abbrev pub NotesAct : List ℕ → List ℕ → ℕ → Act → Type 0
NotesAct before now place a = (n : ℕ) → n < length before → slice_index now n ≡ act_polled n (slice_index before n) place a

-- so is a turn
abbrev pub NotesPoll : List ℕ → List ℕ → ℕ → Turn → Type 0
NotesPoll before now place t = (n : ℕ) → n < length before → slice_index now n ≡ polled_at n (slice_index before n) place t
