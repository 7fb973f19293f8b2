-- The first turn of a recovery, at which it looks at its failed server, and those of the hooks before it: what each
-- answers, by what the servers show then.
use Rattle.std.specs.Prelude.{◌≡◌, ◌≢◌, ℕ, ◌+◌, ◌<◌, All, List, [], Option, Some, None, slice_get, take, false, true}
use Rattle.recovery_runs.specs.Prelude.{Docket, Failure, Hook, HookState, IsOfDead, Line, Passes, Recovery, Row, Scenario, ServerNo, State}
use Rattle.recovery_runs.specs.Prelude.{Status, Turn, act_in, due_before, engine, has_source, job_at, reply_of, run_turns, seen_in, start, status}
use Rattle.recovery_runs.specs.Prelude.{ComesTo, unsuccessful_lines}
use Rattle.recovery_runs.specs.Prelude.act
use Rattle.recovery_runs.specs.Prelude.answered
use Rattle.recovery_runs.specs.Prelude.cause
use Rattle.recovery_runs.specs.Prelude.purpose
use Rattle.recovery_runs.specs.Prelude.turn
use Rattle.recovery_runs.specs.Prelude.unended
use Rattle.recovery_runs.specs.Finishes.{IsFinish}
use Rattle.recovery_runs.specs.Origins.{Began}

-- ---- its turns so far

-- after a place none of these turns is one of the job, whoever takes it
abbrev pub NoneWas : ℕ → ℕ → State → List (List Row × Turn) → Type 0
NoneWas place id from xs = (k : ℕ) (x : List Row × Turn) → place < k → slice_get xs k ≡ Some x → act_in (run_turns engine from (take k xs)) x.1 ≡ Some (act.Job id) → ⊥

-- the first that is one of the job found that the server isn't reached
pub record FirstFoundAway (place id : ℕ) (f : ServerNo) (from : State) (xs : List (List Row × Turn)) : Type 0 where
  pub at : ℕ
  pub turn : List Row × Turn
  pub behind : place < at
  pub taken : slice_get xs at ≡ Some turn
  pub does : act_in (run_turns engine from (take at xs)) turn.1 ≡ Some (act.Job id)
  pub first : NoneWas place id from (take at xs)
  pub away : seen_in (status (run_turns engine from (take at xs)).world f.0) ≡ None

-- ---- what its next turn answers

-- this, with the lines of all hooks that run if it fails
abbrev pub unsuccessful : Option HookState → List Line
unsuccessful None = []
unsuccessful (Some h) = unsuccessful_lines h

abbrev pub Answers : State → ℕ → Failure → Type 0
Answers s id f = reply_of s (turn.Act (act.Job id)) ≡ answered.Failed f

abbrev pub GoesOn : State → ℕ → Type 0
GoesOn s id = reply_of s (turn.Act (act.Job id)) ≡ answered.Going

-- its failed server is reached, which ends it, with no hook before it; or it isn't, and it goes on
pub record LooksFirst (s : State) (id : ℕ) (r : Recovery) (docket : Docket) : Type 0 where
  pub reached : (x : Status) → seen_in (status s.world r.failed.0) ≡ Some x → Answers s id (record { cause = cause.Reachable r.failed; lines = unsuccessful docket.hooks })
  pub away : seen_in (status s.world r.failed.0) ≡ None → GoesOn s id

-- the hook that is due before it lets it go on, or ends it, by its exit, with the lines of all that ran
pub record AnswersHook (s : State) (id : ℕ) (h : HookState) (k : Hook) : Type 0 where
  pub passes : k.exit ≡ 0 → GoesOn s id
  pub ends : k.exit ≢ 0 → (lines : List Line) × Answers s id (record { cause = cause.HookFailed (h.before + 1) k.exit; lines = lines })

-- a takeover's master isn't reached, or has a source, attached or detached: each ends it; else it goes on
pub record MeetsMaster (s : State) (id : ℕ) (r : Recovery) : Type 0 where
  pub away : seen_in (status s.world r.failed.0) ≡ None → Answers s id (record { cause = cause.Unreachable r.failed; lines = [] })
  pub sourced : (x : Status) → seen_in (status s.world r.failed.0) ≡ Some x → has_source x.source ≡ true → Answers s id (record { cause = cause.Moved r.failed x.source; lines = [] })
  pub free : (x : Status) → seen_in (status s.world r.failed.0) ≡ Some x → (has_source x.source ≡ true → ⊥) → GoesOn s id

-- An unended recovery that began in one of these turns. Before any turn of it was taken its next one is the look at its
-- failed server, or at the master whose place is taken. Once one was, the first of them found the failed server
-- unreachable, and no turn answers any more that it is reached. The hooks before it come next, one a turn. If it is
-- done, each of them had the exit 0.
pub record LooksBefore (from : State) (xs : List (List Row × Turn)) (s : State) (id : ℕ) (r : Recovery) (docket : Docket) : Type 0 where
  pub began : Began from xs r docket
  pub first : IsOfDead r.purpose → NoneWas began.place id from xs → LooksFirst s id r docket
  pub fresh : (h : HookState) → docket.hooks ≡ Some h → NoneWas began.place id from xs → h.checked ≡ false
  pub looked : (h : HookState) → docket.hooks ≡ Some h → h.checked ≡ false → NoneWas began.place id from xs
  pub found : (h : HookState) → docket.hooks ≡ Some h → h.checked ≡ true → FirstFoundAway began.place id r.failed from xs
  pub once : (h : HookState) (f : Failure) (n : ServerNo) → docket.hooks ≡ Some h → Answers s id f → f.cause ≡ cause.Reachable n → NoneWas began.place id from xs
  pub hook : (h : HookState) (k : Hook) → docket.hooks ≡ Some h → due_before h ≡ Some k → AnswersHook s id h k
  pub passed : (h : HookState) (lines : List Line) → docket.hooks ≡ Some h → IsFinish s id r docket lines → All Passes h.hooks.pre_failover
  pub takeover : (d : ServerNo) → r.purpose ≡ purpose.Takeover d → NoneWas began.place id from xs → MeetsMaster s id r

abbrev pub RecoveriesLookBefore : Type 0
RecoveriesLookBefore = (s : Scenario) (xs : List (List Row × Turn)) (now : State) (comes : ComesTo s xs now) (id : ℕ) (r : Recovery) (docket : Docket) → job_at now.jobs id ≡ Some (unended.Recovery r docket)
    → LooksBefore (start s comes.wait comes.rows) xs now id r docket
