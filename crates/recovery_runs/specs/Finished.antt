-- What the turn in which a recovery is done leaves, and for what its replicas were lost.
use Rattle.std.specs.Prelude.{◌≡◌, ◌++◌, ℕ, Bool, Contains, List, Some}
use Rattle.recovery_runs.specs.Prelude.{Cause, Docket, ExplainsTruly, Fact, HeldState, HookState, IsEarly, IsExplained, IsTurn, Line, Ready, Recovery}
use Rattle.recovery_runs.specs.Prelude.{Row, Safe, SameAim, Scenario, ServerNo, SoundState, State, Turn, changes_of, job_at, moment_at, option_map}
use Rattle.recovery_runs.specs.Prelude.{put_recovery, recovery_at, reply_of, start, step}
use Rattle.recovery_runs.specs.Prelude.KeptRows.{Recovery as KeptRecovery}
use Rattle.recovery_runs.specs.Prelude.act
use Rattle.recovery_runs.specs.Prelude.answered
use Rattle.recovery_runs.specs.Prelude.turn
use Rattle.recovery_runs.specs.Prelude.unended
use Rattle.recovery_runs.specs.Finishes.{IsFailure, IsFinish, KeepsHistories, OwesNothing, TellsFailed, finished_so, own_lines, promoted_then, ran_lines, recovery_after, told_hooks}
use Rattle.recovery_runs.specs.Facts.{ExplainedState, ExplainsTurn}
use Rattle.recovery_runs.specs.States.{AimedState, CoveredState, KeptState, SpeakingState, TendedState}

-- ---- the turn

-- it answers its lines
abbrev pub FinishedTellLines : Type 0
FinishedTellLines = (s : State) (id : ℕ) (r : Recovery) (docket : Docket) (lines : List Line) → IsFinish s id r docket lines → reply_of s (turn.Act (act.Job id)) ≡ answered.Told lines

-- these are the recovery's own, and after them those of the hooks that ran
abbrev pub FinishedTellOwn : Type 0
FinishedTellOwn = (s : State) (id : ℕ) (r : Recovery) (docket : Docket) (lines : List Line) → IsFinish s id r docket lines → lines ≡ own_lines s r ++ ran_lines docket.hooks (promoted_then s r)

-- it leaves nothing owed to the replicas
abbrev pub FinishedOweNothing : Type 0
FinishedOweNothing = (count : ℕ) (rows : List Row) (s : State) (id : ℕ) (r : Recovery) (docket : Docket) (lines : List Line) → Ready count s → HeldState s → CoveredState s → IsFinish s id r docket lines
    → OwesNothing count (step rows s (turn.Act (act.Job id))).world r (recovery_after s r) (own_lines s r)

-- if the servers are `Safe` afterwards, histories are kept
abbrev pub FinishedKeepHistories : Type 0
FinishedKeepHistories = (rows : List Row) (s : State) (id : ℕ) (r : Recovery) (docket : Docket) (lines : List Line) → HeldState s → SoundState s → CoveredState s → KeptState s → IsFinish s id r docket lines
    → Safe (step rows s (turn.Act (act.Job id))).world → KeepsHistories (step rows s (turn.Act (act.Job id))).world r (recovery_after s r)

-- the recovery is about what it began with
abbrev pub FinishedKeepAims : Type 0
FinishedKeepAims = (begun : ℕ → Recovery) (s : State) (id : ℕ) (r : Recovery) (docket : Docket) (lines : List Line) → HeldState s → AimedState begun s → IsFinish s id r docket lines
    → SameAim (begun id) (recovery_after s r)

-- ---- its entry

-- it ends with the server that was promoted, at the moment of the turn
abbrev pub FinishedEndEntries : Type 0
FinishedEndEntries = (rows : List Row) (s : State) (id e : ℕ) (r : Recovery) (docket : Docket) (lines : List Line) (n : ServerNo) → docket.entry ≡ Some e → IsFinish s id r docket lines → (recovery_after s r).outcome.promoted ≡ Some n
    → recovery_at (step rows s (turn.Act (act.Job id))).audit e ≡ option_map (finished_so (moment_at s) r.purpose n) (recovery_at s.audit e)

-- and is kept so
abbrev pub FinishedKeepEntries : Type 0
FinishedKeepEntries = (had : List Row) (s : State) (id e : ℕ) (r : Recovery) (docket : Docket) (lines : List Line) (n : ServerNo) (k : KeptRecovery) → docket.entry ≡ Some e → IsFinish s id r docket lines → (recovery_after s r).outcome.promoted ≡ Some n
    → recovery_at s.audit e ≡ Some k → Contains (changes_of had s (turn.Act (act.Job id))) (put_recovery (finished_so (moment_at s) r.purpose n k))

-- ---- its hooks

-- if hooks are in order it has the lines of all of them
abbrev pub FinishedTellHooks : Type 0
FinishedTellHooks = (s : State) (id : ℕ) (r : Recovery) (docket : Docket) (lines : List Line) → TendedState s → IsFinish s id r docket lines
    → lines ≡ own_lines s r ++ told_hooks docket.hooks (promoted_then s r)

-- and so does one that fails; one without hooks has none
abbrev pub FailedTellHooks : Type 0
FailedTellHooks = (s : State) (id : ℕ) (r : Recovery) (docket : Docket) (c : Cause) (lines : List Line) → TendedState s → IsFailure s id r docket c lines
    → (reply_of s (turn.Act (act.Job id)) ≡ answered.Failed (record { cause = c; lines = lines })) × TellsFailed docket.hooks r.failed c lines

-- until all have run before it that are to, a turn of it changes no server
abbrev pub EarlyStayStill : Type 0
EarlyStayStill = (rows : List Row) (s : State) (id : ℕ) (r : Recovery) (docket : Docket) (h : HookState) → TendedState s → job_at s.jobs id ≡ Some (unended.Recovery r docket)
    → docket.hooks ≡ Some h → IsEarly h → (step rows s (turn.Act (act.Job id))).world ≡ s.world

-- ---- what it reports

-- if each fact that is true in a turn counts, and what the recovery came to before it has facts that count, so has what
-- it comes to
abbrev pub FactsAreTrue : Type 0
FactsAreTrue = (s : State) (id : ℕ) (r : Recovery) (docket : Docket) (P : Fact → Bool) → job_at s.jobs id ≡ Some (unended.Recovery r docket) → HeldState s → SpeakingState s
    → ExplainsTruly s.world s.book (moment_at s) r P → IsExplained P r → IsExplained P (recovery_after s r)

abbrev pub OpeningsAreExplained : Type 0
OpeningsAreExplained = (P : Fact → Bool) (id : ℕ) (s : Scenario) (wait : ℕ) (rows : List Row) → ExplainedState P id (start s wait rows)

abbrev pub TurnsStayExplained : Type 0
TurnsStayExplained = (P : Fact → Bool) (id count : ℕ) (rows : List Row) (s : State) (t : Turn) → Ready count s → IsTurn count t → HeldState s → SpeakingState s → ExplainsTurn P id s t
    → ExplainedState P id s → ExplainedState P id (step rows s t)

abbrev pub LastFactsAreTrue : Type 0
LastFactsAreTrue = (P : Fact → Bool) (s : State) (id : ℕ) (r : Recovery) (docket : Docket) → job_at s.jobs id ≡ Some (unended.Recovery r docket) → HeldState s → SpeakingState s
    → ExplainsTruly s.world s.book (moment_at s) r P → ExplainedState P id s → IsExplained P (recovery_after s r)
