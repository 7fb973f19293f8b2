-- The permission table: what refuses a command, by the book and the settings, and of discover by the server itself.
use Rattle.std.specs.Prelude.{◌≡◌, ℕ, List, Option, Some, None, is_some, if◌then◌else◌}
use Rattle.orch_core.specs.Prelude.{Asks, AuditState, Begins, BookState, Command, Configuration, Decides, Discovers, Forgets, Line, Numbers, Recovers}
use Rattle.orch_core.specs.Prelude.{Refusal, Reply, Route, ServerNo, TakesOver, UnknownInstance, Unreachable, World, by_hand, first_of}
use Rattle.orch_core.specs.Prelude.{recovery_refusal, refusal_by as planned_refusal, removal_refusal, route_of, seen_in, status, takeover_refusal}
use Rattle.orch_core.specs.Prelude.{unknown_in}
use Rattle.orch_core.specs.Prelude.answered
use Rattle.orch_core.specs.Polls.{numbers_of}
use Rattle.orch_core.specs.States.{State}

-- 5: orchestrator doesn't reach the server
abbrev pub unreached : World → Option ServerNo → Option Refusal
unreached w None = None
unreached w (Some i) = if is_some (seen_in (status w i.0)) then None else Some (Unreachable i)

-- the row of a recovery, and of a takeover; 2 if what it needs isn't given
abbrev pub recovery_refused : World → BookState → AuditState → Configuration → Numbers → Option ServerNo → Option Refusal
recovery_refused w b a c n None = Some UnknownInstance
recovery_refused w b a c n (Some i) = recovery_refusal w b a (by_hand b c n i) i

abbrev pub takeover_given : World → BookState → AuditState → Configuration → Numbers → ServerNo → Option ServerNo → Option Refusal
takeover_given w b a c n i None = Some UnknownInstance
takeover_given w b a c n i (Some d) = takeover_refusal w b a (by_hand b c n i) i d

abbrev pub takeover_refused : World → BookState → AuditState → Configuration → Numbers → Option ServerNo → Option ServerNo → Option Refusal
takeover_refused w b a c n None d = Some UnknownInstance
takeover_refused w b a c n (Some i) d = takeover_given w b a c n i d

-- 2: an instance that the command uses isn't in the book. Else 5 if it reads the server itself, 4 if it removes the
--   instance, or the row of a command that begins a job.
abbrev pub refusal_by : World → BookState → AuditState → Configuration → Numbers → Command → Route → Option Refusal
refusal_by w b a by n c Discovers = first_of (unknown_in b c) (unreached w c.i)
refusal_by w b a by n c Forgets = removal_refusal b c
refusal_by w b a by n c (Asks question) = unknown_in b c
refusal_by w b a by n c (Decides decision) = unknown_in b c
refusal_by w b a by n c (Begins p) = planned_refusal w b n.moment n.every c p
refusal_by w b a by n c Recovers = recovery_refused w b a by n c.i
refusal_by w b a by n c TakesOver = takeover_refused w b a by n c.i c.d

-- the refusal with the lowest number that applies
abbrev pub refusal_at : State → Command → Option Refusal
refusal_at s c = refusal_by s.world s.book s.audit s.configuration (numbers_of s) c (route_of c.name)

-- a command that begins a job answers its number, and any other its lines
abbrev pub IsDone : Route → Reply → Type 0
IsDone Discovers r = (lines : List Line) × (r ≡ answered.Told lines)
IsDone Forgets r = (lines : List Line) × (r ≡ answered.Told lines)
IsDone (Asks question) r = (lines : List Line) × (r ≡ answered.Told lines)
IsDone (Decides decision) r = (lines : List Line) × (r ≡ answered.Told lines)
IsDone (Begins p) r = (job : ℕ) × (r ≡ answered.Begun job)
IsDone Recovers r = (job : ℕ) × (r ≡ answered.Begun job)
IsDone TakesOver r = (job : ℕ) × (r ≡ answered.Begun job)

-- refused exactly with the refusal that applies, else begun or done
abbrev pub IsAnswer : Route → Option Refusal → Reply → Type 0
IsAnswer route None r = IsDone route r
IsAnswer route (Some refusal) r = r ≡ answered.Refused refusal
