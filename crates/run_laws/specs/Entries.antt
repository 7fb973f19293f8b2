-- The recoveries that a turn begins, and their entries in the audit.
use Rattle.std.specs.Prelude.{◌+◌, List, [], ◌∷◌, map, Option, Some, None, Result, Ok, Err}
use Rattle.run_laws.specs.Prelude.{Act, Asks, Attempt, Begins as RecoveryBegins, Command, Decides, Discovers, Forgets, Recovers, Recovery, Refusal}
use Rattle.run_laws.specs.Prelude.{Route, ServerNo, Staged, State, TakesOver, Turn, act_in, attempt_of, by_hand, numbers_of, period_by, recovery_try}
use Rattle.run_laws.specs.Prelude.{route_of, scanned, takeover_try, terms_of, told_try, with_told}
use Rattle.run_laws.specs.Prelude.TheVariants.{Begins}
use Rattle.run_laws.specs.Prelude.act
use Rattle.run_laws.specs.Begins.{entries_of}

-- ---- by a command

-- one, if nothing refuses it, whose hooks get its values
abbrev pub tried : Result RecoveryBegins Refusal → List RecoveryBegins
tried (Ok x) = x ∷ []
tried (Err why) = []

-- of the instance that is given
abbrev pub recoveries_of : State → Option ServerNo → List RecoveryBegins
recoveries_of s None = []
recoveries_of s (Some i) = tried (told_try s.configuration s.book (recovery_try s.world s.book s.audit (by_hand s.book s.configuration (numbers_of s) i) s.configuration.wait (s.last_job + 1) i))

-- by the designated server that is given
abbrev pub takeovers_by : State → ServerNo → Option ServerNo → List RecoveryBegins
takeovers_by s i None = []
takeovers_by s i (Some d) = tried (told_try s.configuration s.book (takeover_try s.world s.book s.audit (by_hand s.book s.configuration (numbers_of s) i) s.configuration.wait (s.last_job + 1) i d))

abbrev pub takeovers_of : State → Option ServerNo → Option ServerNo → List RecoveryBegins
takeovers_of s None d = []
takeovers_of s (Some i) d = takeovers_by s i d

-- by what the command does
abbrev pub recoveries_by : State → Command → Route → List RecoveryBegins
recoveries_by s c Discovers = []
recoveries_by s c Forgets = []
recoveries_by s c (Asks question) = []
recoveries_by s c (Decides decision) = []
recoveries_by s c (Begins p) = []
recoveries_by s c Recovers = recoveries_of s c.i
recoveries_by s c TakesOver = takeovers_of s c.i c.d

-- ---- by a scan

-- how it tries each instance
abbrev pub attempt_in : State → ServerNo → Attempt
attempt_in s = attempt_of s.configuration.master s.configuration.intermediate (period_by s.configuration) s.book (terms_of s.book (numbers_of s))

-- what the tries come to, one after another
abbrev pub scan_in : State → Staged
scan_in s = scanned s.world s.book s.audit (attempt_in s) s.configuration.wait s.last_job

-- hooks get what begins
abbrev pub recoveries_scanned : State → List RecoveryBegins
recoveries_scanned s = map (with_told s.configuration s.book) (scan_in s).begun

-- ---- by a turn

-- of what orchestrator does only a command and a scan begin one
abbrev pub recoveries_in_act : State → Act → List RecoveryBegins
recoveries_in_act s (act.PollRead p n) = []
recoveries_in_act s (act.PollStore p) = []
recoveries_in_act s (act.Command c) = recoveries_by s c.command (route_of c.command.name)
recoveries_in_act s (act.Job job) = []
recoveries_in_act s act.Scan = recoveries_scanned s
recoveries_in_act s act.Restart = []

abbrev pub recoveries_done : State → Option Act → List RecoveryBegins
recoveries_done s None = []
recoveries_done s (Some a) = recoveries_in_act s a

abbrev pub recoveries_begun : State → Turn → List RecoveryBegins
recoveries_begun s t = recoveries_done s (act_in s t)

-- their entries, in order
abbrev pub entries_begun : State → Turn → List Recovery
entries_begun s t = entries_of (recoveries_begun s t)
