-- The checks of the permission table for each command, in whatever order they are looked at.
use Rattle.std.specs.Prelude.{List, [], ◌∷◌, Option, Some, None}
use Rattle.run_laws.specs.Prelude.{Asks, Command, Coordinates, Decides, Discovers, Forgets, Gtids, IsAnswer, Matches, Paths, Planner, Recovers}
use Rattle.run_laws.specs.Prelude.{Refusal, Route, ServerNo, State, TakesOver, busy_given, by_hand, coords_checks, gtid_checks, match_checks}
use Rattle.run_laws.specs.Prelude.{numbers_of, path_checks, recovery_checks, refusal_at, route_of, takeover_checks, unknown_in, unreached}
use Rattle.run_laws.specs.Prelude.TheVariants.{Begins}
use Rattle.run_laws.specs.Prelude.refusal

-- a command that begins the job of a plan
abbrev pub plan_checks : State → Command → Planner → List (Option Refusal)
plan_checks s c (Coordinates kind) = coords_checks s.world s.book (Some kind) c
plan_checks s c (Gtids kind) = gtid_checks s.world s.book (Some kind) c
plan_checks s c (Paths kind) = path_checks s.world s.book (record { 0 = s.moment }) (Some kind) c
plan_checks s c (Matches kind) = match_checks s.world s.book (record { 0 = s.moment }) s.configuration.every (Some kind) c

-- the recovery of the instance that is given
abbrev pub recover_checks : State → Option ServerNo → List (Option Refusal)
recover_checks s None = Some refusal.UnknownInstance ∷ []
recover_checks s (Some i) = recovery_checks s.world s.book s.audit (by_hand s.book s.configuration (numbers_of s) i) i

-- a takeover by the designated server that is given
abbrev pub takeover_checks_by : State → ServerNo → Option ServerNo → List (Option Refusal)
takeover_checks_by s i None = Some refusal.UnknownInstance ∷ []
takeover_checks_by s i (Some d) = takeover_checks s.world s.book s.audit (by_hand s.book s.configuration (numbers_of s) i) i d

abbrev pub takes_checks : State → Option ServerNo → Option ServerNo → List (Option Refusal)
takes_checks s None d = Some refusal.UnknownInstance ∷ []
takes_checks s (Some i) d = takeover_checks_by s i d

abbrev pub checks_by : State → Command → Route → List (Option Refusal)
checks_by s c Discovers = unknown_in s.book c ∷ unreached s.world c.i ∷ []
checks_by s c Forgets = unknown_in s.book c ∷ busy_given s.book c.i ∷ []
checks_by s c (Asks question) = unknown_in s.book c ∷ []
checks_by s c (Decides decision) = unknown_in s.book c ∷ []
checks_by s c (Begins p) = plan_checks s c p
checks_by s c Recovers = recover_checks s c.i
checks_by s c TakesOver = takes_checks s c.i c.d

-- nothing refuses a command exactly if each of its checks passes, else what one of them refuses, and none with a lower
-- number
abbrev pub RefusedByLowest : State → Command → Type 0
RefusedByLowest s c = IsAnswer (checks_by s c (route_of c.name)) (refusal_at s c)
