-- The audit through runs.
use Rattle.std.specs.Prelude.{◌≡◌, ◌≤◌, All, List, false, length, true}
use Rattle.run_laws.specs.Prelude.{Row, Scenario, State, Turn, as_row, asks, counts, last_given, period_of, step}
use Rattle.run_laws.specs.Prelude.row
use Rattle.run_laws.specs.Begins.{BeginApartInTurn}
use Rattle.run_laws.specs.Aims.{IsAimed}
use Rattle.run_laws.specs.Entries.{entries_begun, recoveries_begun}
use Rattle.run_laws.specs.Fates.{AuditIs, RestartKeepsAll}

-- no turn lets the next id sink
abbrev pub NextNeverSinks : Type 0
NextNeverSinks = (rows : List Row) (s : State) (t : Turn) → s.audit.next ≤ (step rows s t).audit.next

-- each recovery counts at a restart: its servers are there, and its numbers are in their ranges
abbrev pub EachRecoveryCounts : Scenario → State → Type 0
EachRecoveryCounts s now = All (λ r. counts (length s.opening.servers) (last_given now) (row.Recovery (as_row r)) ≡ true) now.audit.recoveries

-- what a turn would begin has its cluster's block period
abbrev pub AnyTurnGivesPeriods : Scenario → State → Type 0
AnyTurnGivesPeriods s now = (t : Turn) → All (λ r. r.block ≡ period_of s r.cluster) (entries_begun now t)

-- what a turn would begin doesn't overlap
abbrev pub AnyTurnBeginsApart : State → Type 0
AnyTurnBeginsApart s = (t : Turn) → BeginApartInTurn (record { 0 = s.moment }) s.audit (entries_begun s t)

-- what a turn would begin was asked for, and its entry has what it is about
abbrev pub AnyTurnAims : Type 0
AnyTurnAims = (s : State) (t : Turn) → All (IsAimed s t) (recoveries_begun s t)

-- Except for a restart, which loads the kept rows, each entry becomes what the turn makes of it. Exactly those that
-- begin come after.
abbrev pub TurnsMakeAudits : Type 0
TurnsMakeAudits = (rows : List Row) (s : State) (t : Turn) → asks s t ≡ false → AuditIs rows s t

-- if the rows are those by which all was kept, a restart keeps each entry, and ends those that aren't ended
abbrev pub RestartsKeepAll : Scenario → State → Type 0
RestartsKeepAll s now = (rows : List Row) → RestartKeepsAll (length s.opening.servers) rows now
