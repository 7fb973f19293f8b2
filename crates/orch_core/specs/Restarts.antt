-- What a restart loads of the kept rows: the ids of recoveries that count are below the next one.
use Rattle.std.specs.Prelude.{ℕ, ◌-◌, List, length}
use Rattle.orch_core.specs.Prelude.{AuditState, BookState, Change, Moment, Row, audit_of, counted, latest_recovery, loaded, loading, period_by}
use Rattle.orch_core.specs.States.{State}

-- the last id that was given
abbrev pub last_given : State → ℕ
last_given s = s.audit.next - 1

-- without bridges and leases
abbrev pub reloaded_book : List Row → State → BookState
reloaded_book rows s = loaded s.book.settings (last_given s) rows

-- the rows that count
abbrev pub reloaded_rows : List Row → State → List Row
reloaded_rows rows s = counted (length s.book.settings) (last_given s) rows

-- the next id goes on
abbrev pub reloaded_audit : List Row → State → AuditState
reloaded_audit rows s = audit_of (period_by s.configuration) s.audit.next (reloaded_rows rows s)

-- the latest begun or ended moment of its recoveries, if that is later
abbrev pub reloaded_moment : List Row → State → ℕ
reloaded_moment rows s = latest_recovery s.moment (reloaded_audit rows s).recoveries

-- when a restart ends the unended recoveries
abbrev pub interrupted_at : List Row → State → Moment
interrupted_at rows s = record { 0 = reloaded_moment rows s }

-- what is kept anew
abbrev pub restart_changes : List Row → State → List Change
restart_changes rows s = loading (period_by s.configuration) (reloaded_rows rows s) (reloaded_audit rows s) (interrupted_at rows s)
