-- An audit with more recoveries after its own.
use Rattle.std.specs.Prelude.{ℕ, ◌++◌, Result, Ok, Err}
use Rattle.audit_log.specs.declared.held.Held.{Held}
use Rattle.audit_log.specs.declared.held.Held.TheVariants as held
use Rattle.audit_log.specs.Audits.{AuditState}

-- the recoveries of both, and the next id of the second
abbrev pub extended : AuditState → AuditState → AuditState
extended a more = record { recoveries = a.recoveries ++ more.recoveries; next = more.next }

-- what both answer: one that isn't ended holds a begin back before one that blocks, and of those that block the last
abbrev pub either_held : Result ℕ Held → Result ℕ Held → Result ℕ Held
either_held (Err (held.Unended id)) second = Err (held.Unended id)
either_held (Err (held.Blocked id until)) (Err h) = Err h
either_held (Err (held.Blocked id until)) (Ok next) = Err (held.Blocked id until)
either_held (Ok next) second = second
