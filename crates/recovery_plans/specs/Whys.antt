-- Why a replica is lost.
use Rattle.recovery_plans.specs.Prelude.{Cause, Coord, ServerNo, Spot}
use Rattle.recovery_plans.specs.Prelude.cause
use Rattle.recovery_plans.specs.Prelude.lost
use Rattle.recovery_plans.specs.declared.why.Miss.{Miss}
use Rattle.recovery_plans.specs.declared.why.Miss.TheVariants as miss
use Rattle.recovery_plans.specs.declared.why.Why.{Why}
use Rattle.recovery_plans.specs.declared.why.Why.TheVariants.{Lost, Unmatched}

abbrev pub ahead : Coord → Why
ahead c = Lost (lost.Ahead c)

abbrev pub behind : Coord → Why
behind c = Lost (lost.Behind c)

abbrev pub purged : Coord → Why
purged c = Lost (lost.Purged c)

abbrev pub unreachable : Why
unreachable = Lost lost.Unreachable

abbrev pub moved : Spot → Why
moved s = Lost (lost.Moved s)

abbrev pub not_logging : Why
not_logging = Lost lost.NotLogging

abbrev pub must_not : Why
must_not = Lost lost.MustNot

abbrev pub unmatched : Miss → Why
unmatched m = Unmatched m

-- the cause that a replica met
abbrev pub cause_of : ServerNo → Miss → Cause
cause_of n (miss.Unreachable k) = cause.Unreachable k
cause_of n miss.Running = cause.Running n
cause_of n (miss.Interfered expected found) = cause.Interfered n expected found
cause_of n miss.Loop = cause.Loop n
cause_of n (miss.Purged first) = cause.Purged n first
cause_of n miss.NoMark = cause.NoMark n
cause_of n (miss.Mismatch entry) = cause.Mismatch n entry
