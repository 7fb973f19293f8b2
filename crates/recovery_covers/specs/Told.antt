-- That the lines of an outcome report a server.
use Rattle.std.specs.Prelude.{◌≡◌, List, Some, Contains, ◌⊎◌}
use Rattle.recovery_covers.specs.Prelude.{Follower, Line, LostReplica, Outcome, Purpose, ServerNo, told_why}
use Rattle.recovery_covers.specs.Prelude.line
use Rattle.recovery_covers.specs.Prelude.purpose

-- the line of the promoted server
abbrev pub leader_line : Purpose → ServerNo → Line
leader_line purpose.Regroup n = line.Server n
leader_line purpose.Master n = line.Promoted n
leader_line (purpose.Intermediate s) n = line.Successor n
leader_line (purpose.Takeover d) n = line.Promoted n

-- as the promoted one, as a follower or as lost
abbrev pub IsToldOf : Purpose → Outcome → List Line → ServerNo → Type 0
IsToldOf u o lines n =
    ((o.promoted ≡ Some n) × Contains lines (leader_line u n))
    ⊎ (((x : Follower) × Contains o.followers x × (x.no ≡ n) × Contains lines (line.Follows x.no x.source))
    ⊎ ((l : LostReplica) × Contains o.lost l × (l.no ≡ n) × Contains lines (told_why l.no l.detached l.why)))
