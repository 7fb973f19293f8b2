-- What is expected of the replicas of a failed server, by the book as it is.
use Rattle.std.specs.Prelude.{List, [], ◌∷◌, if◌then◌else◌, filter_map, Option, Some, None}
use Rattle.plan_lines.specs.Prelude.{BookState, Coord, Instance, Line, ServerNo, Status, Stopped, drain, flat_map, instance_at, is_valid}
use Rattle.plan_lines.specs.Prelude.expect
use Rattle.plan_lines.specs.Prelude.line
use Rattle.plan_lines.specs.Prelude.op
use Rattle.plan_lines.specs.Pieces.{judged}

-- how far a replica comes that is drained: if its applier is on, to the end of what it has received
abbrev pub comes_to : Status → Coord
comes_to s = if s.sql then s.read else s.exec

abbrev pub stopped_of : ServerNo → Instance → Stopped
stopped_of n i = record { no = n; exec = comes_to i.seen; own_end = i.seen.own_end }

-- one that the last reading reached is drained there
abbrev pub expected_at : ServerNo → Option Instance → Option Stopped
expected_at n None = None
expected_at n (Some i) = if i.valid then Some (stopped_of n i) else None

abbrev pub expected : BookState → List ServerNo → List Stopped
expected b ns = filter_map (λ n. expected_at n (instance_at b n)) ns

-- a replica of f is drained, or is lost because it isn't reached
abbrev pub drained : BookState → ServerNo → ServerNo → List Line
drained b f n = if is_valid b n then judged f (drain n) else line.Does (op.StopReceiver n) expect.Gone ∷ []

abbrev pub all_drained : BookState → ServerNo → List ServerNo → List Line
all_drained b f ns = flat_map (λ n. drained b f n) ns
