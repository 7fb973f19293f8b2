-- The plan of a job that goes one way: its operations, a line each.
use Rattle.std.specs.Prelude.{Bool, true, false, List, Option, Some, None, filter_map}
use Rattle.plan_lines.specs.Prelude.{BookState, Expect, Line, Op, is_auto}
use Rattle.plan_lines.specs.Prelude.expect
use Rattle.plan_lines.specs.Prelude.line
use Rattle.plan_lines.specs.Prelude.op
use Rattle.plan_lines.specs.Pieces.{as_told}

-- a server in auto position keeps it
abbrev pub attached_as : Bool → Expect
attached_as true = expect.AttachedByAuto
attached_as false = expect.AsTold

abbrev pub detached_as : Bool → Expect
detached_as true = expect.DetachedByAuto
detached_as false = expect.AsTold

-- the line of an operation; none of the end
abbrev pub straight_line : BookState → Op → Option Line
straight_line b (op.Status n from) = Some (as_told (op.Status n from))
straight_line b (op.Stop n) = Some (as_told (op.Stop n))
straight_line b (op.StopReceiver n) = Some (as_told (op.StopReceiver n))
straight_line b (op.Start n) = Some (as_told (op.Start n))
straight_line b (op.Reset n) = Some (as_told (op.Reset n))
straight_line b (op.Detach n) = Some (line.Does (op.Detach n) (attached_as (is_auto b n)))
straight_line b (op.Reattach n) = Some (line.Does (op.Reattach n) (detached_as (is_auto b n)))
straight_line b (op.ReadOnly n on) = Some (as_told (op.ReadOnly n on))
straight_line b (op.Until n aim) = Some (as_told (op.Until n aim))
straight_line b (op.Await n aim) = Some (as_told (op.Await n aim))
straight_line b (op.AwaitSet n m) = Some (as_told (op.AwaitSet n m))
straight_line b (op.Settle n) = Some (as_told (op.Settle n))
straight_line b (op.Cross c n m) = Some (as_told (op.Cross c n m))
straight_line b (op.Same n) = Some (as_told (op.Same n))
straight_line b (op.Auto n m) = Some (as_told (op.Auto n m))
straight_line b (op.Match n m every) = Some (as_told (op.Match n m every))
straight_line b (op.CrossMatch n m) = Some (as_told (op.CrossMatch n m))
straight_line b (op.Finish lines) = None

abbrev pub straight_lines : BookState → List Op → List Line
straight_lines b ops = filter_map (straight_line b) ops
