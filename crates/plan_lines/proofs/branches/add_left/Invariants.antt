use Rattle.std.proofs.Common.{◌≡◌, ◌++◌, take, filter_map}
use Rattle.plan_lines.proofs.Prelude.{ground_by, left, way_of}
use Rattle.plan_lines.proofs.branches.add_left.Given as goal

abbrev pub invariant-loop-replica : goal.invariant-loop-replica
invariant-loop-replica l =
    l.lines.items
    ≡ l.initial.lines.items ++ filter_map (λ d. left l.by.book.now d (way_of (ground_by l.by) l.failed l.successor d)) (take l.replica-index l.list)
