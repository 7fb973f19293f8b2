use Rattle.std.proofs.Common.{◌≡◌, ◌++◌, take}
use Rattle.plan_lines.proofs.Prelude.{flat_map, ground_by, handed, way_of}
use Rattle.plan_lines.proofs.branches.add_handed.Given as goal

abbrev pub invariant-loop-replica : goal.invariant-loop-replica
invariant-loop-replica l =
    l.lines.items
    ≡ l.initial.lines.items ++ flat_map (λ d. handed l.failed d (way_of (ground_by l.by) l.failed l.successor d)) (take l.replica-index l.list)
