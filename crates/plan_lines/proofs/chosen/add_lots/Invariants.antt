use Rattle.std.proofs.Common.{◌≡◌, ◌++◌, take}
use Rattle.plan_lines.proofs.Prelude.{flat_map, ground_by, lot_by, lot_lines}
use Rattle.plan_lines.proofs.chosen.add_lots.Given as goal

abbrev pub invariant-loop-other : goal.invariant-loop-other
invariant-loop-other l =
    l.lines.items
    ≡ l.initial.lines.items ++ flat_map (λ s. lot_lines l.p s (lot_by l.means (ground_by l.by) l.failed l.p s)) (take l.other-index l.others)
