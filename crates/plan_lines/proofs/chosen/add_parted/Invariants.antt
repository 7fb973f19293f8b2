use Rattle.std.proofs.Common.{◌≡◌, ◌++◌, take, filter_map}
use Rattle.plan_lines.proofs.Prelude.{ground_by, lot_for, parted}
use Rattle.plan_lines.proofs.chosen.add_parted.Given as goal

abbrev pub invariant-loop-other : goal.invariant-loop-other
invariant-loop-other l =
    l.lines.items
    ≡ l.initial.lines.items ++ filter_map (λ s. parted l.by.book.now l.purpose s (lot_for l.means (ground_by l.by) l.failed l.p s)) (take l.other-index l.others)
