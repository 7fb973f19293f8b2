use Rattle.std.proofs.Common.{◌≡◌, ◌++◌, take, filter_map}
use Rattle.plan_lines.proofs.Prelude.{chosen_line, ground_by}
use Rattle.plan_lines.proofs.chosen.add_chosen.Given as goal

abbrev pub invariant-loop-other : goal.invariant-loop-other
invariant-loop-other l =
    l.lines.items ≡ l.initial.lines.items ++ filter_map (chosen_line (ground_by l.by) l.failed l.p) (take l.other-index l.others)
