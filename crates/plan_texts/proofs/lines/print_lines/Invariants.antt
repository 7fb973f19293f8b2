use Rattle.std.proofs.Common.{◌≡◌, ◌+◌, ◌++◌, [], drop, take}
use Rattle.plan_texts.specs.Texts.{line_texts}
use Rattle.plan_texts.proofs.lines.print_lines.Given as goal

abbrev pub invariant-loop-at : goal.invariant-loop-at
invariant-loop-at l =
    l.out.items ++ line_texts l.names l.order (1 + l.at) (take l.at l.lines) (drop l.at l.lines) ≡ l.fn.out.items ++ line_texts l.names l.order 1 [] l.lines
