use Rattle.std.proofs.Common.{◌≡◌, ◌++◌, drop}
use Rattle.plan_texts.specs.Texts.{server_lines}
use Rattle.plan_texts.proofs.lines.print_servers.Given as goal

abbrev pub invariant-loop-no : goal.invariant-loop-no
invariant-loop-no l = l.out.items ++ server_lines l.names l.order (drop l.no-index l.order) ≡ l.fn.out.items ++ server_lines l.names l.order l.order
