use Rattle.std.proofs.Common.{◌≡◌, ◌++◌, drop}
use Rattle.report_text.specs.Told.{told_lines}
use Rattle.report_text.proofs.line.print_told_lines.Given as goal

abbrev pub invariant-loop-line : goal.invariant-loop-line
invariant-loop-line l = l.out.items ++ told_lines l.indent l.names (drop l.line-index l.lines) ≡ l.fn.out.items ++ told_lines l.indent l.names l.lines
