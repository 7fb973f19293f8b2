use Rattle.std.proofs.Common.{◌≡◌, map, take}
use Rattle.asking_commands.specs.Lines.{recovery_line}
use Rattle.asking_commands.proofs.recoveries.recovery_lines.Given as goal

abbrev pub invariant-loop-recovery : goal.invariant-loop-recovery
invariant-loop-recovery l = l.lines.items ≡ map recovery_line (take l.recovery-index l.recoveries)
