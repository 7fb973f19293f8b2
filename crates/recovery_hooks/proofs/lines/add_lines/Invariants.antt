use Rattle.std.proofs.Common.{◌≡◌, ◌++◌, take}
use Rattle.recovery_hooks.specs.Runs.{lines_of}
use Rattle.recovery_hooks.proofs.lines.add_lines.Given as goal

abbrev pub invariant-loop-hook : goal.invariant-loop-hook
invariant-loop-hook l = l.lines.items ≡ l.initial.lines.items ++ lines_of l.phase l.values (take l.hook-index l.hooks)
