use Rattle.std.proofs.Common.{◌≡◌, map, take}
use Rattle.commands.specs.declared.line.Line.TheVariants as line
use Rattle.asking_commands.proofs.listing.which_replicas.Given as goal

abbrev pub invariant-loop-no : goal.invariant-loop-no
invariant-loop-no l = l.lines.items ≡ map line.Server (take l.no-index l.no-items)
