use Rattle.std.proofs.Common.{◌≡◌, map, take, filter}
use Rattle.commands.specs.declared.line.Line.TheVariants as line
use Rattle.asking_commands.specs.Asking.{is_of_cluster}
use Rattle.asking_commands.proofs.listing.which_cluster_instances.Given as goal

abbrev pub invariant-loop-no : goal.invariant-loop-no
invariant-loop-no l = l.lines.items ≡ map line.Server (filter (is_of_cluster l.book l.label) (take l.no-index l.order))
