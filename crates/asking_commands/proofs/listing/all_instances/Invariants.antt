use Rattle.std.proofs.Common.{◌≡◌, map, take, filter}
use Rattle.commands.specs.declared.line.Line.TheVariants as line
use Rattle.book_views.specs.Sources.{is_instance}
use Rattle.asking_commands.proofs.listing.all_instances.Given as goal

abbrev pub invariant-loop-no : goal.invariant-loop-no
invariant-loop-no l = l.lines.items ≡ map line.Server (filter (is_instance l.book) (take l.no-index l.order))
