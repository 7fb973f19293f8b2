use Rattle.std.proofs.Common.{◌≡◌, map, take, filter, ◌&&◌, slice_index_or, false}
use Rattle.instance_keeper.specs.OrchBase.declared.server.ServerNo.{ServerNo}
use Rattle.commands.specs.declared.line.Line.TheVariants as line
use Rattle.book_views.specs.Sources.{is_instance}
use Rattle.asking_commands.proofs.listing.find.Given as goal

abbrev pub invariant-loop-no : goal.invariant-loop-no
invariant-loop-no l = l.lines.items ≡ map line.Server (filter (λ (server : ServerNo). is_instance l.book server && slice_index_or l.answers server.0 false) (take l.no-index l.order))
