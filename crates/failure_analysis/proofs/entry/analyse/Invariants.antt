use Rattle.std.proofs.Common.{◌≡◌, take, filter_map}
use Rattle.failure_analysis.proofs.Prelude.{entry_at}
use Rattle.failure_analysis.proofs.entry.analyse.Given as goal

abbrev pub invariant-loop-no : goal.invariant-loop-no
invariant-loop-no l = l.entries.items ≡ filter_map (entry_at l.book) (take l.no-index l.order)
