use Rattle.std.proofs.Common.{◌≡◌, ◌++◌, drop}
use Rattle.scenario_dump.proofs.Prelude.{compact_text, count_data, flush_points, flushed_from, items_of, items_text, list_data}
use Rattle.scenario_dump.proofs.files.print_points.Given as goal

abbrev pub invariant-loop-count : goal.invariant-loop-count
invariant-loop-count l =
    l.out.items ++ items_text l.later (items_of count_data (flushed_from l.fn.limit l.fn.log.log.files l.count l.file (drop l.count l.fn.log.log.entries))) ≡ l.fn.out.items ++ compact_text (list_data count_data (flush_points l.fn.limit l.fn.log.log))
