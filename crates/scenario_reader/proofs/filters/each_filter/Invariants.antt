use Rattle.std.proofs.Common.{map, string_bytes}
use Rattle.scenario_reader.proofs.Prelude.{HavePatterns, IsReadTo, filter_in}
use Rattle.scenario_reader.proofs.filters.each_filter.Given as goal

abbrev pub invariant-loop-number : goal.invariant-loop-number
invariant-loop-number l = record {
  so_far : IsReadTo (λ n d. filter_in d) l.items l.number (map string_bytes l.texts.items);
  patterns : HavePatterns (map string_bytes l.texts.items);
}
