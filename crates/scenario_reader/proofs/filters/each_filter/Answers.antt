use Rattle.std.proofs.Common.{string_bytes}
use Rattle.scenario_reader.proofs.Prelude.{filter_in, map-append, next_read}
use Rattle.scenario_reader.proofs.PatternLemmas.{pattern_pushed}
use Rattle.scenario_reader.proofs.filters.each_filter.Goals as goal

pub loop-number-preserved : goal.loop-number-preserved
loop-number-preserved c = record {
  so_far = rw (c.in_ok-push.ensures.items, map-append) (next_read (λ n d. filter_in d) c.args.items.now c.loop-number.number _ _ _ c.loop-number-test.true c.index-items-number.is c.in_ok-filter_at.ensures.exact c.loop-number.invariant.so_far);
  patterns = rw c.in_ok-push.ensures.items (pattern_pushed string_bytes c.loop-number.texts.items c.in_ok-filter_at.field-0 c.loop-number.invariant.patterns c.in_ok-filter_at.ensures.read);
}
