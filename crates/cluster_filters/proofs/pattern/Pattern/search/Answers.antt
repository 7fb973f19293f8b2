use Rattle.cluster_filters.proofs.PatternLemmas.{is_found-read}
use Rattle.cluster_filters.proofs.pattern.Pattern.search.Goals as goal

pub invariant_of-result : goal.invariant_of-result
invariant_of-result c text bytes =
    let kept = c.self.invariant in
    rw (c.in_ok-matcher.ensures.pattern, ← c.self.view_is) (is_found-read c.self.inside.regex kept.0 kept.1 text bytes)
