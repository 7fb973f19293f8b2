use Rattle.std.proofs.Common.{sym, ◌∙◌}
use Rattle.cluster_filters.specs.Forms.{form_matches, form_seen}
use Rattle.cluster_filters.proofs.ListLemmas.{list_any-map-at}
use Rattle.cluster_filters.proofs.filters.Filters.matches.Goals as goal

pub returns-then-branch : goal.returns-then-branch
returns-then-branch c =
    rw (← c.self.view_is, ← c.deref-filter-items.ensures.value)
    (sym (list_any-map-at (form_matches c.args.name.now c.args.alias.now) form_seen _ _ c.filter-item.result c.loop-filter-test.true c.filter-item.is
    (sym c.in_ok-matches.ensures ∙ c.if-branch.true)))
