use Rattle.std.proofs.Common.{◌∙◌, ap, map, sym}
use Rattle.std.proofs.lemmas.List.{take_all}
use Rattle.cluster_filters.specs.Forms.{form_seen}
use Rattle.cluster_filters.specs.Judging.{judged}
use Rattle.cluster_filters.proofs.Judging.{judged_more, judged_none}
use Rattle.cluster_filters.proofs.filters.Filters.judge.Goals as goal

pub loop-filter-init : goal.loop-filter-init
loop-filter-init c = sym (judged_none c.args.clusters.now)

pub loop-filter-preserved : goal.loop-filter-preserved
loop-filter-preserved c =
    c.in_ok-judge.ensures
    ∙ judged_more c.deref-filter-items.result.now c.loop-filter.filter-index _ c.filter-item.result c.args.clusters.now c.loop-filter.clusters c.loop-filter-test.true c.filter-item.is c.loop-filter.invariant

pub returns : goal.returns
returns c =
    c.loop-filter.invariant
    ∙ ap (λ fs. map (judged (map form_seen fs)) c.args.clusters.now) (take_all c.loop-filter.filter-index c.deref-filter-items.result.now c.loop-filter-test.false ∙ c.deref-filter-items.ensures.value)
    ∙ ap (λ forms. map (judged forms) c.args.clusters.now) c.self.view_is
