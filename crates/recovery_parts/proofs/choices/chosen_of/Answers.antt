use Rattle.std.proofs.Common.{◌<◌, List, All, ap, sym, subst, ◌∙◌, length}
use Rattle.recovery_plans.specs.OrchBase.Names.{HostPort}
use Rattle.recovery_plans.specs.PromotionRules.declared.drained.Drained.{Drained}
use Rattle.recovery_plans.specs.PromotionRules.Choice.{most_advanced}
use Rattle.recovery_plans.specs.Deciding.{drained_of, stopped_in}
use Rattle.recovery_parts.specs.Grounds.{ground_by}
use Rattle.recovery_parts.proofs.Lists.{all-made}
use Rattle.recovery_parts.proofs.choices.chosen_of.Goals as goal

pub most_advanced-requires : goal.most_advanced-requires
most_advanced-requires c =
    subst (λ (names : List HostPort). All (λ (d : Drained). d.no.0 < length names) c.deref.result.now) (sym c.names.ensures)
    (all-made (λ (d : Drained). d.no.0 < length c.args.by.now.book.now.names) (drained_of (ground_by c.args.by.now) c.args.failed) c.args.list.now c.deref.result.now
    (c.deref.ensures.value ∙ c.in_ok-all.ensures) c.requires)

pub returns : goal.returns
returns c =
    c.stopped_in.ensures
    ∙ ap (stopped_in c.args.list.now)
    (c.most_advanced.ensures
    ∙ ap (λ (names : List HostPort). most_advanced names c.deref.result.now) c.names.ensures
    ∙ ap (most_advanced c.args.by.now.book.now.names) (c.deref.ensures.value ∙ c.in_ok-all.ensures))
