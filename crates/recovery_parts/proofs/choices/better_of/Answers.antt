use Rattle.std.proofs.Common.{◌<◌, List, All, ap, sym, subst, ◌∙◌, length}
use Rattle.std.proofs.lemmas.Simd.{map-map}
use Rattle.recovery_plans.specs.OrchBase.Names.{HostPort}
use Rattle.recovery_plans.specs.PromotionRules.declared.drained.Drained.{Drained}
use Rattle.recovery_plans.specs.PromotionRules.Choice.{better}
use Rattle.recovery_plans.specs.Deciding.{follower_of}
use Rattle.recovery_plans.specs.declared.outcome.Follower.{Follower}
use Rattle.recovery_parts.specs.Grounds.{ground_by}
use Rattle.recovery_parts.proofs.Lists.{all-made}
use Rattle.recovery_parts.proofs.choices.better_of.Goals as goal

pub better-requires : goal.better-requires
better-requires c =
    subst (λ (names : List HostPort). All (λ (d : Drained). d.no.0 < length names) c.deref.result.now) (sym c.names.ensures)
    (all-made (λ (d : Drained). d.no.0 < length c.args.by.now.book.now.names) (λ (x : Follower). follower_of (ground_by c.args.by.now) c.args.failed x.no) c.args.list.now c.deref.result.now
    (c.deref.ensures.value ∙ c.in_ok-all.ensures) c.requires.followers)

pub returns : goal.returns
returns c =
    let follower = follower_of (ground_by c.args.by.now) c.args.failed in
    c.better.ensures
    ∙ ap (λ (names : List HostPort). better names c.follower_of-of.result c.deref.result.now) c.names.ensures
    ∙ ap (λ (of : Drained). better c.args.by.now.book.now.names of c.deref.result.now) c.follower_of-of.ensures
    ∙ ap (better c.args.by.now.book.now.names (follower c.args.promoted))
    (c.deref.ensures.value ∙ c.in_ok-all.ensures ∙ sym (map-map follower (λ (x : Follower). x.no) c.args.list.now))
