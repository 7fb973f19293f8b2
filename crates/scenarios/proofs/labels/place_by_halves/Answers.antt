use Rattle.std.proofs.Common.{◌∙◌, ◌<◌, sym, ap, length, arith, nat_eq}
use Rattle.scenarios.proofs.Prelude.{pointwise}
use Rattle.scenarios.proofs.Places.{place_none, place_past, place_there}
use Rattle.scenarios.proofs.labels.place_by_halves.Goals as goal

pub returns-then-at-entries : goal.returns-then-at-entries
returns-then-at-entries g c =
    place_past g.T.Labelled.label_of c.args.label.now c.args.entries.now c.count_below-at.result (c.count_below-at.ensures.point c.requires) c.if-at-entries.true

pub returns-then-eq : goal.returns-then-eq
returns-then-eq g c =
    let label = c.args.label.now in
    let within : c.count_below-at.result < length c.args.entries.now = omega (arith, c.count_below-at.ensures.within) in
    let has = ap (λ l. pointwise nat_eq l label) (sym c.label.ensures) ∙ sym c.eq.ensures ∙ c.if-eq.true in
    place_there g.T.Labelled.label_of label c.args.entries.now c.count_below-at.result c.index-entries-at.result (c.count_below-at.ensures.point c.requires) within c.index-entries-at.is has

pub returns-else-eq : goal.returns-else-eq
returns-else-eq g c =
    let label = c.args.label.now in
    let within : c.count_below-at.result < length c.args.entries.now = omega (arith, c.count_below-at.ensures.within) in
    let lacks = ap (λ l. pointwise nat_eq l label) (sym c.label.ensures) ∙ sym c.eq.ensures ∙ c.if-eq.false in
    place_none g.T.Labelled.label_of label c.args.entries.now c.count_below-at.result c.index-entries-at.result c.requires (c.count_below-at.ensures.point c.requires) within c.index-entries-at.is lacks
