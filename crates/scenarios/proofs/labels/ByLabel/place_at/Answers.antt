use Rattle.std.proofs.Common.{◌≡◌, ◌∙◌, Some, ap, arith, nat_eq, rules, sym, true, slice_get}
use Rattle.scenarios.proofs.Prelude.{arc_value, common_steps, gets, pointwise}
use Rattle.scenarios.proofs.Places.{placed}
use Rattle.scenarios.proofs.labels.ByLabel.place_at.Goals as goal

pub returns-in-Some : goal.returns-in-Some
returns-in-Some g c =
    let own = c.in-Some.own.now in
    let cluster = c.args.cluster.now in
    let same : pointwise nat_eq own.label cluster ≡ true = ap (λ l. pointwise nat_eq l cluster) (sym c.as_str.ensures) ∙ sym c.eq.ensures ∙ c.if-eq.true in
    let at : slice_get c.self.inside.places.items c.args.server.0 ≡ Some own = grind (arith, common_steps, gets, rw c.in-Some.is at c.get.ensures.lookup, c.deref.ensures.value) in
    let found = placed g.T.Labelled.label_of (arc_value c.self.inside.list) c.self.inside.places.items c.args.server.0 own cluster c.self.invariant at same in
    search (rules, found)
