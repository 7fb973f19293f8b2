use Rattle.std.proofs.Common.{◌≡◌, ℕ, List, map, sym, ap, ◌∙◌}
use Rattle.scenario_servers.proofs.Prelude.{Given, YieldsList-end, YieldsList-from_vec, YieldsList-from_zip, init_under, labels_of, zip}
use Rattle.scenario_servers.proofs.Zipped.{inits-zipped, map-pairs}
use Rattle.scenario_servers.proofs.inits.inits_of.Goals as goal

pub returns : goal.returns
returns c =
    let gs = c.args.given.items in
    let labels = c.in_ok-labels.labels.items in
    let it = c.into_iter-one-iterator.result in
    let start = c.into_iter-one-iterator.ensures.into_iter_gives in
    let first = ap (λ z. z.a) start ∙ c.zip-one-items.ensures.first in
    let gives = ap (λ i. i.rest.items) first ∙ c.into_iter.ensures.rest in
    let counts = ap (λ i. i.rest.len) first ∙ c.into_iter.ensures.len ∙ c.args.given.ok.0 in
    let second = c.zip-one-items.ensures.second in
    let others = ap (λ z. z.b.rest.items) start ∙ second.0 in
    let other_counts = ap (λ z. z.b.rest.len) start ∙ second.1 ∙ c.in_ok-labels.labels.ok.0 in
    let chain = YieldsList-from_zip {s = it} (YieldsList-from_vec {s = it.a} gs gives counts) (YieldsList-from_vec {s = it.b} labels others other_counts) in
    let all = YieldsList-end chain c.loop-one.yielded c.loop-one.one-iterator c.loop-one.yielded_by c.next.result c.next.new.self c.in-None.is c.next.ensures.steps in
    let pairs : c.loop-one.yielded ≡ zip gs labels = sym (map-pairs c.loop-one.yielded) ∙ all.0 in
    let labelled : labels ≡ labels_of gs = c.in_ok-labels.ensures ∙ ap labels_of c.deref.ensures.value in
    c.loop-one.invariant
    ∙ ap (map (λ (p : Given × List ℕ). init_under p.1 p.0)) (pairs ∙ ap (zip gs) labelled)
    ∙ inits-zipped gs 0 gs
