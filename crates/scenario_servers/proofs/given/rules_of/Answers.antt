use Rattle.std.proofs.Common.{rules, tests}
use Rattle.scenario_servers.proofs.Prelude.{Given, YieldsList-at, YieldsList-from_map, YieldsList-from_slice, items_from_collect}
use Rattle.scenario_servers.proofs.given.rules_of.Goals as goal

pub returns : goal.returns
returns c =
    items_from_collect c.collect.result c.collect.ensures.ran
    (YieldsList-from_map _ (λ (g : Given). g.rule) (YieldsList-at c.map.ensures.source (YieldsList-from_slice c.args.given.now c.iter.ensures.rest)) c.map.ensures.closure (λ x r q k. search (rules, tests)))
