use Rattle.std.proofs.Common.{false, rules, tests}
use Rattle.std.proofs.lemmas.Iterator.{YieldsList-from_map, YieldsList-from_slice, items_from_collect}
use Rattle.std.proofs.lemmas.Iterator.Consumers.{YieldsList-at}
use Rattle.scenario_reader.proofs.Prelude.{ServerInit}
use Rattle.scenario_reader.proofs.answers.none_pass.Goals as goal

pub returns : goal.returns
returns c =
    items_from_collect c.collect.result c.collect.ensures.ran
    (YieldsList-from_map _ (λ (i : ServerInit). false) (YieldsList-at c.map.ensures.source (YieldsList-from_slice c.args.servers.now c.iter.ensures.rest)) c.map.ensures.closure (λ x r q k. search (rules, tests)))
