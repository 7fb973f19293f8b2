use Rattle.std.proofs.Common.{◌≡◌, ◌∙◌}
use Rattle.scenario_reader.specs.AliasTable.{alias_at, passes_by}
use Rattle.scenario_reader.proofs.PatternLemmas.{mapped_more}
use Rattle.scenario_reader.proofs.answers.answers.Goals as goal

pub loop-server-preserved : goal.loop-server-preserved
loop-server-preserved c =
    let told : c.in_ok-passes.field-0 ≡ passes_by (alias_at c.args.aliases.now) c.args.filters.now c.server-item.result = rw (← c.as_str-cluster.ensures) c.in_ok-passes.ensures.exact in
    record {
      told = c.in_ok-push.ensures.items
          ∙ mapped_more (passes_by (alias_at c.args.aliases.now) c.args.filters.now) c.args.servers.now c.loop-server.server-index
          c.server-item.result c.loop-server.answers.items c.in_ok-passes.field-0 c.loop-server-test.true c.server-item.is told c.loop-server.invariant.told;
      known = c.in_ok-passes.ensures.known;
    }
