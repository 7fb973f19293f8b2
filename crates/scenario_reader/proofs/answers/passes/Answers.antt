use Rattle.std.proofs.lemmas.Map.Text.{hash_map_updates_str}
use Rattle.std.proofs.Common.{◌≡◌, ◌∙◌, sym}
use Rattle.cluster_filters.specs.Forms.{some_matches}
use Rattle.scenario_reader.specs.AliasTable.{alias_at}
use Rattle.scenario_reader.proofs.AliasTables.{answer-more}
use Rattle.scenario_reader.proofs.answers.passes.Goals as goal

pub returns-clause-known : goal.returns-clause-known
returns-clause-known c =
    let told : c.in_ok-passes.passes ≡ some_matches c.args.cluster.now (alias_at c.args.aliases.now c.args.cluster.now) c.args.filters.now = rw (← c.alias_of.ensures) c.in_ok-passes.ensures in
    answer-more c.args.known.now c.insert.new.self (alias_at c.args.aliases.now) c.args.filters.now c.args.cluster.now c.in_ok-passes.passes told
    (hash_map_updates_str c.args.cluster.now c.args.known.now c.insert.new.self _ c.in_ok-insert.ensures.updates) c.requires

pub returns-in-Some-clause-exact : goal.returns-in-Some-clause-exact
returns-in-Some-clause-exact c = c.requires c.args.cluster.now c.in-Some.passes (sym c.get.ensures.value ∙ sym c.copied.ensures ∙ c.in-Some.is)
