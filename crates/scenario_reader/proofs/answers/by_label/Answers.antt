use Rattle.scenario_reader.proofs.Prelude.{All-get_or, hash_map_updates_str}
use Rattle.scenario_reader.specs.AliasTable.{IsAnswer}
use Rattle.scenario_reader.proofs.AliasTables.{answer-more}
use Rattle.scenario_reader.proofs.answers.by_label.Goals as goal

pub loop-cluster-preserved : goal.loop-cluster-preserved
loop-cluster-preserved c = λ alias forms all.
    answer-more c.loop-cluster.known c.insert.new.self alias forms _ _
    (All-get_or (IsAnswer alias forms) c.args.clusters.now c.loop-cluster.cluster-index _ c.loop-cluster-test.true all)
    (hash_map_updates_str _ c.loop-cluster.known c.insert.new.self _ c.in_ok-insert.ensures.updates)
    (c.loop-cluster.invariant alias forms all)
