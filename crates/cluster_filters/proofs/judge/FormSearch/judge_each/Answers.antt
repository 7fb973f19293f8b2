use Rattle.std.proofs.Common.{◌∙◌}
use Rattle.cluster_filters.specs.Judging.{form_sought, judged_by}
use Rattle.cluster_filters.proofs.Mapped.{mapped_all, mapped_step}
use Rattle.cluster_filters.proofs.judge.FormSearch.judge_each.Goals as goal

pub loop-cluster-preserved : goal.loop-cluster-preserved
loop-cluster-preserved c = record {
  after = mapped_step (judged_by (form_sought c.args.self.now)) c.args.clusters.now c.loop-cluster.clusters c.loop-cluster.cluster-index c.judge.new.cluster _
      c.loop-cluster.invariant.after c.loop-cluster-test.true (rw c.loop-cluster.invariant.same at c.judge.ensures.after);
  same = c.judge.ensures.same ∙ c.loop-cluster.invariant.same;
}

pub returns : goal.returns
returns c = c.loop-cluster.invariant.after ∙ mapped_all (judged_by (form_sought c.args.self.now)) c.loop-cluster.cluster-index c.args.clusters.now c.loop-cluster-test.false
