use Rattle.std.proofs.Common.{◌≡◌}
use Rattle.cluster_filters.specs.Judging.{form_sought, judged_by}
use Rattle.cluster_filters.proofs.Mapped.{mapped}
use Rattle.cluster_filters.proofs.judge.FormSearch.judge_each.Given as goal

abbrev pub invariant-loop-cluster : goal.invariant-loop-cluster
invariant-loop-cluster l = record {
  after : l.clusters ≡ mapped (judged_by (form_sought l.initial.self)) l.cluster-index l.initial.clusters;
  same : form_sought l.self ≡ form_sought l.initial.self;
}
