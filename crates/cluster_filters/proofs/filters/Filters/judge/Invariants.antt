use Rattle.std.proofs.Common.{◌≡◌, map, take}
use Rattle.cluster_filters.specs.Forms.{form_seen}
use Rattle.cluster_filters.specs.Judging.{judged}
use Rattle.cluster_filters.proofs.filters.Filters.judge.Given as goal

abbrev pub invariant-loop-filter : goal.invariant-loop-filter
invariant-loop-filter l = l.clusters ≡ map (judged (map form_seen (take l.filter-index l.filter-items))) l.initial.clusters
