use Rattle.std.proofs.Common.{ℕ, List, All}
use Rattle.cluster_filters.specs.Forms.{Form}
use Rattle.scenario_reader.specs.AliasTable.{AreKnown, IsAnswer}
use Rattle.scenario_reader.proofs.answers.by_label.Given as goal

abbrev pub invariant-loop-cluster : goal.invariant-loop-cluster
invariant-loop-cluster l = (alias : List ℕ → List ℕ) (forms : List Form) → All (IsAnswer alias forms) l.clusters → AreKnown l.known alias forms
