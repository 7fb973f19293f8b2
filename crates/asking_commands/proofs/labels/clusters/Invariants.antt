use Rattle.std.proofs.Common.{◌≡◌, ℕ, List, Bor, ◌++◌, map, drop}
use Rattle.commands.specs.declared.line.Line.TheVariants as line
use Rattle.asking_commands.specs.Labels.{each_once}
use Rattle.asking_commands.proofs.labels.clusters.Given as goal

abbrev pub invariant-loop-k : goal.invariant-loop-k
invariant-loop-k l =
    l.lines.items ++ map line.Cluster (each_once (map (λ (label : Bor (List ℕ)). label.now) (drop l.k l.label-items)))
    ≡ map line.Cluster (each_once (map (λ (label : Bor (List ℕ)). label.now) l.label-items))
