use Rattle.std.proofs.Common.{◌≡◌, ◌++◌, drop}
use Rattle.scenario_servers.proofs.Prelude.{labels_from, labels_of}
use Rattle.scenario_servers.proofs.labels.labels_of.Given as goal

abbrev pub invariant-loop-n : goal.invariant-loop-n
invariant-loop-n l = l.labels.items ++ labels_from l.given l.n (drop l.n l.given) ≡ labels_of l.given
