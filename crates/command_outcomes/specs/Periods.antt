-- Block periods of clusters.
use Rattle.std.specs.Prelude.{ℕ, List}
use Rattle.command_outcomes.specs.Prelude.{period_in}
use Rattle.command_outcomes.specs.declared.configuration.Configuration.{Configuration}

-- of a cluster, by its label: its own, if it has one, and else that of all
abbrev pub period_by : Configuration → List ℕ → ℕ
period_by c cluster = period_in c.blocks c.block cluster
