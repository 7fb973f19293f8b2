-- The clusters' aliases.
use Rattle.std.specs.Prelude.{ℕ, List, Result, Ok}
use Rattle.scenario_reader.specs.Prelude.{Alias, Data, Fault, each_member, label_or_fails, members_in, text_in, text_within}
pub use Rattle.scenarios.specs.Aliases.{alias_of}
use Rattle.scenarios.specs.OrchBase.Gives.{◌>>=◌}

-- the alias of a cluster's label: the label has 1 to 261 bytes, the alias at most 255
unfoldable pub alias_in : List ℕ → Data → Result Alias Fault
alias_in label d = do
  cluster ← label_or_fails label
  text ← text_in d
  alias ← text_within 0 255 text
  Ok (record { cluster = cluster; alias = alias })

-- the labels by their bytes, in the order of an object's members
unfoldable pub aliases_in : Data → Result (List Alias) Fault
aliases_in d = do
  ms ← members_in d
  each_member alias_in ms
