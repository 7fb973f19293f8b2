-- The block periods of single clusters.
use Rattle.std.specs.Prelude.{ℕ, List, Result, Ok}
use Rattle.scenario_reader.specs.Prelude.{Block, Data, Fault, each_member, label_or_fails, members_in, number_in}
use Rattle.scenarios.specs.OrchBase.Gives.{◌>>=◌}

-- a block period in seconds
abbrev pub period_in : Data → Result ℕ Fault
period_in d = number_in 0 1000000000 d

-- the block period of a cluster's label, which has 1 to 261 bytes
unfoldable pub block_in : List ℕ → Data → Result Block Fault
block_in label d = do
  cluster ← label_or_fails label
  seconds ← period_in d
  Ok (record { cluster = cluster; seconds = seconds })

-- the labels by their bytes, in the order of an object's members
unfoldable pub blocks_in : Data → Result (List Block) Fault
blocks_in d = do
  ms ← members_in d
  each_member block_in ms
