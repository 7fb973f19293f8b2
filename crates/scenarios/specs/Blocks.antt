-- The block periods of single clusters.
use Rattle.std.specs.Prelude.{ℕ, nat_eq, if◌then◌else◌, List, [], ◌∷◌}
use Rattle.std.specs.Cmp.Lexicographic.{pointwise}
use Rattle.scenarios.specs.declared.blocks.Block.{Block}

-- the block period of a cluster: that of the first entry with its label, and else this one
abbrev pub period_in : List Block → ℕ → List ℕ → ℕ
period_in [] block cluster = block
period_in (b ∷ bs) block cluster = if pointwise nat_eq b.cluster cluster then b.seconds else period_in bs block cluster
