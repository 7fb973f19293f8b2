-- Block periods are at most 1,000,000,000 seconds.
use Rattle.std.proofs.Common.{ℕ, ◌≤◌, Bool, true, false, List, [], ◌∷◌, All, nat_eq, if◌then◌else◌}
use Rattle.orch_core.proofs.Prelude.{All-head, All-tail, Block, IsState, ServerNo, State, by_hand, label_at, longest_block, numbers_of, period_by}
use Rattle.orch_core.proofs.Prelude.{period_in, pointwise}

pub short-in : (bs : List Block) (block : ℕ) (cluster : List ℕ) → All (λ b. b.seconds ≤ longest_block) bs → block ≤ longest_block → period_in bs block cluster ≤ longest_block
short-in [] block cluster all short = short
short-in (b ∷ bs) block cluster all short = go (pointwise nat_eq b.cluster cluster) (short-in bs block cluster (All-tail (λ (x : Block). x.seconds ≤ longest_block) b bs all) short)
  where
    go : (c : Bool) → period_in bs block cluster ≤ longest_block → (if c then b.seconds else period_in bs block cluster) ≤ longest_block
    go true rest = All-head (λ (x : Block). x.seconds ≤ longest_block) b bs all
    go false rest = rest

pub period-short : (s : State) → IsState s → (cluster : List ℕ) → period_by s.configuration cluster ≤ longest_block
period-short s is cluster = short-in s.configuration.blocks s.configuration.block cluster is.blocks is.block

-- that of a server's recovery for which an operator asks
pub hand-short : (s : State) → IsState s → (i : ServerNo) → (by_hand s.book s.configuration (numbers_of s) i).block ≤ longest_block
hand-short s is i = period-short s is (label_at s.book i)
