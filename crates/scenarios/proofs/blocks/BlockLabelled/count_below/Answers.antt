use Rattle.std.proofs.Common.{rules}
use Rattle.scenarios.proofs.Prelude.{Block, IsPartitionPoint-from_clause, block_label, is_lt}
use Rattle.scenarios.proofs.Places.{order, parted}
use Rattle.scenarios.proofs.blocks.BlockLabelled.count_below.Goals as goal

pub returns-clause-point : goal.returns-clause-point
returns-clause-point c = λ rising.
    IsPartitionPoint-from_clause (λ (own : Block). is_lt (order block_label c.args.label.now own)) _ _ c.partition_point.ensures.partitioned (parted block_label c.args.label.now c.args.entries.now rising) (λ a r q k. search rules)
