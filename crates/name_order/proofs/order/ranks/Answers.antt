use Rattle.std.proofs.Common.{◌∙◌, arith}
use Rattle.name_order.proofs.Prelude.{length-set}
use Rattle.name_order.proofs.Placing.{number_below, one_placed, all_placed}
use Rattle.name_order.proofs.order.ranks.Goals as goal

pub index_mut-requires : goal.index_mut-requires
index_mut-requires c =
    let below = number_below c.args.order.now c.requires.order c.loop-rank.rank (record { 0 = 0 }) c.loop-rank-test.true in
    omega (arith, below, c.loop-rank.invariant.len)

pub loop-rank-preserved : goal.loop-rank-preserved
loop-rank-preserved c = record {
  len = length-set c.loop-rank.ranks.items _ _ ∙ c.loop-rank.invariant.len;
  placed = one_placed c.args.order.now c.requires.order c.loop-rank.ranks.items c.loop-rank.rank (record { 0 = 0 }) c.loop-rank.invariant.len c.loop-rank-test.true c.loop-rank.invariant.placed;
}

pub returns : goal.returns
returns c = all_placed c.args.order.now c.requires.order c.loop-rank.ranks.items c.loop-rank.invariant.len (λ k d below. c.loop-rank.invariant.placed k d (omega (arith, below, c.loop-rank-test.false)))
