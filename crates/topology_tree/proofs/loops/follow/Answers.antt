use Rattle.std.proofs.Common.{◌≡◌, ◌<◌, arith, subst, length}
use Rattle.topology_tree.proofs.Prelude.{Walked, common_steps}
use Rattle.topology_tree.proofs.Marking.{Walked-begin, Walked-step, above-closed, in_range}
use Rattle.topology_tree.proofs.loops.follow.Goals as goal

pub loop-at-init : goal.loop-at-init
loop-at-init c =
    record {
      len = grind (arith, common_steps);
      begun = grind (arith, common_steps);
      walked = Walked-step c.args.sources.now c.args.walks.now c.args.walks.now c.args.start c.args.start c.requires.range (omega (arith, c.requires.range, c.requires.len)) c.requires.fresh
          (Walked-begin c.args.sources.now c.args.walks.now c.args.start c.requires.range c.requires.before);
      within = above-closed c.args.sources.now c.args.start c.requires.closed;
    }

pub loop-at-preserved : goal.loop-at-preserved
loop-at-preserved c =
    let range : c.in-Some.node < length c.args.sources.now = in_range c.loop-at.at c.in-Some.node (length c.args.sources.now) c.in-Some.is c.loop-at.invariant.within in
    let len : length c.loop-at.walks ≡ length c.args.sources.now = c.loop-at.invariant.len in
    record {
      len = grind (arith, common_steps);
      begun = grind (arith, common_steps);
      walked = Walked-step c.args.sources.now c.args.walks.now c.loop-at.walks c.args.start c.in-Some.node c.requires.range (omega (arith, range, len)) c.if-walks-node.false
          (subst (Walked c.args.sources.now c.args.walks.now c.loop-at.walks c.args.start) c.in-Some.is c.loop-at.invariant.walked);
      within = above-closed c.args.sources.now c.in-Some.node c.requires.closed;
    }
