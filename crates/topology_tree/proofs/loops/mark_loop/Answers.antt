use Rattle.std.proofs.Common.{◌≡◌, Some, arith, length}
use Rattle.topology_tree.proofs.Prelude.{above, common_steps}
use Rattle.topology_tree.proofs.Chains.{next_comes_back, same_step}
use Rattle.topology_tree.proofs.Marking.{Marking-step}
use Rattle.topology_tree.proofs.loops.mark_loop.Goals as goal

pub loop-looped-preserved-in-Some : goal.loop-looped-preserved-in-Some
loop-looped-preserved-in-Some c =
    let e : above c.args.sources.now c.loop-looped.at ≡ Some c.in-Some.source = c.in-Some.is in
    let len : length c.loop-looped.looped ≡ length c.args.sources.now = c.loop-looped.invariant.len in
    record {
      len = grind (arith, common_steps);
      range = c.requires.closed c.loop-looped.at c.in-Some.source e;
      marking = Marking-step (above c.args.sources.now) c.args.looped.now c.loop-looped.looped c.args.node c.loop-looped.at c.in-Some.source
          (omega (arith, len, c.loop-looped.invariant.range)) c.loop-looped.invariant.marking
          (λ m f. same_step (above c.args.sources.now) c.loop-looped.at m c.in-Some.source f e)
          (next_comes_back (above c.args.sources.now) c.loop-looped.at c.in-Some.source e c.loop-looped.invariant.marking.back);
    }
