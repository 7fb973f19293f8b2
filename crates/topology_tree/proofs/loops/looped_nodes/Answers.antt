use Rattle.std.proofs.Common.{◌≡◌, ◌<◌, ◌+◌, arith, sym, subst, length, get_or, ◌∙◌}
use Rattle.topology_tree.proofs.Chains.{read_at}
use Rattle.topology_tree.proofs.Marking.{Sought-skip, Sought-walk, Sought-items}
use Rattle.topology_tree.proofs.loops.looped_nodes.Goals as goal
use Rattle.topology_tree.proofs.loops.looped_nodes.Goals.{then-index-unmet, else-index-unmet}

pub loop-start-preserved : goal.loop-start-preserved
loop-start-preserved c =
    let lt : c.loop-start.start < length c.args.sources.now = omega arith in
    elim c.if-index-unmet.branch [
      | then-index-unmet w ↦
          let walks_len : length w.walk_from.new.walks ≡ length c.args.sources.now = omega (arith, c.loop-start.invariant.walks_len) in
          let looped_len : length w.walk_from.new.looped ≡ length c.args.sources.now = omega (arith, c.loop-start.invariant.looped_len) in
          rw (w.walks-is, w.looped-is) (Sought-items c.args.sources.now c.loop-start.walks c.loop-start.looped w.walk_from.new.walks w.walk_from.new.looped (c.loop-start.start + 1)
          (omega (arith, walks_len, c.loop-start.walks.ok.0, c.loop-start.invariant.walks_len)) (omega (arith, looped_len, c.loop-start.looped.ok.0, c.loop-start.invariant.looped_len))
          (Sought-walk c.args.sources.now c.loop-start.walks.items w.walk_from.new.walks c.loop-start.looped.items w.walk_from.new.looped c.loop-start.start
          c.loop-start.invariant lt walks_len looped_len w.walk_from.ensures.before w.walk_from.ensures.marks w.walk_from.ensures.finished
          (λ n h low. w.walk_from.ensures.kept n h (subst (λ xs. get_or xs n 0 < c.loop-start.start) (sym w.deref_mut.ensures.value) low)) w.walk_from.ensures.begun))
      | else-index-unmet w ↦
          rw (w.walks-is, w.looped-is) (Sought-skip c.args.sources.now c.loop-start.walks.items c.loop-start.looped.items c.loop-start.start lt c.loop-start.invariant
          (λ met. w.if-index-unmet.false (sym (read_at c.loop-start.walks.items c.loop-start.start c.index.result.now 0 (omega (arith, lt, c.loop-start.invariant.walks_len)) c.index.ensures) ∙ met)))
    ]
