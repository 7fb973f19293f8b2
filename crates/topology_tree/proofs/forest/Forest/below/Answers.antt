use Rattle.std.proofs.Common.{◌≡◌, ◌+◌, Some, arith, refl, ◌∙◌, inl, inr, ap}
use Rattle.topology_tree.proofs.Prelude.{Direct, Follows, Further, above}
use Rattle.topology_tree.proofs.Levels.{level, level-above}
use Rattle.topology_tree.proofs.Chains.{next_follows, read_above}
use Rattle.topology_tree.proofs.forest.Forest.below.Goals as goal

pub returns-then-parent-b : goal.returns-then-parent-b
returns-then-parent-b c =
    let e : above c.self.inside.parents.items c.loop-parent.at ≡ Some c.in-Some.parent =
    read_above c.self.inside.parents.items c.loop-parent.at c.index.result.now c.loop-parent.invariant.range c.index.ensures ∙ c.in-Some.is
    in
    let met : Follows (above c.self.inside.parents.items) c.args.b c.args.a =
    c.loop-parent.invariant.back (Direct c.loop-parent.at (e ∙ ap Some c.if-parent-b.true))
    in
    (λ _. rw (← c.self.view_is) met, λ _. refl)

pub loop-parent-smaller : goal.loop-parent-smaller
loop-parent-smaller c =
    let e : above c.self.inside.parents.items c.loop-parent.at ≡ Some c.in-Some.parent =
    read_above c.self.inside.parents.items c.loop-parent.at c.index.result.now c.loop-parent.invariant.range c.index.ensures ∙ c.in-Some.is
    in
    let up : level c.self.inside.parents.items c.loop-parent.at ≡ level c.self.inside.parents.items c.in-Some.parent + 1 =
    level-above c.self.inside.parents.items c.loop-parent.at c.in-Some.parent c.self.invariant.forest.ends c.self.invariant.forest.closed c.loop-parent.invariant.range e
    in
    omega (arith, up)

pub loop-parent-preserved : goal.loop-parent-preserved
loop-parent-preserved c =
    let e : above c.self.inside.parents.items c.loop-parent.at ≡ Some c.in-Some.parent =
    read_above c.self.inside.parents.items c.loop-parent.at c.index.result.now c.loop-parent.invariant.range c.index.ensures ∙ c.in-Some.is
    in
    record {
      range = c.self.invariant.forest.closed c.loop-parent.at c.in-Some.parent e;
      on = λ h. elim (next_follows (above c.self.inside.parents.items) c.args.b c.loop-parent.at c.in-Some.parent e (c.loop-parent.invariant.on h)) [
        | inl same ↦ absurd (c.if-parent-b.false same)
        | inr further ↦ further
      ];
      back = λ h. c.loop-parent.invariant.back (Further c.loop-parent.at c.in-Some.parent e h);
    }
