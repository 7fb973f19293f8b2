use Rattle.std.proofs.Common.{◌≡◌, ◌<◌, Some, None, sym, length, get_or}
use Rattle.topology_tree.proofs.Prelude.{IsMarked}
use Rattle.topology_tree.proofs.Marking.{named, Finished-next}
use Rattle.topology_tree.proofs.loops.walk_from.Goals as goal

pub returns-then-walks-node-clause-finished : goal.returns-then-walks-node-clause-finished
returns-then-walks-node-clause-finished c =
    Finished-next c.args.sources.now c.args.walks.now c.follow.new.walks c.args.start c.args.looped.now c.mark_loop.new.looped (Some c.in-Some.node)
    c.requires.range c.requires.closed c.in-Some.ensures.walked c.requires.finished c.mark_loop.ensures.kept c.mark_loop.ensures.marks
    (λ x e. (named (λ y. y < length c.args.sources.now) c.in-Some.node x e c.in-Some.ensures.within, named (λ y. get_or c.follow.new.walks y 0 < length c.args.sources.now) c.in-Some.node x e c.in-Some.ensures.met))
    (λ x e _. named (IsMarked c.mark_loop.new.looped) c.in-Some.node x e c.mark_loop.ensures.marked)

pub returns-else-walks-node-clause-finished : goal.returns-else-walks-node-clause-finished
returns-else-walks-node-clause-finished c =
    Finished-next c.args.sources.now c.args.walks.now c.follow.new.walks c.args.start c.args.looped.now c.args.looped.now (Some c.in-Some.node)
    c.requires.range c.requires.closed c.in-Some.ensures.walked c.requires.finished (λ _ h. h) c.requires.marks
    (λ x e. (named (λ y. y < length c.args.sources.now) c.in-Some.node x e c.in-Some.ensures.within, named (λ y. get_or c.follow.new.walks y 0 < length c.args.sources.now) c.in-Some.node x e c.in-Some.ensures.met))
    (λ x e here. absurd (c.if-walks-node.false (named (λ y. get_or c.follow.new.walks y 0 ≡ c.args.start) x c.in-Some.node (sym e) here)))

pub returns-in_default-clause-finished : goal.returns-in_default-clause-finished
returns-in_default-clause-finished c =
    Finished-next c.args.sources.now c.args.walks.now c.follow.new.walks c.args.start c.args.looped.now c.args.looped.now None
    c.requires.range c.requires.closed c.in_default.ensures.walked c.requires.finished (λ _ h. h) c.requires.marks
    (λ x e. cc)
    (λ x e _. cc)
