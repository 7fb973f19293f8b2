use Rattle.std.proofs.Common.{◌≡◌, arith, subst, ℕ, refl, ◌∙◌}
use Rattle.openings.proofs.Joined.{Adds, Adds-none, Adds-more, Adds-all, Adds-fits}
use Rattle.openings.proofs.histories.add_part.Goals as goal

pub loop-init : goal.loop-init
loop-init c =
    (Adds-none (c.args.part.now.origin, c.args.part.now.size) c.args.taken c.args.history.now.items c.args.counts.now c.requires.origin c.requires.counts, refl)

pub overflow_add-seq : goal.overflow_add-seq
overflow_add-seq c =
    let small = Adds-fits (c.args.part.now.origin, c.args.part.now.size) c.args.taken c.loop.counter c.args.history.now.items c.loop.history.items c.loop.counts c.loop.invariant.0 in
    omega (arith, c.requires.few, c.args.history.now.ok.0)

pub push_reserved-requires : goal.push_reserved-requires
push_reserved-requires c = omega (arith, c.loop.invariant.0.len, c.loop.invariant.1, c.requires.room, c.loop-test.true, c.loop.history.ok.0, c.args.history.now.ok.0)

pub loop-preserved : goal.loop-preserved
loop-preserved c = (
  rw c.push_reserved.ensures.items
      (Adds-more (c.args.part.now.origin, c.args.part.now.size) c.args.taken c.loop.counter c.args.history.now.items c.loop.history.items c.loop.counts _ c.loop-test.true c.loop.invariant.0 refl),
  c.push_reserved.ensures.capacity ∙ c.loop.invariant.1,
)

pub returns : goal.returns
returns c =
    let all : c.loop.counter ≡ c.args.taken = omega (arith, c.loop-test.false, c.loop.auto.counter-end) in
    record {
      items = Adds-all (c.args.part.now.origin, c.args.part.now.size) c.args.taken c.args.history.now.items c.loop.history.items c.loop.counts
          (subst (λ (k : ℕ). Adds (c.args.part.now.origin, c.args.part.now.size) c.args.taken k c.args.history.now.items c.loop.history.items c.loop.counts) all c.loop.invariant.0);
      counts = c.loop.invariant.0.counts;
      capacity = c.loop.invariant.1;
    }
