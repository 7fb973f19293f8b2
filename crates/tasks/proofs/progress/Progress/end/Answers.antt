use Rattle.std.proofs.Common.{refl, sym}
use Rattle.tasks.proofs.Sends.{all_taken, held_on, sink_failed}
use Rattle.tasks.proofs.progress.Progress.end.Goals as goal

pub returns-then-has_failed : goal.returns-then-has_failed
returns-then-has_failed g c = λ from text carries.
    sink_failed _ c.hand_over.new.self.held.items _ c.hand_over.new.self.failed (sym c.if-has_failed.ensures)
    (c.hand_over.ensures.stays from _ (held_on _ c.args.self.pieces c.add_tables.new.self _ text c.add_tables.ensures.failed c.in-Ok.ensures.ok carries))

pub returns : goal.returns
returns g c = (
  λ from text carries.
      all_taken _ c.hand_over.new.self.held.items _ c.hand_over.new.self.failed (sym c.if-has_failed.ensures) (c.hand_over.ensures.held (sym c.if-has_failed.ensures))
      (c.hand_over.ensures.stays from _ (held_on _ c.args.self.pieces c.add_tables.new.self _ text c.add_tables.ensures.failed c.in-Ok.ensures.ok carries)),
  refl,
)
