use Rattle.std.proofs.Common.{subst, sym}
use Rattle.tasks.proofs.Prelude.{Carries, append-nil}
use Rattle.tasks.proofs.Sends.{all_taken, sink_failed}
use Rattle.tasks.proofs.progress.Progress.cut.Goals as goal

pub returns-then-has_failed : goal.returns-then-has_failed
returns-then-has_failed g c = λ from text carries.
    sink_failed _ c.hand_over.new.self.held.items _ c.hand_over.new.self.failed (sym c.if-has_failed.ensures) (subst (Carries _ c.hand_over.new.self) (sym (append-nil text)) (c.hand_over.ensures.stays from text carries))

pub returns : goal.returns
returns g c = λ from text carries.
    all_taken _ c.hand_over.new.self.held.items _ c.hand_over.new.self.failed (sym c.if-has_failed.ensures) (c.hand_over.ensures.held (sym c.if-has_failed.ensures)) (subst (Carries _ c.hand_over.new.self) (sym (append-nil text)) (c.hand_over.ensures.stays from text carries))
