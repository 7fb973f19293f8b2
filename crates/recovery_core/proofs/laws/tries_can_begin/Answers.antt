use Rattle.recovery_core.proofs.Beginning.{recovery-begins, recovery-block, recovery-moment, takeover-begins, takeover-block, takeover-moment}
use Rattle.recovery_core.proofs.laws.tries_can_begin.Goals as goal

pub returns : goal.returns
returns c = record {
  recovery = λ w b audit a wait last f x is within short h. recovery-begins w b audit a wait last is short f x within h;
  takeover = λ w b audit a wait last i d x is within there short h. takeover-begins w b audit a wait last is short i d x within there h;
  recovery_moment = λ w b audit a wait job f x h. recovery-moment w b audit a wait job f x h;
  takeover_moment = λ w b audit a wait job i d x h. takeover-moment w b audit a wait job i d x h;
  recovery_block = λ w b audit a wait job f x h. recovery-block w b audit a wait job f x h;
  takeover_block = λ w b audit a wait job i d x h. takeover-block w b audit a wait job i d x h;
}
