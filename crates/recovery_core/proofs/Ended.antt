-- The ends of entries.
use Rattle.std.proofs.Common.{◌≡◌, ℕ, ◌∙◌, true, false, refl, sym, ap, Option, Some, None}
use Rattle.recovery_core.proofs.Prelude.{AuditState, Ending, IsApart, JobStep, Moment, ServerNo, cause_name, done_with, ended, ended-apart, ending_of}
use Rattle.recovery_core.proofs.Prelude.{false≢true, is_acknowledged, is_going, is_open, is_takeover, same_Some}
use Rattle.recovery_core.proofs.Prelude.Recoveries.{Recovery}
use Rattle.recovery_core.proofs.Prelude.ending
use Rattle.recovery_core.proofs.Prelude.step

done-closed : (o : Option ServerNo) → is_open (done_with o) ≡ false
done-closed None = refl
done-closed (Some n) = refl

pub ending-closed : (r : Recovery) (s : JobStep) (e : Ending) → ending_of r s ≡ Some e → is_open e ≡ false
ending-closed r step.Going e h = cc
ending-closed r (step.Done lines) e h = ap is_open (sym (same_Some (done_with r.outcome.promoted) e h)) ∙ done-closed r.outcome.promoted
ending-closed r (step.Failed c lines) e h = ap is_open (sym (same_Some (ending.Failed (cause_name c)) e h))

pub ending-apart : (a : AuditState) (id : ℕ) (at : Moment) (r : Recovery) (s : JobStep) (e : Ending) → ending_of r s ≡ Some e → IsApart a → IsApart (ended a id at e)
ending-apart a id at r s e h apart = ended-apart a id at e (ending-closed r s e h) apart

pub going-unended : (r : Recovery) (s : JobStep) → is_going s ≡ true → ending_of r s ≡ None
going-unended r step.Going h = refl
going-unended r (step.Done lines) h = absurd (false≢true h)
going-unended r (step.Failed c lines) h = absurd (false≢true h)

pub unended-going : (r : Recovery) (s : JobStep) → ending_of r s ≡ None → is_going s ≡ true
unended-going r step.Going h = refl
unended-going r (step.Done lines) h = cc
unended-going r (step.Failed c lines) h = cc

pub acknowledged-done : (r : Recovery) (s : JobStep) → is_acknowledged r s ≡ true → (is_takeover r.purpose ≡ true) × (is_going s ≡ false)
acknowledged-done r step.Going h = absurd (false≢true h)
acknowledged-done r (step.Done lines) h = (h, refl)
acknowledged-done r (step.Failed c lines) h = absurd (false≢true h)
