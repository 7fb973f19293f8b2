-- That what begins names no replica twice, and begins without overlap by the block periods of those before it.
use Rattle.std.specs.Prelude.{◌≡◌, ◌<◌, ℕ, All, Ok, length}
use Rattle.run_laws.specs.Prelude.{AreReplicas, Attempt, AuditState, Begins, BookState, Moment, ServerNo, World, recovery_try, replicas_of, scanned}
use Rattle.run_laws.specs.Prelude.{takeover_try}
use Rattle.run_laws.specs.Prelude.purpose
use Rattle.run_laws.specs.Begins.{BeginApartInTurn, BeginsApart, NamesReplicasOnce, entries_of}

-- ---- the replicas

abbrev pub RecoveriesNameOnce : Type 0
RecoveriesNameOnce = (w : World) (b : BookState) (audit : AuditState) (a : Attempt) (wait job : ℕ) (f : ServerNo) (x : Begins) → recovery_try w b audit a wait job f ≡ Ok x → NamesReplicasOnce b x

abbrev pub TakeoversNameOnce : Type 0
TakeoversNameOnce = (w : World) (b : BookState) (audit : AuditState) (a : Attempt) (wait job : ℕ) (i d : ServerNo) (x : Begins) → d.0 < length b.names → takeover_try w b audit a wait job i d ≡ Ok x → NamesReplicasOnce b x

abbrev pub ScansNameOnce : Type 0
ScansNameOnce = (w : World) (b : BookState) (audit : AuditState) (by : ServerNo → Attempt) (wait last : ℕ) → All (NamesReplicasOnce b) (scanned w b audit by wait last).begun

abbrev pub RegroupsNameOnce : Type 0
RegroupsNameOnce = (b : BookState) (f : ServerNo) → AreReplicas purpose.Regroup f (replicas_of b f)

-- ---- the block periods

abbrev pub RecoveriesBeginApart : Type 0
RecoveriesBeginApart = (w : World) (b : BookState) (audit : AuditState) (a : Attempt) (wait job : ℕ) (f : ServerNo) (x : Begins) → recovery_try w b audit a wait job f ≡ Ok x → BeginsApart a.now audit x.entry

abbrev pub TakeoversBeginApart : Type 0
TakeoversBeginApart = (w : World) (b : BookState) (audit : AuditState) (a : Attempt) (wait job : ℕ) (i d : ServerNo) (x : Begins) → takeover_try w b audit a wait job i d ≡ Ok x → BeginsApart a.now audit x.entry

-- of a scan each begins so, beside the audit with those before it
abbrev pub ScansBeginApart : Type 0
ScansBeginApart = (w : World) (b : BookState) (audit : AuditState) (by : ServerNo → Attempt) (wait last : ℕ) (now : Moment) → ((n : ServerNo) → (by n).now ≡ now)
    → BeginApartInTurn now audit (entries_of (scanned w b audit by wait last).begun)
