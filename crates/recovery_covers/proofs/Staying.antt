-- A turn leaves a recovery its aim.
use Rattle.std.proofs.Common.{ℕ, refl, ◌∙◌, Option, Some, None}
use Rattle.recovery_covers.proofs.Prelude.{Bearing, BookState, Decision, Ending, KeepsAlways, Moment, Recovery, SameAim, ServerNo, Stage, World, always, borne}
use Rattle.recovery_covers.proofs.Prelude.{decided_by, ended_by, entered, fate_of, follows_no_more, ground_of, kept-whole, leaver, moved, taken}
use Rattle.recovery_covers.proofs.Prelude.by

pub same-aim : (r : Recovery) → SameAim r r
same-aim r = record { purpose = refl; failed = refl; replicas = refl; order = refl }

pub then-aim : (a b c : Recovery) → SameAim a b → SameAim b c → SameAim a c
then-aim a b c p q = record { purpose = q.purpose ∙ p.purpose; failed = q.failed ∙ p.failed; replicas = q.replicas ∙ p.replicas; order = q.order ∙ p.order }

module _ (a : Recovery) where
  decides-aim : (w : World) (b : BookState) (now : Moment) (r : Recovery) (d : Decision) → SameAim a r → SameAim a (decided_by (ground_of w b now) r d)
  decides-aim w b now r by.Remains s = record { purpose = s.purpose; failed = s.failed; replicas = s.replicas; order = s.order }
  decides-aim w b now r d s = record { purpose = s.purpose; failed = s.failed; replicas = s.replicas; order = s.order }

  enters-aim : (r : Recovery) (x : Stage) → SameAim a r → SameAim a (entered r x)
  enters-aim r x s = go (leaver x)
    where
      go : (o : Option ServerNo) → SameAim a (record (follows_no_more r o) { stage = x })
      go None = record { purpose = s.purpose; failed = s.failed; replicas = s.replicas; order = s.order }
      go (Some n) = record { purpose = s.purpose; failed = s.failed; replicas = s.replicas; order = s.order }

  completes-aim : (r : Recovery) (e : Ending) → SameAim a r → SameAim a (ended_by r e)
  completes-aim r by.Rests s = record { purpose = s.purpose; failed = s.failed; replicas = s.replicas; order = s.order }
  completes-aim r e s = record { purpose = s.purpose; failed = s.failed; replicas = s.replicas; order = s.order }

  bears-aim : (r : Recovery) (e : Bearing) → SameAim a r → SameAim a (borne r (fate_of e))
  bears-aim r by.Drops s = record { purpose = s.purpose; failed = s.failed; replicas = s.replicas; order = s.order }
  bears-aim r e s = record { purpose = s.purpose; failed = s.failed; replicas = s.replicas; order = s.order }

  keeps-aim : (w : World) (b : BookState) (read : ℕ) (now : Moment) → KeepsAlways w b read now (λ v r. SameAim a r)
  keeps-aim w b read now = record {
    decides = λ r d may s. decides-aim w b now r d s;
    does = λ r o rest ob es j did s. record { purpose = s.purpose; failed = s.failed; replicas = s.replicas; order = s.order };
    enters = λ v r s. enters-aim r (moved r.stage) s;
    completes = λ v r e none may s. completes-aim r e s;
    bears = λ r o rest c ob e stops is may s. bears-aim r e s;
  }

pub taken-aim : (w : World) (b : BookState) (read : ℕ) (now : Moment) (r : Recovery) → SameAim r (taken w b read now r).recovery
taken-aim w b read now r =
    kept-whole w b read now (SameAim r) (λ v s. SameAim r s) (λ v s. SameAim r s) (always w b read now (λ v s. SameAim r s) (keeps-aim r w b read now))
    (record {
      fails = λ x c ob why s. record { purpose = s.purpose; failed = s.failed; replicas = s.replicas; order = s.order };
      finishes = λ x o rest lines is e s. record { purpose = s.purpose; failed = s.failed; replicas = s.replicas; order = s.order };
    }) r (same-aim r)
