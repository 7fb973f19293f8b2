-- What a recovery's turn observes is what a status shows.
use Rattle.std.proofs.Common.{◌≡◌, ℕ, List, [], ◌∷◌, sym, ◌∙◌, Some}
use Rattle.recovery_laws.proofs.Prelude.{BookState, Moment, Observation, Op, Recovery, ServerNo, World, acted, attempted-observes, by_deed, decided}
use Rattle.recovery_laws.proofs.Prelude.{deed-observes, deed_of, ground_of, observed, taken}

acted-observes : (w : World) (read : ℕ) (now : Moment) (r : Recovery) (ops : List Op) (x : Observation) → (acted w read now r ops).observation ≡ Some x → (n : ServerNo) × (x ≡ observed w read now n)
acted-observes w read now r [] x h = cc
acted-observes w read now r (o ∷ rest) x h =
    deed-observes w read now r.core rest (deed_of o) x
    (sym (attempted-observes w r o r.core (by_deed w read now r.core rest (deed_of o))) ∙ h)

pub taken-observes : (w : World) (b : BookState) (read : ℕ) (now : Moment) (r : Recovery) (x : Observation) → (taken w b read now r).observation ≡ Some x → (n : ServerNo) × (x ≡ observed w read now n)
taken-observes w b read now r x h = acted-observes w read now (decided (ground_of w b now) r) (decided (ground_of w b now) r).core.ops x h
