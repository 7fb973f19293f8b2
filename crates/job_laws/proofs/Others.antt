-- An exchange with one server leaves the others as they are.
use Rattle.std.proofs.Common.{◌≡◌, ℕ, List, [], ◌∷◌, refl, ◌∙◌, ap, sym}
use Rattle.job_laws.proofs.Prelude.{All, All-head, All-tail, Becomes, Exchange, IsLeased, Leases, Leaves, Server, World, after, at_with_other, leaves}
use Rattle.job_laws.proofs.Prelude.{own_txn, run, server_at, server_of, took}
use Rattle.job_laws.proofs.Prelude.changes

-- the server that changes is the exchange's
its-server : (w : World) (n : ℕ) (s : Server) (e : Exchange) (t : Server) → Becomes w n s e t → server_of e ≡ n
its-server w n s e t (changes.Refuses first is) = refl
its-server w n s e t _ = refl

other-leaves : (w : World) (e : Exchange) (w' : World) → Leaves w e w' → (m : ℕ) → (m ≡ server_of e → ⊥) → server_at w' m ≡ server_at w m
other-leaves w e w' changes.Still m apart = refl
other-leaves w e w' (changes.Writes n size s seq at is) m apart = at_with_other w n s (took s (own_txn n seq size)) at m apart
other-leaves w e w' (changes.Puts n s t at change) m apart = at_with_other w n s t at m (λ same. apart (same ∙ sym (its-server w n s e t change)))

pub other-after : (w : World) (e : Exchange) (m : ℕ) → (m ≡ server_of e → ⊥) → server_at (after w e) m ≡ server_at w m
other-after w e m apart = other-leaves w e (after w e) (leaves w e) m apart

-- exchanges with servers that are leased to one job leave each server that isn't
pub unleased-run : (L : Leases) (id : ℕ) (w : World) (es : List Exchange) (m : ℕ) → All (λ e. IsLeased L id (server_of e)) es → (IsLeased L id m → ⊥) → server_at (run w es) m ≡ server_at w m
unleased-run L id w [] m all apart = refl
unleased-run L id w (e ∷ es) m all apart =
    unleased-run L id (after w e) es m (All-tail (λ x. IsLeased L id (server_of x)) e es all) apart
    ∙ other-after w e m (λ same. apart (ap L same ∙ All-head (λ x. IsLeased L id (server_of x)) e es all))
