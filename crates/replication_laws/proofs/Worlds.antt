use Rattle.std.proofs.Common.{◌≡◌, ℕ, cond, refl, sym, ◌∙◌, ap, inl, inr, Some, ◌==◌}
use Rattle.replication_laws.proofs.Prelude.{Server, World, cases_eq, eq-eqb, histories, history_of, ne_eqb, server_at, slice_get-set, source_no}
use Rattle.replication_laws.proofs.Prelude.{source_of, sources, with_server}

-- the world with another server
pub at_with : (w : World) (n : ℕ) (s t : Server) → server_at w n ≡ Some s → (m : ℕ) → server_at (with_server w n t) m ≡ cond (m == n) (Some t) (server_at w m)
at_with w n s t h m = slice_get-set w.servers n s t h m

pub at_with_same : (w : World) (n : ℕ) (s t : Server) → server_at w n ≡ Some s → server_at (with_server w n t) n ≡ Some t
at_with_same w n s t h = at_with w n s t h n ∙ ap (λ b. cond b (Some t) (server_at w n)) (eq-eqb n n refl)

pub at_with_other : (w : World) (n : ℕ) (s t : Server) → server_at w n ≡ Some s → (m : ℕ) → (m ≡ n → ⊥) → server_at (with_server w n t) m ≡ server_at w m
at_with_other w n s t h m apart = at_with w n s t h m ∙ ap (λ b. cond b (Some t) (server_at w m)) (ne_eqb m n apart)

-- a change that leaves the history leaves all histories
pub histories-kept : (w : World) (n : ℕ) (s t : Server) → server_at w n ≡ Some s → t.history.txns ≡ s.history.txns → histories (with_server w n t) ≡ histories w
histories-kept w n s t h same = λ i m. each m i
  where
    each : (m : ℕ) → histories (with_server w n t) m ≡ histories w m
    each m = elim (cases_eq m n) [
      | inl here ↦ rw here (ap history_of (at_with_same w n s t h) ∙ same ∙ sym (ap history_of h))
      | inr apart ↦ ap history_of (at_with_other w n s t h m apart)
    ]

pub sources-kept : (w : World) (n : ℕ) (s t : Server) → server_at w n ≡ Some s → source_no t.source ≡ source_no s.source → sources (with_server w n t) ≡ sources w
sources-kept w n s t h same = λ i m. each m i
  where
    each : (m : ℕ) → sources (with_server w n t) m ≡ sources w m
    each m = elim (cases_eq m n) [
      | inl here ↦ rw here (ap source_of (at_with_same w n s t h) ∙ same ∙ sym (ap source_of h))
      | inr apart ↦ ap source_of (at_with_other w n s t h m apart)
    ]
