-- What can be attached is allowed, and an attachment that is allowed can be made.
use Rattle.std.proofs.Common.{◌≡◌, ℕ, true, refl, ◌∙◌, ap, Option, Some, None, ◌&&◌}
use Rattle.operations.proofs.Prelude.{Allowed, Attach, AttachAuto, Coord, Exchange, IsAutoTarget, IsTarget}
use Rattle.operations.proofs.Prelude.{Server, World, and_parts, can_attach, false≢true, has_place, logs_by, places_by, server_at}
use Rattle.operations.proofs.Tests.{both}

pub target-of : (w : World) (to : ℕ) (at : Coord) → places_by (server_at w to) at ≡ true → IsTarget w to at
target-of w to at h = go (server_at w to) refl h
  where
    go : (o : Option Server) → server_at w to ≡ o → places_by o at ≡ true → IsTarget w to at
    go None e h = absurd (false≢true h)
    go (Some s) e h = let p = and_parts s.settings.logs (has_place s.log.log at) h in record { target = s; there = e; logs = p.0; place = p.1 }

pub auto-target-of : (w : World) (to : ℕ) → (w.gtid && logs_by (server_at w to)) ≡ true → IsAutoTarget w to
auto-target-of w to h = go (server_at w to) refl parts.1
  where
    parts : (w.gtid ≡ true) × (logs_by (server_at w to) ≡ true)
    parts = and_parts w.gtid (logs_by (server_at w to)) h

    go : (o : Option Server) → server_at w to ≡ o → logs_by o ≡ true → IsAutoTarget w to
    go None e h = absurd (false≢true h)
    go (Some s) e h = record { gtid = parts.0; target = s; there = e; logs = h }

pub can-allowed : (w : World) (e : Exchange) → can_attach w e ≡ true → Allowed w e
can-allowed w (Attach n expect to at) h = target-of w to.0 at h
can-allowed w (AttachAuto n observed to) h = auto-target-of w to.0 h
can-allowed w _ h = absurd (false≢true h)

pub target-can : (w : World) (to : ℕ) (at : Coord) → IsTarget w to at → places_by (server_at w to) at ≡ true
target-can w to at t = ap (λ o. places_by o at) t.there ∙ both t.target.settings.logs (has_place t.target.log.log at) t.logs t.place
