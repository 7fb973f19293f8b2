-- Attachments that join well whatever happened.
use Rattle.std.proofs.Common.{◌≡◌, true, ℕ, refl, sym, ◌∙◌, ap, Some, ◌&&◌, ◌==◌}
use Rattle.replication_laws.proofs.Prelude.{Attach, Attached, Coord, Detached, IsJunction, JoinsWell, Safe, ServerNo, SourceState, Without, World}
use Rattle.replication_laws.proofs.Prelude.{and_parts, eqb-true, place, same_coord, same_coord-true, same_spot, source_no, spot_below}
use Rattle.replication_laws.proofs.Prelude.spot

-- a replica goes back to its own source, to its position there
pub joins-same : (w : World) (n : ℕ) (m : ServerNo) (c : Coord) → Safe w → JoinsWell w (Attach n (spot.At m c) m c)
joins-same w n m c safe r s here there is = by_source r.source is (λ k from. from)
  where
    stands : (k : ℕ) → source_no r.source ≡ Some k → (m.0 == k && same_coord c r.exec) ≡ true → IsJunction r s c
    stands k from parts =
        let both = and_parts (m.0 == k) (same_coord c r.exec) parts in
        let well = safe.well n m.0 r s here (from ∙ ap Some (sym (eqb-true m.0 k both.0))) there in
        let at : c ≡ r.exec = same_coord-true c r.exec both.1 in
        record { prefix = well.prefix; place = ap (place s.log.log) at ∙ well.exec_place }

    by_source : (source : SourceState) → same_spot (spot.At m c) (spot_below r source) ≡ true → ((k : ℕ) → source_no source ≡ Some k → source_no r.source ≡ Some k) → IsJunction r s c
    by_source Without e same = cc
    by_source (Attached k) e same = stands k.0 (same k.0 refl) e
    by_source (Detached k) e same = stands k.0 (same k.0 refl) e
