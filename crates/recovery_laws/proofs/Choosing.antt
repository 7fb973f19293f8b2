-- What is chosen, and how the others go.
pub use Rattle.recovery_plans.proofs.KeptRows.Same.{eq_refl as self}
use Rattle.std.proofs.Common.{◌≡◌, ℕ, Bool, true, false, cond, List, [], ◌∷◌, refl, sym, ◌∙◌, ap, subst, Option, Some, None}
use Rattle.std.specs.Prelude.{◌==◌, fold, unwrap_or}
use Rattle.recovery_laws.proofs.Prelude.{All, All-append, All-at, All-cons, All-head, All-nil, All-tail, BookState, Bridge, Coord, HeldRings, IsReady}
use Rattle.recovery_laws.proofs.Prelude.{IsReadyWay, IsStopped, IsTarget, Lot, Means, Moment, ServerNo, Sight, Spans, Stopped, World, and_parts}
use Rattle.recovery_laws.proofs.Prelude.{by_bridge, eqb-true, ground_of, group_of, has_exec, is_before, latest_that, logs_at, logs_by, lot_by}
use Rattle.recovery_laws.proofs.Prelude.{lot_by_group, move_of, moves_in, own_end_of, ring_at, same_coord, same_coord-true, same_Some, stopped_bridge}
use Rattle.recovery_laws.proofs.Prelude.deciding
use Rattle.recovery_laws.proofs.Prelude.group
use Rattle.recovery_laws.proofs.Prelude.means
use Rattle.recovery_laws.proofs.Prelude.task
use Rattle.recovery_laws.proofs.Prelude.way

-- ---- look-ups

-- the latest of a ring that fits is one of the ring, and fits
latest-by : (P : Bridge → Type 0) (p : Bridge → Bool) (xs : List Bridge) (o : Option Bridge) (y : Bridge) → All P xs → (o ≡ Some y → P y × (p y ≡ true))
    → fold (λ found b. cond (p b) (Some b) found) o xs ≡ Some y → P y × (p y ≡ true)
latest-by P p [] o y all so_far h = so_far h
latest-by P p (x ∷ xs) o y all so_far h = latest-by P p xs (cond (p x) (Some x) o) y (All-tail P x xs all) (go (p x) refl) h
  where
    go : (b : Bool) → p x ≡ b → cond b (Some x) o ≡ Some y → P y × (p y ≡ true)
    go true e g = (subst P (same_Some x y g) (All-head P x xs all), ap p (sym (same_Some x y g)) ∙ e)
    go false e g = so_far g

pub All-latest : (P : Bridge → Type 0) (p : Bridge → Bool) (xs : List Bridge) (y : Bridge) → All P xs → latest_that p xs ≡ Some y → P y × (p y ≡ true)
All-latest P p xs y all h = latest-by P p xs None y all (λ e. cc) h

-- ---- how the others go

module _ (w : World) (seen : List Sight) where
  abbrev pub IsReadyLot : Lot → Type 0
  IsReadyLot (deciding.Goes by) = IsReadyWay w seen by
  IsReadyLot (deciding.Stays why) = Unit {0}

  pub moves-ready : (lot : Stopped → Lot) (ss : List Stopped) → ((s : Stopped) → IsReadyLot (lot s)) → All (IsReady w seen) (moves_in lot ss)
  moves-ready lot [] each = All-nil (IsReady w seen)
  moves-ready lot (s ∷ ss) each = All-append (IsReady w seen) (move_of s (lot s)) (moves_in lot ss) (go (lot s) (each s)) (moves-ready lot ss each)
    where
      go : (x : Lot) → IsReadyLot x → All (IsReady w seen) (move_of s x)
      go (deciding.Goes by) h = All-cons (IsReady w seen) (task.Moving s.no by) [] h (All-nil (IsReady w seen))
      go (deciding.Stays why) h = All-nil (IsReady w seen)

  module _ (b : BookState) (f : ServerNo) (p : Stopped) (rings : HeldRings w b.rings) (stopped : IsStopped w seen f p) (logs : logs_at w p.no ≡ true) where
    pub own-of : (own : Coord) × (p.own_end ≡ Some own)
    own-of = stopped.logs (sym (ap logs_by stopped.there) ∙ logs)

    pub own-is : p.own_end ≡ Some (own_end_of p)
    own-is = let o = own-of in o.1 ∙ ap Some (sym (ap (λ x. unwrap_or x p.exec) o.1))

    own-spans : Spans w (stopped_bridge f p (own_end_of p))
    own-spans = stopped.spans (own_end_of p) own-is

    group-ready : (s : Stopped) → IsReadyLot (lot_by_group p.no f s (group_of b.rings p.no (own_end_of p) p.exec f s.exec))
    group-ready s = level (same_coord s.exec p.exec) refl
      where
        kept : (o : Option Bridge) → latest_that (has_exec f s.exec) (ring_at b.rings p.no) ≡ o → IsReadyLot (lot_by_group p.no f s (by_bridge o))
        kept None e = tt
        kept (Some x) e =
            let ring = ring_at b.rings p.no in
            let spans = All-latest (Spans w) (has_exec f s.exec) ring x (All-at (All (Spans w)) b.rings p.no.0 [] (All-nil (Spans w)) rings.spans) e in
            let own = All-latest (λ (y : Bridge). y.no.0 ≡ p.no.0) (has_exec f s.exec) ring x (rings.own p.no) e in
            let parts = and_parts (x.source.0 == f.0) (same_coord x.exec s.exec) own.1 in
            record {
              own = subst (λ (n : ℕ). IsTarget w n x.own) own.0 spans.0.own;
              exec = subst (λ (c : Coord). IsTarget w f.0 c) (same_coord-true x.exec s.exec parts.1) (subst (λ (n : ℕ). IsTarget w n x.exec) (eqb-true x.source.0 f.0 parts.0) spans.0.exec);
            }

        later : (a : Bool) → IsReadyLot (lot_by_group p.no f s (cond a group.Ahead (by_bridge (latest_that (has_exec f s.exec) (ring_at b.rings p.no)))))
        later true = tt
        later false = kept (latest_that (has_exec f s.exec) (ring_at b.rings p.no)) refl

        level : (a : Bool) → same_coord s.exec p.exec ≡ a
            → IsReadyLot (lot_by_group p.no f s (cond a (group.Follow (own_end_of p)) (cond (is_before p.exec s.exec) group.Ahead (by_bridge (latest_that (has_exec f s.exec) (ring_at b.rings p.no))))))
        level true e = record { own = own-spans.own; exec = subst (λ (c : Coord). IsTarget w f.0 c) (sym (same_coord-true s.exec p.exec e)) own-spans.exec }
        level false e = later (is_before p.exec s.exec)

    pub lot-ready : (m : Means) (now : Moment) (s : Stopped) → IsReadyLot (lot_by m (ground_of w b now) f p s)
    lot-ready (means.Matches every) now s = logs
    lot-ready means.Bridges now s = go w.gtid refl
      where
        go : (g : Bool) → w.gtid ≡ g
            → IsReadyLot (cond g (deciding.Goes (way.Auto p.no s.exec)) (lot_by_group p.no f s (group_of b.rings p.no (own_end_of p) p.exec f s.exec)))
        go true e = record { gtid = e; logs = logs; read = stopped.read }
        go false e = group-ready s
