-- A master that is asked to take writes does so where it is reached, whatever else a turn makes in which it fails.
use Rattle.std.proofs.Common.{◌≡◌, ℕ, zero, suc, Bool, true, false, cond, List, [], ◌∷◌, refl, sym, ◌∙◌, ap, subst, Option, Some, None, ◌⊎◌, inl, inr, ◌&&◌, Ok, Err, Result, arith, ◌==◌}
use Rattle.recovery_reasons.proofs.Prelude.{All, All-append, All-cons, All-head, All-nil, All-tail, Ask, Attach, AttachFault, Back, Bridge, Contains, Coord, Exchange}
use Rattle.recovery_reasons.proofs.Prelude.{IsOpen, Purpose, Recovery, Request, Server, ServerNo, Sight, Spot, Stage, Unreachable, World, after, after_change, after_desk}
use Rattle.recovery_reasons.proofs.Prelude.{asked, at_with, attach_answer, attached_to, back_by, bridge_at, can_attach, can_reach, crossed, crossing_of, desk_answer}
use Rattle.recovery_reasons.proofs.Prelude.{eq-eqb, eqb-true, false≢true, info, is_attached, last_exchanges, restarts, run, same_Some, seen_of, server_at, started}
use Rattle.recovery_reasons.proofs.Prelude.{that_can, undone, with_server, world_attached}
use Rattle.recovery_reasons.proofs.Prelude.asking
use Rattle.recovery_reasons.proofs.Prelude.cross
use Rattle.recovery_reasons.proofs.Prelude.purpose
use Rattle.recovery_reasons.proofs.Prelude.spot
use Rattle.recovery_reasons.proofs.Prelude.table
use Rattle.recovery_reasons.proofs.Dealing.{no-none}

-- ---- a server that is there, of which this is true

abbrev At : World → ℕ → (Server → Type 0) → Type 0
At w m X = (s : Server) × (server_at w m ≡ Some s) × X s

abbrev Reach : Server → Type 0
Reach s = (s.up && s.desk) ≡ true

abbrev Open : Server → Type 0
Open s = s.read_only ≡ false

-- ---- what such a turn makes

-- a start, a request that a server takes writes, or an attachment
abbrev IsSoft : Exchange → Type 0
IsSoft e = ((n : ℕ) × (e ≡ Request n asking.Start)) ⊎ (((n : ℕ) × (e ≡ Request n (asking.SetReadOnly false))) ⊎ ((n : ℕ) × (x : Spot) × (to : ServerNo) × (at : Coord) × (e ≡ Attach n x to at)))

-- none of these changes whether it is true
record Kept (X : Server → Type 0) : Type 0 where
  starts : (s : Server) → X s → X (started None s)
  opens : (s : Server) → X s → X (asked (asking.SetReadOnly false) s)
  goes : (to : ServerNo) (at : Coord) (s : Server) → X s → X (attached_to to at s)

reach-kept : Kept Reach
reach-kept = record {
  starts = λ s h. go s h (is_attached s.source);
  opens = λ s h. h;
  goes = λ to at s h. h;
}
  where
    go : (s : Server) → Reach s → (b : Bool) → Reach (cond b (record s { receiver = true; applier = true; until = None }) s)
    go s h true = h
    go s h false = h

open-kept : Kept Open
open-kept = record {
  starts = λ s h. go s h (is_attached s.source);
  opens = λ s h. refl;
  goes = λ to at s h. h;
}
  where
    go : (s : Server) → Open s → (b : Bool) → Open (cond b (record s { receiver = true; applier = true; until = None }) s)
    go s h true = h
    go s h false = h

-- ---- an exchange, and a run of them

module _ (m : ℕ) (X : Server → Type 0) where
  keeps-change : (w : World) (n : ℕ) (f : Server → Server) → ((s : Server) → X s → X (f s)) → (o : Option Server) → server_at w n ≡ o → At w m X → At (after_change w n f o) m X
  keeps-change w n f keeps None is h = h
  keeps-change w n f keeps (Some s) is h = go (m == n) refl
    where
      go : (b : Bool) → (m == n) ≡ b → At (with_server w n (f s)) m X
      go true e =
          let mine : h.0 ≡ s = same_Some h.0 s (sym h.1 ∙ (ap (server_at w) (eqb-true m n e) ∙ is)) in
          (f s, at_with w n s (f s) is m ∙ ap (λ (b : Bool). cond b (Some (f s)) (server_at w m)) e, keeps s (subst X mine h.2))
      go false e = (h.0, at_with w n s (f s) is m ∙ (ap (λ (b : Bool). cond b (Some (f s)) (server_at w m)) e ∙ h.1), h.2)

  keeps-ask : (w : World) (n : ℕ) (a : Ask) → ((s : Server) → X s → X (asked a s)) → At w m X → At (after w (Request n a)) m X
  keeps-ask w n a keeps h = go (desk_answer (server_at w n))
    where
      go : (r : Result (Unit {0}) Unreachable) → At (after_desk w n a r) m X
      go (Ok t) = keeps-change w n (asked a) keeps (server_at w n) refl h
      go (Err e) = h

  keeps-attach : (w : World) (n : ℕ) (x : Spot) (to : ServerNo) (at : Coord) → ((s : Server) → X s → X (attached_to to at s)) → At w m X → At (after w (Attach n x to at)) m X
  keeps-attach w n x to at keeps h = go (server_at w n) refl (attach_answer w n x to.0 at (server_at w n))
    where
      go : (o : Option Server) → server_at w n ≡ o → (r : Result (Unit {0}) AttachFault) → At (world_attached w n to at o r) m X
      go None is r = h
      go (Some s) is (Err f) = h
      go (Some s) is (Ok t) = keeps-change w n (attached_to to at) keeps (Some s) is h

  module _ (kept : Kept X) where
    keeps-after : (w : World) (e : Exchange) → IsSoft e → At w m X → At (after w e) m X
    keeps-after w e (inl y) h = subst (λ (x : Exchange). At (after w x) m X) (sym y.1) (keeps-ask w y.0 asking.Start kept.starts h)
    keeps-after w e (inr (inl y)) h = subst (λ (x : Exchange). At (after w x) m X) (sym y.1) (keeps-ask w y.0 (asking.SetReadOnly false) kept.opens h)
    keeps-after w e (inr (inr y)) h = subst (λ (x : Exchange). At (after w x) m X) (sym y.4) (keeps-attach w y.0 y.1 y.2 y.3 (kept.goes y.2 y.3) h)

    keeps-run : (es : List Exchange) → All IsSoft es → (w : World) → At w m X → At (run w es) m X
    keeps-run [] soft w h = h
    keeps-run (e ∷ es) soft w h = keeps-run es (All-tail IsSoft e es soft) (after w e) (keeps-after w e (All-head IsSoft e es soft) h)

-- one that is reached takes writes once it is asked to
opened : (w : World) (m : ℕ) → At w m Reach → At (after w (Request m (asking.SetReadOnly false))) m Open
opened w m h = subst (λ (o : Option Server). At (after_desk w m (asking.SetReadOnly false) (desk_answer o)) m Open) (sym h.1) (answered (h.0.up && h.0.desk) h.2)
  where
    now : At (after_change w m (asked (asking.SetReadOnly false)) (server_at w m)) m Open
    now =
        subst (λ (o : Option Server). At (after_change w m (asked (asking.SetReadOnly false)) o) m Open) (sym h.1) (
          asked (asking.SetReadOnly false) h.0,
          at_with w m h.0 (asked (asking.SetReadOnly false) h.0) h.1 m ∙ ap (λ (b : Bool). cond b (Some (asked (asking.SetReadOnly false) h.0)) (server_at w m)) (eq-eqb m m refl),
          refl,
        )

    answered : (b : Bool) → b ≡ true → At (after_desk w m (asking.SetReadOnly false) (cond b (Ok tt) (Err (record {})))) m Open
    answered true e = now
    answered false e = absurd (false≢true e)

opens-all : (es : List Exchange) → All IsSoft es → (w : World) (m : ℕ) → Contains es (Request m (asking.SetReadOnly false)) → At w m Reach → At (run w es) m Open
opens-all [] soft w m has h = absurd (no-none (Request m (asking.SetReadOnly false)) has)
opens-all (e ∷ es) soft w m (zero, l, is) h =
    keeps-run m Open open-kept es (All-tail IsSoft e es soft) (after w e) (subst (λ (x : Exchange). At (after w x) m Open) (sym is) (opened w m h))
opens-all (e ∷ es) soft w m (suc i, l, is) h =
    opens-all es (All-tail IsSoft e es soft) (after w e) m (i, omega (arith, l), is) (keeps-after m Reach reach-kept w e (All-head IsSoft e es soft) h)

-- ---- each exchange of a turn in which it fails is such a one

restarts-soft : (hands : List ServerNo) → All IsSoft (restarts hands)
restarts-soft [] = All-nil IsSoft
restarts-soft (k ∷ ks) = All-cons IsSoft (Request k.0 asking.Start) (restarts ks) (inl (k.0, refl)) (restarts-soft ks)

module _ (w : World) where
  can-soft : (o : Option Exchange) → ((e : Exchange) → o ≡ Some e → IsSoft e) → All IsSoft (that_can w o)
  can-soft None h = All-nil IsSoft
  can-soft (Some e) h = go (can_attach w e)
    where
      go : (b : Bool) → All IsSoft (cond b (e ∷ []) [])
      go true = All-cons IsSoft e [] (h e refl) (All-nil IsSoft)
      go false = All-nil IsSoft

  crossing-soft : (d : ServerNo) (o : Option Bridge) (e : Exchange) → crossed cross.Back d o ≡ Some e → IsSoft e
  crossing-soft d None e h = cc
  crossing-soft d (Some b) e h = inr (inr (d.0, spot.OwnEnd b.own, b.source, b.exec, sym (same_Some (Attach d.0 (spot.OwnEnd b.own) b.source b.exec) e h)))

  writes-soft : (m : ServerNo) → All IsSoft (Request m.0 (asking.SetReadOnly false) ∷ [])
  writes-soft m = All-cons IsSoft (Request m.0 (asking.SetReadOnly false)) [] (inr (inl (m.0, refl))) (All-nil IsSoft)

  module _ (seen : List Sight) (f : ServerNo) where
    back-soft : (b : Back) → All IsSoft (back_by w seen f b)
    back-soft table.Nowhere = All-nil IsSoft
    back-soft table.Writes = writes-soft f
    back-soft (table.Whole m d) =
        All-append IsSoft (that_can w (crossing_of seen cross.Back d m)) (Request d.0 asking.Start ∷ Request m.0 (asking.SetReadOnly false) ∷ [])
        (can-soft (crossing_of seen cross.Back d m) (λ e h. crossing-soft d (bridge_at d (seen_of seen d.0)) e h))
        (All-cons IsSoft (Request d.0 asking.Start) (Request m.0 (asking.SetReadOnly false) ∷ []) (inl (d.0, refl)) (writes-soft m))

    undone-soft : (u : Purpose) (s : Stage) → All IsSoft (undone w u seen f s)
    undone-soft (purpose.Takeover d) s = back-soft (info s).back
    undone-soft _ s = All-nil IsSoft

  last-soft : (x : Recovery) → All IsSoft (last_exchanges w x)
  last-soft x =
      All-append IsSoft (undone w x.purpose x.core.seen x.failed x.stage) (restarts x.core.hands) (undone-soft x.core.seen x.failed x.purpose x.stage) (restarts-soft x.core.hands)

reach-at : (w : World) (m : ℕ) (o : Option Server) → server_at w m ≡ o → can_reach o ≡ true → At w m Reach
reach-at w m None is h = absurd (false≢true h)
reach-at w m (Some s) is h = (s, is, h)

-- so it is open once they are made
pub opens-last : (w : World) (x : Recovery) (m : ServerNo) → Contains (last_exchanges w x) (Request m.0 (asking.SetReadOnly false)) → can_reach (server_at w m.0) ≡ true → IsOpen (run w (last_exchanges w x)) m
opens-last w x m has reached =
    let t = opens-all (last_exchanges w x) (last-soft w x) w m.0 has (reach-at w m.0 (server_at w m.0) refl reached) in
    record { server = t.0; there = t.1; writable = t.2 }
