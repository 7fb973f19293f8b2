-- What a turn of a job does to servers.
use Rattle.std.proofs.Common.{◌≡◌, ℕ, Bool, true, false, cond, List, [], refl, sym, ◌∙◌, ap, subst, Option, Some, None, Ok, Err, Result, ◌&&◌, ◌==◌}
use Rattle.recovery_laws.proofs.Prelude.{AllShow, ArePlaced, Ask, Attach, AttachAuto, AttachFault, Attached, Attempt, Attempts, Bridge, Coord, Deed}
use Rattle.recovery_laws.proofs.Prelude.{Detached, Exchange, Interval, IsApart, IsFree, IsMove, IsSourced, IsSourcedAsSeen, IsUnder, IsWritable, Job}
use Rattle.recovery_laws.proofs.Prelude.{KeepsSource, Match, Moment, Op, Position, Reads, Request, Server, ServerNo, SourceState, Spot, Status, Stays}
use Rattle.recovery_laws.proofs.Prelude.{Unreachable, Way, Without, World, after, after_answer, after_ask, after_attach_auto, after_change}
use Rattle.recovery_laws.proofs.Prelude.{after_desk, after_look, and_parts, asked, at_with_other, at_with_same, attach_answer, attach_answer_of}
use Rattle.recovery_laws.proofs.Prelude.{attach_auto_answer, attached_auto, attached_to, attempts, auto-tried, auto_coord, bridge-parts, bridge_at}
use Rattle.recovery_laws.proofs.Prelude.{by_deed, by_match, by_set, cross-tried, crossed, deed_of, desk_answer, detached, detached_source, eq-eqb}
use Rattle.recovery_laws.proofs.Prelude.{eqb-true, false≢true, finds, finds_match, footing, has_source, is_attached, is_detached, is_under}
use Rattle.recovery_laws.proofs.Prelude.{is_waiting, match-tried, match_found, matched_in, move, moves, moves_by, observed, position_of, run}
use Rattle.recovery_laws.proofs.Prelude.{same_Some, seen-at, seen_in, seen_of, server_at, shown_of, source_shown, status, status_in, target, uuids}
use Rattle.recovery_laws.proofs.Prelude.{with_server}
use Rattle.job_laws.specs.Footing.{logs_at}
use Rattle.recovery_laws.proofs.Prelude.asking
use Rattle.recovery_laws.proofs.Prelude.attempt
use Rattle.recovery_laws.proofs.Prelude.cross
use Rattle.recovery_laws.proofs.Prelude.deed
use Rattle.recovery_laws.proofs.Prelude.model
use Rattle.recovery_laws.proofs.Prelude.op
use Rattle.recovery_laws.proofs.Prelude.seeing
use Rattle.recovery_laws.proofs.Prelude.spot
use Rattle.recovery_laws.proofs.Prelude.way
use Rattle.recovery_laws.proofs.Standing.{Stays-same, Stays-keeps, still-stays}
use Rattle.recovery_laws.proofs.Prelude.doing

-- ---- operations that change no source

-- if an attempt goes on, the world after its exchanges is so
abbrev pub After : World → Attempt → (World → Type 0) → Type 0
After w (attempt.Goes o es k) Q = Q (run w es)
After w (attempt.Stops c o) Q = Unit {0}
After w (attempt.Ends lines) Q = Unit {0}

pub request-stays : (w : World) (n : ℕ) (a : Ask) → moves_by a ≡ false → (m : ℕ) → Stays w (after w (Request n a)) m
request-stays w n a h m = still-stays w (Request n a) h m

module _ (w : World) (j : Job) (rest : List Op) (m : ℕ) where
  abbrev Kept : Attempt → Type 0
  Kept a = After w a (λ w'. Stays w w' m)

  same : Stays w w m
  same = Stays-same w w m refl

  move-moves : (n : ServerNo) (d : Deed) → IsMove n d → moves d ≡ true
  move-moves n d (doing.Crosses c b) = refl
  move-moves n d _ = refl

  still-by : (read : ℕ) (now : Moment) (d : Deed) (a : Attempt) → Attempts w read now j rest d a → moves d ≡ false → Kept a
  still-by read now d a (doing.Misses n from c why) h = tt
  still-by read now d a (doing.Fails x c why) h = tt
  still-by read now d a (doing.Asks n b) h = request-stays w n.0 b h m
  still-by read now d a (doing.Begins n to c until) h = request-stays w n.0 (asking.StartUntil c) refl m
  still-by read now d a (doing.Attaches n x e is made of can done) h = absurd (false≢true (sym h ∙ move-moves n x is))
  still-by read now d a (doing.Finishes lines) h = tt
  still-by read now d a _ h = same

  -- an operation that changes no source leaves each server's source as it is
  pub deed-still : (read : ℕ) (now : Moment) (d : Deed) → moves d ≡ false → Kept (by_deed w read now j rest d)
  deed-still read now d h = still-by read now d (by_deed w read now j rest d) (attempts w read now j rest d) h

-- ---- one that changes a server

-- a server that was one is another, and nothing else is
pub record Changes (w w' : World) (n : ℕ) (change : Server → Server) : Type 0 where
  pub was : Server
  pub there : server_at w n ≡ Some was
  pub is : w' ≡ with_server w n (change was)

-- the first server is below the second, and nothing else has changed
pub record IsMoved (w w' : World) (n m : ℕ) : Type 0 where
  pub under : IsUnder w' n m
  pub others : (k : ℕ) → (k ≡ n → ⊥) → Stays w w' k

others-stay : (w w' : World) (n : ℕ) (change : Server → Server) → Changes w w' n change → (k : ℕ) → (k ≡ n → ⊥) → Stays w w' k
others-stay w w' n change c k apart =
    Stays-same w w' k (ap (λ x. server_at x k) c.is ∙ at_with_other w n c.was (change c.was) c.there k apart)

changed-at : (w w' : World) (n : ℕ) (change : Server → Server) → (c : Changes w w' n change) → server_at w' n ≡ Some (change c.was)
changed-at w w' n change c = ap (λ x. server_at x n) c.is ∙ at_with_same w n c.was (change c.was) c.there

module _ (w : World) (j : Job) (rest : List Op) where
  -- what is asked of a server is done
  ask-changes : (n : ServerNo) (a : Ask) (r : Result (Unit {0}) Unreachable) → desk_answer (server_at w n.0) ≡ r → After w (after_ask j rest n a r) (λ w'. Changes w w' n.0 (asked a))
  ask-changes n a (Ok t) e = go (server_at w n.0) refl
    where
      go : (o : Option Server) → server_at w n.0 ≡ o → Changes w (after w (Request n.0 a)) n.0 (asked a)
      go None at = let bad : desk_answer None ≡ Ok t = sym (ap desk_answer at) ∙ e in cc
      go (Some s) at = record { was = s; there = at; is = ap (after_desk w n.0 a) e ∙ ap (after_change w n.0 (asked a)) at }
  ask-changes n a (Err x) e = tt

  -- a server goes below another by a coordinate
  attach-moves : (n : ServerNo) (expect : Spot) (to : ServerNo) (c : Coord)
      → After w (after_answer j rest n (Attach n.0 expect to c) (attach_answer_of w (Attach n.0 expect to c))) (λ w'. IsMoved w w' n.0 to.0)
  attach-moves n expect to c = go (attach_answer w n.0 expect to.0 c (server_at w n.0)) refl
    where
      moved-to : Changes w (after w (Attach n.0 expect to c)) n.0 (attached_to to c) → IsMoved w (after w (Attach n.0 expect to c)) n.0 to.0
      moved-to x = record {
        under = record { server = attached_to to c x.was; there = changed-at w _ n.0 (attached_to to c) x; under = refl };
        others = others-stay w _ n.0 (attached_to to c) x;
      }

      go : (r : Result (Unit {0}) AttachFault) → attach_answer w n.0 expect to.0 c (server_at w n.0) ≡ r → After w (after_answer j rest n (Attach n.0 expect to c) r) (λ w'. IsMoved w w' n.0 to.0)
      go (Err f) e = tt
      go (Ok t) e = moved-to (at (server_at w n.0) refl)
        where
          at : (o : Option Server) → server_at w n.0 ≡ o → Changes w (after w (Attach n.0 expect to c)) n.0 (attached_to to c)
          at None there = let bad : attach_answer w n.0 expect to.0 c None ≡ Ok t = sym (ap (attach_answer w n.0 expect to.0 c) there) ∙ e in cc
          at (Some s) there = record {
            was = s;
            there = there;
            is = ap (model.after_attach w n.0 to c (server_at w n.0)) e ∙ ap (λ x. model.after_attach w n.0 to c x (Ok t)) there;
          }

  -- or by a set
  auto-attaches : (n to : ServerNo) (set : List Interval)
      → After w (after_answer j rest n (AttachAuto n.0 set to) (attach_answer_of w (AttachAuto n.0 set to))) (λ w'. IsMoved w w' n.0 to.0)
  auto-attaches n to set = go (attach_auto_answer w n.0 set to.0 (server_at w n.0)) refl
    where
      moved-to : Changes w (after w (AttachAuto n.0 set to)) n.0 (λ s. attached_auto to (auto_coord (uuids w) s (server_at w to.0)) s) → IsMoved w (after w (AttachAuto n.0 set to)) n.0 to.0
      moved-to x = record {
        under = record {
          server = attached_auto to (auto_coord (uuids w) x.was (server_at w to.0)) x.was;
          there = changed-at w (after w (AttachAuto n.0 set to)) n.0 (λ s. attached_auto to (auto_coord (uuids w) s (server_at w to.0)) s) x;
          under = refl;
        };
        others = others-stay w (after w (AttachAuto n.0 set to)) n.0 (λ s. attached_auto to (auto_coord (uuids w) s (server_at w to.0)) s) x;
      }

      go : (r : Result (Unit {0}) AttachFault) → attach_auto_answer w n.0 set to.0 (server_at w n.0) ≡ r → After w (after_answer j rest n (AttachAuto n.0 set to) r) (λ w'. IsMoved w w' n.0 to.0)
      go (Err f) e = tt
      go (Ok t) e = moved-to (at (server_at w n.0) refl)
        where
          at : (o : Option Server) → server_at w n.0 ≡ o → Changes w (after w (AttachAuto n.0 set to)) n.0 (λ s. attached_auto to (auto_coord (uuids w) s (server_at w to.0)) s)
          at None there = let bad : attach_auto_answer w n.0 set to.0 None ≡ Ok t = sym (ap (attach_auto_answer w n.0 set to.0) there) ∙ e in cc
          at (Some s) there =
              record { was = s; there = there; is = ap (after_attach_auto w n.0 to (server_at w n.0)) e ∙ ap (λ x. after_attach_auto w n.0 to x (Ok t)) there }

detached-apart : (s : Server) → has_source s.source ≡ true → is_detached (detached s).source ≡ true
detached-apart s h = go s.source refl h
  where
    by : (x : SourceState) → has_source x ≡ true → (b : Bool) → is_attached x ≡ b
        → s.source ≡ x → is_detached (cond b (record s { source = detached_source s.source; receiver = false; applier = false; read = s.exec; until = None }) s).source ≡ true
    by Without h b e is = absurd (false≢true h)
    by (Attached m) h true e is = ap (λ y. is_detached (detached_source y)) is
    by (Attached m) h false e is = absurd (false≢true (sym e))
    by (Detached m) h true e is = absurd (false≢true e)
    by (Detached m) h false e is = ap is_detached is

    go : (x : SourceState) → s.source ≡ x → has_source x ≡ true → is_detached (detached s).source ≡ true
    go x is h = by x h (is_attached s.source) (ap is_attached (sym is)) is

module _ (w : World) (read : ℕ) (now : Moment) (j : Job) (rest : List Op) (shown : AllShow w j.seen) where
  abbrev by : Op → Attempt
  by o = by_deed w read now j rest (deed_of o)

  abbrev Moves : ServerNo → ServerNo → Attempt → Type 0
  Moves n m a = After w a (λ w'. IsMoved w w' n.0 m.0)

  -- ---- attachments

  down-moves : (n p : ServerNo) → finds (footing w j.seen) (deed.Cross cross.Down n p) ≡ true → Moves n p (by (op.Cross cross.Down n p))
  down-moves n p found =
      let t = cross-tried w j rest read now cross.Down n p shown found in
      subst (λ (a : Attempt). Moves n p a) (sym t.attempt) (go (bridge_at p (seen_of j.seen p.0)) refl t.exchange t.found)
    where
      go : (o : Option Bridge) → bridge_at p (seen_of j.seen p.0) ≡ o → (e : Exchange) → crossed cross.Down n o ≡ Some e → Moves n p (after_answer j rest n e (attach_answer_of w e))
      go None is e h = cc
      go (Some b) is e h =
          let parts = bridge-parts p (seen_of j.seen p.0) b is in
          subst (λ (x : Exchange). Moves n p (after_answer j rest n x (attach_answer_of w x))) (same_Some (Attach n.0 (spot.At b.source b.exec) b.no b.own) e h)
          (subst (λ (k : ℕ). After w (after_answer j rest n (Attach n.0 (spot.At b.source b.exec) b.no b.own) (attach_answer_of w (Attach n.0 (spot.At b.source b.exec) b.no b.own))) (λ w'. IsMoved w w' n.0 k))
          (sym parts.no) (attach-moves w j rest n (spot.At b.source b.exec) b.no b.own))

  up-moves : (n p : ServerNo) (m : ServerNo) → source_shown (seen_of j.seen p.0) ≡ Some m.0 → finds (footing w j.seen) (deed.Cross cross.Up n p) ≡ true → Moves n m (by (op.Cross cross.Up n p))
  up-moves n p m shows found =
      let t = cross-tried w j rest read now cross.Up n p shown found in
      subst (λ (a : Attempt). Moves n m a) (sym t.attempt) (go (bridge_at p (seen_of j.seen p.0)) refl t.exchange t.found)
    where
      go : (o : Option Bridge) → bridge_at p (seen_of j.seen p.0) ≡ o → (e : Exchange) → crossed cross.Up n o ≡ Some e → Moves n m (after_answer j rest n e (attach_answer_of w e))
      go None is e h = cc
      go (Some b) is e h =
          let parts = bridge-parts p (seen_of j.seen p.0) b is in
          let same : b.source.0 ≡ m.0 = same_Some b.source.0 m.0 (sym parts.from ∙ sym (ap source_shown parts.is) ∙ shows) in
          subst (λ (x : Exchange). Moves n m (after_answer j rest n x (attach_answer_of w x))) (same_Some (Attach n.0 (spot.At b.no b.own) b.source b.exec) e h)
          (subst (λ (k : ℕ). After w (after_answer j rest n (Attach n.0 (spot.At b.no b.own) b.source b.exec) (attach_answer_of w (Attach n.0 (spot.At b.no b.own) b.source b.exec))) (λ w'. IsMoved w w' n.0 k))
          same (attach-moves w j rest n (spot.At b.no b.own) b.source b.exec))

  pub about-moves : (p q : ServerNo) → finds (footing w j.seen) (deed.Cross cross.About p q) ≡ true → Moves p q (by (op.Cross cross.About p q))
  about-moves p q found =
      let t = cross-tried w j rest read now cross.About p q shown found in
      subst (λ (a : Attempt). Moves p q a) (sym t.attempt) (go (bridge_at q (seen_of j.seen q.0)) refl t.exchange t.found)
    where
      go : (o : Option Bridge) → bridge_at q (seen_of j.seen q.0) ≡ o → (e : Exchange) → crossed cross.About p o ≡ Some e → Moves p q (after_answer j rest p e (attach_answer_of w e))
      go None is e h = cc
      go (Some b) is e h =
          let parts = bridge-parts q (seen_of j.seen q.0) b is in
          subst (λ (x : Exchange). Moves p q (after_answer j rest p x (attach_answer_of w x))) (same_Some (Attach p.0 (spot.OwnEnd b.exec) b.no b.own) e h)
          (subst (λ (k : ℕ). After w (after_answer j rest p (Attach p.0 (spot.OwnEnd b.exec) b.no b.own) (attach_answer_of w (Attach p.0 (spot.OwnEnd b.exec) b.no b.own))) (λ w'. IsMoved w w' p.0 k))
          (sym parts.no) (attach-moves w j rest p (spot.OwnEnd b.exec) b.no b.own))

  pub back-moves : (q p : ServerNo) → finds (footing w j.seen) (deed.Cross cross.Back q p) ≡ true → Moves q p (by (op.Cross cross.Back q p))
  back-moves q p found =
      let t = cross-tried w j rest read now cross.Back q p shown found in
      subst (λ (a : Attempt). Moves q p a) (sym t.attempt) (go (bridge_at q (seen_of j.seen q.0)) refl t.exchange t.found)
    where
      named : (o : Option ℕ) (m k : ℕ) → is_under o m ≡ true → o ≡ Some k → k ≡ m
      named None m k h e = absurd (false≢true h)
      named (Some x) m k h e = sym (same_Some x k e) ∙ eqb-true x m h

      go : (o : Option Bridge) → bridge_at q (seen_of j.seen q.0) ≡ o → (e : Exchange) → crossed cross.Back q o ≡ Some e → Moves q p (after_answer j rest q e (attach_answer_of w e))
      go None is e h = cc
      go (Some b) is e h =
          let parts = bridge-parts q (seen_of j.seen q.0) b is in
          let same : b.source.0 ≡ p.0 =
          named (source_shown (seen_of j.seen q.0)) p.0 b.source.0 (and_parts (is_under (source_shown (seen_of j.seen q.0)) p.0) (logs_at w q.0) found).0
          (ap source_shown parts.is ∙ parts.from) in
          subst (λ (x : Exchange). Moves q p (after_answer j rest q x (attach_answer_of w x))) (same_Some (Attach q.0 (spot.OwnEnd b.own) b.source b.exec) e h)
          (subst (λ (k : ℕ). After w (after_answer j rest q (Attach q.0 (spot.OwnEnd b.own) b.source b.exec) (attach_answer_of w (Attach q.0 (spot.OwnEnd b.own) b.source b.exec))) (λ w'. IsMoved w w' q.0 k))
          same (attach-moves w j rest q (spot.OwnEnd b.own) b.source b.exec))

  auto-moves : (n p : ServerNo) → finds (footing w j.seen) (deed.Auto n p) ≡ true → Moves n p (by (op.Auto n p))
  auto-moves n p found =
      let t = auto-tried w j rest read now n p found in
      subst (λ (a : Attempt). Moves n p a) (sym t.attempt) (go (seen_of j.seen p.0) t.exchange t.found)
    where
      go : (o : Option Position) (e : Exchange) → by_set n p o ≡ Some e → Moves n p (after_answer j rest n e (attach_answer_of w e))
      go None e h = cc
      go (Some s) e h =
          subst (λ (x : Exchange). Moves n p (after_answer j rest n x (attach_answer_of w x))) (same_Some (AttachAuto n.0 s.set p) e h) (auto-attaches w j rest n p s.set)

  match-moves : (n p : ServerNo) → ArePlaced w j.matches → matched_in j.matches n p ≡ true → Moves n p (by (op.CrossMatch n p))
  match-moves n p placed found =
      let t = match-tried w j rest read now n p placed found in
      subst (λ (a : Attempt). Moves n p a) (sym t.attempt) (go (match_found j.matches n p) t.exchange t.found)
    where
      go : (o : Option Match) (e : Exchange) → by_match n p o ≡ Some e → Moves n p (after_answer j rest n e (attach_answer_of w e))
      go None e h = cc
      go (Some x) e h =
          subst (λ (y : Exchange). Moves n p (after_answer j rest n y (attach_answer_of w y))) (same_Some (Attach n.0 x.spot p x.at) e h) (attach-moves w j rest n x.spot p x.at)

  pub way-moves : (by' : Way) (n : ServerNo) → Reads j.seen by' → finds (footing w j.seen) (deed_of (move by' n)) ≡ true → ArePlaced w j.matches
      → finds_match (matched_in j.matches) (deed_of (move by' n)) ≡ true → Moves n (target by') (by (move by' n))
  way-moves (way.Down b) n reads found placed matched = down-moves n b.no found
  way-moves (way.Up b) n reads found placed matched = up-moves n b.no b.source reads found
  way-moves (way.Auto to exec) n reads found placed matched = auto-moves n to found
  way-moves (way.Match to exec every) n reads found placed matched = match-moves n to placed matched

  -- a change of source is no wait
  abbrev pub IsOnce : Attempt → Type 0
  IsOnce (attempt.Goes o es k) = is_waiting k ≡ false
  IsOnce (attempt.Stops c o) = Unit {0}
  IsOnce (attempt.Ends lines) = Unit {0}

  answer-once : (n : ServerNo) (e : Exchange) (r : Result (Unit {0}) AttachFault) → IsOnce (after_answer j rest n e r)
  answer-once n e (Ok t) = refl
  answer-once n e (Err f) = tt

  pub up-once : (n p : ServerNo) → finds (footing w j.seen) (deed.Cross cross.Up n p) ≡ true → IsOnce (by (op.Cross cross.Up n p))
  up-once n p found =
      let t = cross-tried w j rest read now cross.Up n p shown found in subst (λ (a : Attempt). IsOnce a) (sym t.attempt) (answer-once n t.exchange (attach_answer_of w t.exchange))

  -- ---- what is asked of a server

  abbrev Asks : ServerNo → Ask → (World → Type 0) → Type 0
  Asks n a Q = After w (by_deed w read now j rest (deed.Request n a)) Q

  by-change : (n : ServerNo) (a : Ask) (Q : World → Type 0) → ((w' : World) → Changes w w' n.0 (asked a) → Q w') → Asks n a Q
  by-change n a Q f = go (desk_answer (server_at w n.0)) (ask-changes w j rest n a (desk_answer (server_at w n.0)) refl)
    where
      go : (r : Result (Unit {0}) Unreachable) → After w (after_ask j rest n a r) (λ w'. Changes w w' n.0 (asked a)) → After w (after_ask j rest n a r) Q
      go (Ok t) c = f (after w (Request n.0 a)) c
      go (Err e) c = tt

  -- nothing else has changed
  abbrev Alone : World → ℕ → Type 0
  Alone w' n = (k : ℕ) → (k ≡ n → ⊥) → Stays w w' k

  -- a server that has a source is detached from it
  pub detach-moves : (n : ServerNo) → IsSourced w n.0 → Asks n asking.Detach (λ w'. IsApart w' n.0 × Alone w' n.0)
  detach-moves n sourced =
      by-change n asking.Detach (λ w'. IsApart w' n.0 × Alone w' n.0) (λ w' c. (
        record {
          server = detached c.was;
          there = changed-at w w' n.0 (asked asking.Detach) c;
          apart = detached-apart c.was (sym (ap (λ (x : Server). has_source x.source) (same_Some sourced.server c.was (sym sourced.there ∙ c.there))) ∙ sourced.sourced);
        },
        others-stay w w' n.0 (asked asking.Detach) c,
      ))

  pub reset-moves : (n : ServerNo) → Asks n asking.Reset (λ w'. IsFree w' n.0 × Alone w' n.0)
  reset-moves n =
      by-change n asking.Reset (λ w'. IsFree w' n.0 × Alone w' n.0) (λ w' c. (
        record { server = asked asking.Reset c.was; there = changed-at w w' n.0 (asked asking.Reset) c; free = refl },
        others-stay w w' n.0 (asked asking.Reset) c,
      ))

  -- whether a server takes writes alone is changed
  keeps-all : (w' : World) (n : ℕ) (on : Bool) → Changes w w' n (asked (asking.SetReadOnly on)) → (k : ℕ) → KeepsSource w w' k
  keeps-all w' n on c k = go (k == n) refl
    where
      go : (b : Bool) → (k == n) ≡ b → KeepsSource w w' k
      go true e =
          let same : k ≡ n = eqb-true k n e in
          record {
            keeps = λ s at.
                let here : c.was ≡ s = same_Some c.was s (sym c.there ∙ ap (server_at w) (sym same) ∙ at) in
                (asked (asking.SetReadOnly on) c.was, ap (server_at w') same ∙ changed-at w w' n (asked (asking.SetReadOnly on)) c, ap (λ (x : Server). x.source) here);
          }
      go false e = Stays-keeps w w' k (others-stay w w' n (asked (asking.SetReadOnly on)) c k (λ same. false≢true (sym e ∙ eq-eqb k n same)))

  pub shut-moves : (n : ServerNo) → Asks n (asking.SetReadOnly true) (λ w'. (k : ℕ) → KeepsSource w w' k)
  shut-moves n = by-change n (asking.SetReadOnly true) (λ w'. (k : ℕ) → KeepsSource w w' k) (λ w' c k. keeps-all w' n.0 true c k)

  pub open-moves : (n : ServerNo) → Asks n (asking.SetReadOnly false) (λ w'. IsWritable w' n.0 × ((k : ℕ) → KeepsSource w w' k))
  open-moves n =
      by-change n (asking.SetReadOnly false) (λ w'. IsWritable w' n.0 × ((k : ℕ) → KeepsSource w w' k)) (λ w' c. (
        record { server = asked (asking.SetReadOnly false) c.was; there = changed-at w w' n.0 (asked (asking.SetReadOnly false)) c; writable = refl },
        λ k. keeps-all w' n.0 false c k,
      ))

  -- ---- what is read

  -- nothing is changed, and if the reading shows a source there is one
  abbrev pub Reads-true : ServerNo → Attempt → Type 0
  Reads-true n (attempt.Goes o es k) = (es ≡ []) × IsSourcedAsSeen w k.seen n
  Reads-true n (attempt.Stops c o) = Unit {0}
  Reads-true n (attempt.Ends lines) = Unit {0}

  -- what a status shows of a server's source
  seen-sourced : (n : ℕ) (s : Status) → seen_in (status w n) ≡ Some s → has_source s.source ≡ true → IsSourced w n
  seen-sourced n s is h = go (server_at w n) refl is
    where
      go : (o : Option Server) → server_at w n ≡ o → seen_in (status_in w o) ≡ Some s → IsSourced w n
      go None there e = cc
      go (Some x) there e = record { server = x; there = there; sourced = reached (x.up && x.desk) e }
        where
          reached : (b : Bool) → seen_in (cond b (Ok (shown_of w x)) (Err seeing.Unreachable)) ≡ Some s → has_source x.source ≡ true
          reached true f = ap (λ (y : Status). has_source y.source) (same_Some (shown_of w x) s f) ∙ h
          reached false f = cc

  pub status-reads : (n : ServerNo) → Reads-true n (by (op.Status n None))
  status-reads n = go (seen_in (status w n.0)) refl
    where
      go : (x : Option Status) → seen_in (status w n.0) ≡ x → Reads-true n (after_look j rest n None (observed w read now n) x)
      go None e = tt
      go (Some s) e = (
        refl,
        λ x seen has.
            let at = position_of s in
            let same : Some at ≡ Some x = sym (seen-at j.seen n at n.0 ∙ ap (λ b. cond b (Some at) (seen_of j.seen n.0)) (eq-eqb n.0 n.0 refl)) ∙ seen in
            seen-sourced n.0 s e (ap (λ (y : Position). has_source y.source) (same_Some at x same) ∙ has),
      )
