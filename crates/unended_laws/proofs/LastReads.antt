-- At the end a recovery reads the promoted server, and a takeover before it the old master.
use Rattle.std.proofs.Common.{◌≡◌, ℕ, Bool, true, false, cond, List, [], ◌∷◌, refl, sym, ◌∙◌, ap, subst, Option, Some, None, inl, inr, Ok, Err, ◌&&◌}
use Rattle.unended_laws.proofs.Prelude.{All-contains, Attempt, CoversAt, Exchange, Follower, IsClosed, IsFree, IsUnder, Job, Line, Moment, Observation}
use Rattle.unended_laws.proofs.Prelude.{OldFollows, Op, Purpose, ReadsLast, ReadsNow, Recovery, SawBelow, SawFree, SeesOnly, Server, ServerNo, ShowsNow, Sight}
use Rattle.unended_laws.proofs.Prelude.{Stage, Status, World, after_look, attached_no, by_deed, crowns, deed-sees, deed_of, is_takeover, observed, position_of}
use Rattle.unended_laws.proofs.Prelude.{read-now, same-head, same-tail, same_Some, seen_in, seen_of, server_at, shown_of, status, status_in}
use Rattle.unended_laws.proofs.Prelude.attempt
use Rattle.unended_laws.proofs.Prelude.op
use Rattle.unended_laws.proofs.Prelude.purpose
use Rattle.unended_laws.proofs.Prelude.seeing
use Rattle.unended_laws.proofs.Prelude.stage

-- ---- what a status shows

module _ (w : World) where
  pub shown-is : (n : ℕ) (server : Server) (s : Status) → server_at w n ≡ Some server → seen_in (status w n) ≡ Some s → s ≡ shown_of w server
  shown-is n server s at e = go (server.up && server.desk) (sym (ap (λ (o : Option Server). seen_in (status_in w o)) at) ∙ e)
    where
      go : (b : Bool) → seen_in (cond b (Ok (shown_of w server)) (Err seeing.Unreachable)) ≡ Some s → s ≡ shown_of w server
      go true h = sym (same_Some (shown_of w server) s h)
      go false h = cc

  pub shown-source : (n : ℕ) (server : Server) (s : Status) → server_at w n ≡ Some server → seen_in (status w n) ≡ Some s → s.source ≡ server.source
  shown-source n server s at e = ap (λ (x : Status). x.source) (shown-is n server s at e)

  free-seen : (seen : List Sight) (n : ServerNo) → IsFree w n.0 → ShowsNow w seen n → SawFree seen n
  free-seen seen n free shows =
      record { position = position_of shows.0; last = shows.2; free = shown-source n.0 free.server shows.0 free.there shows.1 ∙ free.free }

  below-seen : (seen : List Sight) (n m : ServerNo) → IsUnder w n.0 m.0 → ShowsNow w seen n → SawBelow seen n m
  below-seen seen n m under shows =
      record { position = position_of shows.0; last = shows.2; below = ap attached_no (shown-source n.0 under.server shows.0 under.there shows.1) ∙ under.under }

  -- a reading is done at once
  look-done : (read : ℕ) (now : Moment) (j : Job) (rest : List Op) (n : ServerNo) (ob : Option Observation) (es : List Exchange) (k : Job)
      → by_deed w read now j rest (deed_of (op.Status n None)) ≡ attempt.Goes ob es k → (k.ops ≡ rest) × ShowsNow w k.seen n
  look-done read now j rest n ob es k goes = (go (seen_in (status w n.0)) goes, subst (ReadsNow w n) goes (read-now w read now j rest n))
    where
      left : Attempt → List Op
      left (attempt.Goes o xs y) = y.ops
      left _ = []

      go : (x : Option Status) → after_look j rest n None (observed w read now n) x ≡ attempt.Goes ob es k → k.ops ≡ rest
      go None e = cc
      go (Some s) e = sym (ap left e)

  -- it ends no job
  pub look-ends : (read : ℕ) (now : Moment) (j : Job) (rest : List Op) (n : ServerNo) (lines : List Line) → by_deed w read now j rest (deed_of (op.Status n None)) ≡ attempt.Ends lines → ⊥
  look-ends read now j rest n lines = go (seen_in (status w n.0))
    where
      go : (x : Option Status) → after_look j rest n None (observed w read now n) x ≡ attempt.Ends lines → ⊥
      go None e = cc
      go (Some s) e = cc

  -- another server was seen as before
  other-seen : (read : ℕ) (now : Moment) (j : Job) (rest : List Op) (n : ServerNo) (m : ℕ) (ob : Option Observation) (es : List Exchange) (k : Job) → (m ≡ n.0 → ⊥)
      → by_deed w read now j rest (deed_of (op.Status n None)) ≡ attempt.Goes ob es k → seen_of k.seen m ≡ seen_of j.seen m
  other-seen read now j rest n m ob es k apart goes = subst (SeesOnly j m) goes (deed-sees w read now j rest (deed_of (op.Status n None)) n m refl apart)

-- ---- at the end

pub no-cycle : (o : Op) (xs : List Op) → xs ≡ o ∷ xs → ⊥
no-cycle o [] e = cc
no-cycle o (y ∷ ys) e = no-cycle y ys (same-tail y o ys (y ∷ ys) e)

module _ (w : World) (read : ℕ) (now : Moment) (x : Recovery) (o : Op) (rest : List Op) (is : x.core.ops ≡ o ∷ rest) (c : CoversAt w x x.stage) (ob : Option Observation) (es : List Exchange) (j : Job)
    (goes : by_deed w read now x.core rest (deed_of o) ≡ attempt.Goes ob es j) (n : ServerNo) (lines : List Line) (crowned : crowns x.purpose ≡ true) (at : x.stage ≡ stage.Close lines)
    (promoted : x.outcome.promoted ≡ Some n) (apart : is_takeover x.purpose ≡ true → n.0 ≡ x.failed.0 → ⊥) where
  abbrev later : Recovery
  later = record x { core = j }

  closed : IsClosed w x
  closed = let k = subst (λ (s : Stage). CoversAt w x s) at c in k.stage.0

  free : IsFree w n.0
  free = subst (λ (i : ServerNo). IsFree w i.0) (same_Some closed.no n (sym closed.promoted.promoted ∙ promoted)) (closed.rules crowned).free

  under : (d : ServerNo) → x.purpose ≡ purpose.Takeover d → IsUnder w x.failed.0 d.0
  under d aim =
      All-contains (λ (y : Follower). IsUnder w y.no.0 y.source.0) x.outcome.followers (record { no = x.failed; source = d }) c.attached
      (subst (λ (u : Purpose). OldFollows u x.failed x.outcome.followers) aim closed.promoted.old)

  -- the operation is the first of these
  this : (y : Op) (ys : List Op) → x.core.ops ≡ y ∷ ys → (by_deed w read now x.core rest (deed_of y) ≡ attempt.Goes ob es j) × (rest ≡ ys)
  this y ys e = (
    subst (λ (z : Op). by_deed w read now x.core rest (deed_of z) ≡ attempt.Goes ob es j) (same-head o y rest ys (sym is ∙ e)) goes,
    same-tail o y rest ys (sym is ∙ e),
  )

  kept-old : (d : ServerNo) → x.purpose ≡ purpose.Takeover d → by_deed w read now x.core rest (deed_of (op.Status n None)) ≡ attempt.Goes ob es j → SawBelow x.core.seen x.failed d → SawBelow j.seen x.failed d
  kept-old d aim e s =
      record { position = s.position; last = other-seen w read now x.core rest n x.failed.0 ob es j (λ same. apart (ap is_takeover aim) (sym same)) e ∙ s.last; below = s.below }

  pub reads-on : ReadsLast x n lines → ReadsLast later n lines × (j.ops ≡ rest)
  reads-on (inl e) =
      let t = this (op.Status x.failed None) (op.Status n None ∷ op.Finish lines ∷ []) e in
      let l = look-done w read now x.core rest x.failed ob es j t.0 in
      (inr (inl (l.0 ∙ t.1, λ d aim. below-seen w j.seen x.failed d (under d aim) l.1)), l.0)
  reads-on (inr (inl h)) =
      let t = this (op.Status n None) (op.Finish lines ∷ []) h.0 in
      let l = look-done w read now x.core rest n ob es j t.0 in
      (inr (inr (l.0 ∙ t.1, (free-seen w j.seen n free l.1, λ d aim. kept-old d aim t.0 (h.1 d aim)))), l.0)
  reads-on (inr (inr h)) =
      let t = this (op.Finish lines) [] h.0 in
      let bad : attempt.Ends lines ≡ attempt.Goes ob es j = t.0 in
      cc
