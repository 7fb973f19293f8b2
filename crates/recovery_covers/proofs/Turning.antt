-- A turn of a recovery covers the replicas as far as before.
use Rattle.std.proofs.Common.{◌≡◌, ℕ, Bool, true, false, cond, List, [], ◌∷◌, ◌++◌, refl, sym, ◌∙◌, ap, subst, Option, Some, None, ◌||◌, ◌⊎◌, inl, inr}
use Rattle.recovery_covers.proofs.Prelude.{After, Attempt, Bearing, BookState, Bridge, Cause, CoversAt, CoversSoFar, Decision, Exchange, Fate, Fits}
use Rattle.recovery_covers.proofs.Prelude.{HeldRecovery, HeldRings, IsApart, IsFree, IsMoved, IsOnce, IsSourced, IsSourcedAsSeen, IsWritable, Job}
use Rattle.recovery_covers.proofs.Prelude.{Keeps, KeepsSource, Loss, MayDecide, Miss, Moment, Observation, Op, Placed, Purpose, Reads-true, Recovery}
use Rattle.recovery_covers.proofs.Prelude.{ServerNo, Stage, Stands, Stays, Stays-same, Way, WentOn, Why, World, about-moves, back-moves, borne}
use Rattle.recovery_covers.proofs.Prelude.{by_deed, decided_by, decides-held, deed-still, deed_of, detach-moves, due, ends, entered, exec_by, expels}
use Rattle.recovery_covers.proofs.Prelude.{false≢true, fate, fate_of, fate_of_drain, fate_of_errant, fate_of_trail, finds, finds_match, fits}
use Rattle.recovery_covers.proofs.Prelude.{fits-step, follows_no_more, footing, ground_of, is_going, is_late, is_takeover, is_waiting, kept-along}
use Rattle.recovery_covers.proofs.Prelude.{leaver, loss_of, lost_on_way, lost_or_fails, match_fate, matched_in, missed_fate, move, move_fate, moved}
use Rattle.recovery_covers.proofs.Prelude.{moved-fits, moves, of_stage, open-moves, reset-moves, run, same-head, server_at, shut-moves, status-reads}
use Rattle.recovery_covers.proofs.Prelude.{stepped, tail_of, taken, target, up-once, way-moves, way_fate, went-of, why_missed, working}
use Rattle.recovery_covers.proofs.Prelude.attempt
use Rattle.recovery_covers.proofs.Prelude.by as moving
use Rattle.recovery_covers.proofs.Prelude.cause
use Rattle.recovery_covers.proofs.Prelude.cross
use Rattle.recovery_covers.proofs.Prelude.lost
use Rattle.recovery_covers.proofs.Prelude.op
use Rattle.recovery_covers.proofs.Prelude.purpose
use Rattle.recovery_covers.proofs.Prelude.stage
use Rattle.recovery_covers.proofs.Prelude.taking
use Rattle.recovery_covers.proofs.Prelude.way
use Rattle.recovery_covers.proofs.Covering.{is_seen, last-on, restaged, stage-on}
use Rattle.recovery_covers.proofs.Changing.{AllButOne, move-covers, expel-covers, swap-covers, return-covers, crown-covers, open-covers, shut-covers, yield-covers, switch-covers, level-covers}
use Rattle.recovery_covers.proofs.Decided.{IsStuck, at-rest, decides-covers}
use Rattle.recovery_covers.proofs.Completing.{completes-covers, lose-covers, unreached}

-- ---- moves

-- to a bridge's source
abbrev is_move : Stage → Bool
is_move (stage.Move n (way.Up b)) = true
is_move s = false

-- no stage's change begins one
moved-still : (s : Stage) → is_move (moved s) ≡ false
moved-still (stage.Move n by) = refl
moved-still s = refl

no-move : (s : Stage) → is_move s ≡ false → (n : ServerNo) (b : Bridge) → s ≡ stage.Move n (way.Up b) → ⊥
no-move s still n b e = false≢true (sym still ∙ ap is_move e)

-- between a turn's operation and the end of its stage
pub record Steps (w : World) (r : Recovery) : Type 0 where
  pub at : CoversAt w r r.stage
  pub fits : Fits r.stage r.core.ops
  pub still : is_move r.stage ≡ false

continues-covers : (w : World) (r : Recovery) (x : Op) (xs : List Op) → r.core.ops ≡ x ∷ xs → Steps w r → CoversSoFar w r
continues-covers w r x xs is st = record {
  at = st.at;
  rests = λ h. let bad : [] ≡ x ∷ xs = sym h ∙ is in cc;
  moves = λ n b h. absurd (no-move r.stage st.still n b h);
}

-- the job goes with the recovery into the next stage
entered-core : (r : Recovery) (s : Stage) → (entered r s).core ≡ r.core
entered-core r s = go (leaver s)
  where
    go : (o : Option ServerNo) → (follows_no_more r o).core ≡ r.core
    go None = refl
    go (Some n) = refl

takeover-leaves : (u : Purpose) (why : Why) → is_takeover u ≡ true → expels u (Some why) ≡ false
takeover-leaves (purpose.Takeover d) why h = refl
takeover-leaves _ why h = absurd (false≢true h)

module _ (w : World) (read : ℕ) (now : Moment) (r : Recovery) (o : Op) (rest : List Op) (placed : Placed w) (held : HeldRecovery w r) (c : CoversSoFar w r) (is : r.core.ops ≡ o ∷ rest) where
  abbrev by : Op → Attempt
  by x = by_deed w read now r.core rest (deed_of x)

  found : finds (footing w r.core.seen) (deed_of o) ≡ true
  found = (due w read now r o rest placed held is).found

  found-as : (x : Op) → o ≡ x → finds (footing w r.core.seen) (deed_of x) ≡ true
  found-as x same = subst (λ (y : Op). finds (footing w r.core.seen) (deed_of y) ≡ true) same found

  matched-as : (x : Op) → o ≡ x → finds_match (matched_in r.core.matches) (deed_of x) ≡ true
  matched-as x same = subst (λ (y : Op). finds_match (matched_in r.core.matches) (deed_of y) ≡ true) same (due w read now r o rest placed held is).match

  -- it takes no replica to the source of a bridge
  abbrev IsNoRise : Type 0
  IsNoRise = (n : ServerNo) (b : Bridge) → o ≡ op.Cross cross.Up n b.no → ⊥

  -- a stage that rests on what was seen is due, or goes to a bridge's source
  not-seen : IsNoRise → (s : Stage) → r.stage ≡ s → Fits s (o ∷ rest) → is_seen s ≡ true → ⊥
  not-seen nowhere (stage.Judged n) at f h = let e : o ∷ rest ≡ [] = f.is ∙ ap (λ xs. xs ++ []) (f.due refl) in cc
  not-seen nowhere (stage.Looked n b) at f h = let e : o ∷ rest ≡ [] = f.is ∙ ap (λ xs. xs ++ []) (f.due refl) in cc
  not-seen nowhere (stage.Move n (way.Up b)) at f h = nowhere n b (same-head o (op.Cross cross.Up n b.no) rest _ (sym is ∙ c.moves n b at))
  not-seen nowhere s at f h = false≢true h

  -- ---- it goes on

  module _ (ob : Option Observation) (es : List Exchange) (k : Job) (e : by_deed w read now r.core rest (deed_of o) ≡ attempt.Goes ob es k) (went : WentOn r.core rest es k) where
    abbrev w' : World
    w' = run w es

    abbrev later : Recovery
    later = record r { core = k }

    after : (Q : World → Type 0) → After w (by o) Q → Q w'
    after Q h = subst (λ (a : Attempt). After w a Q) e h

    -- an operation of the stage, and what it does
    after-as : (x : Op) (Q : World → Type 0) → o ≡ x → After w (by x) Q → Q w'
    after-as x Q same h = after Q (subst (λ (y : Op). After w (by y) Q) (sym same) h)

    still-covers : ((n : ℕ) → Stays w w' n) → (is_seen r.stage ≡ true → ⊥) → CoversAt w' later r.stage
    still-covers stays unseen = stage-on w w' r k (λ n h. stays n) r.stage c.at (λ h. absurd (unseen h))

    -- ---- the operation that ends the stage

    reads-as : (n : ServerNo) → o ≡ op.Status n None → (es ≡ []) × IsSourcedAsSeen w k.seen n
    reads-as n same =
        subst (λ (a : Attempt). Reads-true w read now r.core rest held.core.shown n a) e
        (subst (λ (y : Op). Reads-true w read now r.core rest held.core.shown n (by y)) (sym same) (status-reads w read now r.core rest held.core.shown n))

    unchanged : (s : Stage) → es ≡ [] → CoversAt w (record r { stage = s; core = k }) s → CoversAt w' (record r { stage = s; core = k }) s
    unchanged s none at = subst (λ (xs : List Exchange). CoversAt (run w xs) (record r { stage = s; core = k }) s) (sym none) at

    change-covers : (s : Stage) → o ∷ rest ≡ tail_of s → CoversAt w r s → CoversAt w' (entered later (moved s)) (moved s)
    change-covers (stage.Drain n) t at =
        let x = reads-as n (same-head o _ rest _ t) in
        unchanged (stage.Judged n) x.0 (restaged w r (stage.Drain n) (stage.Judged n) k at refl (λ h. h) (at.stage, x.1))
    change-covers (stage.Look n b) t at =
        let x = reads-as n (same-head o _ rest _ t) in
        unchanged (stage.Looked n b) x.0 (restaged w r (stage.Look n b) (stage.Looked n b) k at refl (λ h. h) (at.stage.1, x.1))
    change-covers (stage.Trail n b) t at =
        let x = reads-as n (same-head o _ rest _ t) in
        unchanged (stage.Halted n b) x.0 (restaged w r (stage.Trail n b) (stage.Halted n b) k at refl (λ h. h) at.stage)
    change-covers (stage.Move n by') t at =
        let same = same-head o (move by' n) rest _ t in
        move-covers w w' r k n by' at
        (after-as (move by' n) (λ x. IsMoved w x n.0 (target by').0) same (way-moves w read now r.core rest held.core.shown by' n at.stage.2 (found-as (move by' n) same) held.core.ends (matched-as (move by' n) same)))
    change-covers (stage.Expel n) t at =
        let x = after-as (op.Detach n) (λ x. IsApart x n.0 × AllButOne w x n.0) (same-head o _ rest _ t) (detach-moves w read now r.core rest held.core.shown n at.stage.1) in
        expel-covers w w' r k n at x.0 x.1
    change-covers (stage.Level p q) t at =
        let x = after-as (op.Reset q) (λ x. IsFree x q.0 × AllButOne w x q.0) (same-head o _ rest _ t) (reset-moves w read now r.core rest held.core.shown q) in
        level-covers w w' r k p q at x.0 x.1
    change-covers (stage.Swap p q) t at =
        let same = same-head o (op.Cross cross.About p q) rest _ t in
        swap-covers w w' r k p q at
        (after-as (op.Cross cross.About p q) (λ x. IsMoved w x p.0 q.0) same (about-moves w read now r.core rest held.core.shown p q (found-as (op.Cross cross.About p q) same)))
    change-covers (stage.Return p q) t at =
        let same = same-head o (op.Cross cross.Back q p) rest _ t in
        return-covers w w' r k p q at
        (after-as (op.Cross cross.Back q p) (λ x. IsMoved w x q.0 p.0) same (back-moves w read now r.core rest held.core.shown q p (found-as (op.Cross cross.Back q p) same)))
    change-covers (stage.Crown n) t at =
        let x = after-as (op.Reset n) (λ x. IsFree x n.0 × AllButOne w x n.0) (same-head o _ rest _ t) (reset-moves w read now r.core rest held.core.shown n) in
        crown-covers w w' r k n at x.0 x.1
    change-covers (stage.Open n) t at =
        let x = after-as (op.ReadOnly n false) (λ x. IsWritable x n.0 × ((i : ℕ) → KeepsSource w x i)) (same-head o _ rest _ t) (open-moves w read now r.core rest held.core.shown n) in
        open-covers w w' r k n at x.0 x.1
    change-covers (stage.Shut m d) t at =
        let x = after-as (op.ReadOnly m true) (λ x. (i : ℕ) → KeepsSource w x i) (same-head o _ rest _ t) (shut-moves w read now r.core rest held.core.shown m) in
        shut-covers w w' r k m d at x
    change-covers (stage.Yield m d) t at =
        let x = after-as (op.Reset d) (λ x. IsFree x d.0 × AllButOne w x d.0) (same-head o _ rest _ t) (reset-moves w read now r.core rest held.core.shown d) in
        yield-covers w w' r k m d at x.0 x.1
    change-covers (stage.Switch m d) t at =
        let same = same-head o (op.Cross cross.About m d) rest _ t in
        switch-covers w w' r k m d at
        (after-as (op.Cross cross.About m d) (λ x. IsMoved w x m.0 d.0) same (about-moves w read now r.core rest held.core.shown m d (found-as (op.Cross cross.About m d) same)))
    change-covers (stage.Close lines) t at =
        let bad : attempt.Ends lines ≡ attempt.Goes ob es k = sym (ap by (same-head o (op.Finish lines) rest _ t)) ∙ e in cc
    change-covers _ t at = cc

    -- ---- any operation

    not-moves : (a b : Bool) → (a || b) ≡ false → a ≡ false
    not-moves true b h = absurd (false≢true (sym h))
    not-moves false b h = refl

    -- an operation that doesn't end the stage is no move
    unmoved : ends r.stage (deed_of o) ≡ false → IsNoRise
    unmoved h n b same = false≢true (sym (not-moves (moves (deed_of o)) _ h) ∙ ap (λ (y : Op). moves (deed_of y)) same)

    not-move : IsNoRise → (s : Stage) → r.stage ≡ s → is_move s ≡ false
    not-move nowhere (stage.Move n (way.Up b)) at = absurd (nowhere n b (same-head o (op.Cross cross.Up n b.no) rest _ (sym is ∙ c.moves n b at)))
    not-move nowhere s at = refl

    stepped-covers : is_waiting k ≡ false → Steps w' (stepped later o)
    stepped-covers done = go (fits-step r.stage o rest (fits w read now r o rest placed held is))
      where
        go : ((ends r.stage (deed_of o) ≡ false) × Fits r.stage rest) ⊎ (o ∷ rest ≡ tail_of r.stage) → Steps w' (stepped later o)
        go (inl p) =
            subst (λ (b : Bool). Steps w' (cond b (entered later (moved r.stage)) later)) (sym p.0)
            (record {
              at =
                  still-covers (λ n. after (λ x. Stays w x n) (deed-still w r.core rest n read now (deed_of o) (not-moves (moves (deed_of o)) _ p.0)))
                  (not-seen (unmoved p.0) r.stage refl (fits w read now r o rest placed held is));
              fits = subst (λ (ops : List Op). Fits r.stage ops) (sym (went.done done)) p.1;
              still = not-move (unmoved p.0) r.stage refl;
            })
        go (inr t) =
            let m = moved-fits r.stage o rest t in
            subst (λ (b : Bool). Steps w' (cond b (entered later (moved r.stage)) later)) (sym m.0)
            (record {
              at = change-covers r.stage t c.at;
              fits = subst (λ (j : Job). Fits (moved r.stage) j.ops) (sym (entered-core later (moved r.stage))) (subst (λ (ops : List Op). Fits (moved r.stage) ops) (sym (went.done done)) m.1);
              still = moved-still r.stage;
            })

    -- a move is no wait
    unwaiting : is_waiting k ≡ true → IsNoRise
    unwaiting waits n b same =
        let once = up-once w read now r.core rest held.core.shown n b.no (found-as (op.Cross cross.Up n b.no) same) in
        let mine : is_waiting k ≡ false =
        subst (λ (a : Attempt). IsOnce w read now r.core rest held.core.shown a) e (subst (λ (y : Op). IsOnce w read now r.core rest held.core.shown (by y)) (sym same) once) in
        false≢true (sym mine ∙ waits)

    waits-covers : is_waiting k ≡ true → CoversSoFar w' later
    waits-covers waits =
        let x = went.waits waits in
        record {
          at =
              still-covers (λ n. Stays-same w w' n (ap (λ xs. server_at (run w xs) n) x.1))
              (not-seen (unwaiting waits) r.stage refl (fits w read now r o rest placed held is));
          rests = λ h. let bad : [] ≡ o ∷ rest = sym h ∙ x.0 ∙ is in cc;
          moves = λ n b h. x.0 ∙ c.moves n b h;
        }

  -- ---- it stops

  abbrev IsFine : Stage → Fate → Type 0
  IsFine s taking.Fails = Unit {0}
  IsFine s taking.Drops = (of_stage s ≡ []) × (is_late s ≡ false)
  IsFine s (taking.Loses n why) = (of_stage s ≡ n ∷ []) × (is_late s ≡ false) × (expels r.purpose (Some why) ≡ true → IsSourced w n.0)
  IsFine s (taking.Frees n why) = (of_stage s ≡ n ∷ []) × (is_late s ≡ false) × (expels r.purpose (Some why) ≡ true → IsSourced w n.0)
  IsFine s (taking.Goes x ops) =
      (of_stage x ≡ of_stage s) × (is_late s ≡ false) × Stands w (record r { stage = x; core = record r.core { ops = ops; waited = 0 } }) x

  borne-covers : (s : Stage) → CoversAt w r s → (e : Bearing) → IsFine s (fate_of e) → CoversSoFar w (borne r (fate_of e))
  borne-covers s at moving.Drops fine =
      at-rest w (working r stage.Idle []) refl (restaged w r s stage.Idle (record r.core { ops = []; waited = 0 }) at (sym fine.0) (λ h. absurd (false≢true (sym fine.1 ∙ h))) tt)
  borne-covers s at (moving.Misses n why) fine = at-rest w _ refl (lose-covers w r s stage.Idle n why (record r.core { ops = []; waited = 0 }) at fine.0 refl fine.1 fine.2 tt)
  borne-covers s at (moving.Lets n why) fine = record {
    at = lose-covers w r s (stage.Release n) n why (record r.core { ops = op.Start n ∷ []; waited = 0 }) at fine.0 refl fine.1 fine.2 tt;
    rests = λ h. cc;
    moves = λ m by' h. cc;
  }
  borne-covers s at (moving.Restarts p q) fine = record {
    at = restaged w r s (stage.Release q) (record r.core { ops = op.Start q ∷ []; waited = 0 }) at fine.0 (λ h. absurd (false≢true (sym fine.1 ∙ h))) fine.2;
    rests = λ h. cc;
    moves = λ m by' h. cc;
  }
  borne-covers s at (moving.Returns p q) fine = record {
    at = restaged w r s (stage.Return p q) (record r.core { ops = op.Cross cross.Back q p ∷ op.Start q ∷ []; waited = 0 }) at fine.0 (λ h. absurd (false≢true (sym fine.1 ∙ h))) fine.2;
    rests = λ h. cc;
    moves = λ m by' h. cc;
  }

  drain-fine : (n : ServerNo) (x : Cause) → IsFine (stage.Drain n) (fate_of_drain n x)
  drain-fine n (cause.Unreachable m) = (refl, refl, unreached w r.purpose n.0)
  drain-fine n x = tt

  trail-fine : (s : Stage) (n : ServerNo) → of_stage s ≡ n ∷ [] → is_late s ≡ false → (expels r.purpose (Some (lost.behind (exec_by (server_at w n.0)))) ≡ true → IsSourced w n.0) → (x : Cause) → IsFine s (fate_of_trail w n x)
  trail-fine s n same late behind (cause.Unreachable m) = (same, late, unreached w r.purpose n.0)
  trail-fine s n same late behind (cause.WaitSpent m) = (same, late, behind)
  trail-fine s n same late behind x = tt

  lost-fine : (u : Purpose) (n : ServerNo) (by' : Way) (why : Why) → CoversAt w r (stage.Move n by') → IsFine (stage.Move n by') (lost_on_way u n why)
  lost-fine purpose.Regroup n by' why at = (refl, refl, λ h. at.stage.1)
  lost-fine _ n by' why at = (refl, refl, λ h. at.stage.1)

  errant-fine : (u : Purpose) (n : ServerNo) (by' : Way) → CoversAt w r (stage.Move n by') → IsFine (stage.Move n by') (fate_of_errant u n by')
  errant-fine u n (way.Auto to exec) at = lost-fine u n (way.Auto to exec) (lost.ahead exec) at
  errant-fine u n _ at = tt

  missed-fine : (u : Purpose) (n : ServerNo) (by' : Way) → CoversAt w r (stage.Move n by') → (m : Miss) → IsFine (stage.Move n by') (missed_fate w u n by' m)
  missed-fine u n by' at m = go (why_missed w n by' m)
    where
      go : (o : Option Why) → IsFine (stage.Move n by') (lost_or_fails u n o)
      go None = tt
      go (Some why) = lost-fine u n by' why at

  move-fine : (u : Purpose) (n : ServerNo) (by' : Way) → CoversAt w r (stage.Move n by') → (l : Option Loss) → IsFine (stage.Move n by') (move_fate w u n by' l)
  move-fine u n by' at None = tt
  move-fine u n by' at (Some taking.Spent) = tt
  move-fine u n by' at (Some taking.Differs) = errant-fine u n by' at
  move-fine u n by' at (Some (taking.Missed m)) = missed-fine u n by' at m

  match-fine : (n : ServerNo) (by' : Way) → CoversAt w r (stage.Move n by') → (l : Option Loss) → IsFine (stage.Move n by') (match_fate n l)
  match-fine n by' at None = tt
  match-fine n by' at (Some taking.Spent) = tt
  match-fine n by' at (Some taking.Differs) = tt
  match-fine n by' at (Some (taking.Missed m)) = (refl, refl, λ h. at.stage.1)

  way-fine : (u : Purpose) (n : ServerNo) (by' : Way) → CoversAt w r (stage.Move n by') → (l : Option Loss) → IsFine (stage.Move n by') (way_fate w u n by' l)
  way-fine u n (way.Match to exec every) at l = match-fine n (way.Match to exec every) at l
  way-fine u n x at l = move-fine u n x at l

  fate-fine : (s : Stage) → CoversAt w r s → (x : Cause) → IsFine s (fate w r.purpose s x)
  fate-fine (stage.Drain n) at x = drain-fine n x
  fate-fine (stage.Move n by') at x = way-fine r.purpose n by' at (loss_of x)
  fate-fine (stage.Join n p) at x = (refl, refl, unreached w r.purpose n.0)
  fate-fine (stage.Look n b) at x =
      trail-fine (stage.Look n b) n refl refl (λ h. absurd (false≢true (sym (takeover-leaves r.purpose (lost.behind (exec_by (server_at w n.0))) at.stage.0) ∙ h))) x
  fate-fine (stage.Trail n b) at x = trail-fine (stage.Trail n b) n refl refl (λ h. at.stage.1) x
  fate-fine stage.Check at x = (refl, refl)
  fate-fine (stage.Expel n) at x = (refl, refl)
  fate-fine (stage.Release n) at x = (refl, refl)
  fate-fine (stage.Level p q) at x = (refl, refl, tt)
  fate-fine (stage.Swap p q) at x = (refl, refl, (at.stage.0, last-on r (stage.Return p q) _ p at.stage.1))
  fate-fine s at x = tt

-- ---- a turn

module _ (w : World) (b : BookState) (read : ℕ) (now : Moment) (placed : Placed w) (rings : HeldRings w b.rings) where
  abbrev Fine : Recovery → Type 0
  Fine r = CoversSoFar w r ⊎ IsStuck r

  abbrev Before : Recovery → Type 0
  Before r = HeldRecovery w r × Fine r

  pub decides-before : (r : Recovery) (d : Decision) → MayDecide (ground_of w b now) r d → Before r → Before (decided_by (ground_of w b now) r d)
  decides-before r d may h = (decides-held w b now rings r d may h.0, decides-covers w b now r d may h.1)

  -- with an operation left it isn't stuck
  pub covered : (r : Recovery) (o : Op) (rest : List Op) → r.core.ops ≡ o ∷ rest → Fine r → CoversSoFar w r
  covered r o rest is (inl c) = c
  covered r o rest is (inr x) = let bad : [] ≡ o ∷ rest = sym x.ops ∙ is in cc

  keeps-covers : Keeps w b read now Before (λ v r. Steps v r) (λ v r. CoversSoFar v r)
  keeps-covers = record {
    decides = decides-before;
    waits = λ r o rest ob es j did e h.
        waits-covers w read now r o rest placed h.0 (covered r o rest did.ops h.1) did.ops ob es j did.goes (went-of w read now r o rest ob es j did) e;
    acts = λ r o rest ob es j did e h.
        stepped-covers w read now r o rest placed h.0 (covered r o rest did.ops h.1) did.ops ob es j did.goes (went-of w read now r o rest ob es j did) e;
    continues = continues-covers;
    completes = λ v r e none may st. completes-covers v r (subst (λ (xs : List Op). Fits r.stage xs) none st.fits) st.at e may;
    bears = λ r o rest c ob e stops is may h.
        let so-far = covered r o rest stops.ops h.1 in
        borne-covers w read now r o rest placed h.0 so-far stops.ops r.stage so-far.at e
        (subst (λ (f : Fate). IsFine w read now r o rest placed h.0 so-far stops.ops r.stage f) is (fate-fine w read now r o rest placed h.0 so-far stops.ops r.stage so-far.at c));
  }

pub turn-covers : (w : World) (b : BookState) (read : ℕ) (now : Moment) (r : Recovery) → Placed w → HeldRings w b.rings → HeldRecovery w r → CoversSoFar w r → is_going (taken w b read now r).step ≡ true
    → CoversSoFar (run w (taken w b read now r).exchanges) (taken w b read now r).recovery
turn-covers w b read now r placed rings held c =
    kept-along w b read now (Before w b read now placed rings) (λ v x. Steps v x) (λ v x. CoversSoFar v x) (keeps-covers w b read now placed rings) r (held, inl c)
