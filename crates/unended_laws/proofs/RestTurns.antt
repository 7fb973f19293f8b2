-- In each turn of a recovery its replicas rest so far, and none is found elsewhere.
use Rattle.std.proofs.Common.{◌≡◌, ℕ, ◌<◌, Bool, true, false, cond, List, [], ◌∷◌, ◌++◌, get_or, refl, sym, ◌∙◌, ap, subst, Option, Some, None, Ok, Err, Result, ◌&&◌, ◌||◌, ◌⊎◌, inl, inr, arith, ◌==◌, IfSome, find, option_map}
use Rattle.std.proofs.lemmas.List.{reverse-append}
use Rattle.unended_laws.proofs.Prelude.{After, All, All-cons, All-nil, AreLeft, Attach, AttachAuto, AttachFault, Attempt, BookState, Bridge, Coord}
use Rattle.unended_laws.proofs.Prelude.{CoversAt, CoversSoFar, Decision, Decisions, Deed, Exchange, ExplainsTruly, Fact, Fits, Halts, HasSource}
use Rattle.unended_laws.proofs.Prelude.{HeldRecovery, HeldRings, IsApplying, IsLead, IsMatchedThere, IsNeverInterfered, IsRest, IsResting, IsStopping}
use Rattle.unended_laws.proofs.Prelude.{IsThere, Job, KeepsMoves, Makes, Match, MatchFault, MayDecide, Moment, Observation, Op, Placed, Position}
use Rattle.unended_laws.proofs.Prelude.{ReadsNow, Recovery, Rests, RestsFor, RestsSoFar, Server, ServerNo, ShowsNow, Speaks, SpeaksWith, Spot, Stage}
use Rattle.unended_laws.proofs.Prelude.{Status, Stays, Stopped, Task, UpSoFar, WasStopped, Way, World, after_answer, after_attach, after_match}
use Rattle.unended_laws.proofs.Prelude.{altered_by, attach_answer_of, attachment_by, before, by_deed, by_match, can_attach, covered, decided_by}
use Rattle.unended_laws.proofs.Prelude.{decides-listed, decisions-keep, deed-still, deed_of, draining, due-listed, ends, entered, eq-eqb, eqb-true}
use Rattle.unended_laws.proofs.Prelude.{false≢true, fits-of, fits-step, follows_no_more, ground_of, info, is_below, is_going, is_match_of, is_source}
use Rattle.unended_laws.proofs.Prelude.{kept-along, lead_of, leaver, made-well, match_found, match_logs, move, move-ends, moved, moved-fits, moves}
use Rattle.unended_laws.proofs.Prelude.{of_queue, of_task, position_of, read-now, reader_of, run, same-head, same_Some, seen_in, seen_of, self-all}
use Rattle.unended_laws.proofs.Prelude.{self-times, server_at, source_no, standing_at, status, status_in, stepped, stopped_nos, tail_of, taken, times}
use Rattle.unended_laws.proofs.Prelude.{times-append, trailing, went-of}
use Rattle.unended_laws.proofs.Prelude.asking
use Rattle.unended_laws.proofs.Prelude.attaching
use Rattle.unended_laws.proofs.Prelude.attempt
use Rattle.unended_laws.proofs.Prelude.by
use Rattle.unended_laws.proofs.Prelude.cross
use Rattle.unended_laws.proofs.Prelude.op
use Rattle.unended_laws.proofs.Prelude.spot
use Rattle.unended_laws.proofs.Prelude.stage
use Rattle.unended_laws.proofs.Prelude.task
use Rattle.unended_laws.proofs.Prelude.threads
use Rattle.unended_laws.proofs.Prelude.way
use Rattle.unended_laws.proofs.Applying.{Spares, request-made}
use Rattle.unended_laws.proofs.LastReads.{no-cycle, shown-is}
use Rattle.unended_laws.proofs.Resting.{StaysPut, applies-never, auto-never, is_interfered, rests-never, run-put, sourced-stays, standing-is, stopped-halts}
use Rattle.unended_laws.proofs.Running.{spared, unaltered, waiting}
use Rattle.unended_laws.proofs.Upkeeping.{Before, decides-before-up}
use Rattle.unended_laws.proofs.AtRest.{IsDrainedOf, IsGoerOf, Rested, borne-rests, completes-rest, decides-rest, drained-on, moved-calm, queue-on, still}

-- ---- operations

-- the last but one
abbrev last_but_one : Op → Op → List Op → Op
last_but_one a b [] = a
last_but_one a b (x ∷ xs) = last_but_one b x xs

before-last : (a b : Op) (xs : List Op) (o z : Op) → last_but_one a b (xs ++ o ∷ z ∷ []) ≡ o
before-last a b [] o z = refl
before-last a b (x ∷ xs) o z = before-last b x xs o z

-- before it is read a replica is stopped
stops-first : (s : Stage) (n : ServerNo) → IsStopping s n → (o : Op) → AreLeft s (o ∷ op.Status n None ∷ []) → o ≡ op.Stop n
stops-first s n (inl at) o h = go (subst (λ (k : Stage). AreLeft k (o ∷ op.Status n None ∷ [])) at h)
  where
    go : IsRest (draining n) (o ∷ op.Status n None ∷ []) → o ≡ op.Stop n
    go r = sym (ap (last_but_one (op.Stop n) (op.Stop n)) r.split ∙ before-last (op.Stop n) (op.Stop n) r.done o (op.Status n None))
stops-first s n (inr at) o h = go (subst (λ (k : Stage). AreLeft k (o ∷ op.Status n None ∷ [])) at.1 h)
  where
    go : IsRest (trailing n at.0) (o ∷ op.Status n None ∷ []) → o ≡ op.Stop n
    go r = sym (ap (last_but_one (op.Stop n) (op.Stop n)) r.split ∙ before-last (op.Stop n) (op.Stop n) r.done o (op.Status n None))

pub not-moves : (d : Deed) (s : Stage) → ends s d ≡ false → moves d ≡ false
not-moves d s e = go (moves d) _ e
  where
    go : (a b : Bool) → (a || b) ≡ false → a ≡ false
    go true b f = absurd (false≢true (sym f))
    go false b f = refl

-- a change of source is no wait
attach-left : (w : World) (j : Job) (rest : List Op) (n : ServerNo) (e : Option Exchange) (ob : Option Observation) (es : List Exchange) (k : Job) → after_attach w j rest n e ≡ attempt.Goes ob es k → k.ops ≡ rest
attach-left w j rest n None ob es k goes = sym (ap ops_in goes)
  where
    ops_in : Attempt → List Op
    ops_in (attempt.Goes o xs y) = y.ops
    ops_in a = rest
attach-left w j rest n (Some e) ob es k goes = go (can_attach w e) goes
  where
    ops_in : Attempt → List Op
    ops_in (attempt.Goes o xs y) = y.ops
    ops_in a = rest

    by-answer : (a : Result (Unit {0}) AttachFault) → after_answer j rest n e a ≡ attempt.Goes ob es k → k.ops ≡ rest
    by-answer (Ok t) g = sym (ap ops_in g)
    by-answer (Err fault) g = cc

    go : (b : Bool) → cond b (after_answer j rest n e (attach_answer_of w e)) (attempt.Goes None [] (attempt.next j rest)) ≡ attempt.Goes ob es k → k.ops ≡ rest
    go true g = by-answer (attach_answer_of w e) g
    go false g = sym (ap ops_in g)

-- a match is found where the server is, and changes nothing
match-made : (j : Job) (rest : List Op) (n m : ServerNo) (at : Spot) (a : Result Coord MatchFault) (ob : Option Observation) (es : List Exchange) (k : Job)
    → after_match j rest n m at a ≡ attempt.Goes ob es k → (es ≡ []) × ((x : Match) → match_found k.matches n m ≡ Some x → x.spot ≡ at)
match-made j rest n m at (Err fault) ob es k goes = cc
match-made j rest n m at (Ok c) ob es k goes = (sym (ap made goes), λ x found. found-there x (ap (λ (xs : List Match). match_found xs n m) (ap matches_in goes) ∙ found))
  where
    made : Attempt → List Exchange
    made (attempt.Goes o xs y) = xs
    made a = []

    matches_in : Attempt → List Match
    matches_in (attempt.Goes o xs y) = y.matches
    matches_in a = []

    one : Match
    one = record { no = n; to = m; spot = at; at = c }

    first : match_found (j.matches ++ one ∷ []) n m ≡ Some one
    first =
        ap (find (is_match_of n m)) (reverse-append j.matches (one ∷ []))
        ∙ ap (λ (b : Bool). cond b (Some one) (match_found j.matches n m)) (ap (λ (b : Bool). b && (m.0 == m.0)) (eq-eqb n.0 n.0 refl) ∙ eq-eqb m.0 m.0 refl)

    found-there : (x : Match) → match_found (j.matches ++ one ∷ []) n m ≡ Some x → x.spot ≡ at
    found-there x found = sym (ap (λ (y : Match). y.spot) (same_Some one x (sym first ∙ found)))

-- the stage whose reading led there
abbrev read_at : Stage → Stage
read_at (stage.Judged n) = stage.Drain n
read_at (stage.Looked n x) = stage.Look n x
read_at (stage.Halted n x) = stage.Trail n x
read_at s = s

came-from : (s t : Stage) (o : Op) (rest : List Op) (n : ServerNo) → o ∷ rest ≡ tail_of s → moved s ≡ t → reader_of t ≡ Some n → s ≡ read_at t
came-from (stage.Drain m) t o rest n e to h = ap read_at to
came-from (stage.Look m x) t o rest n e to h = ap read_at to
came-from (stage.Trail m x) t o rest n e to h = ap read_at to
came-from (stage.Judged m) t o rest n e to h = cc
came-from (stage.Looked m x) t o rest n e to h = cc
came-from (stage.Halted m x) t o rest n e to h = cc
came-from (stage.Move m by) t o rest n e to h = let bad : None ≡ Some n = ap reader_of to ∙ h in cc
came-from s t o rest n e to h = let bad : reader_of (moved s) ≡ Some n = ap reader_of to ∙ h in cc

-- ---- what a status shows

module _ (w : World) (n : ServerNo) (s : Status) (seen : seen_in (status w n.0) ≡ Some s) where
  pub shown-there : (k : Server) × (server_at w n.0 ≡ Some k)
  shown-there = go (server_at w n.0) refl
    where
      go : (o : Option Server) → server_at w n.0 ≡ o → (k : Server) × (server_at w n.0 ≡ Some k)
      go None e = let bad : None ≡ Some s = sym (ap (λ (o : Option Server). seen_in (status_in w o)) e) ∙ seen in cc
      go (Some k) e = (k, e)

  -- its source
  seen-below : (f : ServerNo) → is_below (position_of s) f ≡ true → IsThere (HasSource f.0) w n.0
  seen-below f below =
      let k = shown-there in
      record { server = k.0; there = k.1; is = ap (λ (x : Status). source_no x.source) (sym (shown-is w n.0 k.0 s k.1 seen)) ∙ go (source_no s.source) below }
    where
      go : (o : Option ℕ) → is_source o f ≡ true → o ≡ Some f.0
      go None e = cc
      go (Some m) e = ap (λ (i : ℕ). Some i) (eqb-true m f.0 e)

  -- the position at which it was stopped
  seen-stopped : IsThere WasStopped w n.0 → IsThere (Halts (λ c. c ≡ s.exec)) w n.0
  seen-stopped h = record { server = h.server; there = h.there; is = go h.is (ap (λ (x : Status). x.exec) (sym (shown-is w n.0 h.server s h.there seen))) }
    where
      go : WasStopped h.server → h.server.exec ≡ s.exec → Halts (λ c. c ≡ s.exec) h.server
      go (inl on) e = inl on
      go (inr off) e = inr (off.0, e)

  rests-there : (m : ℕ) → IsThere (HasSource m) w n.0 → IsThere WasStopped w n.0 → IsThere (Rests m s.exec) w n.0
  rests-there m below stopped =
      let h = seen-stopped stopped in
      record { server = h.server; there = h.there; is = (subst (HasSource m) (same_Some below.server h.server (sym below.there ∙ h.there)) below.is, h.is) }

-- ---- an operation of a recovery

module _ (w : World) (read : ℕ) (now : Moment) (P : Fact → Bool) (x : Recovery) (o : Op) (rest : List Op) (is : x.core.ops ≡ o ∷ rest) (c : CoversAt w x x.stage) (fits : Fits x.stage (o ∷ rest))
    (speaks : SpeaksWith x) (listed : AreLeft x.stage (o ∷ rest)) (held : HeldRecovery w x) (up : UpSoFar P w x) (h : RestsSoFar w x) (ob : Option Observation) (es : List Exchange) (j : Job)
    (goes-so : by_deed w read now x.core rest (deed_of o) ≡ attempt.Goes ob es j) where
  abbrev w' : World
  w' = run w es

  abbrev later : Recovery
  later = record x { core = j }

  -- an operation that is this one
  so-does : (y : Op) → o ≡ y → by_deed w read now x.core rest (deed_of y) ≡ attempt.Goes ob es j
  so-does y same = subst (λ (z : Op). by_deed w read now x.core rest (deed_of z) ≡ attempt.Goes ob es j) same goes-so

  -- ---- those that wait

  waits-put : (n : ℕ) → 0 < waiting x n → StaysPut w w' n
  waits-put n f = run-put w es n (spared w read now P x o rest is c fits speaks up ob es j goes-so n (off (times n (altered_by x.stage)) (unaltered w x x.stage c n f)))
    where
      off : (k : ℕ) → k ≡ 0 → 0 < k → ⊥
      off k z g = omega (arith, z, g)

  drained-rest : All (IsDrainedOf w' x.failed) x.drained
  drained-rest = drained-on w w' (λ n. 0 < waiting x n) waits-put x.failed x.drained (λ i d lt. first (get_or x.drained i d) (self-all (λ (s : Stopped). s.no) x.drained i d lt)) h.drained
    where
      first : (s : Stopped) → 0 < times s.no.0 (stopped_nos x.drained) → 0 < waiting x s.no.0
      first s f = omega (arith, f)

  queue-rest : All (IsResting w' x.failed) x.queue
  queue-rest = queue-on w w' (λ n. 0 < waiting x n) waits-put x.failed x.queue (counted x.queue (λ n f. omega (arith, f))) h.queue
    where
      one : (t : Task) → ((n : ℕ) → 0 < times n (of_task x.failed t) → 0 < waiting x n) → IsGoerOf (λ n. 0 < waiting x n) t
      one (task.Moving n by) on = on n.0 (self-times n [])
      one t on = tt

      counted : (ts : List Task) → ((n : ℕ) → 0 < times n (of_queue x.failed ts) → 0 < waiting x n) → All (IsGoerOf (λ n. 0 < waiting x n)) ts
      counted [] on = All-nil (IsGoerOf (λ n. 0 < waiting x n))
      counted (t ∷ ts) on =
          All-cons (IsGoerOf (λ n. 0 < waiting x n)) t ts
          (one t (λ n f. on n (let e = times-append n (of_task x.failed t) (of_queue x.failed ts) in omega (arith, e, f))))
          (counted ts (λ n f. on n (let e = times-append n (of_task x.failed t) (of_queue x.failed ts) in omega (arith, e, f))))

  -- ---- the stage goes on

  module _ (left : j.ops ≡ rest) where
    last-one : (n : ServerNo) → IsStopping x.stage n → j.ops ≡ op.Status n None ∷ [] → IsThere WasStopped w' n.0
    last-one n at ops =
        let same = stops-first x.stage n at o (subst (λ (xs : List Op). AreLeft x.stage (o ∷ xs)) (sym left ∙ ops) listed) in
        let m = request-made w read now x.core rest n (asking.Stop threads.Both) ob es j (so-does (op.Stop n) same) in
        subst (λ (xs : List Exchange). IsThere WasStopped (run w xs) n.0) (sym m.0) (stopped-halts w n.0 m.1)

    module _ (goes-on : ends x.stage (deed_of o) ≡ false) where
      keeps-source : (n : ℕ) → Stays w w' n
      keeps-source n =
          subst (λ (a : Attempt). After w a (λ v. Stays w v n)) goes-so (deed-still w x.core rest n read now (deed_of o) (not-moves (deed_of o) x.stage goes-on))

      abbrev GoesSo : ServerNo → Way → Type 0
      GoesSo n by = RestsFor w' x.failed n by × IsMatchedThere w' x.failed j n by

      -- the change of source is still to come
      not-yet : (n : ServerNo) (by : Way) → x.stage ≡ stage.Move n by → o ≡ move by n → ⊥
      not-yet n by at same = false≢true (sym goes-on ∙ (ap (λ (y : Op). ends x.stage (deed_of y)) same ∙ (ap (λ (s : Stage). ends s (deed_of (move by n))) at ∙ move-ends n by)))

      going-on : (n : ServerNo) (by : Way) → x.stage ≡ stage.Move n by → GoesSo n by
      going-on n by at = go (speaks.goes n by at).0
        where
          matching : (to : ServerNo) (exec : Coord) (every : ℕ) → by ≡ way.Match to exec every → o ≡ op.Match n to every → GoesSo n (way.Match to exec every)
          matching to exec every it same =
              let m = match-made x.core rest n to (standing_at (server_at w n.0)) (match_logs w n to every) ob es j (so-does (op.Match n to every) same) in
              let rests = subst (RestsFor w x.failed n) it (h.going n by at) in (
                subst (λ (xs : List Exchange). RestsFor (run w xs) x.failed n (way.Match to exec every)) (sym m.0) rests,
                λ tail y found. subst (λ (xs : List Exchange). IsApplying (run w xs) n.0 ⊎ (y.spot ≡ spot.At x.failed exec)) (sym m.0) (there rests y (m.1 y found)),
              )
            where
              there : RestsFor w x.failed n (way.Match to exec every) → (y : Match) → y.spot ≡ standing_at (server_at w n.0) → IsApplying w n.0 ⊎ (y.spot ≡ spot.At x.failed exec)
              there r y found = by-halt r.is.1
                where
                  by-halt : Halts (λ i. i ≡ exec) r.server → IsApplying w n.0 ⊎ (y.spot ≡ spot.At x.failed exec)
                  by-halt (inl on) = inl (record { server = r.server; there = r.there; is = on })
                  by-halt (inr off) = inr (found ∙ (ap standing_at r.there ∙ standing-is r.server x.failed exec r.server.source r.is.0 off.1))

          by-way : (y : Way) → by ≡ y → x.core.ops ≡ before y n ++ move y n ∷ op.Start n ∷ [] → GoesSo n by
          by-way (way.Match to exec every) it ops =
              subst (GoesSo n) (sym it) (matching to exec every it (same-head o (op.Match n to every) rest (op.CrossMatch n to ∷ op.Start n ∷ []) (sym is ∙ ops)))
          by-way (way.Down y) it ops = absurd (not-yet n by at (same-head o (op.Cross cross.Down n y.no) rest (op.Start n ∷ []) (sym is ∙ ops) ∙ ap (λ (i : Way). move i n) (sym it)))
          by-way (way.Up y) it ops = absurd (not-yet n by at (same-head o (op.Cross cross.Up n y.no) rest (op.Start n ∷ []) (sym is ∙ ops) ∙ ap (λ (i : Way). move i n) (sym it)))
          by-way (way.Auto to exec) it ops = absurd (not-yet n by at (same-head o (op.Auto n to) rest (op.Start n ∷ []) (sym is ∙ ops) ∙ ap (λ (i : Way). move i n) (sym it)))

          go : (x.core.ops ≡ tail_of (stage.Move n by)) ⊎ (x.core.ops ≡ before by n ++ tail_of (stage.Move n by)) → GoesSo n by
          go (inl ops) = absurd (not-yet n by at (same-head o (move by n) rest (op.Start n ∷ []) (sym is ∙ ops)))
          go (inr ops) = by-way by refl ops

      same-rests : RestsSoFar w' later
      same-rests = record {
        stops = last-one;
        trails = λ n y at. sourced-stays w w' n.0 x.failed.0 (keeps-source n.0) (h.trails n y at);
        drained = drained-rest;
        queue = queue-rest;
        going = λ n by at. (going-on n by at).0;
        matched = λ n by at. (going-on n by at).1;
      }

      -- a reading that was just made ended its stage
      same-rested : Rested w' later
      same-rested = record {
        so = same-rests;
        judged = λ n s at. absurd (read-out (stage.Judged n) at fits refl refl);
        looked = λ n y s at. absurd (read-out (stage.Looked n y) at fits refl refl);
        halted = λ n y s at. absurd (read-out (stage.Halted n y) at fits refl refl);
      }
        where
          none-left : (s : Stage) → (info s).due ≡ true → Fits s (o ∷ rest) → tail_of s ≡ [] → ⊥
          none-left s due f none = let bad : o ∷ rest ≡ [] = f.is ∙ (ap (λ (xs : List Op). xs ++ tail_of s) (f.due due) ∙ none) in cc

          read-out : (s : Stage) → x.stage ≡ s → Fits x.stage (o ∷ rest) → ((info s).due ≡ true) → (tail_of s ≡ []) → ⊥
          read-out s at f due none = none-left s due (subst (λ (k : Stage). Fits k (o ∷ rest)) at f) none

    -- ---- the next stage begins

    module _ (t : o ∷ rest ≡ tail_of x.stage) where
      -- the replica was read
      module _ (n : ServerNo) (s : Stage) (at : x.stage ≡ s) (tail : tail_of s ≡ op.Status n None ∷ []) where
        ops-now : x.core.ops ≡ op.Status n None ∷ []
        ops-now = is ∙ (t ∙ (ap tail_of at ∙ tail))

        reads-it : o ≡ op.Status n None
        reads-it = same-head o (op.Status n None) rest [] (t ∙ (ap tail_of at ∙ tail))

        shows-it : ShowsNow w j.seen n
        shows-it = subst (ReadsNow w n) (so-does (op.Status n None) reads-it) (read-now w read now x.core rest n)

        put-on : (k : ℕ) → StaysPut w w' k
        put-on k = run-put w es k (made-well (Spares k) w x.core rest read now (deed_of o) (subst (λ (y : Op). Makes (Spares k) (deed_of y)) (sym reads-it) tt) ob es j goes-so)

        -- as it was seen
        as-shown : (s' : Position) → seen_of j.seen n.0 ≡ Some s' → position_of shows-it.0 ≡ s'
        as-shown s' seen = same_Some (position_of shows-it.0) s' (sym shows-it.2 ∙ seen)

        below-now : (s' : Position) → seen_of j.seen n.0 ≡ Some s' → is_below s' x.failed ≡ true → IsThere (HasSource x.failed.0) w n.0
        below-now s' seen below = seen-below w n shows-it.0 shows-it.1 x.failed (ap (λ (y : Position). is_below y x.failed) (as-shown s' seen) ∙ below)

        rests-now : IsStopping x.stage n → IsThere (HasSource x.failed.0) w n.0 → (s' : Position) → seen_of j.seen n.0 ≡ Some s' → IsThere (Rests x.failed.0 s'.exec) w' n.0
        rests-now stops below s' seen =
            (put-on n.0).rests x.failed.0 s'.exec
            (subst (λ (y : Position). IsThere (Rests x.failed.0 y.exec) w n.0) (as-shown s' seen)
            (rests-there w n shows-it.0 shows-it.1 x.failed.0 below (h.stops n stops ops-now)))

      abbrev next : Option ServerNo → Recovery
      next q = record (follows_no_more later q) { stage = moved x.stage }

      from : (s : Stage) (n : ServerNo) → moved x.stage ≡ s → reader_of s ≡ Some n → x.stage ≡ read_at s
      from s n to reads = came-from x.stage s o rest n t to reads

      judged-now : (n : ServerNo) (s : Position) → moved x.stage ≡ stage.Judged n → seen_of j.seen n.0 ≡ Some s → is_below s x.failed ≡ true → IsThere (Rests x.failed.0 s.exec) w' n.0
      judged-now n s to seen below =
          let at = from (stage.Judged n) n to refl in
          rests-now n (stage.Drain n) at refl (inl at) (below-now n (stage.Drain n) at refl s seen below) s seen

      looked-now : (n : ServerNo) (y : Bridge) (s : Position) → moved x.stage ≡ stage.Looked n y → seen_of j.seen n.0 ≡ Some s → is_below s x.failed ≡ true → IsThere (HasSource x.failed.0) w' n.0
      looked-now n y s to seen below =
          let at = from (stage.Looked n y) n to refl in
          (put-on n (stage.Look n y) at refl n.0).sourced x.failed.0 (below-now n (stage.Look n y) at refl s seen below)

      halted-now : (n : ServerNo) (y : Bridge) (s : Position) → moved x.stage ≡ stage.Halted n y → seen_of j.seen n.0 ≡ Some s → (y.source.0 ≡ x.failed.0) × IsThere (Rests x.failed.0 s.exec) w' n.0
      halted-now n y s to seen =
          let at = from (stage.Halted n y) n to refl in (
            (subst (λ (l : Option Bridge). IfSome l (IsLead w x.failed)) (speaks.lead y (ap lead_of at)) held.lead).below,
            rests-now n (stage.Trail n y) at refl (inr (y, at)) (h.trails n y at) s seen,
          )

      next-rested : (q : Option ServerNo) → Rested w' (next q)
      next-rested None = record {
        so = still w' (next None) drained-rest queue-rest (moved-calm x.stage);
        judged = judged-now;
        looked = looked-now;
        halted = halted-now;
      }
      next-rested (Some m) = record {
        so = still w' (next (Some m)) drained-rest queue-rest (moved-calm x.stage);
        judged = judged-now;
        looked = looked-now;
        halted = halted-now;
      }

    stepped-rests : Rested w' (stepped later o)
    stepped-rests = go (fits-step x.stage o rest fits)
      where
        go : ((ends x.stage (deed_of o) ≡ false) × Fits x.stage rest) ⊎ (o ∷ rest ≡ tail_of x.stage) → Rested w' (stepped later o)
        go (inl p) = subst (λ (b : Bool). Rested w' (cond b (entered later (moved x.stage)) later)) (sym p.0) (same-rested p.0)
        go (inr t) = subst (λ (b : Bool). Rested w' (cond b (entered later (moved x.stage)) later)) (sym (moved-fits x.stage o rest t).0) (next-rested t (leaver (moved x.stage)))

  -- ---- one more wait

  waited-rests : j.ops ≡ x.core.ops → es ≡ [] → RestsSoFar w' later
  waited-rests same none = subst (λ (xs : List Exchange). RestsSoFar (run w xs) later) (sym none) (record {
    stops = λ n at ops. h.stops n at (sym same ∙ ops);
    trails = h.trails;
    drained = h.drained;
    queue = h.queue;
    going = h.going;
    matched = λ n by at. no-match n by;
  })
    where
      no-match : (n : ServerNo) (by : Way) → IsMatchedThere w x.failed j n by
      no-match n (way.Match to exec every) =
          λ tail y found.
          let first = same-head o (op.CrossMatch n to) rest (op.Start n ∷ []) (sym is ∙ (sym same ∙ tail)) in
          absurd (no-cycle o rest (sym (attach-left w x.core rest n (by_match n to (match_found x.core.matches n to)) ob es j (so-does (op.CrossMatch n to) first)) ∙ (same ∙ is)))
      no-match n by = tt

-- ---- a turn

module _ (w : World) (b : BookState) (now : Moment) (r : Recovery) (P : Fact → Bool) (why : ExplainsTruly w b now r P) (read : ℕ) (placed : Placed w) (rings : HeldRings w b.rings) where
  abbrev Sofar : Recovery → Type 0
  Sofar x = Before w b now r P why read placed rings x × (AreLeft x.stage x.core.ops × RestsSoFar w x)

  decides-on : (x : Recovery) (d : Decision) → MayDecide (ground_of w b now) x d → Sofar x → Sofar (decided_by (ground_of w b now) x d)
  decides-on x d may h = (
    decides-before-up w b now r P why read placed rings x d may h.0,
    (decides-listed w b now x d may h.1.0, decides-rest w b now x h.1.1 rings d may),
  )

  keeps-rest : KeepsMoves w b read now Sofar (λ v z. Rested v z) (λ v z. RestsSoFar v z)
  keeps-rest = record {
    decides = decides-on;
    waits = λ x o rest ob es j did e h.
        let left = (went-of w read now x o rest ob es j did).waits e in
        waited-rests w read now P x o rest did.ops (covered w b read now placed rings x o rest did.ops h.0.0.1).at (fits-of w x o rest did.ops h.0.0.0) h.0.1.0 (due-listed x o rest did.ops h.1.0) h.0.0.0
        h.0.1.1.1 h.1.1 ob es j did.goes left.0 left.1;
    acts = λ x o rest ob es j did e h.
        stepped-rests w read now P x o rest did.ops (covered w b read now placed rings x o rest did.ops h.0.0.1).at (fits-of w x o rest did.ops h.0.0.0) h.0.1.0 (due-listed x o rest did.ops h.1.0) h.0.0.0
        h.0.1.1.1 h.1.1 ob es j did.goes ((went-of w read now x o rest ob es j did).done e);
    continues = λ v z y ys is h. h.so;
    completes = λ v z e none may h. completes-rest v z h e may;
    bears = λ x o rest c ob e stops is may h. borne-rests w x e h.1.1;
  }

  module _ (held : HeldRecovery w r) (c : CoversSoFar w r) (speaks : Speaks r) (up : UpSoFar P w r) (h : RestsSoFar w r) where
    first : Sofar r
    first = (((held, inl c), (speaks.says, (by.Still, up))), (speaks.listed, h))

    pub taken-rests : is_going (taken w b read now r).step ≡ true → RestsSoFar (run w (taken w b read now r).exchanges) (taken w b read now r).recovery
    taken-rests = kept-along w b read now Sofar (λ v z. Rested v z) (λ v z. RestsSoFar v z) keeps-rest r first

    -- ---- no attachment finds its replica elsewhere

    module _ (d : Recovery) (so : RestsSoFar w d) (n : ServerNo) (expected found : Spot) where
      -- what its answer would be
      refuted : (e : Exchange) → is_interfered (attach_answer_of w e) ≡ false → attach_answer_of w e ≡ Err (attaching.Interfered expected found) → ⊥
      refuted e never answer = false≢true (sym never ∙ ap is_interfered answer)

      as-made : (x e : Exchange) → Some x ≡ Some e → is_interfered (attach_answer_of w x) ≡ false → attach_answer_of w e ≡ Err (attaching.Interfered expected found) → ⊥
      as-made x e same never = refuted e (subst (λ (y : Exchange). is_interfered (attach_answer_of w y) ≡ false) (same_Some x e same) never)

      by-way : (by : Way) (e : Exchange) → d.stage ≡ stage.Move n by → d.core.ops ≡ tail_of (stage.Move n by) → attachment_by d n by ≡ Some e
          → attach_answer_of w e ≡ Err (attaching.Interfered expected found) → ⊥
      by-way (way.Down x) e at tail is = as-made (Attach n.0 (spot.At x.source x.exec) x.no x.own) e is (rests-never w n.0 x.no.0 x.source x.exec x.own (so.going n (way.Down x) at))
      by-way (way.Up x) e at tail is = as-made (Attach n.0 (spot.At x.no x.own) x.source x.exec) e is (rests-never w n.0 x.source.0 x.no x.own x.exec (so.going n (way.Up x) at))
      by-way (way.Auto to exec) e at tail is = go (seen_of d.core.seen to.0) is
        where
          go : (o : Option Position) → option_map (λ (s : Position). AttachAuto n.0 s.set to) o ≡ Some e → attach_answer_of w e ≡ Err (attaching.Interfered expected found) → ⊥
          go None f = cc
          go (Some s) f = as-made (AttachAuto n.0 s.set to) e f (auto-never w n.0 to.0 s.set (server_at w n.0))
      by-way (way.Match to exec every) e at tail is = go (match_found d.core.matches n to) refl is
        where
          never : (x : Match) → IsApplying w n.0 ⊎ (x.spot ≡ spot.At d.failed exec) → is_interfered (attach_answer_of w (Attach n.0 x.spot to x.at)) ≡ false
          never x (inl on) = applies-never w n.0 to.0 x.spot x.at on
          never x (inr there) =
              subst (λ (y : Spot). is_interfered (attach_answer_of w (Attach n.0 y to x.at)) ≡ false) (sym there)
              (rests-never w n.0 to.0 d.failed exec x.at (so.going n (way.Match to exec every) at))

          go : (o : Option Match) → match_found d.core.matches n to ≡ o → option_map (λ (x : Match). Attach n.0 x.spot to x.at) o ≡ Some e → attach_answer_of w e ≡ Err (attaching.Interfered expected found) → ⊥
          go None m f = cc
          go (Some x) m f = as-made (Attach n.0 x.spot to x.at) e f (never x (so.matched n (way.Match to exec every) at tail x m))

    pub never-interfered : (d : Recovery) → Decisions (ground_of w b now) r d → IsNeverInterfered w d
    never-interfered d ds = λ n by e expected found at tail is. by-way d (decisions-keep w b now Sofar decides-on ds first).1.1 n expected found by e at tail is
