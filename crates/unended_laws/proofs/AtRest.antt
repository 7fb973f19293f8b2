-- The replicas of a recovery rest so far, whatever others do and in each turn of its own.
use Rattle.std.proofs.Common.{◌≡◌, ℕ, Bool, true, false, cond, not, List, [], ◌∷◌, ◌++◌, get_or, map, filter, refl, sym, ◌∙◌, ap, subst, Option, Some, None, ◌&&◌, ◌⊎◌, inl, inr, ◌==◌, option_map, is_some}
use Rattle.unended_laws.proofs.Prelude.{All, All-append, All-cons, All-filter, All-head, All-latest, All-map, All-nil, All-push, All-tail, Bearing}
use Rattle.unended_laws.proofs.Prelude.{BookState, Bridge, Coord, Decision, Ending, Exchange, Group, HasSource, HeldRings, IsAny, IsApplying}
use Rattle.unended_laws.proofs.Prelude.{IsLeased, IsMatchedThere, IsNext, IsResting, IsStopping, IsTaskOf, IsThere, Job, LeasedRecovery, Lot}
use Rattle.unended_laws.proofs.Prelude.{MayDecide, MayEnd, Means, Moment, Position, Purpose, Recovery, Rests, RestsFor, RestsSoFar, ServerNo, Sight}
use Rattle.unended_laws.proofs.Prelude.{Stage, Stopped, Task, Way, World, after, and_parts, before, begun_recovery, borne, but, changed_by}
use Rattle.unended_laws.proofs.Prelude.{coord_by, decided_by, ended_by, expels, fate_of, ground_of, group_of, has_own, is_below, is_outside, late}
use Rattle.unended_laws.proofs.Prelude.{latest_that, logs_at, lot_by, lot_by_group, move, move_of, moved, moves_in, own_end_of, releases, ring_at}
use Rattle.unended_laws.proofs.Prelude.{run, same_Some, same_coord, same_coord-true, seen_of, server_of, source_by, spot_seen, stopped_at, stray}
use Rattle.unended_laws.proofs.Prelude.{unleased-run, way_below, way_by_set, why_of, without_stopped}
use Rattle.unended_laws.proofs.Prelude.by
use Rattle.unended_laws.proofs.Prelude.deciding
use Rattle.unended_laws.proofs.Prelude.group
use Rattle.unended_laws.proofs.Prelude.lost
use Rattle.unended_laws.proofs.Prelude.means
use Rattle.unended_laws.proofs.Prelude.op
use Rattle.unended_laws.proofs.Prelude.purpose
use Rattle.unended_laws.proofs.Prelude.stage
use Rattle.unended_laws.proofs.Prelude.task
use Rattle.unended_laws.proofs.Prelude.way
use Rattle.unended_laws.proofs.Resting.{StaysPut, outside-put, same-put}

-- ---- servers that stay put

-- it holds of a server that is to go some way
abbrev pub IsGoerOf : (ℕ → Type 0) → Task → Type 0
IsGoerOf P (task.Moving n by) = P n.0
IsGoerOf P t = Unit {0}

abbrev pub IsDrainedOf : World → ServerNo → Stopped → Type 0
IsDrainedOf w f s = IsThere (Rests f.0 s.exec) w s.no.0

module _ (w w' : World) (P : ℕ → Type 0) (on : (n : ℕ) → P n → StaysPut w w' n) (f : ServerNo) where
  pub drained-on : (ds : List Stopped) → All (λ s. P s.no.0) ds → All (IsDrainedOf w f) ds → All (IsDrainedOf w' f) ds
  drained-on ds ours all = λ i d lt. (on (get_or ds i d).no.0 (ours i d lt)).rests f.0 (get_or ds i d).exec (all i d lt)

  task-on : (t : Task) → IsGoerOf P t → IsResting w f t → IsResting w' f t
  task-on (task.Moving n by) ours h = (on n.0 ours).rests (source_by f by).0 (coord_by by) h
  task-on t ours h = tt

  pub queue-on : (ts : List Task) → All (IsGoerOf P) ts → All (IsResting w f) ts → All (IsResting w' f) ts
  queue-on ts ours all = λ i d lt. task-on (get_or ts i d) (ours i d lt) (all i d lt)

  matched-on : (j : Job) (n : ServerNo) (by : Way) → P n.0 → IsMatchedThere w f j n by → IsMatchedThere w' f j n by
  matched-on j n (way.Match to exec every) ours h = λ tail x found. go (h tail x found)
    where
      go : {A : Type 0} → IsApplying w n.0 ⊎ A → IsApplying w' n.0 ⊎ A
      go (inl a) = inl ((on n.0 ours).applies a)
      go (inr s) = inr s
  matched-on j n by ours h = tt

-- those that a recovery may change
module _ (w w' : World) (r : Recovery) (P : ℕ → Type 0) (on : (n : ℕ) → P n → StaysPut w w' n) (staged : All (λ n. P n.0) (changed_by r.stage)) (drained : All (λ s. P s.no.0) r.drained) (queue : All (IsGoerOf P) r.queue) where
  at-stage : (s : Stage) (n : ServerNo) → r.stage ≡ s → changed_by s ≡ n ∷ [] → P n.0
  at-stage s n at is = All-head (λ k. P k.0) n [] (subst (λ (ns : List ServerNo). All (λ (k : ServerNo). P k.0) ns) (ap changed_by at ∙ is) staged)

  stopping : (n : ServerNo) → IsStopping r.stage n → P n.0
  stopping n (inl at) = at-stage (stage.Drain n) n at refl
  stopping n (inr at) = at-stage (stage.Trail n at.0) n at.1 refl

  rests-on : RestsSoFar w r → RestsSoFar w' r
  rests-on h = record {
    stops = λ n at ops. (on n.0 (stopping n at)).stopped (h.stops n at ops);
    trails = λ n x at. (on n.0 (stopping n (inr (x, at)))).sourced r.failed.0 (h.trails n x at);
    drained = drained-on w w' P on r.failed r.drained drained h.drained;
    queue = queue-on w w' P on r.failed r.queue queue h.queue;
    going = λ n by at. (on n.0 (at-stage (stage.Move n by) n at refl)).rests (source_by r.failed by).0 (coord_by by) (h.going n by at);
    matched = λ n by at. matched-on w w' P on r.failed r.core n by (at-stage (stage.Move n by) n at refl) (h.matched n by at);
  }

goer-of : (P : ℕ → Type 0) (f : ServerNo) (t : Task) → IsTaskOf P IsAny f t → IsGoerOf P t
goer-of P f (task.Moving n by) h = h
goer-of P f t h = tt

any-goer : (t : Task) → IsGoerOf IsAny t
any-goer (task.Moving n by) = tt
any-goer t = tt

pub outside-rests : (w : World) (e : Exchange) (r : Recovery) → is_outside e ≡ true → RestsSoFar w r → RestsSoFar (after w e) r
outside-rests w e r out h =
    rests-on w (after w e) r IsAny (λ n any. outside-put w e out n) (λ i d lt. tt) (λ i d lt. tt) (λ i d lt. any-goer (get_or r.queue i d)) h

pub others-rest : (l : ℕ → Option ℕ) (id mine : ℕ) (w : World) (es : List Exchange) (r : Recovery) → All (λ e. IsLeased l id (server_of e)) es → (id ≡ mine → ⊥) → LeasedRecovery l mine r
    → RestsSoFar w r → RestsSoFar (run w es) r
others-rest l id mine w es r all apart leased h =
    rests-on w (run w es) r (IsLeased l mine) (λ n own. same-put w (run w es) n (unleased-run l id w es n all (λ e. apart (same_Some id mine (sym e ∙ own))))) leased.stage leased.drained
    (λ i d lt. goer-of (IsLeased l mine) r.failed (get_or r.queue i d) (leased.queue i d lt)) h

-- ---- a stage of another kind

-- no replica is stopped at such a stage, or goes some way
abbrev pub IsCalm : Stage → Type 0
IsCalm (stage.Drain n) = ⊥
IsCalm (stage.Trail n x) = ⊥
IsCalm (stage.Move n by) = ⊥
IsCalm s = Unit {0}

pub moved-calm : (s : Stage) → IsCalm (moved s)
moved-calm (stage.Move n by) = tt
moved-calm s = tt

module _ (w : World) (y : Recovery) (drained : All (IsDrainedOf w y.failed) y.drained) (queue : All (IsResting w y.failed) y.queue) where
  pub still : IsCalm y.stage → RestsSoFar w y
  still calm = record {
    stops = λ n at ops. absurd (stopping-not n at);
    trails = λ n x at. absurd (stopping-not n (inr (x, at)));
    drained = drained;
    queue = queue;
    going = λ n by at. absurd (subst IsCalm at calm);
    matched = λ n by at. absurd (subst IsCalm at calm);
  }
    where
      stopping-not : (n : ServerNo) → IsStopping y.stage n → ⊥
      stopping-not n (inl at) = subst IsCalm at calm
      stopping-not n (inr at) = subst IsCalm at.1 calm

  -- or at the same stage
  as-before : (x : Recovery) → y.stage ≡ x.stage → y.core ≡ x.core → y.failed ≡ x.failed → RestsSoFar w x → RestsSoFar w y
  as-before x at core failed h = record {
    stops = λ n s ops. h.stops n (subst (λ (k : Stage). IsStopping k n) at s) (ap (λ (j : Job). j.ops) (sym core) ∙ ops);
    trails = λ n z s. subst (λ (f : ServerNo). IsThere (HasSource f.0) w n.0) (sym failed) (h.trails n z (sym at ∙ s));
    drained = drained;
    queue = queue;
    going = λ n by s. subst (λ (f : ServerNo). RestsFor w f n by) (sym failed) (h.going n by (sym at ∙ s));
    matched = λ n by s.
        subst (λ (f : ServerNo). IsMatchedThere w f y.core n by) (sym failed)
        (subst (λ (j : Job). IsMatchedThere w x.failed j n by) (sym core) (h.matched n by (sym at ∙ s)));
  }

  -- one begins to go some way
  goes : (n : ServerNo) (by : Way) → y.stage ≡ stage.Move n by → RestsFor w y.failed n by → IsMatchedThere w y.failed y.core n by → RestsSoFar w y
  goes n by at rests matched = record {
    stops = λ k s ops. absurd (other k s);
    trails = λ k x s. absurd (other k (inr (x, s)));
    drained = drained;
    queue = queue;
    going = λ k to s. let same = same_Some (n, by) (k, to) (ap goer_of (sym at ∙ s)) in subst (λ (z : ServerNo × Way). RestsFor w y.failed z.0 z.1) same rests;
    matched = λ k to s. let same = same_Some (n, by) (k, to) (ap goer_of (sym at ∙ s)) in subst (λ (z : ServerNo × Way). IsMatchedThere w y.failed y.core z.0 z.1) same matched;
  }
    where
      goer_of : Stage → Option (ServerNo × Way)
      goer_of (stage.Move k to) = Some (k, to)
      goer_of s = None

      other : (k : ServerNo) → IsStopping y.stage k → ⊥
      other k (inl s) = let bad : stage.Move n by ≡ stage.Drain k = sym at ∙ s in cc
      other k (inr s) = let bad : stage.Move n by ≡ stage.Trail k s.0 = sym at ∙ s.1 in cc

-- ---- as it begins

-- tasks in which nobody goes some way
others-rest-on : (w : World) (f : ServerNo) (to : ServerNo → Task) → ((n : ServerNo) → IsResting w f (to n)) → (ns : List ServerNo) (ts : List Task) → All (IsResting w f) ts → All (IsResting w f) (map to ns ++ ts)
others-rest-on w f to each ns ts all =
    All-append (IsResting w f) (map to ns) ts (All-map (IsResting w f) to ns (λ i d lt. each (get_or ns i d))) all

pub begun-rests : (w : World) (u : Purpose) (by : Means) (id wait : ℕ) (f : ServerNo) (ns order : List ServerNo) → RestsSoFar w (begun_recovery u by id wait f ns order)
begun-rests w u by id wait f ns order = go u
  where
    one : (t : Task) → IsResting w f t → All (IsResting w f) (t ∷ [])
    one t h = All-cons (IsResting w f) t [] h (All-nil (IsResting w f))

    drains : (t : Task) → IsResting w f t → All (IsResting w f) (map task.Draining ns ++ t ∷ task.Sorting ∷ [])
    drains t h = others-rest-on w f task.Draining (λ n. tt) ns (t ∷ task.Sorting ∷ []) (All-cons (IsResting w f) t (task.Sorting ∷ []) h (one task.Sorting tt))

    go : (v : Purpose) → RestsSoFar w (begun_recovery v by id wait f ns order)
    go purpose.Regroup = still w (begun_recovery purpose.Regroup by id wait f ns order) (All-nil (IsDrainedOf w f)) (drains task.Choosing tt) tt
    go purpose.Master = still w (begun_recovery purpose.Master by id wait f ns order) (All-nil (IsDrainedOf w f)) (drains task.Choosing tt) tt
    go (purpose.Intermediate s) =
        still w (begun_recovery (purpose.Intermediate s) by id wait f ns order) (All-nil (IsDrainedOf w f))
        (All-cons (IsResting w f) (task.Reading s) (map task.Draining ns ++ task.Handing ∷ task.Sorting ∷ []) tt (drains task.Handing tt)) tt
    go (purpose.Takeover d) =
        still w (begun_recovery (purpose.Takeover d) by id wait f ns order) (All-nil (IsDrainedOf w f))
        (others-rest-on w f task.Trailing (λ n. tt) (but ns d) (task.Yielding ∷ []) (one task.Yielding tt)) tt

-- ---- what is decided

-- a way that starts where a replica was drained, by no match
record StartsAt (f : ServerNo) (at : Coord) (by : Way) : Type 0 where
  source : (source_by f by).0 ≡ f.0
  exec : coord_by by ≡ at

abbrev IsLotFrom : ServerNo → Coord → Lot → Type 0
IsLotFrom f at (deciding.Goes by) = StartsAt f at by
IsLotFrom f at (deciding.Stays why) = Unit {0}

starts-rest : (w : World) (f : ServerNo) (n : ServerNo) (at : Coord) (by : Way) → StartsAt f at by → IsThere (Rests f.0 at) w n.0 → RestsFor w f n by
starts-rest w f n at by starts h =
    subst (λ (m : ℕ). IsThere (Rests m (coord_by by)) w n.0) (sym starts.source) (subst (λ (c : Coord). IsThere (Rests f.0 c) w n.0) (sym starts.exec) h)

module _ (w : World) (b : BookState) (now : Moment) where
  -- below the chosen one
  lot-from : (u : Means) (f : ServerNo) (p s : Stopped) → IsLotFrom f s.exec (lot_by u (ground_of w b now) f p s)
  lot-from (means.Matches every) f p s = record { source = refl; exec = refl }
  lot-from means.Bridges f p s = go w.gtid (group_of b.rings p.no (own_end_of p) p.exec f s.exec)
    where
      by-group : (x : Group) → IsLotFrom f s.exec (lot_by_group p.no f s x)
      by-group (group.Follow at) = record { source = refl; exec = refl }
      by-group x = tt

      go : (g : Bool) (x : Group) → IsLotFrom f s.exec (cond g (deciding.Goes (way.Auto p.no s.exec)) (lot_by_group p.no f s x))
      go true x = record { source = refl; exec = refl }
      go false x = by-group x

  moves-rest : (u : Means) (f : ServerNo) (p : Stopped) (ss : List Stopped) → All (IsDrainedOf w f) ss → All (IsResting w f) (moves_in (lot_by u (ground_of w b now) f p) ss)
  moves-rest u f p [] all = All-nil (IsResting w f)
  moves-rest u f p (s ∷ ss) all =
      All-append (IsResting w f) (move_of s (lot_by u (ground_of w b now) f p s)) (moves_in (lot_by u (ground_of w b now) f p) ss)
      (go (lot_by u (ground_of w b now) f p s) (lot-from u f p s)) (moves-rest u f p ss (All-tail (IsDrainedOf w f) s ss all))
    where
      go : (y : Lot) → IsLotFrom f s.exec y → All (IsResting w f) (move_of s y)
      go (deciding.Goes by) h =
          All-cons (IsResting w f) (task.Moving s.no by) [] (starts-rest w f s.no s.exec by h (All-head (IsDrainedOf w f) s ss all)) (All-nil (IsResting w f))
      go (deciding.Stays why) h = All-nil (IsResting w f)

  -- below the successor, by no match
  abbrev StartsUnmatched : ServerNo → Coord → Way → Type 0
  StartsUnmatched f at y = StartsAt f at y × ((j : Job) (k : ServerNo) → IsMatchedThere w f j k y)

  below-starts : HeldRings w b.rings → (seen : List Sight) (f n : ServerNo) (s : Stopped) (by : Way) → way_below (ground_of w b now) seen f n s ≡ Some by → StartsUnmatched f s.exec by
  below-starts rings seen f n s by h = go w.gtid h
    where
      by-set : (a : Bool) → cond a (Some (way.Auto n s.exec)) None ≡ Some by → StartsUnmatched f s.exec by
      by-set true e = subst (StartsUnmatched f s.exec) (same_Some (way.Auto n s.exec) by e) (record { source = refl; exec = refl }, λ j k. tt)
      by-set false e = cc

      by-log : (o : Option Bridge) → latest_that (has_own n s.exec) (ring_at b.rings f) ≡ o → option_map way.Up o ≡ Some by → StartsUnmatched f s.exec by
      by-log None is e = cc
      by-log (Some x) is e =
          let own = All-latest (λ (y : Bridge). y.no.0 ≡ f.0) (has_own n s.exec) (ring_at b.rings f) x (rings.own f) is in
          subst (StartsUnmatched f s.exec) (same_Some (way.Up x) by e) (record { source = own.0; exec = same_coord-true x.own s.exec (and_parts (x.source.0 == n.0) (same_coord x.own s.exec) own.1).1 }, λ j k. tt)

      go : (g : Bool) → cond g (way_by_set w seen n s) (option_map way.Up (latest_that (has_own n s.exec) (ring_at b.rings f))) ≡ Some by → StartsUnmatched f s.exec by
      go true e = by-set (is_some (seen_of seen n.0) && logs_at w n) e
      go false e = by-log (latest_that (has_own n s.exec) (ring_at b.rings f)) refl e

  -- with the match still to be found
  unmatched : (f : ServerNo) (j : Job) (n : ServerNo) (by : Way) → j.ops ≡ before by n ++ move by n ∷ op.Start n ∷ [] → IsMatchedThere w f j n by
  unmatched f j n (way.Match to exec every) ops =
      λ tail x found. let bad : op.Match n to every ∷ op.CrossMatch n to ∷ op.Start n ∷ [] ≡ op.CrossMatch n to ∷ op.Start n ∷ [] = sym ops ∙ tail in cc
  unmatched f j n by ops = tt

  module _ (x : Recovery) (h : RestsSoFar w x) where
    abbrev AllRest : List Task → Type 0
    AllRest ts = All (IsResting w x.failed) ts

    left : (t : Task) (ts : List Task) → IsNext x t ts → AllRest ts
    left t ts next = All-tail (IsResting w x.failed) t ts (subst AllRest next.queue h.queue)

    pub decides-rest : HeldRings w b.rings → (d : Decision) → MayDecide (ground_of w b now) x d → RestsSoFar w (decided_by (ground_of w b now) x d)
    decides-rest rings (by.Reads n ts) may = still w (decided_by (ground_of w b now) x (by.Reads n ts)) h.drained (left (task.Reading n) ts may) tt
    decides-rest rings (by.Expels n ts) may = still w (decided_by (ground_of w b now) x (by.Expels n ts)) h.drained (left (task.Expelling n) ts may) tt
    decides-rest rings (by.Releases n ts) may = still w (decided_by (ground_of w b now) x (by.Releases n ts)) h.drained (left (task.Releasing n) ts may) tt
    decides-rest rings (by.Looks n z ts) may = still w (decided_by (ground_of w b now) x (by.Looks n z ts)) h.drained (left (task.Trailing n) ts may.0) tt
    decides-rest rings (by.Yields z ts) may = still w (decided_by (ground_of w b now) x (by.Yields z ts)) h.drained (left task.Yielding ts may.0) tt
    decides-rest rings (by.Levels p q) may = still w (decided_by (ground_of w b now) x (by.Levels p q)) h.drained h.queue tt
    decides-rest rings (by.Crowns p) may = still w (decided_by (ground_of w b now) x (by.Crowns p)) h.drained h.queue tt
    decides-rest rings (by.Rejoins p) may = still w (decided_by (ground_of w b now) x (by.Rejoins p)) h.drained h.queue tt
    decides-rest rings by.Closes may = still w (decided_by (ground_of w b now) x by.Closes) h.drained h.queue tt
    decides-rest rings (by.Drains n ts) may = record {
      stops = λ k at ops. cc;
      trails = λ k z at. cc;
      drained = h.drained;
      queue = left (task.Draining n) ts may;
      going = λ k to at. cc;
      matched = λ k to at. cc;
    }
    decides-rest rings (by.Sends n go ts) may =
        goes w (decided_by (ground_of w b now) x (by.Sends n go ts)) h.drained (left (task.Moving n go) ts may) n go refl
        (All-head (IsResting w x.failed) (task.Moving n go) ts (subst AllRest may.queue h.queue))
        (unmatched x.failed (decided_by (ground_of w b now) x (by.Sends n go ts)).core n go refl)
    decides-rest rings (by.Hands d ds go ts) may =
        let starts = below-starts rings x.core.seen x.failed may.source d go may.way in
        let these = subst (λ (ss : List Stopped). All (IsDrainedOf w x.failed) ss) may.drained h.drained in
        goes w (decided_by (ground_of w b now) x (by.Hands d ds go ts)) (All-tail (IsDrainedOf w x.failed) d ds these) h.queue d.no go refl
        (starts-rest w x.failed d.no d.exec go starts.0 (All-head (IsDrainedOf w x.failed) d ds these)) (starts.1 (decided_by (ground_of w b now) x (by.Hands d ds go ts)).core d.no)
    decides-rest rings (by.Chooses p ts) may =
        as-before w (decided_by (ground_of w b now) x (by.Chooses p ts)) (All-nil (IsDrainedOf w x.failed))
        (All-append (IsResting w x.failed) (moves_in (lot_by x.means (ground_of w b now) x.failed p) (without_stopped x.drained p.no)) ts
        (moves-rest x.means x.failed p (without_stopped x.drained p.no) (All-filter (λ s. not (s.no.0 == p.no.0)) (IsDrainedOf w x.failed) x.drained h.drained)) (left task.Choosing ts may.0)) x refl refl refl h
    decides-rest rings (by.ChoosesNobody ts) may =
        as-before w (decided_by (ground_of w b now) x (by.ChoosesNobody ts)) (All-nil (IsDrainedOf w x.failed)) (All-nil (IsResting w x.failed)) x refl refl refl h
    decides-rest rings (by.Sticks t ts) may = as-before w (decided_by (ground_of w b now) x (by.Sticks t ts)) h.drained (All-nil (IsResting w x.failed)) x refl refl refl h
    decides-rest rings (by.Leaves d ds ts) may =
        as-before w (decided_by (ground_of w b now) x (by.Leaves d ds ts))
        (All-tail (IsDrainedOf w x.failed) d ds (subst (λ (ss : List Stopped). All (IsDrainedOf w x.failed) ss) may.drained h.drained)) h.queue x refl refl refl h
    decides-rest rings (by.HandedOver ts) may =
        as-before w (decided_by (ground_of w b now) x (by.HandedOver ts)) (All-nil (IsDrainedOf w x.failed)) (left task.Handing ts may.0) x refl refl refl h
    decides-rest rings (by.Passes ts) may = as-before w (decided_by (ground_of w b now) x (by.Passes ts)) h.drained (left task.Handing ts may.0) x refl refl refl h
    decides-rest rings (by.Sorts ts) may =
        as-before w (decided_by (ground_of w b now) x (by.Sorts ts)) h.drained
        (others-rest-on w x.failed task.Expelling (λ n. tt) outs (map task.Releasing free ++ ts)
        (others-rest-on w x.failed task.Releasing (λ n. tt) free ts (left task.Sorting ts may))) x refl refl refl h
      where
        outs : List ServerNo
        outs = filter (λ n. expels x.purpose (why_of x.outcome.lost n)) x.replicas

        free : List ServerNo
        free = filter (λ n. releases x.purpose (why_of x.outcome.lost n)) x.replicas
    decides-rest rings by.Remains may = as-before w (decided_by (ground_of w b now) x by.Remains) h.drained h.queue x refl refl refl h

-- ---- a failing operation

pub borne-rests : (w : World) (x : Recovery) (e : Bearing) → RestsSoFar w x → RestsSoFar w (borne x (fate_of e))
borne-rests w x by.Drops h = still w (borne x (fate_of by.Drops)) h.drained h.queue tt
borne-rests w x e h = still w (borne x (fate_of e)) h.drained h.queue tt

-- ---- between an operation and the end of the stage

-- After a reading. A replica that was drained is at rest at the position that was read. So is one that came to the
-- position at which the designated one stopped, whose bridge is of the failed server. One that is to go there is below
-- that server.
pub record Rested (v : World) (z : Recovery) : Type 0 where
  pub so : RestsSoFar v z
  pub judged : (n : ServerNo) (s : Position) → z.stage ≡ stage.Judged n → seen_of z.core.seen n.0 ≡ Some s → is_below s z.failed ≡ true
      → IsThere (Rests z.failed.0 s.exec) v n.0
  pub looked : (n : ServerNo) (x : Bridge) (s : Position) → z.stage ≡ stage.Looked n x → seen_of z.core.seen n.0 ≡ Some s → is_below s z.failed ≡ true
      → IsThere (HasSource z.failed.0) v n.0
  pub halted : (n : ServerNo) (x : Bridge) (s : Position) → z.stage ≡ stage.Halted n x → seen_of z.core.seen n.0 ≡ Some s
      → (x.source.0 ≡ z.failed.0) × IsThere (Rests z.failed.0 s.exec) v n.0

-- ---- the end of a stage

-- it was seen below the failed server
stays-below : (f : ServerNo) (o : Option Position) → stray f o ≡ None → (s : Position) × (o ≡ Some s) × (is_below s f ≡ true)
stays-below f None e = cc
stays-below f (Some s) e = (s, refl, go (is_below s f) e)
  where
    go : (a : Bool) → cond a None (Some (lost.moved (spot_seen s.source s.exec))) ≡ None → a ≡ true
    go true e = refl
    go false e = cc

-- it was seen where the designated one stopped
is-there : (x : Bridge) (o : Option Position) → late x o ≡ None → (s : Position) × (o ≡ Some s) × (s.exec ≡ x.exec)
is-there x None e = cc
is-there x (Some s) e = (s, refl, same_coord-true s.exec x.exec (go (same_coord s.exec x.exec) e))
  where
    go : (a : Bool) → cond a None (Some (lost.behind s.exec)) ≡ None → a ≡ true
    go true e = refl
    go false e = cc

module _ (v : World) (z : Recovery) (h : Rested v z) where
  calms : (e : Ending) → (ended_by z e).drained ≡ z.drained → (ended_by z e).queue ≡ z.queue → (ended_by z e).failed ≡ z.failed → IsCalm (ended_by z e).stage → RestsSoFar v (ended_by z e)
  calms e drained queue failed calm =
      still v (ended_by z e)
      (subst (λ (f : ServerNo). All (IsDrainedOf v f) (ended_by z e).drained) (sym failed) (subst (λ (ds : List Stopped). All (IsDrainedOf v z.failed) ds) (sym drained) h.so.drained))
      (subst (λ (f : ServerNo). All (IsResting v f) (ended_by z e).queue) (sym failed) (subst (λ (ts : List Task). All (IsResting v z.failed) ts) (sym queue) h.so.queue)) calm

  pub completes-rest : (e : Ending) → MayEnd z e → RestsSoFar v (ended_by z e)
  completes-rest (by.Stays n s) may =
      still v (ended_by z (by.Stays n s)) (All-push (IsDrainedOf v z.failed) z.drained (stopped_at n s) h.so.drained (h.judged n s may.0 may.1 may.2)) h.so.queue tt
  completes-rest (by.Trails n x) may =
      let seen = stays-below z.failed (seen_of z.core.seen n.0) may.1 in record {
        stops = λ k at ops. cc;
        trails = λ k y at. subst (λ (i : ServerNo). IsThere (HasSource z.failed.0) v i.0) (ap trailer at) (h.looked n x seen.0 may.0 seen.1 seen.2);
        drained = h.so.drained;
        queue = h.so.queue;
        going = λ k to at. cc;
        matched = λ k to at. cc;
      }
    where
      trailer : Stage → ServerNo
      trailer (stage.Trail k y) = k
      trailer s = n
  completes-rest (by.Joins n x) may =
      let seen = is-there x (seen_of z.core.seen n.0) may.1 in
      let at = h.halted n x seen.0 may.0 seen.1 in
      goes v (ended_by z (by.Joins n x)) h.so.drained h.so.queue n (way.Down x) refl (starts-rest v z.failed n seen.0.exec (way.Down x) (record { source = at.0; exec = sym seen.2 }) at.1) tt
  completes-rest by.Rests may = calms by.Rests refl refl refl tt
  completes-rest (by.Loses n why) may = calms (by.Loses n why) refl refl refl tt
  completes-rest (by.Frees n why) may = calms (by.Frees n why) refl refl refl tt
  completes-rest (by.Follows n p) may = calms (by.Follows n p) refl refl refl tt
  completes-rest (by.Marks n) may = calms (by.Marks n) refl refl refl tt
  completes-rest (by.Leads d) may = calms (by.Leads d) refl refl refl tt
  completes-rest (by.Swaps p q) may = calms (by.Swaps p q) refl refl refl tt
  completes-rest (by.Switches m d) may = calms (by.Switches m d) refl refl refl tt
  completes-rest (by.Shuts m d) may = calms (by.Shuts m d) refl refl refl tt
  completes-rest (by.Ends n) may = calms (by.Ends n) refl refl refl tt
