-- What holds of the servers that a recovery changes and reads holds after its turns.
use Rattle.std.proofs.Common.{◌≡◌, ℕ, Bool, true, false, cond, not, List, [], ◌∷◌, ◌++◌, map, refl, sym, ◌∙◌, ap, subst, Option, Some, None, inl, inr, ◌==◌, IfSome, filter}
use Rattle.recovery_plans.proofs.Prelude.{All, All-append, All-cons, All-filter, All-head, All-map, All-nil, All-push, All-tail, All-weaker}
use Rattle.recovery_plans.proofs.Prelude.{AreSourcesOf, Attach, Attached, Attempt, Bearing, BookState, Bridge, ChangesOf, Coord, Decision, Detached}
use Rattle.recovery_plans.proofs.Prelude.{Does, Ending, Exchange, Follower, IsHanding, IsNext, IsOf, IsOpOf, IsTaskOf, Job, KeepsOf, Lot, MayBear}
use Rattle.recovery_plans.proofs.Prelude.{MayDecide, MayEnd, Moment, Observation, Op, Position, Purpose, Recovery, Request, ServerNo, Sight}
use Rattle.recovery_plans.proofs.Prelude.{SourceState, Stage, StaysOf, Stopped, Task, Turned, Way, Why, Without, World, before, borne, bridge_at}
use Rattle.recovery_plans.proofs.Prelude.{bridge_by, can_attach, changed_by, choose, chosen_of, crossed, crossing_of, decided, decided_by, drain}
use Rattle.recovery_plans.proofs.Prelude.{ended_by, entered, expels, fate_of, follows, follows_no_more, frees, gather, goes_back, ground_of, idle}
use Rattle.recovery_plans.proofs.Prelude.{last_exchanges, last_looks, lead_under, leaver, level, loses, lot_by, move, move_of, moved, moves_in}
use Rattle.recovery_plans.proofs.Prelude.{moving, once, releases, restarts, same_Some, seen_of, server_of, sort, stopped_at, swapped, taken}
use Rattle.recovery_plans.proofs.Prelude.{result_lines, takes_writes, that_can, trail, turn-left, turn-stays, turned, undone, way_back, why_of, with_way}
use Rattle.recovery_plans.proofs.Prelude.{without_follower, without_stopped, working}
use Rattle.recovery_plans.proofs.Prelude.asking
use Rattle.recovery_plans.proofs.Prelude.attempt
use Rattle.recovery_plans.proofs.Prelude.by
use Rattle.recovery_plans.proofs.Prelude.cross
use Rattle.recovery_plans.proofs.Prelude.deciding
use Rattle.recovery_plans.proofs.Prelude.op
use Rattle.recovery_plans.proofs.Prelude.purpose
use Rattle.recovery_plans.proofs.Prelude.spot
use Rattle.recovery_plans.proofs.Prelude.stage
use Rattle.recovery_plans.proofs.Prelude.task
use Rattle.recovery_plans.proofs.Prelude.way
use Rattle.recovery_plans.proofs.Walking.{KeepsAlways, always, decided-walks, decisions-keep, kept-along, made-along, once-walks}
use Rattle.recovery_plans.proofs.Choices.{All-chosen, All-better}

-- a bridge that was seen of a server is of that server
bridge-no : (n : ServerNo) (o : Option Position) (b : Bridge) → bridge_at n o ≡ Some b → n.0 ≡ b.no.0
bridge-no n None b h = cc
bridge-no n (Some s) b h = go s.own_end s.source h
  where
    go : (own : Option Coord) (x : SourceState) → bridge_by n own x s.exec ≡ Some b → n.0 ≡ b.no.0
    go None x h = cc
    go (Some own) Without h = cc
    go (Some own) (Attached m) h = ap (λ (y : Bridge). y.no.0) (same_Some (record { no = n; source = m; own = own; exec = s.exec }) b h)
    go (Some own) (Detached m) h = ap (λ (y : Bridge). y.no.0) (same_Some (record { no = n; source = m; own = own; exec = s.exec }) b h)

-- who goes back is the replica
back-server : (d m : ServerNo) (o : Option Bridge) (e : Exchange) → crossed cross.Back d o ≡ Some e → server_of e ≡ d.0
back-server d m None e h = cc
back-server d m (Some x) e h = sym (ap server_of (same_Some (Attach d.0 (spot.OwnEnd x.own) x.source x.exec) e h))

module _ (P Q : ℕ → Type 0) (id : ℕ) (pq : (n : ℕ) → P n → Q n) where
  abbrev Mine : ServerNo → Type 0
  Mine n = P n.0

  abbrev Changes : Op → Type 0
  Changes = IsOpOf P Q

  abbrev With : Exchange → Type 0
  With e = P (server_of e)

  does : (n : ServerNo) → Mine n → P n.0 × Q n.0
  does n h = (h, pq n.0 h)

  sees : (n : ServerNo) → Mine n → Unit {0} × Q n.0
  sees n h = (tt, pq n.0 h)

  -- one server, or two
  one : (n : ServerNo) → Mine n → All Mine (n ∷ [])
  one n h = All-cons Mine n [] h (All-nil Mine)

  two : (n m : ServerNo) → Mine n → Mine m → All Mine (n ∷ m ∷ [])
  two n m h k = All-cons Mine n (m ∷ []) h (one m k)

  only : (n : ServerNo) → All Mine (n ∷ []) → Mine n
  only n h = All-head Mine n [] h

  first : (n m : ServerNo) → All Mine (n ∷ m ∷ []) → Mine n
  first n m h = All-head Mine n (m ∷ []) h

  second : (n m : ServerNo) → All Mine (n ∷ m ∷ []) → Mine m
  second n m h = All-head Mine m [] (All-tail Mine n (m ∷ []) h)

  -- each of a list of operations
  abbrev EachOf : List Op → Type 0
  EachOf [] = Unit {0}
  EachOf (x ∷ xs) = Changes x × EachOf xs

  each-of : (xs : List Op) → EachOf xs → All Changes xs
  each-of [] h = All-nil Changes
  each-of (x ∷ xs) h = All-cons Changes x xs h.0 (each-of xs h.1)

  drain-of : (n : ServerNo) → Mine n → All Changes (drain n)
  drain-of n h = each-of (drain n) (does n h, (sees n h, (does n h, (sees n h, tt))))

  move-of : (by : Way) (n : ServerNo) → Mine n → All Changes (before by n ++ move by n ∷ op.Start n ∷ [])
  move-of (way.Match to exec every) n h = each-of (op.Match n to every ∷ op.CrossMatch n to ∷ op.Start n ∷ []) ((tt, tt), (does n h, (does n h, tt)))
  move-of x n h = each-of (move x n ∷ op.Start n ∷ []) (does n h, (does n h, tt))

  level-of : (p q : ServerNo) → Mine p → Mine q → All Changes (level p q)
  level-of p q h k = each-of (level p q) (sees p h, (sees q k, (does q k, (sees q k, (does q k, (sees q k, (does q k, (does p h, tt))))))))

  gather-of : (m d : ServerNo) → Mine m → Mine d → All Changes (op.ReadOnly m true ∷ gather m d)
  gather-of m d h k = each-of (op.ReadOnly m true ∷ gather m d) (does m h, (sees m h, (sees d k, (does d k, (sees d k, (does d k, (sees d k, tt)))))))

  trail-of : (n d : ServerNo) → Mine n → All Changes (trail n d)
  trail-of n d h = each-of (trail n d) (does n h, (sees n h, (does n h, (sees n h, tt))))

  -- ---- recoveries that differ

  -- with another job, or at another stage
  acting-of : (r : Recovery) (j : Job) (s : Stage) → IsOf P Q id r → j.id ≡ id → All Changes j.ops → All Mine j.hands → All Mine (changed_by s) → IsOf P Q id (record r { core = j; stage = s })
  acting-of r j s has number ops hands changed = record {
    number = number;
    ops = ops;
    hands = hands;
    stage = changed;
    queue = has.queue;
    failed = has.failed;
    replicas = has.replicas;
    drained = has.drained;
    sources = has.sources;
    lead = has.lead;
    followers = has.followers;
  }

  -- with another queue, other drained ones and another new source
  queued-of : (r : Recovery) (ts : List Task) (ds : List Stopped) (o : Option ServerNo) → IsOf P Q id r → All (IsTaskOf P Q r.failed) ts → All (λ (d : Stopped). P d.no.0) ds
      → AreSourcesOf P Q r.purpose r.failed o → IsOf P Q id (record r { queue = ts; drained = ds; chosen = o })
  queued-of r ts ds o has queue drained sources = record {
    number = has.number;
    ops = has.ops;
    hands = has.hands;
    stage = has.stage;
    queue = queue;
    failed = has.failed;
    replicas = has.replicas;
    drained = drained;
    sources = sources;
    lead = has.lead;
    followers = has.followers;
  }

  followed-of : (r : Recovery) (xs : List Follower) → IsOf P Q id r → All (λ (x : Follower). P x.no.0) xs → IsOf P Q id (record r { outcome = record r.outcome { followers = xs } })
  followed-of r xs has all = record {
    number = has.number;
    ops = has.ops;
    hands = has.hands;
    stage = has.stage;
    queue = has.queue;
    failed = has.failed;
    replicas = has.replicas;
    drained = has.drained;
    sources = has.sources;
    lead = has.lead;
    followers = all;
  }

  led-of : (r : Recovery) (o : Option Bridge) → IsOf P Q id r → IfSome o (λ x. P x.no.0) → IsOf P Q id (record r { lead = o })
  led-of r o has h = record {
    number = has.number;
    ops = has.ops;
    hands = has.hands;
    stage = has.stage;
    queue = has.queue;
    failed = has.failed;
    replicas = has.replicas;
    drained = has.drained;
    sources = has.sources;
    lead = h;
    followers = has.followers;
  }

  working-of : (r : Recovery) (s : Stage) (ops : List Op) → IsOf P Q id r → All Mine (changed_by s) → All Changes ops → IsOf P Q id (working r s ops)
  working-of r s ops has changed changes = acting-of r (record r.core { ops = ops; waited = 0 }) s has has.number changes has.hands changed

  -- what was seen besides names no more
  moving-of : (r : Recovery) (n : ServerNo) (by : Way) → IsOf P Q id r → Mine n → IsOf P Q id (moving r n by)
  moving-of r n by has h =
      working-of (record r { core = record r.core { seen = with_way r.core.seen by } }) (stage.Move n by) (before by n ++ move by n ∷ op.Start n ∷ []) (acting-of r (record r.core { seen = with_way r.core.seen by }) r.stage has has.number has.ops has.hands has.stage) (one n h) (move-of by n h)

  restage-of : (r : Recovery) (s : Stage) → IsOf P Q id r → All Mine (changed_by s) → IsOf P Q id (record r { stage = s })
  restage-of r s has changed = acting-of r r.core s has has.number has.ops has.hands changed

  idle-of : (r : Recovery) → IsOf P Q id r → IsOf P Q id (idle r)
  idle-of r has = restage-of r stage.Idle has (All-nil Mine)

  frees-of : (r : Recovery) (n : ServerNo) (why : Why) → Mine n → IsOf P Q id r → IsOf P Q id (frees r n why)
  frees-of r n why h has = working-of (loses r n why) (stage.Release n) (op.Start n ∷ []) has (one n h) (each-of (op.Start n ∷ []) (does n h, tt))

  follows-of : (r : Recovery) (n p : ServerNo) → Mine n → IsOf P Q id r → IsOf P Q id (follows r n p)
  follows-of r n p h has =
      followed-of r (r.outcome.followers ++ record { no = n; source = p } ∷ []) has (All-push (λ (x : Follower). P x.no.0) r.outcome.followers _ has.followers h)

  none-chosen : (u : Purpose) (f : ServerNo) (o : Option ServerNo) → AreSourcesOf P Q u f o → AreSourcesOf P Q u f None
  none-chosen (purpose.Takeover d) f o h = h
  none-chosen _ f o h = tt

  one-chosen : (u : Purpose) (f p : ServerNo) (o : Option ServerNo) → AreSourcesOf P Q u f o → Mine p → AreSourcesOf P Q u f (Some p)
  one-chosen purpose.Regroup f p o h k = k
  one-chosen purpose.Master f p o h k = k
  one-chosen (purpose.Intermediate s) f p o h k = pq p.0 k
  one-chosen (purpose.Takeover d) f p o h k = h

  moves-of : (f : ServerNo) (lot : Stopped → Lot) (ss : List Stopped) → All (λ s. P s.no.0) ss → All (IsTaskOf P Q f) (moves_in lot ss)
  moves-of f lot [] all = All-nil (IsTaskOf P Q f)
  moves-of f lot (s ∷ ss) all =
      All-append (IsTaskOf P Q f) (move_of s (lot s)) (moves_in lot ss) (go (lot s) (All-head (λ (x : Stopped). P x.no.0) s ss all))
      (moves-of f lot ss (All-tail (λ (x : Stopped). P x.no.0) s ss all))
    where
      go : (x : Lot) → P s.no.0 → All (IsTaskOf P Q f) (move_of s x)
      go (deciding.Goes by) h = All-cons (IsTaskOf P Q f) (task.Moving s.no by) [] h (All-nil (IsTaskOf P Q f))
      go (deciding.Stays why) h = All-nil (IsTaskOf P Q f)

  marks-of : (f : ServerNo) (t : ServerNo → Task) (ns : List ServerNo) → ((n : ServerNo) → Mine n → IsTaskOf P Q f (t n)) → All Mine ns → All (IsTaskOf P Q f) (map t ns)
  marks-of f t ns each all = All-map (IsTaskOf P Q f) t ns (All-weaker Mine (λ n. IsTaskOf P Q f (t n)) each ns all)

  -- ---- what is decided

  -- the next task, and the recovery without it
  next-of : (r : Recovery) (t : Task) (ts : List Task) → IsNext r t ts → IsOf P Q id r → IsTaskOf P Q r.failed t × IsOf P Q id (record r { queue = ts })
  next-of r t ts next has =
      let all = subst (λ (q : List Task). All (IsTaskOf P Q r.failed) q) next.queue has.queue in
      (All-head (IsTaskOf P Q r.failed) t ts all, queued-of r ts r.drained r.chosen has (All-tail (IsTaskOf P Q r.failed) t ts all) has.drained has.sources)

  -- the first of the drained ones, and the others
  handed-of : (w : World) (b : BookState) (now : Moment) (r : Recovery) (d : Stopped) (ds : List Stopped) (o : Option Way) (ts : List Task) → IsHanding (ground_of w b now) r d ds o ts → IsOf P Q id r → Mine d.no × IsOf P Q id (record r { drained = ds })
  handed-of w b now r d ds o ts g has =
      let all = subst (λ (xs : List Stopped). All (λ (x : Stopped). P x.no.0) xs) g.drained has.drained in
      (All-head (λ (x : Stopped). P x.no.0) d ds all, queued-of r r.queue ds r.chosen has has.queue (All-tail (λ (x : Stopped). P x.no.0) d ds all) has.sources)

  lead-of : (r : Recovery) (x : Bridge) → r.lead ≡ Some x → IsOf P Q id r → Mine x.no
  lead-of r x is has = subst (λ (o : Option Bridge). IfSome o (λ y. P y.no.0)) is has.lead

  -- the chosen one, in the recovery of a master and in a regroup
  chosen-of : (r : Recovery) (u : Purpose) (p : ServerNo) → r.purpose ≡ u → r.chosen ≡ Some p → IsOf P Q id r → AreSourcesOf P Q u r.failed (Some p)
  chosen-of r u p is e has = subst (λ (o : Option ServerNo). AreSourcesOf P Q u r.failed o) e (subst (λ (v : Purpose). AreSourcesOf P Q v r.failed r.chosen) is has.sources)

  sort-of : (r : Recovery) → IsOf P Q id r → IsOf P Q id (sort r)
  sort-of r has =
      let out = filter (λ (n : ServerNo). expels r.purpose (why_of r.outcome.lost n)) r.replicas in
      let free = filter (λ (n : ServerNo). releases r.purpose (why_of r.outcome.lost n)) r.replicas in
      queued-of r (map task.Expelling out ++ (map task.Releasing free ++ r.queue)) r.drained r.chosen has
      (All-append (IsTaskOf P Q r.failed) (map task.Expelling out) (map task.Releasing free ++ r.queue)
      (marks-of r.failed task.Expelling out (λ n x. x) (All-filter (λ (n : ServerNo). expels r.purpose (why_of r.outcome.lost n)) Mine r.replicas has.replicas))
      (All-append (IsTaskOf P Q r.failed) (map task.Releasing free) r.queue
      (marks-of r.failed task.Releasing free (λ n x. x) (All-filter (λ (n : ServerNo). releases r.purpose (why_of r.outcome.lost n)) Mine r.replicas has.replicas)) has.queue)) has.drained has.sources

  chooses-of : (w : World) (b : BookState) (now : Moment) (r : Recovery) (p : Stopped) → IsOf P Q id r → chosen_of (ground_of w b now) r.failed r.drained ≡ Some p → IsOf P Q id (choose (ground_of w b now) r (Some p))
  chooses-of w b now r p has e =
      queued-of r (moves_in (lot_by r.means (ground_of w b now) r.failed p) (without_stopped r.drained p.no) ++ r.queue) [] (Some p.no) has
      (All-append (IsTaskOf P Q r.failed) (moves_in (lot_by r.means (ground_of w b now) r.failed p) (without_stopped r.drained p.no)) r.queue
      (moves-of r.failed (lot_by r.means (ground_of w b now) r.failed p) (without_stopped r.drained p.no)
      (All-filter (λ (d : Stopped). not (d.no.0 == p.no.0)) (λ (d : Stopped). P d.no.0) r.drained has.drained)) has.queue) (All-nil (λ (d : Stopped). P d.no.0))
      (one-chosen r.purpose r.failed p.no r.chosen has.sources (All-chosen w b now r.failed (λ (d : Stopped). P d.no.0) r.drained p has.drained e))

  decides-of : (w : World) (b : BookState) (now : Moment) (r : Recovery) (d : Decision) → MayDecide (ground_of w b now) r d → IsOf P Q id r → IsOf P Q id (decided_by (ground_of w b now) r d)
  decides-of w b now r (by.Reads n ts) next has =
      let h = next-of r (task.Reading n) ts next has in
      working-of (record r { queue = ts }) (stage.Read n) (op.Status n None ∷ []) h.1 (All-nil Mine) (each-of (op.Status n None ∷ []) ((tt, h.0), tt))
  decides-of w b now r (by.Drains n ts) next has =
      let h = next-of r (task.Draining n) ts next has in working-of (record r { queue = ts }) (stage.Drain n) (drain n) h.1 (one n h.0) (drain-of n h.0)
  decides-of w b now r (by.Sends n way ts) next has = let h = next-of r (task.Moving n way) ts next has in moving-of (record r { queue = ts }) n way h.1 h.0
  decides-of w b now r (by.Expels n ts) next has =
      let h = next-of r (task.Expelling n) ts next has in
      working-of (record r { queue = ts }) (stage.Expel n) (op.Detach n ∷ []) h.1 (one n h.0) (each-of (op.Detach n ∷ []) (does n h.0, tt))
  decides-of w b now r (by.Releases n ts) next has =
      let h = next-of r (task.Releasing n) ts next has in
      working-of (record r { queue = ts }) (stage.Release n) (op.Start n ∷ []) h.1 (one n h.0) (each-of (op.Start n ∷ []) (does n h.0, tt))
  decides-of w b now r (by.Looks n x ts) (next, e) has =
      let h = next-of r (task.Trailing n) ts next has in
      working-of (record r { queue = ts }) (stage.Look n x) (op.Status n None ∷ []) h.1 (one n h.0) (each-of (op.Status n None ∷ []) (sees n h.0, tt))
  decides-of w b now r (by.Yields x ts) (next, e) has =
      let h = next-of r task.Yielding ts next has in
      let mine = lead-of r x e has in
      acting-of (record r { queue = ts }) _ (stage.Yield r.failed x.no) h.1 has.number (each-of (op.Reset x.no ∷ op.Cross cross.About r.failed x.no ∷ []) (does x.no mine, (does r.failed h.0, tt))) has.hands
      (two r.failed x.no h.0 mine)
  decides-of w b now r (by.Sticks t ts) g has = queued-of r [] r.drained None has (All-nil (IsTaskOf P Q r.failed)) has.drained (none-chosen r.purpose r.failed r.chosen has.sources)
  decides-of w b now r (by.Chooses p ts) (next, e) has = chooses-of w b now (record r { queue = ts }) p (next-of r task.Choosing ts next has).1 e
  decides-of w b now r (by.ChoosesNobody ts) g has =
      queued-of r [] [] None has (All-nil (IsTaskOf P Q r.failed)) (All-nil (λ (d : Stopped). P d.no.0)) (none-chosen r.purpose r.failed r.chosen has.sources)
  decides-of w b now r (by.Hands d ds way ts) g has = let h = handed-of w b now r d ds (Some way) ts g has in moving-of (record r { drained = ds }) d.no way h.1 h.0
  decides-of w b now r (by.Leaves d ds ts) g has = (handed-of w b now r d ds None ts g has).1
  decides-of w b now r (by.HandedOver ts) g has =
      let h = (next-of r task.Handing ts g.0 has).1 in queued-of r ts [] r.chosen has h.queue (All-nil (λ (d : Stopped). P d.no.0)) has.sources
  decides-of w b now r (by.Passes ts) (next, e) has = (next-of r task.Handing ts next has).1
  decides-of w b now r (by.Sorts ts) next has = sort-of (record r { queue = ts }) (next-of r task.Sorting ts next has).1
  decides-of w b now r (by.Levels p q) g has =
      let one-of = chosen-of r purpose.Master p g.0.purpose g.2 has in
      let other = (All-better w b now r.failed Mine p (map (λ x. x.no) r.outcome.followers) q (All-map Mine (λ (x : Follower). x.no) r.outcome.followers has.followers) g.3).0 in
      working-of (record r { swaps = false }) (stage.Level p q) (level p q) has (two p q one-of other) (level-of p q one-of other)
  decides-of w b now r by.Remains g has = has
  decides-of w b now r (by.Crowns p) g has =
      let mine = chosen-of r purpose.Master p g.0.purpose g.2 has in
      working-of r (stage.Crown p) (op.Reset p ∷ op.ReadOnly p false ∷ []) has (one p mine) (each-of (op.Reset p ∷ op.ReadOnly p false ∷ []) (does p mine, (does p mine, tt)))
  decides-of w b now r (by.Rejoins p) g has =
      let mine = chosen-of r purpose.Regroup p g.0.purpose g.1 has in
      working-of r (stage.Close (result_lines r)) (op.Start p ∷ op.Finish (result_lines r) ∷ []) has (All-nil Mine) (each-of (op.Start p ∷ op.Finish (result_lines r) ∷ []) (does p mine, ((tt, tt), tt)))
  decides-of w b now r by.Closes g has = working-of r (stage.Close (result_lines r)) (op.Finish (result_lines r) ∷ []) has (All-nil Mine) (each-of (op.Finish (result_lines r) ∷ []) ((tt, tt), tt))

  pub once-of : (w : World) (b : BookState) (now : Moment) (r : Recovery) → IsOf P Q id r → IsOf P Q id (once (ground_of w b now) r)
  once-of w b now r has = decisions-keep w b now (IsOf P Q id) (decides-of w b now) (once-walks w b now r) has

  pub decided-of : (w : World) (b : BookState) (now : Moment) (r : Recovery) → IsOf P Q id r → IsOf P Q id (decided (ground_of w b now) r)
  decided-of w b now r has = decisions-keep w b now (IsOf P Q id) (decides-of w b now) (decided-walks w b now r) has

  -- ---- a stage that is done

  lead-under-of : (f d : ServerNo) (o : Option Bridge) → ((x : Bridge) → o ≡ Some x → d.0 ≡ x.no.0) → Mine d → IfSome (lead_under f o) (λ x. P x.no.0)
  lead-under-of f d None is h = tt
  lead-under-of f d (Some x) is h = at (x.source.0 == f.0)
    where
      at : (a : Bool) → IfSome (cond a (Some x) None) (λ y. P y.no.0)
      at true = subst (λ (i : ℕ). P i) (is x refl) h
      at false = tt

  looks-of : (r : Recovery) (u : Purpose) (n : ServerNo) → Mine n → IsOf P Q id r → All Changes (last_looks r u n ++ op.Finish (result_lines r) ∷ [])
  looks-of r (purpose.Takeover d) n h has = each-of (op.Status r.failed None ∷ op.Status n None ∷ op.Finish (result_lines r) ∷ []) ((tt, has.failed), (sees n h, ((tt, tt), tt)))
  looks-of r _ n h has = each-of (op.Status n None ∷ op.Finish (result_lines r) ∷ []) (sees n h, ((tt, tt), tt))

  stage-of : (r : Recovery) (s : Stage) → r.stage ≡ s → IsOf P Q id r → All Mine (changed_by s)
  stage-of r s is has = subst (λ (x : Stage). All Mine (changed_by x)) is has.stage

  completes-of : (v : World) (r : Recovery) (e : Ending) → r.core.ops ≡ [] → MayEnd r e → IsOf P Q id r → IsOf P Q id (ended_by r e)
  completes-of v r by.Rests none g has = idle-of r has
  completes-of v r (by.Stays n s) none g has =
      idle-of (record r { drained = r.drained ++ stopped_at n s ∷ [] })
      (queued-of r r.queue (r.drained ++ stopped_at n s ∷ []) r.chosen has has.queue (All-push (λ (d : Stopped). P d.no.0) r.drained _ has.drained (only n (stage-of r (stage.Judged n) g.0 has))) has.sources)
  completes-of v r (by.Loses n why) none g has = idle-of r has
  completes-of v r (by.Frees n why) none g has = frees-of r n why (only n (stage-of r (stage.Halted n g.0) g.1 has)) has
  completes-of v r (by.Follows n p) none (inl is) has = idle-of (follows r n p) (follows-of r n p (only n (stage-of r (stage.Join n p) is has)) has)
  completes-of v r (by.Follows n p) none (inr is) has = idle-of (follows r n p) (follows-of r n p (second p n (stage-of r (stage.Resume p n) is has)) has)
  completes-of v r (by.Marks n) none g has = idle-of r has
  completes-of v r (by.Leads d) none (m, is) has =
      led-of (idle r) (lead_under r.failed (bridge_at d (seen_of r.core.seen d.0))) (idle-of r has)
      (lead-under-of r.failed d (bridge_at d (seen_of r.core.seen d.0)) (bridge-no d (seen_of r.core.seen d.0)) (second m d (stage-of r (stage.Gather m d) is has)))
  completes-of v r (by.Trails n x) none (is, g) has =
      let mine = only n (stage-of r (stage.Looked n x) is has) in
      acting-of r _ (stage.Trail n x) has has.number (trail-of n x.no mine) has.hands (one n mine)
  completes-of v r (by.Joins n x) none (is, g) has = moving-of r n (way.Down x) has (only n (stage-of r (stage.Halted n x) is has))
  completes-of v r (by.Swaps p q) none is has =
      let both = stage-of r (stage.Swapped p q) is has in
      working-of (swapped r p q) (stage.Open q) (op.Start p ∷ op.ReadOnly q false ∷ []) (follows-of r p q (first p q both) has) (one q (second p q both))
      (each-of (op.Start p ∷ op.ReadOnly q false ∷ []) (does p (first p q both), (does q (second p q both), tt)))
  completes-of v r (by.Switches m d) none is has =
      let both = stage-of r (stage.Switched m d) is has in
      working-of (follows r m d) (stage.Open d) (op.ReadOnly d false ∷ []) (follows-of r m d (first m d both) has) (one d (second m d both)) (each-of (op.ReadOnly d false ∷ []) (does d (second m d both), tt))
  completes-of v r (by.Shuts m d) none is has =
      let both = stage-of r (stage.Meet m d) is has in working-of r (stage.Shut m d) (op.ReadOnly m true ∷ gather m d) has both (gather-of m d (first m d both) (second m d both))
  completes-of v r (by.Ends n) none is has = working-of r (stage.Close (result_lines r)) _ has (All-nil Mine) (looks-of r r.purpose n (only n (stage-of r (stage.Opened n) is has)) has)

  moved-changed : (s : Stage) → All Mine (changed_by s) → All Mine (changed_by (moved s))
  moved-changed (stage.Drain n) h = h
  moved-changed (stage.Look n b) h = h
  moved-changed (stage.Trail n b) h = h
  moved-changed (stage.Move n by) h = h
  moved-changed (stage.Close lines) h = All-nil Mine
  moved-changed s h = h

  enters-of : (v : World) (r : Recovery) → IsOf P Q id r → IsOf P Q id (entered r (moved r.stage))
  enters-of v r has = go (leaver (moved r.stage))
    where
      go : (o : Option ServerNo) → IsOf P Q id (record (follows_no_more r o) { stage = moved r.stage })
      go None = restage-of r (moved r.stage) has (moved-changed r.stage has.stage)
      go (Some q) =
          restage-of (follows_no_more r (Some q)) (moved r.stage)
          (followed-of r (without_follower r.outcome.followers q) has (All-filter (λ (x : Follower). not (x.no.0 == q.0)) (λ (x : Follower). P x.no.0) r.outcome.followers has.followers))
          (moved-changed r.stage has.stage)

  -- ---- an operation

  none : All With []
  none = All-nil With

  writes-mine : (m : ServerNo) → Mine m → All With (takes_writes m)
  writes-mine m h = All-cons With _ [] h none

  back-mine : (w : World) (seen : List Sight) (m d : ServerNo) → Mine m → Mine d → All With (goes_back w seen m d)
  back-mine w seen m d h k =
      All-append With (that_can w (crossing_of seen cross.Back d m)) (Request d.0 asking.Start ∷ takes_writes m) (go (crossing_of seen cross.Back d m) refl)
      (All-cons With (Request d.0 asking.Start) (takes_writes m) k (writes-mine m h))
    where
      go : (o : Option Exchange) → crossing_of seen cross.Back d m ≡ o → All With (that_can w o)
      go None e = none
      go (Some x) e = at (can_attach w x)
        where
          at : (b : Bool) → All With (cond b (x ∷ []) [])
          at true = All-cons With x [] (subst (λ (i : ℕ). P i) (sym (back-server d m (bridge_at d (seen_of seen d.0)) x e)) k) none
          at false = none

  way-back-mine : (w : World) (seen : List Sight) (m : ServerNo) (s : Stage) → Mine m → All Mine (changed_by s) → All With (way_back w seen m s)
  way-back-mine w seen m (stage.Switch k d) h c = back-mine w seen k d (first k d c) (second k d c)
  way-back-mine w seen m (stage.Meet k d) h c = none
  way-back-mine w seen m (stage.Shut k d) h c = none
  way-back-mine w seen m (stage.Switched k d) h c = none
  way-back-mine w seen m (stage.Open n) h c = none
  way-back-mine w seen m (stage.Opened n) h c = none
  way-back-mine w seen m (stage.Close lines) h c = none
  way-back-mine w seen m s h c = writes-mine m h

  undone-mine : (w : World) (u : Purpose) (seen : List Sight) (f : ServerNo) (o : Option ServerNo) (s : Stage) → AreSourcesOf P Q u f o → All Mine (changed_by s) → All With (undone w u seen f s)
  undone-mine w (purpose.Takeover d) seen f o s h c = way-back-mine w seen f s h c
  undone-mine w _ seen f o s h c = none

  restarts-mine : (ns : List ServerNo) → All Mine ns → All With (restarts ns)
  restarts-mine ns all = All-map With (λ (n : ServerNo). Request n.0 asking.Start) ns all

  last-of : (w : World) (r : Recovery) → IsOf P Q id r → All With (last_exchanges w r)
  last-of w r has =
      All-append With (undone w r.purpose r.core.seen r.failed r.stage) (restarts r.core.hands)
      (undone-mine w r.purpose r.core.seen r.failed r.chosen r.stage has.sources has.stage) (restarts-mine r.core.hands has.hands)

  -- what an attempt leaves to the job
  record Left (j : Job) (t : Turned) : Type 0 where
    ops : All Changes t.job.ops
    stays : StaysOf P j.id t

  changes-of : (ops : List Op) → All Changes ops → All (ChangesOf P) ops
  changes-of ops all = All-weaker Changes (ChangesOf P) (λ o h. h.0) ops all

  turn-leaves : (w : World) (read : ℕ) (now : Moment) (j : Job) → All Changes j.ops → All Mine j.hands → Left j (turned w read now j)
  turn-leaves w read now j all hands = record {
    ops = turn-left (λ ops. All Changes ops) (All-nil Changes) (λ o ops h. All-tail Changes o ops h) w read now j all;
    stays = turn-stays P w read now j (changes-of j.ops all) hands;
  }

  does-of : (w : World) (read : ℕ) (now : Moment) (r : Recovery) (o : Op) (rest : List Op) (ob : Option Observation) (es : List Exchange) (j : Job) → Does w read now r o rest ob es j → IsOf P Q id r
      → Left r.core (attempt.going ob es j)
  does-of w read now r o rest ob es j did has =
      subst (λ (a : Attempt). Left r.core (attempt.settled r.core a)) did.goes
      (subst (λ (ops : List Op). Left r.core (attempt.settled r.core (attempt.by_ops w read now r.core ops))) did.ops (turn-leaves w read now r.core has.ops has.hands))

  bears-of : (r : Recovery) (e : Bearing) → MayBear r.stage e → IsOf P Q id r → IsOf P Q id (borne r (fate_of e))
  bears-of r by.Drops may has = working-of r stage.Idle [] has (All-nil Mine) (All-nil Changes)
  bears-of r (by.Misses n why) may has = working-of (loses r n why) stage.Idle [] has (All-nil Mine) (All-nil Changes)
  bears-of r (by.Lets n why) (inl (way, is, more)) has = frees-of r n why (only n (stage-of r (stage.Move n way) is has)) has
  bears-of r (by.Lets n why) (inr (x, inl is)) has = frees-of r n why (only n (stage-of r (stage.Look n x) is has)) has
  bears-of r (by.Lets n why) (inr (x, inr is)) has = frees-of r n why (only n (stage-of r (stage.Trail n x) is has)) has
  bears-of r (by.Restarts p q) is has =
      let mine = second p q (stage-of r (stage.Level p q) is has) in working-of r (stage.Release q) (op.Start q ∷ []) has (one q mine) (each-of (op.Start q ∷ []) (does q mine, tt))
  bears-of r (by.Returns p q) is has =
      let both = stage-of r (stage.Swap p q) is has in
      let mine = second p q both in
      working-of r (stage.Return p q) (op.Cross cross.Back q p ∷ op.Start q ∷ []) has both (each-of (op.Cross cross.Back q p ∷ op.Start q ∷ []) (does q mine, (does q mine, tt)))

  -- ---- a turn

  pub keeps-of : (w : World) (b : BookState) (read : ℕ) (now : Moment) → KeepsAlways w b read now (λ v r. IsOf P Q id r)
  keeps-of w b read now = record {
    decides = decides-of w b now;
    does = λ r o rest ob es j did has. let left = does-of w read now r o rest ob es j did has in acting-of r j r.stage has (left.stays.id ∙ has.number) left.ops left.stays.hands has.stage;
    enters = enters-of;
    completes = completes-of;
    bears = λ r o rest c ob e stops is may has. bears-of r e may has;
  }

  pub taken-of : (w : World) (b : BookState) (read : ℕ) (now : Moment) (r : Recovery) → IsOf P Q id r → KeepsOf P Q id (taken w b read now r)
  taken-of w b read now r has = record {
    exchanges =
        made-along w b read now (IsOf P Q id) (All With) none (decides-of w b now) (λ s o rest ob es j did h. (does-of w read now s o rest ob es j did h).stays.exchanges)
        (λ s c ob why h. last-of w s h) r has;
    servers = kept-along w b read now (IsOf P Q id) (λ v s. IsOf P Q id s) (λ v s. IsOf P Q id s) (always w b read now (λ v s. IsOf P Q id s) (keeps-of w b read now)) r has;
  }

-- by the number that its job has
pub renumbered : (P Q : ℕ → Type 0) (id : ℕ) (r : Recovery) → IsOf P Q id r → IsOf P Q r.core.id r
renumbered P Q id r has = record {
  number = refl;
  ops = has.ops;
  hands = has.hands;
  stage = has.stage;
  queue = has.queue;
  failed = has.failed;
  replicas = has.replicas;
  drained = has.drained;
  sources = has.sources;
  lead = has.lead;
  followers = has.followers;
}
