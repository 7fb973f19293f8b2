-- What the turns of recoveries and regroups do, stage after stage.
use Rattle.std.proofs.Common.{◌≡◌, ◌∙◌, ◌⊎◌, inl, inr, Bool, true, false, cond, List, [], ◌∷◌, ◌++◌, map, Option, Some, None, refl, sym, ap, subst, append_assoc, filter, filter_map}
use Rattle.plan_laws.proofs.Prelude.{AreApart, Branch, Cause, Coord, Course, Done, EndOf, Event, Fate, Follower, GoesAsPlanned, Ground, IsAsPlanned}
use Rattle.plan_laws.proofs.Prelude.{IsMissed, Job, Line, Loss, LostReplica, Lot, Means, Missed, Observation, Outcome, Place, Position, Purpose}
use Rattle.plan_laws.proofs.Prelude.{Recovery, ServerNo, Stage, Stopped, Task, Way, World, all_drained, append-nil, better_of, branch_at}
use Rattle.plan_laws.proofs.Prelude.{choice_lines, choose, chosen-may, chosen_of, cons_option, drain, drain_fate, drained, event_of, events_of}
use Rattle.plan_laws.proofs.Prelude.{expected, expels, false≢true, fate, filter_map-append, first_source, flat_map, fork_of, gathered, gathers, gone}
use Rattle.plan_laws.proofs.Prelude.{ground_at, idle, is_after, is_away, is_before, is_below, is_master, is_takeover, is_valid, job_with}
use Rattle.plan_laws.proofs.Prelude.{judged as judged_lines, left, level, loses, loss_of, losses_in, lot_by, map-append, marked, may_lead, met}
use Rattle.plan_laws.proofs.Prelude.{move_of, moves_in, once, option_map, path_by, releases, same-head, same_Some, seen_of, set_out, spot_seen}
use Rattle.plan_laws.proofs.Prelude.{steps_of, stopped-after, stopped_in, swap_by, swapped, target, told_by, why_of, with_way, without_follower}
use Rattle.plan_laws.proofs.Prelude.{without_stopped}
use Rattle.plan_laws.proofs.Prelude.RunLaws.{Line as Told}
use Rattle.plan_laws.proofs.Prelude.taking.{judged}
use Rattle.plan_laws.proofs.Prelude.cause
use Rattle.plan_laws.proofs.Prelude.course
use Rattle.plan_laws.proofs.Prelude.cross
use Rattle.plan_laws.proofs.Prelude.expect
use Rattle.plan_laws.proofs.Prelude.line
use Rattle.plan_laws.proofs.Prelude.lot
use Rattle.plan_laws.proofs.Prelude.op
use Rattle.plan_laws.proofs.Prelude.path
use Rattle.plan_laws.proofs.Prelude.purpose
use Rattle.plan_laws.proofs.Prelude.stage
use Rattle.plan_laws.proofs.Prelude.taking
use Rattle.plan_laws.proofs.Prelude.task
use Rattle.plan_laws.proofs.Prelude.way
use Rattle.plan_laws.proofs.Prelude.ways
use Rattle.plan_laws.proofs.Prelude.why
use Rattle.plan_laws.proofs.Lost.{Found, There, Gone, drained_in, gone_in, no_of}
use Rattle.plan_laws.proofs.Meeting.{Did, Missing, decides, done-first, first-of, none-goes}
use Rattle.plan_laws.proofs.Below.{expected-gone, expected-valid, numbers}
use Rattle.plan_laws.proofs.Parted.{are-detached, are-started, detached, started, late_of, refused_why}
use Rattle.plan_laws.proofs.Scripts.{crown_events, fork_events, forks, go_events, goes, last_events, lots-apart, part, script, stays, told-branch, StaysApart, goer_of, path_events}
use Rattle.plan_laws.proofs.Steps.{Ends, does, finishes, longer, misses-no, next, no-takeover, parting, parting-is, stopped_by, walks}
use Rattle.plan_laws.proofs.Barred.{NotFrees, exec_in, find-filter, mover_in, named-so, not-frees}

module _ (g : Ground) (by : Means) (f : ServerNo) (ns order : List ServerNo) where
  -- of any followers the same one is better as for the plan
  abbrev pub Sees : Place → Recovery → Type 0
  Sees a r = (p : ServerNo) (qs : List ServerNo) → better_of (ground_at a) f p qs ≡ better_of g f p qs

  abbrev pub Goes : Recovery → List Event → Type 0
  Goes r es = Course Sees (GoesAsPlanned g.book) r es

  abbrev pub at : Purpose → Stage → List Task → List Stopped → Option ServerNo → List Stopped → Bool → Outcome → Recovery
  at u s q ds ch el sw oc = record {
    purpose = u;
    means = by;
    core = job_with 0 0 [];
    stage = s;
    queue = q;
    failed = f;
    replicas = ns;
    order = order;
    drained = ds;
    chosen = ch;
    lead = None;
    eligible = el;
    swaps = sw;
    outcome = oc;
  }

  -- what a turn decides first
  begins : (r : Recovery) → ((a : Place) → set_out a r ≡ set_out a (once (ground_at a) r)) → (evs : List Event)
      → ((a : Place) → Sees a r → (es : List Event) → Goes (once (ground_at a) r) es → Ends es evs) → (es : List Event) → Goes r es → Ends es evs
  begins r same evs further es goes =
      let d = decides Sees Sees (GoesAsPlanned g.book) (λ a s h. h) (λ a. once (ground_at a) r) r (λ a h. h) (λ a h. same a) es goes in
      further d.at d.sees es d.goes

  -- ---- ways

  module _ (G : Place → Recovery → Type 0) (u : Purpose) (n : ServerNo) (q : List Task) (ds : List Stopped) (ch : Option ServerNo) (el : List Stopped) (sw : Bool)
      (pr : Option ServerNo) (F : List Follower) (L : List LostReplica) (evs : List Event) where
    abbrev Runs-so : Recovery → List Event → Type 0
    Runs-so r es = Course G (GoesAsPlanned g.book) r es

    abbrev moving-at : Stage → List Follower → Recovery
    moving-at s E = at u s q ds ch el sw (record { promoted = pr; followers = E; lost = L })

    abbrev Behind : ServerNo → Type 0
    Behind to = (c : Job) (es : List Event) → Runs-so (left (moving-at stage.Idle (F ++ record { no = n; source = to } ∷ [])) c []) es → Ends es evs

    joins : (to : ServerNo) → Behind to → (c : Job) (es : List Event) → Runs-so (left (moving-at (stage.Join n to) F) c (op.Start n ∷ [])) es → Ends es (Done (op.Start n) ∷ evs)
    joins to further = does g.book G (moving-at (stage.Join n to) F) (op.Start n) [] refl (λ told e. cc) evs further

    -- a replica goes some way, and is started
    -- by GTIDs it isn't ahead of the chosen one
    abbrev pub Free : Way → Type 0
    Free (way.Auto to exec) = is_after (stopped_in el ch) exec ≡ false
    Free _ = Unit {0}

    not-barred : (to : ServerNo) (exec : Coord) → is_after (stopped_in el ch) exec ≡ false → (c : Job) (later : Recovery)
        → GoesAsPlanned g.book (left (moving-at (stage.Move n (way.Auto to exec)) F) c (op.Auto n to ∷ op.Start n ∷ [])) (Missed (op.Auto n to)) later → ⊥
    not-barred to exec free c later (inl h) = let e : stage.Move n (way.Auto to exec) ≡ stage.Check = h.checks in cc
    not-barred to exec free c later (inr m) = go m.1
      where
        go : IsMissed g.book m.0 (left (moving-at (stage.Move n (way.Auto to exec)) F) c (op.Auto n to ∷ op.Start n ∷ [])) (op.Auto n to) later → ⊥
        go (inl h) = let e : stage.Move n (way.Auto to exec) ≡ stage.Drain m.0 = h.drains in cc
        go (inr h) = false≢true (sym free ∙ (ap (λ (x : Coord). is_after (stopped_in el ch) x) (ap (exec_in exec) h.moves) ∙ h.ahead))

    pub goes-by : (by : Way) → Behind (target by) → Free by → (c : Job) (es : List Event)
        → Runs-so (left (moving-at (stage.Move n by) F) c (ways.before by n ++ ways.move by n ∷ op.Start n ∷ [])) es → Ends es (go_events n (steps_of n (Some by)) ++ evs)
    goes-by (way.Down b) further free =
        does g.book G (moving-at (stage.Move n (way.Down b)) F) (op.Cross cross.Down n b.no) (op.Start n ∷ []) refl (λ told e. cc) (Done (op.Start n) ∷ evs) (joins b.no further)
    goes-by (way.Up b) further free =
        does g.book G (moving-at (stage.Move n (way.Up b)) F) (op.Cross cross.Up n b.no) (op.Start n ∷ []) refl (λ told e. cc) (Done (op.Start n) ∷ evs) (joins b.source further)
    goes-by (way.Auto to exec) further free = λ c es goes.
        let one = done-first G (GoesAsPlanned g.book) (moving-at (stage.Move n (way.Auto to exec)) F) c (op.Auto n to) (op.Start n ∷ []) (λ told e. cc) (not-barred to exec free) es goes in
        next (Done (op.Auto n to)) es one.later (Done (op.Start n) ∷ evs) one.is (joins to further one.job one.later one.goes)
    goes-by (way.Match to exec every) further free =
        does g.book G (moving-at (stage.Move n (way.Match to exec every)) F) (op.Match n to every) (op.CrossMatch n to ∷ op.Start n ∷ []) refl (λ told e. cc)
        (Done (op.CrossMatch n to) ∷ Done (op.Start n) ∷ evs)
        (does g.book G (moving-at (stage.Move n (way.Match to exec every)) F) (op.CrossMatch n to) (op.Start n ∷ []) refl (λ told e. cc) (Done (op.Start n) ∷ evs) (joins to further))

  -- ---- the end

  module _ (u : Purpose) (el : List Stopped) (ch : Option ServerNo) (sw : Bool) (oc : Outcome) where
    abbrev lines : List Told
    lines = told_by u oc order

    abbrev shut : Recovery
    shut = at u (stage.Close lines) [] [] ch el sw oc

    reads : (n : ServerNo) (c : Job) (es : List Event) → Goes (left shut c (op.Status n None ∷ op.Finish lines ∷ [])) es → Ends es (Done (op.Status n None) ∷ [])
    reads n = does g.book Sees shut (op.Status n None) (op.Finish lines ∷ []) refl (λ told e. cc) [] (finishes g.book Sees shut lines)

    -- the chosen one is started
    rejoins : (n : ServerNo) (c : Job) (es : List Event) → Goes (left shut c (op.Start n ∷ op.Finish lines ∷ [])) es → Ends es (Done (op.Start n) ∷ [])
    rejoins n = does g.book Sees shut (op.Start n) (op.Finish lines ∷ []) refl (λ told e. cc) [] (finishes g.book Sees shut lines)

  module _ (el : List Stopped) (ch : Option ServerNo) where
    -- the new source takes writes
    opens : (n : ServerNo) (oc : Outcome) (c : Job) (es : List Event)
        → Goes (left (at purpose.Master (stage.Open n) [] [] ch el false oc) c (op.ReadOnly n false ∷ [])) es → Ends es (Done (op.ReadOnly n false) ∷ Done (op.Status n None) ∷ [])
    opens n oc =
        does g.book Sees (at purpose.Master (stage.Open n) [] [] ch el false oc) (op.ReadOnly n false) [] refl (λ told e. cc) (Done (op.Status n None) ∷ [])
        (λ j later goes. reads purpose.Master el ch false oc n (record j { waited = 0 }) later goes)

    crowns : (n : ServerNo) (oc : Outcome) (c : Job) (es : List Event)
        → Goes (left (at purpose.Master (stage.Crown n) [] [] ch el false oc) c (op.Reset n ∷ op.ReadOnly n false ∷ [])) es → Ends es (crown_events n None)
    crowns n oc =
        does g.book Sees (at purpose.Master (stage.Crown n) [] [] ch el false oc) (op.Reset n) (op.ReadOnly n false ∷ []) refl (λ told e. cc)
        (Done (op.ReadOnly n false) ∷ Done (op.Status n None) ∷ []) (opens n oc)

    module _ (p q : ServerNo) (F : List Follower) (L : List LostReplica) where
      abbrev before : Outcome
      before = record { promoted = Some p; followers = F; lost = L }

      abbrev without : Outcome
      without = record { promoted = Some p; followers = without_follower F q; lost = L }

      abbrev behind : Outcome
      behind = (swapped (at purpose.Master (stage.Swapped p q) [] [] ch el false without) p q).outcome

      starts : (c : Job) (es : List Event) → Goes (left (at purpose.Master (stage.Open q) [] [] ch el false behind) c (op.Start p ∷ op.ReadOnly q false ∷ [])) es
          → Ends es (Done (op.Start p) ∷ Done (op.ReadOnly q false) ∷ Done (op.Status q None) ∷ [])
      starts =
          does g.book Sees (at purpose.Master (stage.Open q) [] [] ch el false behind) (op.Start p) (op.ReadOnly q false ∷ []) refl (λ told e. cc)
          (Done (op.ReadOnly q false) ∷ Done (op.Status q None) ∷ []) (opens q behind)

      crosses : (c : Job) (es : List Event) → Goes (left (at purpose.Master (stage.Swap p q) [] [] ch el false without) c (op.Cross cross.About p q ∷ [])) es
          → Ends es (Done (op.Cross cross.About p q) ∷ Done (op.Start p) ∷ Done (op.ReadOnly q false) ∷ Done (op.Status q None) ∷ [])
      crosses =
          does g.book Sees (at purpose.Master (stage.Swap p q) [] [] ch el false without) (op.Cross cross.About p q) [] refl (λ told e. cc)
          (Done (op.Start p) ∷ Done (op.ReadOnly q false) ∷ Done (op.Status q None) ∷ []) (λ j later goes. starts (record j { waited = 0 }) later goes)

      leaves : (c : Job) (es : List Event) → Goes (left (at purpose.Master (stage.Level p q) [] [] ch el false before) c (op.Reset q ∷ op.Cross cross.About p q ∷ [])) es
          → Ends es (Done (op.Reset q) ∷ Done (op.Cross cross.About p q) ∷ Done (op.Start p) ∷ Done (op.ReadOnly q false) ∷ Done (op.Status q None) ∷ [])
      leaves =
          does g.book Sees (at purpose.Master (stage.Level p q) [] [] ch el false before) (op.Reset q) (op.Cross cross.About p q ∷ []) refl (λ told e. cc)
          (Done (op.Cross cross.About p q) ∷ Done (op.Start p) ∷ Done (op.ReadOnly q false) ∷ Done (op.Status q None) ∷ []) crosses

      -- a better one takes its place
      levels : (c : Job) (es : List Event) → Goes (left (at purpose.Master (stage.Level p q) [] [] ch el false before) c (level p q)) es → Ends es (crown_events p (Some q))
      levels =
          walks g.book Sees (at purpose.Master (stage.Level p q) [] [] ch el false before)
          (op.Status p None ∷ op.Status q (Some p) ∷ op.Until q (EndOf p) ∷ op.Await q (EndOf p) ∷ op.Stop q ∷ op.Status q (Some p) ∷ []) (op.Reset q) (op.Cross cross.About p q ∷ [])
          refl (λ o. refl) (Done (op.Reset q) ∷ Done (op.Cross cross.About p q) ∷ Done (op.Start p) ∷ Done (op.ReadOnly q false) ∷ Done (op.Status q None) ∷ []) leaves

  abbrev pub chosen-at : Purpose → List Task → ServerNo → List Stopped → List Follower → List LostReplica → Job → Recovery
  chosen-at u q p el F L c = left (at u stage.Idle q [] (Some p) el (is_master u) (record { promoted = Some p; followers = F; lost = L })) c []

  module _ (p : ServerNo) (el : List Stopped) where
    -- no task is left
    abbrev unswapped : List Follower → List LostReplica → Job → Recovery
    unswapped F L c = left (at purpose.Master stage.Idle [] [] (Some p) el false (record { promoted = Some p; followers = F; lost = L })) c []

    swaps-or-not : (F : List Follower) (L : List LostReplica) (o : Option ServerNo) (c : Job) (es : List Event) → Goes (swap_by (unswapped F L c) p o) es → Ends es (crown_events p o)
    swaps-or-not F L None c es goes =
        begins (unswapped F L c) (λ a. refl) (crown_events p None)
        (λ a sees later on. crowns el (Some p) p (record { promoted = Some p; followers = F; lost = L }) (record c { waited = 0 }) later on) es goes
    swaps-or-not F L (Some q) c es goes = levels el (Some p) p q F L (record c { waited = 0 }) es goes

    swap-same : (a : Place) (F : List Follower) (L : List LostReplica) (c : Job) (o : Option ServerNo)
        → once (ground_at a) (once (ground_at a) (once (ground_at a) (swap_by (unswapped F L c) p o)))
        ≡ once (ground_at a) (once (ground_at a) (once (ground_at a) (once (ground_at a) (swap_by (unswapped F L c) p o))))
    swap-same a F L c None = refl
    swap-same a F L c (Some q) = refl

    pub lasts : (u : Purpose) → is_takeover u ≡ false → (F : List Follower) (L : List LostReplica) (c : Job) (es : List Event) → Goes (chosen-at u [] p el F L c) es
        → Ends es (last_events g u f p (map (λ x. x.no) F))
    lasts purpose.Regroup is F L c es goes =
        begins (chosen-at purpose.Regroup [] p el F L c) (λ a. refl) (Done (op.Start p) ∷ [])
        (λ a sees later on. rejoins purpose.Regroup el (Some p) false (record { promoted = Some p; followers = F; lost = L }) p (record c { waited = 0 }) later on) es goes
    lasts purpose.Master is F L c es goes =
        begins (chosen-at purpose.Master [] p el F L c) (λ a. swap-same a F L c (better_of (ground_at a) f p (map (λ x. x.no) F)))
        (crown_events p (better_of g f p (map (λ x. x.no) F)))
        (λ a sees later on. swaps-or-not F L (better_of g f p (map (λ x. x.no) F)) c later
        (subst (λ (o : Option ServerNo). Goes (swap_by (unswapped F L c) p o) later) (sees p (map (λ x. x.no) F)) on)) es goes
    lasts (purpose.Intermediate s) is F L c es goes =
        begins (chosen-at (purpose.Intermediate s) [] p el F L c) (λ a. refl) []
        (λ a sees later on. finishes g.book Sees (shut (purpose.Intermediate s) el (Some p) false (record { promoted = Some p; followers = F; lost = L }))
        (lines (purpose.Intermediate s) el (Some p) false (record { promoted = Some p; followers = F; lost = L })) (record c { waited = 0 }) later on) es goes
    lasts (purpose.Takeover d) is F L c es goes = absurd (false≢true (sym is))

  -- ---- the lost are detached, or started again

  module _ (u : Purpose) (p : ServerNo) (el : List Stopped) (F : List Follower) (q : List Task) (evs : List Event)
      (further : (L : List LostReplica) (c : Job) (es : List Event) → Goes (chosen-at u q p el F L c) es → Ends es evs) where
    expels-one : (n : ServerNo) (L : List LostReplica) (c : Job) (es : List Event) → Goes (chosen-at u (task.Expelling n ∷ q) p el F L c) es → Ends es (Done (op.Detach n) ∷ evs)
    expels-one n L c es goes =
        begins (chosen-at u (task.Expelling n ∷ q) p el F L c) (λ a. refl) (Done (op.Detach n) ∷ evs)
        (λ a sees later on.
        does g.book Sees (at u (stage.Expel n) q [] (Some p) el (is_master u) (record { promoted = Some p; followers = F; lost = L })) (op.Detach n) [] refl (λ told e. cc) evs
        (λ j more next_on. further (map (marked n) L) j more next_on) (record c { waited = 0 }) later on) es goes

    releases-one : (n : ServerNo) (L : List LostReplica) (c : Job) (es : List Event) → Goes (chosen-at u (task.Releasing n ∷ q) p el F L c) es → Ends es (Done (op.Start n) ∷ evs)
    releases-one n L c es goes =
        begins (chosen-at u (task.Releasing n ∷ q) p el F L c) (λ a. refl) (Done (op.Start n) ∷ evs)
        (λ a sees later on.
        does g.book Sees (at u (stage.Release n) q [] (Some p) el (is_master u) (record { promoted = Some p; followers = F; lost = L })) (op.Start n) [] refl (λ told e. cc) evs
        (λ j more next_on. further L j more next_on) (record c { waited = 0 }) later on) es goes

  module _ (p : ServerNo) (el : List Stopped) (F : List Follower) (q : List Task) (evs : List Event) where
    parted-all : (u : Purpose) → ((L : List LostReplica) (c : Job) (es : List Event) → Goes (chosen-at u q p el F L c) es → Ends es evs)
        → (ks : List ServerNo) (L : List LostReplica) (c : Job) (es : List Event) → Goes (chosen-at u (map (parting u) ks ++ q) p el F L c) es
        → Ends es (map (λ n. Done (part u n)) ks ++ evs)
    parted-all u further [] L c es goes = further L c es goes
    parted-all purpose.Regroup further (k ∷ ks) L c es goes =
        releases-one purpose.Regroup p el F (map (parting purpose.Regroup) ks ++ q) (map (λ n. Done (part purpose.Regroup n)) ks ++ evs) (parted-all purpose.Regroup further ks) k L c es goes
    parted-all purpose.Master further (k ∷ ks) L c es goes =
        expels-one purpose.Master p el F (map (parting purpose.Master) ks ++ q) (map (λ n. Done (part purpose.Master n)) ks ++ evs) (parted-all purpose.Master further ks) k L c es goes
    parted-all (purpose.Intermediate s) further (k ∷ ks) L c es goes =
        expels-one (purpose.Intermediate s) p el F (map (parting (purpose.Intermediate s)) ks ++ q) (map (λ n. Done (part (purpose.Intermediate s) n)) ks ++ evs)
        (parted-all (purpose.Intermediate s) further ks) k L c es goes
    parted-all (purpose.Takeover d) further (k ∷ ks) L c es goes =
        expels-one (purpose.Takeover d) p el F (map (parting (purpose.Takeover d)) ks ++ q) (map (λ n. Done (part (purpose.Takeover d) n)) ks ++ evs)
        (parted-all (purpose.Takeover d) further ks) k L c es goes

  -- what is done with the lost is decided
  abbrev sorted-at : Purpose → ServerNo → List Stopped → List Follower → List LostReplica → Job → List ServerNo → List ServerNo → Recovery
  sorted-at u p el F L c xs ys = chosen-at u (map task.Expelling xs ++ (map task.Releasing ys ++ [])) p el F L c

  pub settles : (u : Purpose) → is_takeover u ≡ false → (a : Place) (p : ServerNo) (el : List Stopped) (F : List Follower) (L : List LostReplica) (c : Job) (xs ys : List ServerNo)
      → once (ground_at a) (once (ground_at a) (sorted-at u p el F L c xs ys))
      ≡ once (ground_at a) (once (ground_at a) (once (ground_at a) (sorted-at u p el F L c xs ys)))
  settles u is a p el F L c (x ∷ xs) ys = refl
  settles u is a p el F L c [] (y ∷ ys) = refl
  settles purpose.Regroup is a p el F L c [] [] = refl
  settles purpose.Master is a p el F L c [] [] = go (better_of (ground_at a) f p (map (λ x. x.no) F))
    where
      go : (o : Option ServerNo)
          → once (ground_at a) (swap_by (unswapped p el F L c) p o) ≡ once (ground_at a) (once (ground_at a) (swap_by (unswapped p el F L c) p o))
      go None = refl
      go (Some q) = refl
  settles (purpose.Intermediate s) is a p el F L c [] [] = refl
  settles (purpose.Takeover d) is a p el F L c [] [] = absurd (false≢true (sym is))

  pub sorts : (u : Purpose) → is_takeover u ≡ false → (p : ServerNo) (el : List Stopped) (F : List Follower) (L : List LostReplica) (ks : List ServerNo)
      → filter (λ n. expels u (why_of L n)) ns ≡ detached u ks → filter (λ n. releases u (why_of L n)) ns ≡ started u ks
      → (c : Job) (es : List Event) → Goes (chosen-at u (task.Sorting ∷ []) p el F L c) es
      → Ends es (map (λ n. Done (part u n)) ks ++ last_events g u f p (map (λ x. x.no) F))
  sorts u is p el F L ks out in_again c es goes =
      begins (chosen-at u (task.Sorting ∷ []) p el F L c)
      (λ a. ap (once (ground_at a)) (settles u is a p el F L c (filter (λ n. expels u (why_of L n)) ns) (filter (λ n. releases u (why_of L n)) ns)))
      (map (λ n. Done (part u n)) ks ++ last_events g u f p (map (λ x. x.no) F))
      (λ a sees later on.
      parted-all p el F [] (last_events g u f p (map (λ x. x.no) F)) u (λ M d more go_on. lasts p el u is F M d more go_on) ks L c later
      (subst (λ (ts : List Task). Goes (chosen-at u ts p el F L c) later)
      ((λ i. map task.Expelling (out i) ++ (map task.Releasing (in_again i) ++ [])) ∙ parting-is u ks) on)) es goes

  -- ---- a replica that is ahead is refused

  module _ (u : Purpose) (rest : is_takeover u ≡ false) (p : ServerNo) (el : List Stopped) (F : List Follower) (L : List LostReplica) (n to : ServerNo) (exec : Coord) (q : List Task)
      (evs : List Event) (ahead : is_after (stopped_in el (Some p)) exec ≡ true) where
    abbrev asking : Recovery
    asking = at u (stage.Move n (way.Auto to exec)) q [] (Some p) el (is_master u) (record { promoted = Some p; followers = F; lost = L })

    abbrev late_one : LostReplica
    late_one = record { no = n; why = why.ahead exec; detached = false }

    abbrev Lost : Type 0
    Lost = (c : Job) (es : List Event) → Goes (chosen-at u q p el F (L ++ late_one ∷ []) c) es → Ends es evs

    fates : Lost → (w : World) (was : Job) (x : Cause) (ob : Option Observation) (es : List Event) (o : Fate) → NotFrees o
        → (met w (left asking was (op.Auto n to ∷ op.Start n ∷ [])) x ob o).recovery.outcome.lost ≡ L ++ late_one ∷ []
        → Goes (met w (left asking was (op.Auto n to ∷ op.Start n ∷ [])) x ob o).recovery es → Ends es evs
    fates further w was x ob es (taking.Frees k y) not lost on = absurd not
    fates further w was x ob es (taking.Loses k y) not lost on =
        further (record was { waited = 0 }) es (subst (λ (ls : List LostReplica). Goes (chosen-at u q p el F ls (record was { waited = 0 })) es) lost on)
    fates further w was x ob es _ not lost on = absurd (longer L late_one (sym lost))

    refused-one : Lost → (c : Job) (es : List Event) → Goes (chosen-at u (task.Moving n (way.Auto to exec) ∷ q) p el F L c) es → Ends es (Missed (op.Auto n to) ∷ evs)
    refused-one further c es goes =
        begins (chosen-at u (task.Moving n (way.Auto to exec) ∷ q) p el F L c) (λ a. refl) (Missed (op.Auto n to) ∷ evs)
        (λ a sees later on. go later
        (first-of Sees (GoesAsPlanned g.book) asking (record c { waited = 0 }) (op.Auto n to) (op.Start n ∷ []) (λ told e. cc) later on)) es goes
      where
        go : (later : List Event) → Did Sees (GoesAsPlanned g.book) asking (op.Auto n to) (op.Start n ∷ []) later
            ⊎ Missing Sees (GoesAsPlanned g.book) asking (op.Auto n to) (op.Start n ∷ []) later → Ends later (Missed (op.Auto n to) ∷ evs)
        go later (inl one) = absurd (false≢true (sym (one.held.allowed n to exec refl refl) ∙ ahead))
        go later (inr m) = missed m.held
          where
            missed : GoesAsPlanned g.book (left asking m.before (op.Auto n to ∷ op.Start n ∷ [])) (Missed (op.Auto n to))
                (met m.at.world (left asking m.before (op.Auto n to ∷ op.Start n ∷ [])) m.cause m.saw (fate m.at.world u (stage.Move n (way.Auto to exec)) m.cause)).recovery
                → Ends later (Missed (op.Auto n to) ∷ evs)
            missed (inl h) = let e : stage.Move n (way.Auto to exec) ≡ stage.Check = h.checks in cc
            missed (inr k) = told-of k.1
              where
                told-of : IsMissed g.book k.0 (left asking m.before (op.Auto n to ∷ op.Start n ∷ [])) (op.Auto n to)
                    (met m.at.world (left asking m.before (op.Auto n to ∷ op.Start n ∷ [])) m.cause m.saw (fate m.at.world u (stage.Move n (way.Auto to exec)) m.cause)).recovery
                    → Ends later (Missed (op.Auto n to) ∷ evs)
                told-of (inl h) = let e : stage.Move n (way.Auto to exec) ≡ stage.Drain k.0 = h.drains in cc
                told-of (inr h) =
                    let one : k.0 ≡ n = sym (ap (mover_in n) h.moves) in
                    let two : h.exec ≡ exec = sym (ap (exec_in exec) h.moves) in
                    next (Missed (op.Auto n to)) later m.later evs m.is
                    (fates further m.at.world m.before m.cause m.saw m.later (fate m.at.world u (stage.Move n (way.Auto to exec)) m.cause)
                    (not-frees m.at.world u rest n to exec (loss_of m.cause))
                    (h.lost ∙ (λ i. L ++ record { no = one i; why = why.ahead (two i); detached = false } ∷ [])) m.goes)

  -- ---- each of the others goes its way

  module _ (u : Purpose) (rest : is_takeover u ≡ false) (p : Stopped) (el : List Stopped) (lead : stopped_in el (Some p.no) ≡ Some p) where
    moved-one : (L : List LostReplica) (n : ServerNo) (F : List Follower) (q : List Task) (evs : List Event) (by : Way)
        → ((c : Job) (es : List Event) → Goes (chosen-at u q p.no el (F ++ record { no = n; source = target by } ∷ []) L c) es → Ends es evs)
        → Free Sees u n q [] (Some p.no) el (is_master u) (Some p.no) F L evs by
        → (c : Job) (es : List Event) → Goes (chosen-at u (task.Moving n by ∷ q) p.no el F L c) es → Ends es (go_events n (steps_of n (Some by)) ++ evs)
    moved-one L n F q evs by further free c es goes =
        begins (chosen-at u (task.Moving n by ∷ q) p.no el F L c) (λ a. same a by) (go_events n (steps_of n (Some by)) ++ evs)
        (λ a sees later on. goes-by Sees u n q [] (Some p.no) el (is_master u) (Some p.no) F L evs by further free (record c { seen = with_way c.seen by; waited = 0 }) later on) es goes
      where
        same : (a : Place) (y : Way) → set_out a (chosen-at u (task.Moving n y ∷ q) p.no el F L c) ≡ set_out a (once (ground_at a) (chosen-at u (task.Moving n y ∷ q) p.no el F L c))
        same a (way.Down b) = refl
        same a _ = refl

    module _ (lots : Stopped → Lot) (fits : (s : Stopped) → StaysApart p s (lots s)) (q : List Task) (evs : List Event) where
      -- the others follow, as many as go, and the late ones are lost
      abbrev Followed : List ServerNo → List LostReplica → Type 0
      Followed nos ls = (E : List Follower) → map (λ x. x.no) E ≡ nos → (c : Job) (es : List Event) → Goes (chosen-at u q p.no el E ls c) es → Ends es evs

      abbrev AllMove : List Stopped → Type 0
      AllMove ss = (F : List Follower) (L : List LostReplica) → Followed (map (λ x. x.no) F ++ filter_map goes (forks p lots ss)) (L ++ late_of p lots ss) → (c : Job) (es : List Event)
          → Goes (chosen-at u (moves_in lots ss ++ q) p.no el F L c) es → Ends es (flat_map fork_events (forks p lots ss) ++ evs)

      moves-all : (ss : List Stopped) → AllMove ss
      moves-all [] F L further c es run =
          further F (sym (append-nil (map (λ x. x.no) F))) c es (subst (λ (ls : List LostReplica). Goes (chosen-at u q p.no el F ls c) es) (sym (append-nil L)) run)
      moves-all (s ∷ ss) F L further c es run = go (lots s) (fits s) (moves-all ss) further run
        where
          taken : (y : Way) → Free Sees u s.no (moves_in lots ss ++ q) [] (Some p.no) el (is_master u) (Some p.no) F L (flat_map fork_events (forks p lots ss) ++ evs) y → AllMove ss
              → Followed (map (λ x. x.no) F ++ s.no ∷ filter_map goes (forks p lots ss)) (L ++ late_of p lots ss)
              → Goes (chosen-at u (task.Moving s.no y ∷ (moves_in lots ss ++ q)) p.no el F L c) es
              → Ends es ((go_events s.no (steps_of s.no (Some y)) ++ flat_map fork_events (forks p lots ss)) ++ evs)
          taken y free others onward on =
              subst (Ends es) (sym (append_assoc (go_events s.no (steps_of s.no (Some y))) (flat_map fork_events (forks p lots ss)) evs))
              (moved-one L s.no F (moves_in lots ss ++ q) (flat_map fork_events (forks p lots ss) ++ evs) y
              (others (F ++ record { no = s.no; source = target y } ∷ []) L
              (λ E nos. onward E (nos
              ∙ (ap (λ (ks : List ServerNo). ks ++ filter_map goes (forks p lots ss)) (map-append (λ (x : Follower). x.no) F (record { no = s.no; source = target y } ∷ []))
              ∙ append_assoc (map (λ x. x.no) F) (s.no ∷ []) (filter_map goes (forks p lots ss)))))) free c es on)

          go : (l : Lot) → StaysApart p s l → AllMove ss
              → Followed (map (λ x. x.no) F ++ cons_option (goer_of s.no (path_by p s l)) (filter_map goes (forks p lots ss)))
              (L ++ cons_option (option_map (λ why. let k : LostReplica = record { no = s.no; why = why; detached = false } in k) (refused_why p s l)) (late_of p lots ss))
              → Goes (chosen-at u ((move_of s l ++ moves_in lots ss) ++ q) p.no el F L c) es → Ends es (flat_map fork_events (fork_of p s l ∷ forks p lots ss) ++ evs)
          go (lot.Stays why) fit others onward on = others F L onward c es on
          go (lot.Goes (way.Down b)) fit others onward on = taken (way.Down b) tt others onward on
          go (lot.Goes (way.Up b)) fit others onward on = taken (way.Up b) tt others onward on
          go (lot.Goes (way.Match to exec every)) fit others onward on = taken (way.Match to exec every) tt others onward on
          go (lot.Goes (way.Auto to exec)) fit others onward on = either (is_before p.exec s.exec) refl onward
            where
              ahead-is : (v : Bool) → is_before p.exec s.exec ≡ v → is_after (stopped_in el (Some p.no)) exec ≡ v
              ahead-is v is = ap (λ (o : Option Stopped). is_after o exec) lead ∙ (ap (is_before p.exec) fit.1 ∙ is)

              either : (v : Bool) → is_before p.exec s.exec ≡ v
                  → Followed (map (λ x. x.no) F ++ cons_option (goer_of s.no (cond v (path.Refused (op.Auto s.no to)) (path.Goes (op.Auto s.no to ∷ [])))) (filter_map goes (forks p lots ss)))
                  (L ++ cons_option (option_map (λ why. let k : LostReplica = record { no = s.no; why = why; detached = false } in k) (cond v (Some (why.ahead s.exec)) None)) (late_of p lots ss))
                  → Ends es ((path_events s.no (cond v (path.Refused (op.Auto s.no to)) (path.Goes (op.Auto s.no to ∷ []))) ++ flat_map fork_events (forks p lots ss)) ++ evs)
              either true is onward =
                  refused-one u rest p.no el F L s.no to exec (moves_in lots ss ++ q) (flat_map fork_events (forks p lots ss) ++ evs) (ahead-is true is)
                  (others F (L ++ record { no = s.no; why = why.ahead exec; detached = false } ∷ [])
                  (λ E nos d later more. onward E nos d later (subst (λ (ls : List LostReplica). Goes (chosen-at u q p.no el E ls d) later)
                  (append_assoc L (record { no = s.no; why = why.ahead exec; detached = false } ∷ []) (late_of p lots ss)
                  ∙ (λ i. L ++ record { no = s.no; why = why.ahead (fit.1 i); detached = false } ∷ late_of p lots ss)) more))) c es on
              either false is onward = taken (way.Auto to exec) (ahead-is false is) others onward on

  -- ---- the choice

  module _ (u : Purpose) (is : is_takeover u ≡ false) (a : Place) (p : ServerNo) (el : List Stopped) (F : List Follower) (L : List LostReplica) (c : Job) (lots : Stopped → Lot) where
    abbrev Settled : List Task → Type 0
    Settled q = once (ground_at a) (once (ground_at a) (once (ground_at a) (chosen-at u (q ++ task.Sorting ∷ []) p el F L c)))
        ≡ once (ground_at a) (once (ground_at a) (once (ground_at a) (once (ground_at a) (chosen-at u (q ++ task.Sorting ∷ []) p el F L c))))

    moves-same : (ss : List Stopped) → Settled (moves_in lots ss)
    moves-same [] = settles u is a p el F L c (filter (λ n. expels u (why_of L n)) ns) (filter (λ n. releases u (why_of L n)) ns)
    moves-same (s ∷ ss) = go (lots s) (moves-same ss)
      where
        go : (l : Lot) → Settled (moves_in lots ss) → Settled (move_of s l ++ moves_in lots ss)
        go (lot.Goes (way.Down b)) rest = refl
        go (lot.Stays why) rest = rest
        go _ rest = refl

  -- the replicas are drained or lost, and nothing is decided of them yet
  abbrev pub undecided : Purpose → List Task → List Stopped → List LostReplica → Job → Recovery
  undecided u q ds L c = left (at u stage.Idle q ds (first_source u) [] (is_master u) (record { promoted = first_source u; followers = []; lost = L })) c []

  choice-same : (u : Purpose) → gathers u ≡ true → (a : Place) (ds : List Stopped) (L : List LostReplica) (c : Job) (o : Option Stopped)
      → once (ground_at a) (once (ground_at a) (once (ground_at a) (choose (ground_at a) (undecided u (task.Sorting ∷ []) ds L c) o)))
      ≡ once (ground_at a) (once (ground_at a) (once (ground_at a) (once (ground_at a) (choose (ground_at a) (undecided u (task.Sorting ∷ []) ds L c) o))))
  choice-same u is a ds L c (Some p) =
      moves-same u (no-takeover u is) a p.no (filter (may_lead (ground_at a)) ds) [] (L ++ losses_in (lot_by by (ground_at a) f p) (without_stopped ds p.no)) c
      (lot_by by (ground_at a) f p) (without_stopped ds p.no)
  choice-same purpose.Regroup is a ds L c None = refl
  choice-same purpose.Master is a ds L c None = refl
  choice-same (purpose.Intermediate s) is a ds L c None = absurd (false≢true is)
  choice-same (purpose.Takeover d) is a ds L c None = absurd (false≢true is)

  -- without a chosen one nothing goes on
  none-chosen : (u : Purpose) → gathers u ≡ true → (a : Place) (ds : List Stopped) (L : List LostReplica) (c : Job) (es : List Event)
      → Goes (choose (ground_at a) (undecided u (task.Sorting ∷ []) ds L c) None) es → ⊥
  none-chosen purpose.Regroup is a ds L c es goes =
      none-goes Sees (GoesAsPlanned g.book) (choose (ground_at a) (undecided purpose.Regroup (task.Sorting ∷ []) ds L c) None) (λ b. refl) es goes
  none-chosen purpose.Master is a ds L c es goes =
      none-goes Sees (GoesAsPlanned g.book) (choose (ground_at a) (undecided purpose.Master (task.Sorting ∷ []) ds L c) None) (λ b. refl) es goes
  none-chosen (purpose.Intermediate s) is a ds L c es goes = absurd (false≢true is)
  none-chosen (purpose.Takeover d) is a ds L c es goes = absurd (false≢true is)

  -- the chosen one is found among those that might be
  leads : (a : Place) (ds : List Stopped) (p : Stopped) → chosen_of (ground_at a) f ds ≡ Some p → stopped_in (filter (may_lead (ground_at a)) ds) (Some p.no) ≡ Some p
  leads a ds p chosen = find-filter p.no (may_lead (ground_at a)) ds p (named-so ds p _ chosen) (chosen-may a.world a.book a.now f ds p chosen)

  module _ (u : Purpose) (is : gathers u ≡ true) (fs : List Found) (apart : AreApart (map no_of fs)) (all : map no_of fs ≡ ns) where
    abbrev ds : List Stopped
    ds = filter_map drained_in fs

    abbrev gone_first : List LostReplica
    gone_first = filter_map gone_in fs

    -- one is chosen
    module _ (a : Place) (p : Stopped) (chosen : chosen_of (ground_at a) f ds ≡ Some p) where
      abbrev lots : Stopped → Lot
      lots s = lot_by by (ground_at a) f p s

      abbrev others : List Stopped
      others = without_stopped ds p.no

      abbrev may : List Stopped
      may = filter (may_lead (ground_at a)) ds

      abbrev lost_then : List LostReplica
      lost_then = gone_first ++ (losses_in lots others ++ late_of p lots others)

      -- what comes once the others went their ways
      abbrev parts-last : List ServerNo → List Event
      parts-last qs = map (λ n. Done (part u n)) (filter_map stays (forks p lots others)) ++ last_events g u f p.no qs

      chosen-on : (c : Job) (es : List Event) → Goes (choose (ground_at a) (undecided u (task.Sorting ∷ []) ds gone_first c) (Some p)) es
          → Ends es (script g u f p.no (forks p lots others))
      chosen-on c es run =
          moves-all u (no-takeover u is) p may (leads a ds p chosen) lots (lots-apart (ground_at a) by f p) (task.Sorting ∷ []) (parts-last (filter_map goes (forks p lots others))) others []
          (gone_first ++ losses_in lots others)
          (λ F nos d more on.
          subst (λ (qs : List ServerNo). Ends more (parts-last qs)) nos
          (sorts u (no-takeover u is) p.no may F lost_then (filter_map stays (forks p lots others))
          (are-detached p lots (lots-apart (ground_at a) by f p) u is fs apart ns all) (are-started p lots (lots-apart (ground_at a) by f p) u is fs apart ns all) d more
          (subst (λ (ls : List LostReplica). Goes (chosen-at u (task.Sorting ∷ []) p.no may F ls d) more) (append_assoc gone_first (losses_in lots others) (late_of p lots others)) on))) c es run

    abbrev Planned : Recovery → List Event → Type 0
    Planned r es = Course (IsAsPlanned g by f ns) (GoesAsPlanned g.book) r es

    -- the branch that is expected
    pub gathered-on : (c : Job) (es : List Event) → Planned (undecided u (task.Choosing ∷ task.Sorting ∷ []) ds gone_first c) es
        → Ends es (events_of (choice_lines g u by f (expected g.book ns) (chosen_of g f (expected g.book ns))))
    gathered-on c es goes =
        let d = decides (IsAsPlanned g by f ns) Sees (GoesAsPlanned g.book) (λ a s h. h.better) (λ a. once (ground_at a) (undecided u (task.Choosing ∷ task.Sorting ∷ []) ds gone_first c))
        (undecided u (task.Choosing ∷ task.Sorting ∷ []) ds gone_first c) (λ a h. h.better)
        (λ a h. choice-same u is a ds gone_first c (chosen_of (ground_at a) f ds)) es goes in
        go d.at (chosen_of (ground_at d.at) f ds) refl (chosen_of g f (expected g.book ns)) (d.sees.chosen (task.Sorting ∷ []) (record { rests = refl; queue = refl })) d.goes
      where
        go : (a : Place) (o : Option Stopped) → chosen_of (ground_at a) f ds ≡ o → (x : Option Stopped) → branch_at (ground_at a) by f ds o ≡ branch_at g by f (expected g.book ns) x
            → Goes (choose (ground_at a) (undecided u (task.Sorting ∷ []) ds gone_first c) o) es → Ends es (events_of (choice_lines g u by f (expected g.book ns) x))
        go a None chosen x same on = absurd (none-chosen u is a ds gone_first c es on)
        go a (Some p) chosen None same on = cc
        go a (Some p) chosen (Some k) same on =
            subst (Ends es)
            (ap (λ (b : Branch). script g u f b.chosen b.others) (same_Some _ _ same)
            ∙ sym (told-branch g u is by f k (without_stopped (expected g.book ns) k.no)))
            (chosen-on a p chosen c es on)

  -- ---- the replicas are drained

  -- if an operation is due, no choice is made
  pub busy : (a : Place) (r s : Recovery) → (s.core.ops ≡ [] → ⊥) → IsAsPlanned g by f ns a r → IsAsPlanned g by f ns a s
  busy a r s due sees = record { better = sees.better; chosen = λ ts after. absurd (due after.rests); handed = λ ts k after is. absurd (due after.rests) }

  abbrev pub Plans : Recovery → List Event → Type 0
  Plans r es = Course (IsAsPlanned g by f ns) (GoesAsPlanned g.book) r es

  pub begins-to : (r : Recovery) → ((a : Place) → (once (ground_at a) r).core.ops ≡ [] → ⊥) → ((a : Place) → set_out a r ≡ set_out a (once (ground_at a) r)) → (evs : List Event)
      → ((a : Place) (es : List Event) → Plans (once (ground_at a) r) es → Ends es evs) → (es : List Event) → Plans r es → Ends es evs
  begins-to r due same evs further es goes =
      let d = decides (IsAsPlanned g by f ns) (IsAsPlanned g by f ns) (GoesAsPlanned g.book) (λ a s h. h) (λ a. once (ground_at a) r) r (λ a h. busy a r (once (ground_at a) r) (due a) h) (λ a h. same a) es goes in
      further d.at es d.goes

  module _ (u : Purpose) (n : ServerNo) (q : List Task) (ds : List Stopped) (L : List LostReplica) (evs : List Event) where
    abbrev draining : Stage → Recovery
    draining s = at u s q ds (first_source u) [] (is_master u) (record { promoted = first_source u; followers = []; lost = L })

    abbrev lines_if : Bool → List Line
    lines_if b = cond b (judged_lines f (drain n)) (line.Does (op.StopReceiver n) expect.Gone ∷ [])

    abbrev Drained : Type 0
    Drained = (s : Stopped) → s.no ≡ n → is_valid g.book n ≡ true → (c : Job) (es : List Event) → Plans (undecided u q (ds ++ s ∷ []) L c) es → Ends es evs

    abbrev WasGone : Type 0
    WasGone = is_valid g.book n ≡ false → (c : Job) (es : List Event) → Plans (undecided u q ds (L ++ gone n ∷ []) c) es → Ends es evs

    -- it was seen somewhere
    judged-on : Drained → is_valid g.book n ≡ true → (j : Job) (es : List Event) (o : Option Position) → (judged (left (draining (stage.Judged n)) j []) n o).outcome.lost ≡ L
        → Plans (idle (judged (left (draining (stage.Judged n)) j []) n o)) es → Ends es evs
    judged-on there valid j es None keeps on = absurd (longer L (gone n) keeps)
    judged-on there valid j es (Some s) keeps on = go (is_below s f) keeps on
      where
        before : Recovery
        before = left (draining (stage.Judged n)) j []

        stood : Recovery
        stood = record before { drained = ds ++ record { no = n; exec = s.exec; own_end = s.own_end } ∷ [] }

        stray : Recovery
        stray = loses before n (why.moved (spot_seen s.source s.exec))

        go : (b : Bool) → (cond b stood stray).outcome.lost ≡ L → Plans (idle (cond b stood stray)) es → Ends es evs
        go true keeps on = there (record { no = n; exec = s.exec; own_end = s.own_end }) refl valid j es on
        go false keeps on = absurd (longer L (record { no = n; why = why.moved (spot_seen s.source s.exec); detached = false }) keeps)

    reads-one : Drained → is_valid g.book n ≡ true → (c : Job) (es : List Event) → Plans (left (draining (stage.Drain n)) c (op.Status n None ∷ [])) es → Ends es (Done (op.Status n None) ∷ evs)
    reads-one there valid c es goes =
        let one = done-first (IsAsPlanned g by f ns) (GoesAsPlanned g.book) (draining (stage.Drain n)) c (op.Status n None) [] (λ told e. cc)
        (misses-no g.book (IsAsPlanned g by f ns) (draining (stage.Drain n)) (op.Status n None) [] refl) es goes in
        next (Done (op.Status n None)) es one.later evs one.is (judged-on there valid one.job one.later (seen_of one.job.seen n.0) one.held.keeps one.goes)

    settles-one : Drained → is_valid g.book n ≡ true → (c : Job) (es : List Event) → Plans (left (draining (stage.Drain n)) c (op.Settle n ∷ op.Stop n ∷ op.Status n None ∷ [])) es
        → Ends es (Done (op.Settle n) ∷ Done (op.Stop n) ∷ Done (op.Status n None) ∷ evs)
    settles-one there valid =
        does g.book (IsAsPlanned g by f ns) (draining (stage.Drain n)) (op.Settle n) (op.Stop n ∷ op.Status n None ∷ []) refl (λ told e. cc) (Done (op.Stop n) ∷ Done (op.Status n None) ∷ evs)
        (does g.book (IsAsPlanned g by f ns) (draining (stage.Drain n)) (op.Stop n) (op.Status n None ∷ []) refl (λ told e. cc) (Done (op.Status n None) ∷ evs) (reads-one there valid))

    -- it isn't reached
    missed-on : WasGone → is_valid g.book n ≡ false → (w : World) (was : Job) (x : Cause) (ob : Option Observation) (k : ServerNo) (es : List Event) (o : Option Loss)
        → (met w (left (draining (stage.Drain n)) was (drain n)) x ob (drain_fate n o)).recovery.outcome.lost ≡ L ++ gone k ∷ []
        → Plans (met w (left (draining (stage.Drain n)) was (drain n)) x ob (drain_fate n o)).recovery es → Ends es evs
    missed-on away off w was x ob k es None lost on = absurd (longer L (gone k) (sym lost))
    missed-on away off w was x ob k es (Some taking.Spent) lost on = absurd (longer L (gone k) (sym lost))
    missed-on away off w was x ob k es (Some taking.Differs) lost on = absurd (longer L (gone k) (sym lost))
    missed-on away off w was x ob k es (Some (taking.Missed m)) lost on = go (is_away m) lost on
      where
        go : (b : Bool) → (met w (left (draining (stage.Drain n)) was (drain n)) x ob (cond b (taking.Loses n why.unreachable) taking.Fails)).recovery.outcome.lost ≡ L ++ gone k ∷ []
            → Plans (met w (left (draining (stage.Drain n)) was (drain n)) x ob (cond b (taking.Loses n why.unreachable) taking.Fails)).recovery es → Ends es evs
        go true lost on = away off (record was { waited = 0 }) es on
        go false lost on = absurd (longer L (gone k) (sym lost))

    drain-one : Drained → WasGone → (c : Job) (es : List Event) → Plans (undecided u (task.Draining n ∷ q) ds L c) es → Ends es (events_of (drained g.book f n) ++ evs)
    drain-one there away c es goes =
        begins-to (undecided u (task.Draining n ∷ q) ds L c) (λ a e. cc) (λ a. refl) (events_of (drained g.book f n) ++ evs)
        (λ a later on. go later
        (first-of (IsAsPlanned g by f ns) (GoesAsPlanned g.book) (draining (stage.Drain n)) (record c { waited = 0 }) (op.StopReceiver n) (op.Settle n ∷ op.Stop n ∷ op.Status n None ∷ [])
        (λ told e. cc) later on)) es goes
      where
        go : (later : List Event)
            → Did (IsAsPlanned g by f ns) (GoesAsPlanned g.book) (draining (stage.Drain n)) (op.StopReceiver n) (op.Settle n ∷ op.Stop n ∷ op.Status n None ∷ []) later
            ⊎ Missing (IsAsPlanned g by f ns) (GoesAsPlanned g.book) (draining (stage.Drain n)) (op.StopReceiver n) (op.Settle n ∷ op.Stop n ∷ op.Status n None ∷ []) later
            → Ends later (events_of (drained g.book f n) ++ evs)
        go later (inl one) =
            subst (λ (b : Bool). Ends later (events_of (lines_if b) ++ evs)) (sym (one.held.reached n refl))
            (next (Done (op.StopReceiver n)) later one.later (Done (op.Settle n) ∷ Done (op.Stop n) ∷ Done (op.Status n None) ∷ evs) one.is (settles-one there (one.held.reached n refl) one.job one.later one.goes))
        go later (inr m) = missed m.held
          where
            missed : GoesAsPlanned g.book (left (draining (stage.Drain n)) m.before (drain n)) (Missed (op.StopReceiver n))
                (met m.at.world (left (draining (stage.Drain n)) m.before (drain n)) m.cause m.saw (fate m.at.world u (stage.Drain n) m.cause)).recovery
                → Ends later (events_of (drained g.book f n) ++ evs)
            missed (inl h) = let e : stage.Drain n ≡ stage.Check = h.checks in cc
            missed (inr k) = told-of k.1
              where
                told-of : IsMissed g.book k.0 (left (draining (stage.Drain n)) m.before (drain n)) (op.StopReceiver n)
                    (met m.at.world (left (draining (stage.Drain n)) m.before (drain n)) m.cause m.saw (fate m.at.world u (stage.Drain n) m.cause)).recovery
                    → Ends later (events_of (drained g.book f n) ++ evs)
                told-of (inr h) = let e : stage.Drain n ≡ stage.Move k.0 (way.Auto h.to h.exec) = h.moves in cc
                told-of (inl h) =
                    let same : n ≡ k.0 = ap (stopped_by n) h.asks in
                    subst (λ (b : Bool). Ends later (events_of (lines_if b) ++ evs)) (sym (ap (is_valid g.book) same ∙ h.away))
                    (next (Missed (op.StopReceiver n)) later m.later evs m.is (missed-on away (ap (is_valid g.book) same ∙ h.away) m.at.world m.before m.cause m.saw k.0 m.later (loss_of m.cause) h.lost m.goes))

  module _ (u : Purpose) (q : List Task) (evs : List Event) where
    abbrev AllDrained : List ServerNo → Type 0
    AllDrained ks = (ds : List Stopped) (L : List LostReplica)
        → ((xs : List Found) → map no_of xs ≡ ks → numbers (filter_map drained_in xs) ≡ numbers (expected g.book ks) → (c : Job) (es : List Event)
        → Plans (undecided u q (ds ++ filter_map drained_in xs) (L ++ filter_map gone_in xs) c) es → Ends es evs)
        → (c : Job) (es : List Event) → Plans (undecided u (map task.Draining ks ++ q) ds L c) es → Ends es (events_of (all_drained g.book f ks) ++ evs)

    pub drains : (ks : List ServerNo) → AllDrained ks
    drains [] ds L further c es goes =
        further [] refl refl c es (subst (λ (ls : List LostReplica). Plans (undecided u q (ds ++ []) ls c) es) (sym (append-nil L))
        (subst (λ (xs : List Stopped). Plans (undecided u q xs L c) es) (sym (append-nil ds)) goes))
    drains (n ∷ ks) ds L further c es goes =
        subst (Ends es) (sym (append_assoc (events_of (drained g.book f n)) (events_of (all_drained g.book f ks)) evs) ∙ sym (ap (λ (l : List Event). l ++ evs)
        (filter_map-append event_of (drained g.book f n) (all_drained g.book f ks))))
        (drain-one u n (map task.Draining ks ++ q) ds L (events_of (all_drained g.book f ks) ++ evs) (there (drains ks)) (away (drains ks)) c es goes)
      where
        there : AllDrained ks → (s : Stopped) → s.no ≡ n → is_valid g.book n ≡ true → (d : Job) (later : List Event)
            → Plans (undecided u (map task.Draining ks ++ q) (ds ++ s ∷ []) L d) later → Ends later (events_of (all_drained g.book f ks) ++ evs)
        there others s is valid =
            others (ds ++ s ∷ []) L
            (λ xs named same d later on. further (There s ∷ xs) (λ i. is i ∷ named i)
            ((λ i. is i ∷ same i) ∙ sym (expected-valid g.book n (expected g.book ks) valid)) d later
            (subst (λ (ys : List Stopped). Plans (undecided u q ys (L ++ filter_map gone_in xs) d) later) (append_assoc ds (s ∷ []) (filter_map drained_in xs)) on))

        away : AllDrained ks → is_valid g.book n ≡ false → (d : Job) (later : List Event) → Plans (undecided u (map task.Draining ks ++ q) ds (L ++ gone n ∷ []) d) later
            → Ends later (events_of (all_drained g.book f ks) ++ evs)
        away others off =
            others ds (L ++ gone n ∷ [])
            (λ xs named same d later on. further (Gone n ∷ xs) (λ i. n ∷ named i) (same ∙ sym (expected-gone g.book n (expected g.book ks) off)) d later
            (subst (λ (ls : List LostReplica). Plans (undecided u q (ds ++ filter_map drained_in xs) ls d) later) (append_assoc L (gone n ∷ []) (filter_map gone_in xs)) on))

  -- ---- whole recoveries

  -- the failed server isn't reached
  pub checks-first : (u : Purpose) (q : List Task) (evs : List Event) → ((c : Job) (es : List Event) → Plans (undecided u q [] [] c) es → Ends es evs) → (c : Job) (es : List Event)
      → Plans (left (at u stage.Check q [] (first_source u) [] (is_master u) (record { promoted = first_source u; followers = []; lost = [] })) c (op.Status f None ∷ [])) es
      → Ends es (Missed (op.Status f None) ∷ evs)
  checks-first u q evs further c es (course.Waits a sees p ps ob xs j does_so waits goes) = let h : Some (cause.Reachable f) ≡ None = does_so.free in cc
  checks-first u q evs further c _ (course.Does a sees p ps ob xs j does_so done held goes) = let h : Some (cause.Reachable f) ≡ None = does_so.free in cc
  checks-first u q evs further c _ (course.Misses {es} a sees p ps x ob stops held goes) =
      let r : Recovery = left (at u stage.Check q [] (first_source u) [] (is_master u) (record { promoted = first_source u; followers = []; lost = [] })) c (op.Status f None ∷ []) in
      next (Missed (op.Status f None)) (Missed p ∷ es) es evs (ap (λ o. Missed o ∷ es) (sym (same-head (op.Status f None) p [] ps stops.ops)))
      (further (record c { waited = 0 }) es (subst (λ s. Plans s es) (stopped-after a r p ps x ob stops) goes))
  checks-first u q evs further c _ (course.Ends a sees told ps due) =
      let h : op.Status f None ≡ op.Finish told = same-head (op.Status f None) (op.Finish told) [] ps due in cc

  -- the replicas of a server are drained, and one of them is chosen
  pub gathers-all : (u : Purpose) → gathers u ≡ true → AreApart ns → (c : Job) (es : List Event)
      → Plans (undecided u (map task.Draining ns ++ task.Choosing ∷ task.Sorting ∷ []) [] [] c) es → Ends es (events_of (gathered g u by f ns))
  gathers-all u is apart c es goes =
      subst (Ends es) (sym (filter_map-append event_of (all_drained g.book f ns) (choice_lines g u by f (expected g.book ns) (chosen_of g f (expected g.book ns)))))
      (drains u (task.Choosing ∷ task.Sorting ∷ []) (events_of (choice_lines g u by f (expected g.book ns) (chosen_of g f (expected g.book ns)))) ns [] []
      (λ xs named same d later on. gathered-on u is xs (subst AreApart (sym named) apart) named d later on) c es goes)
