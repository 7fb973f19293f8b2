-- The drained replicas of an intermediate master are handed over to a successor; and all recoveries and regroups.
use Rattle.std.proofs.Common.{◌≡◌, ◌∙◌, false, List, [], ◌∷◌, ◌++◌, map, Option, Some, None, refl, sym, ap, subst, append_assoc, filter, filter_map}
use Rattle.plan_laws.proofs.Prelude.{All-head, All-tail, AreApart, Done, Event, Follower, GoesAsPlanned, Ground, IsAsPlanned, Job, LostReplica, Means}
use Rattle.plan_laws.proofs.Prelude.{Op, Place, RecoveriesFollowTheirPlans, Recovery, ServerNo, Stopped, Task, Way, all_drained, append-nil}
use Rattle.plan_laws.proofs.Prelude.{cons_option, event_of, events_of, expected, expels, false≢true, filter_map-append, gathered, ground_at, hand}
use Rattle.plan_laws.proofs.Prelude.{hand_by, handed_over, job_with, left, loses, once, option_map, releases, steps_of, steps_to, target, way_below}
use Rattle.plan_laws.proofs.Prelude.{why_of, with_way}
use Rattle.plan_laws.proofs.Prelude.op
use Rattle.plan_laws.proofs.Prelude.purpose
use Rattle.plan_laws.proofs.Prelude.stage
use Rattle.plan_laws.proofs.Prelude.task
use Rattle.plan_laws.proofs.Prelude.way
use Rattle.plan_laws.proofs.Prelude.why
use Rattle.plan_laws.proofs.Lost.{Found, drained_in, gone_in, lost_by, no_of}
use Rattle.plan_laws.proofs.Meeting.{decides}
use Rattle.plan_laws.proofs.Below.{below_events, behind_by, left-detached, left_nos, none-started, not_handed, numbers, told-below}
use Rattle.plan_laws.proofs.Scripts.{go_events, goes}
use Rattle.plan_laws.proofs.Steps.{Ends, does}
use Rattle.plan_laws.proofs.Turns.{Free, Plans, Sees, at, begins-to, busy, checks-first, chosen-at, drains, gathers-all, goes-by, settles, sorts, undecided}

module _ (g : Ground) (by : Means) (f : ServerNo) (ns order : List ServerNo) where
  -- ---- the drained ones are handed over to a successor

  module _ (s : ServerNo) where
    abbrev handing : List Stopped → List Follower → List LostReplica → Job → Recovery
    handing ds F L c = left (at g by f ns order (purpose.Intermediate s) stage.Idle (task.Handing ∷ task.Sorting ∷ []) ds (Some s) [] false (record { promoted = Some s; followers = F; lost = L })) c []

    -- with the task begun
    abbrev begun : List Stopped → List Follower → List LostReplica → Job → Recovery
    begun ds F L c = left (at g by f ns order (purpose.Intermediate s) stage.Idle (task.Sorting ∷ []) ds (Some s) [] false (record { promoted = Some s; followers = F; lost = L })) c []

    abbrev left_behind : Stopped → LostReplica
    left_behind d = record { no = d.no; why = why.behind d.exec; detached = false }

    -- what is handed over doesn't hang on who was drained
    hand-drained : (a : Place) (r : Recovery) (xs ds : List Stopped) → hand (ground_at a) s (record r { drained = xs }) ds ≡ hand (ground_at a) s r ds
    hand-drained a r xs [] = refl
    hand-drained a r xs (d ∷ ds) =
        ap (hand_by (record r { drained = xs }) d ds (way_below (ground_at a) r.core.seen r.failed s d)) (hand-drained a (loses r d.no (why.behind d.exec)) xs ds)
        ∙ either (way_below (ground_at a) r.core.seen r.failed s d)
      where
        either : (o : Option Way) → hand_by (record r { drained = xs }) d ds o (hand (ground_at a) s (loses r d.no (why.behind d.exec)) ds)
            ≡ hand_by r d ds o (hand (ground_at a) s (loses r d.no (why.behind d.exec)) ds)
        either None = refl
        either (Some by) = refl

    module _ (d : Stopped) (ds : List Stopped) (F : List Follower) (L : List LostReplica) (c : Job) where
      -- one without a way is lost, and the others are handed over in the same turn
      left-same : (a : Place) → way_below (ground_at a) c.seen f s d ≡ None → once (ground_at a) (handing (d ∷ ds) F L c) ≡ once (ground_at a) (handing ds F (L ++ left_behind d ∷ []) c)
      left-same a none =
          ap (λ (o : Option Way). hand_by (begun (d ∷ ds) F L c) d ds o (hand (ground_at a) s (begun (d ∷ ds) F (L ++ left_behind d ∷ []) c) ds)) none
          ∙ sym (hand-drained a (begun (d ∷ ds) F (L ++ left_behind d ∷ []) c) ds ds)

      left-keeps : (a : Place) → IsAsPlanned g by f ns a (handing (d ∷ ds) F L c) → IsAsPlanned g by f ns a (handing ds F (L ++ left_behind d ∷ []) c)
      left-keeps a sees = record {
        better = sees.better;
        chosen = λ ts due. let h : task.Handing ∷ task.Sorting ∷ [] ≡ task.Choosing ∷ ts = due.queue in cc;
        handed = λ ts k due is.
            All-tail (λ (x : Stopped). steps_of x.no (way_below (ground_at a) c.seen f k x) ≡ steps_to g f k x.no) d ds (sees.handed ts k (record { rests = refl; queue = due.queue }) is);
      }

      -- its way is the one that is expected
      way-is : (a : Place) → IsAsPlanned g by f ns a (handing (d ∷ ds) F L c) → steps_of d.no (way_below (ground_at a) c.seen f s d) ≡ steps_to g f s d.no
      way-is a sees =
          All-head (λ (x : Stopped). steps_of x.no (way_below (ground_at a) c.seen f s x) ≡ steps_to g f s x.no) d ds
          (sees.handed (task.Sorting ∷ []) s (record { rests = refl; queue = refl }) refl)

      module _ (a : Place) (ops : List Op) where
        abbrev gone_on : Option Way → Recovery
        gone_on o = hand_by (begun (d ∷ ds) F L c) d ds o (hand (ground_at a) s (begun (d ∷ ds) F (L ++ left_behind d ∷ []) c) ds)

        hand-due : (o : Option Way) → steps_of d.no o ≡ Some ops → (gone_on o).core.ops ≡ [] → ⊥
        hand-due None h e = cc
        hand-due (Some (way.Down b)) h e = cc
        hand-due _ h e = cc

        hand-same : (o : Option Way) → steps_of d.no o ≡ Some ops
            → once (ground_at a) (once (ground_at a) (once (ground_at a) (gone_on o))) ≡ once (ground_at a) (once (ground_at a) (once (ground_at a) (once (ground_at a) (gone_on o))))
        hand-same None h = cc
        hand-same (Some (way.Down b)) h = refl
        hand-same _ h = refl

    none-of : (n : ServerNo) (o : Option Way) → steps_of n o ≡ None → o ≡ None
    none-of n None h = refl
    none-of n (Some by) h = cc

    -- those that are lost in this way
    abbrev left_of : List Stopped → List LostReplica
    left_of ds = filter_map (lost_by (not_handed g f s)) ds

    left-first : (d : Stopped) (o : Option (List Op)) → steps_to g f s d.no ≡ o → (ds : List Stopped)
        → left_of (d ∷ ds) ≡ cons_option (option_map (λ why. let k : LostReplica = record { no = d.no; why = why; detached = false } in k) (behind_by g f s d o)) (left_of ds)
    left-first d o is ds =
        ap (λ (x : Option (List Op)). cons_option (option_map (λ why. let k : LostReplica = record { no = d.no; why = why; detached = false } in k) (behind_by g f s d x)) (left_of ds)) is

    abbrev AllHanded : List Event → List Stopped → Type 0
    AllHanded evs ds = (F : List Follower) (L : List LostReplica) → ((E : List Follower) (c : Job) (es : List Event) → Plans g by f ns order (handing [] E (L ++ left_of ds) c) es → Ends es evs)
        → (c : Job) (es : List Event) → Plans g by f ns order (handing ds F L c) es → Ends es (below_events g f s (numbers ds) ++ evs)

    hands-all : (evs : List Event) (ds : List Stopped) → AllHanded evs ds
    hands-all evs [] F L further c es goes = further F c es (subst (λ (ls : List LostReplica). Plans g by f ns order (handing [] F ls c) es) (sym (append-nil L)) goes)
    hands-all evs (d ∷ ds) F L further c es goes = go (hands-all evs ds) (steps_to g f s d.no) refl
      where
        go : AllHanded evs ds → (o : Option (List Op)) → steps_to g f s d.no ≡ o → Ends es (below_events g f s (numbers (d ∷ ds)) ++ evs)
        go others None is =
            let x = decides (IsAsPlanned g by f ns) (IsAsPlanned g by f ns) (GoesAsPlanned g.book) (λ a r h. h) (λ a. handing ds F (L ++ left_behind d ∷ []) c) (handing (d ∷ ds) F L c)
            (left-keeps d ds F L c)
            (λ a sees. ap (λ (r : Recovery). once (ground_at a) (once (ground_at a) (once (ground_at a) r)))
            (left-same d ds F L c a (none-of d.no (way_below (ground_at a) c.seen f s d) (way-is d ds F L c a sees ∙ is)))) es goes in
            subst (λ (l : List Event). Ends es ((l ++ below_events g f s (numbers ds)) ++ evs)) (ap (go_events d.no) (sym is))
            (others F (L ++ left_behind d ∷ [])
            (λ E j later on. further E j later (subst (λ (ls : List LostReplica). Plans g by f ns order (handing [] E ls j) later)
            (append_assoc L (left_behind d ∷ []) (left_of ds) ∙ ap (λ (ls : List LostReplica). L ++ ls) (sym (left-first d None is ds))) on)) c es x.goes)
        go others (Some ops) is =
            let x = decides (IsAsPlanned g by f ns) (IsAsPlanned g by f ns) (GoesAsPlanned g.book) (λ a r h. h) (λ a. once (ground_at a) (handing (d ∷ ds) F L c)) (handing (d ∷ ds) F L c)
            (λ a sees. busy g by f ns order a (handing (d ∷ ds) F L c) (once (ground_at a) (handing (d ∷ ds) F L c))
            (hand-due d ds F L c a ops (way_below (ground_at a) c.seen f s d) (way-is d ds F L c a sees ∙ is)) sees)
            (λ a sees. hand-same d ds F L c a ops (way_below (ground_at a) c.seen f s d) (way-is d ds F L c a sees ∙ is)) es goes in
            on_way x.at (way_below (ground_at x.at) c.seen f s d) (way-is d ds F L c x.at x.sees) x.goes
          where
            more : (E : List Follower) (j : Job) (later : List Event) → Plans g by f ns order (handing ds E L j) later → Ends later (below_events g f s (numbers ds) ++ evs)
            more E =
                others E L (λ K j later on. further K j later (subst (λ (ls : List LostReplica). Plans g by f ns order (handing [] K ls j) later)
                (ap (λ (ls : List LostReplica). L ++ ls) (sym (left-first d (Some ops) is ds))) on))

            free : (y : Way) → Free g by f ns order (IsAsPlanned g by f ns) (purpose.Intermediate s) d.no (task.Handing ∷ task.Sorting ∷ []) ds (Some s) [] false (Some s) F L (below_events g f s (numbers ds) ++ evs) y
            free (way.Auto to exec) = refl
            free _ = tt

            on_way : (a : Place) (o : Option Way) → steps_of d.no o ≡ steps_to g f s d.no → Plans g by f ns order (gone_on d ds F L c a ops o) es → Ends es (below_events g f s (numbers (d ∷ ds)) ++ evs)
            on_way a None h on = let e : None ≡ Some ops = h ∙ is in cc
            on_way a (Some y) h on =
                subst (Ends es) (sym (append_assoc (go_events d.no (steps_to g f s d.no)) (below_events g f s (numbers ds)) evs))
                (subst (λ (o : Option (List Op)). Ends es (go_events d.no o ++ (below_events g f s (numbers ds) ++ evs))) h
                (goes-by g by f ns order (IsAsPlanned g by f ns) (purpose.Intermediate s) d.no (task.Handing ∷ task.Sorting ∷ []) ds (Some s) [] false (Some s) F L (below_events g f s (numbers ds) ++ evs) y
                (more (F ++ record { no = d.no; source = target y } ∷ [])) (free y) (record c { seen = with_way c.seen y; waited = 0 }) es on))

    -- all are handed over
    handed-over : (F : List Follower) (L : List LostReplica) (ks : List ServerNo)
        → filter (λ n. expels (purpose.Intermediate s) (why_of L n)) ns ≡ ks → filter (λ n. releases (purpose.Intermediate s) (why_of L n)) ns ≡ []
        → (c : Job) (es : List Event) → Plans g by f ns order (handing [] F L c) es → Ends es (map (λ n. Done (op.Detach n)) ks ++ [])
    handed-over F L ks out none c es goes =
        let x = decides (IsAsPlanned g by f ns) (Sees g by f ns order) (GoesAsPlanned g.book) (λ a r h. h.better) (λ a. chosen-at g by f ns order (purpose.Intermediate s) (task.Sorting ∷ []) s [] F L c) (handing [] F L c)
        (λ a h. h.better)
        (λ a h. settles g by f ns order (purpose.Intermediate s) refl a s [] F L c (filter (λ n. expels (purpose.Intermediate s) (why_of L n)) ns) (filter (λ n. releases (purpose.Intermediate s) (why_of L n)) ns))
        es goes in
        sorts g by f ns order (purpose.Intermediate s) refl s [] F L ks out none c es x.goes

    -- the successor is read
    reads-successor : (q : List Task) (evs : List Event) → ((c : Job) (es : List Event) → Plans g by f ns order (undecided g by f ns order (purpose.Intermediate s) q [] [] c) es → Ends es evs)
        → (c : Job) (es : List Event) → Plans g by f ns order (undecided g by f ns order (purpose.Intermediate s) (task.Reading s ∷ q) [] [] c) es → Ends es (Done (op.Status s None) ∷ evs)
    reads-successor q evs further c es goes =
        begins-to g by f ns order (undecided g by f ns order (purpose.Intermediate s) (task.Reading s ∷ q) [] [] c) (λ a e. cc) (λ a. refl) (Done (op.Status s None) ∷ evs)
        (λ a later on.
        does g.book (IsAsPlanned g by f ns) (at g by f ns order (purpose.Intermediate s) (stage.Read s) q [] (Some s) [] false (record { promoted = Some s; followers = []; lost = [] }))
        (op.Status s None) [] refl (λ told e. cc) evs further (record c { waited = 0 }) later on) es goes

    -- those that are handed over are the plan's
    hands-told : AreApart ns → (xs : List Found) → map no_of xs ≡ ns → numbers (filter_map drained_in xs) ≡ numbers (expected g.book ns) → (c : Job) (es : List Event)
        → Plans g by f ns order (undecided g by f ns order (purpose.Intermediate s) (task.Handing ∷ task.Sorting ∷ []) (filter_map drained_in xs) (filter_map gone_in xs) c) es
        → Ends es (events_of (handed_over g f s (expected g.book ns)))
    hands-told apart xs named same c es goes =
        subst (Ends es)
        ((λ i. below_events g f s (same i) ++ append-nil (map (λ n. Done (op.Detach n)) (left_nos g f s (same i))) i) ∙ sym (told-below g f s ns))
        (hands-all (map (λ n. Done (op.Detach n)) (left_nos g f s (numbers (filter_map drained_in xs))) ++ []) (filter_map drained_in xs) [] (filter_map gone_in xs)
        (λ E j later on. handed-over E (filter_map gone_in xs ++ left_of (filter_map drained_in xs)) (left_nos g f s (numbers (filter_map drained_in xs)))
        (left-detached g f s s xs (subst AreApart (sym named) apart) ns named) (none-started g f s s xs (subst AreApart (sym named) apart) ns named) j later on) c es goes)

    intermediates : AreApart ns → (c : Job) (es : List Event)
        → Plans g by f ns order (undecided g by f ns order (purpose.Intermediate s) (task.Reading s ∷ (map task.Draining ns ++ task.Handing ∷ task.Sorting ∷ [])) [] [] c) es
        → Ends es (Done (op.Status s None) ∷ events_of (all_drained g.book f ns ++ handed_over g f s (expected g.book ns)))
    intermediates apart c es goes =
        subst (λ (l : List Event). Ends es (Done (op.Status s None) ∷ l)) (sym (filter_map-append event_of (all_drained g.book f ns) (handed_over g f s (expected g.book ns))))
        (reads-successor (map task.Draining ns ++ task.Handing ∷ task.Sorting ∷ []) (events_of (all_drained g.book f ns) ++ events_of (handed_over g f s (expected g.book ns)))
        (drains g by f ns order (purpose.Intermediate s) (task.Handing ∷ task.Sorting ∷ []) (events_of (handed_over g f s (expected g.book ns))) ns [] []
        (λ xs named same j later on. hands-told apart xs named same j later on)) c es goes)

pub recoveries-follow : RecoveriesFollowTheirPlans
recoveries-follow g purpose.Regroup by id wait f ns order es is apart goes = gathers-all g by f ns order purpose.Regroup refl apart (job_with id wait []) es goes
recoveries-follow g purpose.Master by id wait f ns order es is apart goes =
    checks-first g by f ns order purpose.Master (map task.Draining ns ++ task.Choosing ∷ task.Sorting ∷ []) (events_of (gathered g purpose.Master by f ns))
    (gathers-all g by f ns order purpose.Master refl apart) (job_with id wait []) es goes
recoveries-follow g (purpose.Intermediate s) by id wait f ns order es is apart goes =
    checks-first g by f ns order (purpose.Intermediate s) (task.Reading s ∷ (map task.Draining ns ++ task.Handing ∷ task.Sorting ∷ []))
    (Done (op.Status s None) ∷ events_of (all_drained g.book f ns ++ handed_over g f s (expected g.book ns))) (intermediates g by f ns order s apart) (job_with id wait []) es goes
recoveries-follow g (purpose.Takeover d) by id wait f ns order es is apart goes = absurd (false≢true (sym is))
