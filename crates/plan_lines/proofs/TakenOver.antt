-- Takeovers follow their plans.
use Rattle.std.proofs.Common.{◌≡◌, ◌∙◌, ℕ, Bool, true, false, cond, List, [], ◌∷◌, ◌++◌, map, Option, Some, None, refl, sym, ap, subst, ◌==◌}
use Rattle.plan_lines.proofs.Prelude.{Anywhere, Bridge, Coord, Course, Done, EndOf, Event, ExecOf, Follows, Job, Line, LosesNobody, Means, Missed, Op}
use Rattle.plan_lines.proofs.Prelude.{Outcome, Position, Recovery, SourceState, Stage, TakeoversFollowTheirPlans, Task, Why, all_as_told, as_told}
use Rattle.plan_lines.proofs.Prelude.{begun_recovery, bridge_at, bridge_by, flat_map, follows, frees, gather, halted, idle, is_below, job_with}
use Rattle.plan_lines.proofs.Prelude.{judged, lead_under, lines_below, looked, loses, moving, result_lines, same_coord, same_Some, seen_of, spot_seen, takeover_lines}
use Rattle.plan_lines.proofs.Prelude.{trail, with_bridge, with_way, working, yielded}
use Rattle.plan_lines.proofs.Prelude.Beginning.{but}
use Rattle.plan_lines.proofs.Prelude.RecoveryPlansServerNo.{ServerNo}
use Rattle.plan_lines.proofs.Prelude.cross
use Rattle.plan_lines.proofs.Prelude.expect
use Rattle.plan_lines.proofs.Prelude.line
use Rattle.plan_lines.proofs.Prelude.lost
use Rattle.plan_lines.proofs.Prelude.op
use Rattle.plan_lines.proofs.Prelude.purpose
use Rattle.plan_lines.proofs.Prelude.source
use Rattle.plan_lines.proofs.Prelude.stage
use Rattle.plan_lines.proofs.Prelude.task
use Rattle.plan_lines.proofs.Prelude.way
use Rattle.plan_lines.proofs.Peeling.{last-of, left, none-goes, peel, peel-on, walk}

-- a list doesn't end with more than it has
pub longer : {X : Type 0} (xs : List X) (x : X) → xs ++ x ∷ [] ≡ xs → ⊥
longer {X = X} [] x h = cc
longer {X = X} (y ∷ ys) x h = longer ys x (ap tail h)
  where
    tail : List X → List X
    tail [] = []
    tail (z ∷ zs) = zs

-- what was seen of a server is its own
own-bridge : (d : ServerNo) (o : Option Position) (b : Bridge) → bridge_at d o ≡ Some b → d ≡ b.no
own-bridge d None b h = cc
own-bridge d (Some s) b h = go s.own_end s.source h
  where
    go : (own : Option Coord) (from : SourceState) → bridge_by d own from s.exec ≡ Some b → d ≡ b.no
    go None from h = cc
    go (Some c) source.Without h = cc
    go (Some c) (source.Attached m) h = ap (λ (x : Bridge). x.no) (same_Some _ b h)
    go (Some c) (source.Detached m) h = ap (λ (x : Bridge). x.no) (same_Some _ b h)

abbrev Runs : Recovery → List Event → Type 0
Runs r es = Course Anywhere LosesNobody r es

never : (o : Op) (s later : Recovery) → LosesNobody s (Missed o) later → ⊥
never o s later h = h

-- a turn does what is in the next line, and the others do what is in the rest
next : (o : Op) (es later : List Event) (lines : List Line) → es ≡ Done o ∷ later → Follows later lines → Follows es (as_told o ∷ lines)
next o es later lines is rest = (rest.0, is ∙ ap (λ l. Done o ∷ l) rest.1)

module _ (m d : ServerNo) (by : Means) (replicas order : List ServerNo) where
  abbrev at : Stage → List Task → Option Bridge → Outcome → Recovery
  at s q le oc = record {
    purpose = purpose.Takeover d;
    means = by;
    core = job_with 0 0 [];
    stage = s;
    queue = q;
    failed = m;
    replicas = replicas;
    order = order;
    drained = [];
    chosen = Some d;
    lead = le;
    eligible = [];
    swaps = false;
    outcome = oc;
  }

  -- ---- d loses its source, which goes below it, and takes writes

  module _ (b : Bridge) (oc : Outcome) where
    -- the master is below it
    abbrev changed : Outcome
    changed = (follows (at (stage.Switch m b.no) [] (Some b) oc) m b.no).outcome

    abbrev closing-at : Recovery
    closing-at = at (stage.Close (result_lines (at (stage.Open b.no) [] (Some b) changed))) [] (Some b) changed

    abbrev ended : Op
    ended = op.Finish (result_lines (at (stage.Open b.no) [] (Some b) changed))

    reads-last : (c : Job) (es : List Event) → Runs (left closing-at c (op.Status b.no None ∷ ended ∷ [])) es → Follows es (as_told (op.Status b.no None) ∷ [])
    reads-last c es goes =
        let one = peel-on Anywhere LosesNobody closing-at c (op.Status b.no None) (ended ∷ []) (λ told e. cc) (never (op.Status b.no None)) es goes in
        next (op.Status b.no None) es one.later [] one.is
        (result_lines (at (stage.Open b.no) [] (Some b) changed), last-of Anywhere LosesNobody closing-at one.job (result_lines (at (stage.Open b.no) [] (Some b) changed)) [] (never ended) one.later one.goes)

    reads-both : (c : Job) (es : List Event) → Runs (left closing-at c (op.Status m None ∷ op.Status b.no None ∷ ended ∷ [])) es
        → Follows es (as_told (op.Status m None) ∷ as_told (op.Status b.no None) ∷ [])
    reads-both c es goes =
        let one = peel-on Anywhere LosesNobody closing-at c (op.Status m None) (op.Status b.no None ∷ ended ∷ []) (λ told e. cc) (never (op.Status m None)) es goes in
        next (op.Status m None) es one.later (as_told (op.Status b.no None) ∷ []) one.is (reads-last one.job one.later one.goes)

    opens : (c : Job) (es : List Event) → Runs (left (at (stage.Open b.no) [] (Some b) changed) c (op.ReadOnly b.no false ∷ [])) es
        → Follows es (as_told (op.ReadOnly b.no false) ∷ as_told (op.Status m None) ∷ as_told (op.Status b.no None) ∷ [])
    opens c es goes =
        let one = peel-on Anywhere LosesNobody (at (stage.Open b.no) [] (Some b) changed) c (op.ReadOnly b.no false) [] (λ told e. cc) (never (op.ReadOnly b.no false)) es goes in
        next (op.ReadOnly b.no false) es one.later (as_told (op.Status m None) ∷ as_told (op.Status b.no None) ∷ []) one.is
        (reads-both (record one.job { waited = 0 }) one.later one.goes)

    switches : (c : Job) (es : List Event) → Runs (left (at (stage.Switch m b.no) [] (Some b) oc) c (op.Cross cross.About m b.no ∷ [])) es
        → Follows es (as_told (op.Cross cross.About m b.no) ∷ as_told (op.ReadOnly b.no false) ∷ as_told (op.Status m None) ∷ as_told (op.Status b.no None) ∷ [])
    switches c es goes =
        let one = peel-on Anywhere LosesNobody (at (stage.Switch m b.no) [] (Some b) oc) c (op.Cross cross.About m b.no) [] (λ told e. cc) (never (op.Cross cross.About m b.no)) es goes in
        next (op.Cross cross.About m b.no) es one.later (as_told (op.ReadOnly b.no false) ∷ as_told (op.Status m None) ∷ as_told (op.Status b.no None) ∷ []) one.is
        (opens (record one.job { waited = 0 }) one.later one.goes)

    yields : (c : Job) (es : List Event) → Runs (left (at stage.Idle (task.Yielding ∷ []) (Some b) oc) c []) es → Follows es (yielded m b.no)
    yields c es goes =
        let one = peel Anywhere LosesNobody (left (at stage.Idle (task.Yielding ∷ []) (Some b) oc) c []) (λ a. at (stage.Yield m b.no) [] (Some b) oc)
        (λ a. record c { seen = with_bridge c.seen b; waited = 0 }) (λ a. op.Reset b.no) (λ a. op.Cross cross.About m b.no ∷ []) (λ a. refl) (λ a told e. cc) (λ a. never (op.Reset b.no)) es goes in
        next (op.Reset b.no) es one.later
        (as_told (op.Cross cross.About m b.no) ∷ as_told (op.ReadOnly b.no false) ∷ as_told (op.Status m None) ∷ as_told (op.Status b.no None) ∷ []) one.is
        (switches one.job one.later one.goes)

  -- ---- another replica comes to the position at which it stopped

  -- another replica goes on to these lines once it is below the one that stopped
  module _ (b : Bridge) (n : ServerNo) (q : List Task) (lines : List Line) where
    abbrev Further : Type 0
    Further = (oc : Outcome) (c : Job) (es : List Event) → Runs (left (at stage.Idle q (Some b) oc) c []) es → Follows es lines

    starts : Further → (oc : Outcome) (c : Job) (es : List Event) → Runs (left (at (stage.Join n b.no) q (Some b) oc) c (op.Start n ∷ [])) es
        → Follows es (as_told (op.Start n) ∷ lines)
    starts further oc c es goes =
        let one = peel-on Anywhere LosesNobody (at (stage.Join n b.no) q (Some b) oc) c (op.Start n) [] (λ told e. cc) (never (op.Start n)) es goes in
        next (op.Start n) es one.later lines one.is (further (follows (at (stage.Join n b.no) q (Some b) oc) n b.no).outcome one.job one.later one.goes)

    joins : Further → (oc : Outcome) (c : Job) (es : List Event) → Runs (left (at (stage.Move n (way.Down b)) q (Some b) oc) c (op.Cross cross.Down n b.no ∷ op.Start n ∷ [])) es
        → Follows es (as_told (op.Cross cross.Down n b.no) ∷ as_told (op.Start n) ∷ lines)
    joins further oc c es goes =
        let one = peel-on Anywhere LosesNobody (at (stage.Move n (way.Down b)) q (Some b) oc) c (op.Cross cross.Down n b.no) (op.Start n ∷ []) (λ told e. cc)
        (never (op.Cross cross.Down n b.no)) es goes in
        next (op.Cross cross.Down n b.no) es one.later (as_told (op.Start n) ∷ lines) one.is (starts further oc one.job one.later one.goes)

    abbrev joined : List Line
    joined = as_told (op.Cross cross.Down n b.no) ∷ as_told (op.Start n) ∷ lines

    -- one that was seen elsewhere, or not at all, would be lost
    halts : Further → (oc : Outcome) (c : Job) (es : List Event) (o : Option Position)
        → (halted (left (at (stage.Halted n b) q (Some b) oc) c []) n b o).outcome.lost ≡ oc.lost
        → Runs (halted (left (at (stage.Halted n b) q (Some b) oc) c []) n b o) es → Follows es joined
    halts further oc c es None held goes = absurd (longer oc.lost (record { no = n; why = lost.unreachable; detached = false }) held)
    halts further oc c es (Some s) held goes = go (same_coord s.exec b.exec) held goes
      where
        h : Recovery
        h = left (at (stage.Halted n b) q (Some b) oc) c []

        go : (a : Bool) → (cond a (moving h n (way.Down b)) (frees h n (lost.behind s.exec))).outcome.lost ≡ oc.lost
            → Runs (cond a (moving h n (way.Down b)) (frees h n (lost.behind s.exec))) es → Follows es joined
        go true held goes = joins further oc (record c { seen = with_way c.seen (way.Down b); waited = 0 }) es goes
        go false held goes = absurd (longer oc.lost (record { no = n; why = lost.behind s.exec; detached = false }) held)

    stops : Further → (oc : Outcome) (c : Job) (es : List Event) → Runs (left (at (stage.Trail n b) q (Some b) oc) c (op.Status n None ∷ [])) es
        → Follows es (line.Does (op.Status n None) (expect.Below m) ∷ joined)
    stops further oc c es goes =
        let one = peel-on Anywhere LosesNobody (at (stage.Trail n b) q (Some b) oc) c (op.Status n None) [] (λ told e. cc) (never (op.Status n None)) es goes in
        next (op.Status n None) es one.later joined one.is (halts further oc one.job one.later (seen_of one.job.seen n.0) one.held one.goes)

    trailed : Further → (oc : Outcome) (c : Job) (es : List Event) → Runs (left (at (stage.Trail n b) q (Some b) oc) c (trail n b.no)) es
        → Follows es (judged m (trail n b.no) ++ joined)
    trailed further oc c es goes =
        let to = walk Anywhere LosesNobody (at (stage.Trail n b) q (Some b) oc) (op.Until n (ExecOf b.no) ∷ op.Await n (ExecOf b.no) ∷ op.Stop n ∷ []) (op.Status n None) [] refl
        (never (op.Until n (ExecOf b.no)), (never (op.Await n (ExecOf b.no)), (never (op.Stop n), tt))) c es goes in
        let last = stops further oc to.job to.later to.goes in
        (last.0, to.is ∙ ap (λ l. Done (op.Until n (ExecOf b.no)) ∷ Done (op.Await n (ExecOf b.no)) ∷ Done (op.Stop n) ∷ l) last.1)

    looks : Further → (oc : Outcome) (c : Job) (es : List Event) (o : Option Position)
        → (looked (left (at (stage.Looked n b) q (Some b) oc) c []) n b o).outcome.lost ≡ oc.lost
        → Runs (looked (left (at (stage.Looked n b) q (Some b) oc) c []) n b o) es → Follows es (judged m (trail n b.no) ++ joined)
    looks further oc c es None held goes = absurd (longer oc.lost (record { no = n; why = lost.unreachable; detached = false }) held)
    looks further oc c es (Some s) held goes = go (is_below s m) held goes
      where
        h : Recovery
        h = left (at (stage.Looked n b) q (Some b) oc) c []

        trails-on : Recovery
        trails-on = working (record h { core = record h.core { seen = with_bridge h.core.seen b } }) (stage.Trail n b) (trail n b.no)

        stray : Why
        stray = lost.moved (spot_seen s.source s.exec)

        go : (a : Bool) → (cond a trails-on (idle (loses h n stray))).outcome.lost ≡ oc.lost → Runs (cond a trails-on (idle (loses h n stray))) es
            → Follows es (judged m (trail n b.no) ++ joined)
        go true held goes = trailed further oc (record c { seen = with_bridge c.seen b; waited = 0 }) es goes
        go false held goes = absurd (longer oc.lost (record { no = n; why = stray; detached = false }) held)

    trails-one : Further → (oc : Outcome) (c : Job) (es : List Event) → Runs (left (at stage.Idle (task.Trailing n ∷ q) (Some b) oc) c []) es
        → Follows es (lines_below m b.no n ++ lines)
    trails-one further oc c es goes =
        let one = peel Anywhere LosesNobody (left (at stage.Idle (task.Trailing n ∷ q) (Some b) oc) c []) (λ a. at (stage.Look n b) q (Some b) oc) (λ a. record c { waited = 0 })
        (λ a. op.Status n None) (λ a. []) (λ a. refl) (λ a told e. cc) (λ a. never (op.Status n None)) es goes in
        next (op.Status n None) es one.later (judged m (trail n b.no) ++ joined) one.is
        (looks further oc one.job one.later (seen_of one.job.seen n.0) one.held one.goes)

  -- the others come to the position at which it stopped, one after another
  trails : (ns : List ServerNo) (b : Bridge) (oc : Outcome) (c : Job) (es : List Event) → Runs (left (at stage.Idle (map task.Trailing ns ++ task.Yielding ∷ []) (Some b) oc) c []) es
      → Follows es (flat_map (λ n. lines_below m b.no n) ns ++ yielded m b.no)
  trails [] b oc c es goes = yields b oc c es goes
  trails (n ∷ ns) b oc c es goes =
      trails-one b n (map task.Trailing ns ++ task.Yielding ∷ []) (flat_map (λ k. lines_below m b.no k) ns ++ yielded m b.no) (trails ns b) oc c es goes

  -- it isn't known at which position it stopped: nothing is done
  nowhere : (ns : List ServerNo) (oc : Outcome) (c : Job) (es : List Event) → Runs (left (at stage.Idle (map task.Trailing ns ++ task.Yielding ∷ []) None oc) c []) es → ⊥
  nowhere [] oc c es goes = none-goes Anywhere LosesNobody (left (at stage.Idle (task.Yielding ∷ []) None oc) c []) (λ a. refl) es goes
  nowhere (n ∷ ns) oc c es goes = none-goes Anywhere LosesNobody (left (at stage.Idle (task.Trailing n ∷ (map task.Trailing ns ++ task.Yielding ∷ [])) None oc) c []) (λ a. refl) es goes

  -- the position at which it stopped
  gathers : (ns : List ServerNo) (oc : Outcome) (c : Job) (es : List Event) (o : Option Bridge) → bridge_at d (seen_of c.seen d.0) ≡ o
      → Runs (left (at stage.Idle (map task.Trailing ns ++ task.Yielding ∷ []) (lead_under m o) oc) c []) es
      → Follows es (flat_map (λ n. lines_below m d n) ns ++ yielded m d)
  gathers ns oc c es None e goes = absurd (nowhere ns oc c es goes)
  gathers ns oc c es (Some b) e goes = go (b.source.0 == m.0) goes
    where
      go : (a : Bool) → Runs (left (at stage.Idle (map task.Trailing ns ++ task.Yielding ∷ []) (cond a (Some b) None) oc) c []) es
          → Follows es (flat_map (λ n. lines_below m d n) ns ++ yielded m d)
      go false goes = absurd (nowhere ns oc c es goes)
      go true goes =
          subst (λ k. Follows es (flat_map (λ n. lines_below m k n) ns ++ yielded m k)) (sym (own-bridge d (seen_of c.seen d.0) b e)) (trails ns b oc c es goes)

  -- ---- from the start

  abbrev all_but : List Task
  all_but = map task.Trailing (but replicas d) ++ task.Yielding ∷ []

  abbrev none-yet : Outcome
  none-yet = record { promoted = Some d; followers = []; lost = [] }

  abbrev rest : List Line
  rest = flat_map (λ n. lines_below m d n) (but replicas d) ++ yielded m d

  last-read : (c : Job) (es : List Event) → Runs (left (at (stage.Gather m d) all_but None none-yet) c (op.Status d (Some m) ∷ [])) es
      → Follows es (as_told (op.Status d (Some m)) ∷ rest)
  last-read c es goes =
      let one = peel-on Anywhere LosesNobody (at (stage.Gather m d) all_but None none-yet) c (op.Status d (Some m)) [] (λ told e. cc) (never (op.Status d (Some m))) es goes in
      next (op.Status d (Some m)) es one.later rest one.is (gathers (but replicas d) none-yet one.job one.later (bridge_at d (seen_of one.job.seen d.0)) refl one.goes)

  comes : (c : Job) (es : List Event) → Runs (left (at (stage.Gather m d) all_but None none-yet) c (gather m d)) es → Follows es (all_as_told (gather m d) ++ rest)
  comes c es goes =
      let to = walk Anywhere LosesNobody (at (stage.Gather m d) all_but None none-yet)
      (op.Status m None ∷ op.Status d (Some m) ∷ op.Until d (EndOf m) ∷ op.Await d (EndOf m) ∷ op.Stop d ∷ []) (op.Status d (Some m)) [] refl
      (never (op.Status m None), (never (op.Status d (Some m)), (never (op.Until d (EndOf m)), (never (op.Await d (EndOf m)), (never (op.Stop d), tt))))) c es goes in
      let last = last-read to.job to.later to.goes in (
        last.0,
        to.is ∙ ap (λ l. Done (op.Status m None) ∷ Done (op.Status d (Some m)) ∷ Done (op.Until d (EndOf m)) ∷ Done (op.Await d (EndOf m)) ∷ Done (op.Stop d) ∷ l) last.1,
      )

  shuts : (c : Job) (es : List Event) → Runs (left (at (stage.Shut m d) all_but None none-yet) c (op.ReadOnly m true ∷ gather m d)) es
      → Follows es (as_told (op.ReadOnly m true) ∷ (all_as_told (gather m d) ++ rest))
  shuts c es goes =
      let one = peel-on Anywhere LosesNobody (at (stage.Shut m d) all_but None none-yet) c (op.ReadOnly m true) (gather m d) (λ told e. cc) (never (op.ReadOnly m true)) es goes in
      next (op.ReadOnly m true) es one.later (all_as_told (gather m d) ++ rest) one.is (comes one.job one.later one.goes)

  taken-over : (id wait : ℕ) (es : List Event) → Runs (begun_recovery (purpose.Takeover d) by id wait m replicas order) es → Follows es (takeover_lines m d (but replicas d))
  taken-over id wait es goes =
      let one = peel-on Anywhere LosesNobody (at (stage.Meet m d) all_but None none-yet) (job_with id wait []) (op.Status m None) [] (λ told e. cc) (never (op.Status m None)) es goes in
      next (op.Status m None) es one.later (as_told (op.ReadOnly m true) ∷ (all_as_told (gather m d) ++ rest)) one.is (shuts (record one.job { waited = 0 }) one.later one.goes)

pub takeovers-follow : TakeoversFollowTheirPlans
takeovers-follow m d by id wait replicas order es goes = taken-over m d by replicas order id wait es goes
