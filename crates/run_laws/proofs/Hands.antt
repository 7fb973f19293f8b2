-- What plans have in their hands is started again.
use Rattle.std.proofs.Common.{All, Bool, List, None, Option, Some, [], ap, false, map, not, refl, subst, sym, true, ℕ, ◌+◌, ◌==◌, ◌∙◌, ◌∷◌, ◌≡◌, ◌⊎◌, inl, inr, ◌||◌, if◌then◌else◌}
use Rattle.run_laws.proofs.Prelude.{Act, All-append, All-filter, All-find, All-map, All-nil, All-push, All-weaker, Ask, BookState, Command}
use Rattle.run_laws.proofs.Prelude.{CommandTurn, CoordsCommand, Deed, HoldsNone, IsTaken, Job, JobStep, Line, Means, Misses, Moment, Op, Planner}
use Rattle.run_laws.proofs.Prelude.{PlansReturn, Returns, Row, ServerNo, StartsAll, State, Status, StopsOne, Turn, Turned, Unended, World, about_kind}
use Rattle.run_laws.proofs.Prelude.{about_one, act_in, after_act, after_asking, after_deed, after_done, by_ops, command_outcome, deed-hands, deed_of}
use Rattle.run_laws.proofs.Prelude.{engine, eq-eqb, false≢true, flown, hands_after, hands_by, has, has-with, has-without, is_going, job_at, job_by}
use Rattle.run_laws.proofs.Prelude.{job_in, job_with, jobs_turned, known_of, left_stopped, means_of, next_count, number_of, option_map, plan_by}
use Rattle.run_laws.proofs.Prelude.{recoveries_scanned, recovery_job, regroup_about, run_turns, same-head, same-tail, same_Some, start, step}
use Rattle.run_laws.proofs.Prelude.{turn-idle, turn-taken, turn_of, turned, updated, with_job, without_job}
use Rattle.run_laws.proofs.Prelude.Turns
use Rattle.run_laws.proofs.Prelude.act
use Rattle.run_laws.proofs.Prelude.asking
use Rattle.run_laws.proofs.Prelude.coords_kind
use Rattle.run_laws.proofs.Prelude.coords_plans
use Rattle.run_laws.proofs.Prelude.deed
use Rattle.run_laws.proofs.Prelude.events
use Rattle.run_laws.proofs.Prelude.jobstep
use Rattle.run_laws.proofs.Prelude.line
use Rattle.run_laws.proofs.Prelude.op
use Rattle.run_laws.proofs.Prelude.planner
use Rattle.run_laws.proofs.Prelude.turn
use Rattle.run_laws.proofs.Prelude.unended
use Rattle.run_laws.proofs.Making.{command-holds}
use Rattle.run_laws.proofs.Stopping.{coords-start, gtids-start, matches-start, paths-start}

-- ---- hands

asked-hands : (n : ℕ) (hands : List ServerNo) (k : ServerNo) (a : Ask) → has n (hands_after hands k a) ≡ (if k.0 == n then after_asking (has n hands) a else has n hands)
asked-hands n hands k (asking.Stop which) = has-with n hands k
asked-hands n hands k asking.Start = has-without n hands k
asked-hands n hands k (asking.StartUntil to) = same (k.0 == n)
  where
    same : (b : Bool) → has n hands ≡ (if b then has n hands else has n hands)
    same true = refl
    same false = refl
asked-hands n hands k asking.Detach = same (k.0 == n)
  where
    same : (b : Bool) → has n hands ≡ (if b then has n hands else has n hands)
    same true = refl
    same false = refl
asked-hands n hands k asking.Reattach = same (k.0 == n)
  where
    same : (b : Bool) → has n hands ≡ (if b then has n hands else has n hands)
    same true = refl
    same false = refl
asked-hands n hands k asking.Reset = same (k.0 == n)
  where
    same : (b : Bool) → has n hands ≡ (if b then has n hands else has n hands)
    same true = refl
    same false = refl
asked-hands n hands k (asking.SetReadOnly on) = same (k.0 == n)
  where
    same : (b : Bool) → has n hands ≡ (if b then has n hands else has n hands)
    same true = refl
    same false = refl

-- an operation that is done leaves a server in them exactly if it leaves it stopped
deed-left : (n : ℕ) (d : Deed) (hands : List ServerNo) → has n (hands_by d hands) ≡ after_deed n (has n hands) d
deed-left n (deed.Request k a) hands = asked-hands n hands k a
deed-left n _ hands = refl

-- a wait changes none
wait-left : (j : Job) (d : Deed) (s : Status) (hands : List ServerNo) → Misses j d s → hands_by d hands ≡ hands
wait-left j (deed.Await n to) s hands h = refl
wait-left j (deed.AwaitSet n m) s hands h = refl
wait-left j (deed.Settle n) s hands h = refl
wait-left j d s hands h = absurd h

-- ---- a turn of a plan

module _ (w : World) (read : ℕ) (now : Moment) (j : Job) where
  abbrev t : Turned
  t = turned w read now j

  module _ (goes : t.step ≡ jobstep.Going) (o : Op) (rest : List Op) (is : j.ops ≡ o ∷ rest) where
    hands-then : t.job.hands ≡ hands_by (deed_of o) j.hands
    hands-then =
        ap (λ (ops : List Op). (Turns.settled j (by_ops w read now j ops)).job.hands) is
        ∙ deed-hands w read now j rest (deed_of o) (sym (ap (λ (ops : List Op). (Turns.settled j (by_ops w read now j ops)).step) is) ∙ goes)

    -- the operation is done, or the job waits
    abbrev LeftSo : Type 0
    LeftSo = (t.job.ops ≡ rest) ⊎ ((t.job.ops ≡ j.ops) × (t.job.hands ≡ j.hands))

    left-so : LeftSo
    left-so = go (turn-taken w read now j o rest is)
      where
        go : IsTaken w j rest (deed_of o) t → LeftSo
        go (events.Done h) = inl h.left
        go (events.Waited h) = inr (h.left, hands-then ∙ wait-left j (deed_of o) h.short.seen j.hands h.short.misses)
        go (events.Ended h) = let done : jobstep.Going ≡ jobstep.Done h.lines = sym goes ∙ h.done in cc
        go (events.Stopped h) = let failed : jobstep.Going ≡ jobstep.Failed h.cause [] = sym goes ∙ h.failed in cc

    starts-then : StartsAll j → StartsAll t.job
    starts-then all n = go left-so
      where
        go : LeftSo → left_stopped n (has n t.job.hands) t.job.ops ≡ false
        go (inl left) =
            ap (λ (ops : List Op). left_stopped n (has n t.job.hands) ops) left
            ∙ (ap (λ (hands : List ServerNo). left_stopped n (has n hands) rest) hands-then
            ∙ (ap (λ (b : Bool). left_stopped n b rest) (deed-left n (deed_of o) j.hands) ∙ (sym (ap (λ (ops : List Op). left_stopped n (has n j.hands) ops) is) ∙ all n)))
        go (inr (ops, hands)) =
            ap (λ (os : List Op). left_stopped n (has n t.job.hands) os) ops ∙ (ap (λ (hs : List ServerNo). left_stopped n (has n hs) j.ops) hands ∙ all n)

    -- a stop of one replica goes on as one
    stops-then : (i : ServerNo) → StopsOne i j → StopsOne i t.job
    stops-then i s = go left-so s
      where
        -- what is left, and what the operation makes of the hands
        done : (x : Op) (xs : List Op) (before after : List ServerNo) → j.ops ≡ x ∷ xs → j.hands ≡ before → hands_by (deed_of x) before ≡ after → t.job.ops ≡ rest → (t.job.ops ≡ xs) × (t.job.hands ≡ after)
        done x xs before after at had makes left = (
          left ∙ same-tail o x rest xs (sym is ∙ at),
          hands-then ∙ (ap (λ (y : Op). hands_by (deed_of y) j.hands) (same-head o x rest xs (sym is ∙ at)) ∙ (ap (hands_by (deed_of x)) had ∙ makes)),
        )

        go : LeftSo → StopsOne i j → StopsOne i t.job
        go (inl left) (inl h) = inr (inl (done (op.Stop i) (op.Status i None ∷ op.Finish (line.Server i ∷ []) ∷ []) [] (i ∷ []) h.0 h.1 refl left))
        go (inl left) (inr (inl h)) = inr (inr (done (op.Status i None) (op.Finish (line.Server i ∷ []) ∷ []) (i ∷ []) (i ∷ []) h.0 h.1 refl left))
        go (inl left) (inr (inr h)) =
            let bad : jobstep.Done (line.Server i ∷ []) ≡ jobstep.Going = sym (ap (λ (ops : List Op). (Turns.settled j (by_ops w read now j ops)).step) h.0) ∙ goes in cc
        go (inr (ops, hands)) (inl h) = inl (ops ∙ h.0, hands ∙ h.1)
        go (inr (ops, hands)) (inr (inl h)) = inr (inl (ops ∙ h.0, hands ∙ h.1))
        go (inr (ops, hands)) (inr (inr h)) = inr (inr (ops ∙ h.0, hands ∙ h.1))

  plan-returns : is_going t.step ≡ true → Returns (unended.Plan j) → Returns (unended.Plan t.job)
  plan-returns going h = go j.ops refl h
    where
      goes : (k : JobStep) → is_going k ≡ true → k ≡ jobstep.Going
      goes jobstep.Going e = refl
      goes (jobstep.Done lines) e = absurd (false≢true e)
      goes (jobstep.Failed c lines) e = absurd (false≢true e)

      go : (ops : List Op) → j.ops ≡ ops → Returns (unended.Plan j) → Returns (unended.Plan t.job)
      go [] is r = absurd (false≢true (sym (ap is_going (turn-idle w read now j is)) ∙ going))
      go (o ∷ rest) is (inl all) = inl (starts-then (goes t.step going) o rest is all)
      go (o ∷ rest) is (inr (i, s)) = inr (i, stops-then (goes t.step going) o rest is i s)

next-returns : (w : World) (b : BookState) (read : ℕ) (now : Moment) (u : Unended) → is_going (flown w b read now u).step ≡ true → Returns u → Returns (flown w b read now u).next
next-returns w b read now (unended.Plan j) goes h = plan-returns w read now j goes h
next-returns w b read now (unended.Recovery r docket) goes h = tt

-- ---- as they begin

regroup-returns : (b : BookState) (by : Means) (id wait : ℕ) (o : Option ServerNo) → Returns (regroup_about b by id wait o)
regroup-returns b by id wait None = inl (λ n. refl)
regroup-returns b by id wait (Some i) = tt

coords-return : (w : World) (b : BookState) (kind : CoordsCommand) (c : Command) (id wait : ℕ)
    → Returns (unended.Plan (job_with id wait (about_kind [] (coords_plans.ops_of w b) (Some kind) c)))
coords-return w b kind c id wait = go kind refl
  where
    stops : (o : Option ServerNo) → Returns (unended.Plan (job_with id wait (about_one [] (coords_plans.ops_of w b coords_kind.StopReplica) o c.d)))
    stops None = inl (λ n. refl)
    stops (Some i) = inr (i, inl (refl, refl))

    go : (k : CoordsCommand) → kind ≡ k → Returns (unended.Plan (job_with id wait (about_kind [] (coords_plans.ops_of w b) (Some kind) c)))
    go coords_kind.StopReplica e =
        subst (λ (k : CoordsCommand). Returns (unended.Plan (job_with id wait (about_kind [] (coords_plans.ops_of w b) (Some k) c)))) (sym e) (stops c.i)
    go k e = inl (λ n. coords-start w b (Some kind) c (λ h. let bad = sym e ∙ same_Some kind coords_kind.StopReplica h in cc) n)

plan-returns-by : (w : World) (b : BookState) (c : Command) (p : Planner) (id wait every : ℕ) → Returns (unended.Plan (job_with id wait (plan_by w b every c p)))
plan-returns-by w b c (planner.Coordinates kind) id wait every = coords-return w b kind c id wait
plan-returns-by w b c (planner.Gtids kind) id wait every = inl (λ n. gtids-start b (Some kind) c n)
plan-returns-by w b c (planner.Paths kind) id wait every = inl (λ n. paths-start w b (Some kind) c n)
plan-returns-by w b c (planner.Matches kind) id wait every = inl (λ n. matches-start b every (Some kind) c n)

job-returns : (w : World) (b : BookState) (c : Command) (p : Planner) (id wait every : ℕ) → Returns (job_by w b c p id wait every)
job-returns w b c p id wait every = go (means_of every p)
  where
    go : (by : Option Means) → Returns (job_in w b c p id wait every by)
    go None = plan-returns-by w b c p id wait every
    go (Some by) = regroup-returns b by id wait c.i

-- ---- once only the lines are left

holds-none : (u : Unended) → Returns u → HoldsNone u
holds-none (unended.Recovery r docket) h = tt
holds-none (unended.Plan j) h = λ lines is. go lines is h
  where
    none-held : (hands : List ServerNo) → ((n : ℕ) → has n hands ≡ false) → hands ≡ []
    none-held [] none = refl
    none-held (k ∷ ks) none = absurd (false≢true (sym (none k.0) ∙ ap (λ (b : Bool). b || has k.0 ks) (eq-eqb k.0 k.0 refl)))

    lines_in : List Op → List Line
    lines_in (op.Finish ls ∷ xs) = ls
    lines_in xs = []

    go : (lines : List Line) → j.ops ≡ op.Finish lines ∷ [] → Returns (unended.Plan j) → (j.hands ≡ []) ⊎ ((i : ServerNo) × (lines ≡ line.Server i ∷ []) × (j.hands ≡ i ∷ []))
    go lines is (inl all) = inl (none-held j.hands (λ n. sym (ap (λ (ops : List Op). left_stopped n (has n j.hands) ops) is) ∙ all n))
    go lines is (inr (i, inl s)) = let bad : op.Stop i ∷ op.Status i None ∷ op.Finish (line.Server i ∷ []) ∷ [] ≡ op.Finish lines ∷ [] = sym s.0 ∙ is in cc
    go lines is (inr (i, inr (inl s))) = let bad : op.Status i None ∷ op.Finish (line.Server i ∷ []) ∷ [] ≡ op.Finish lines ∷ [] = sym s.0 ∙ is in cc
    go lines is (inr (i, inr (inr s))) = inr (i, ap lines_in (sym is ∙ s.0), s.1)

-- ---- each turn

module _ (s : State) (all : All Returns s.jobs) where
  command-returns : (c : CommandTurn) → All Returns (updated (known_of s) (command_outcome s c).book).jobs
  command-returns c = command-holds s c (λ reads u. All Returns (updated (known_of s) u).jobs) (record {
    stays = all;
    discovery = λ i. all;
    removal = λ i. all;
    decides = λ d. all;
    begins = λ p.
        All-push Returns s.jobs (job_by s.world s.book c.command p (s.last_job + 1) s.configuration.wait s.configuration.every) all
        (job-returns s.world s.book c.command p (s.last_job + 1) s.configuration.wait s.configuration.every);
    recovers = λ i. All-push Returns s.jobs _ all tt;
    takes = λ i d. All-push Returns s.jobs _ all tt;
  })

  turned-returns : (id : ℕ) (o : Option Unended) → job_at s.jobs id ≡ o → All Returns (jobs_turned s.jobs id (option_map (turn_of s) o))
  turned-returns id None at = all
  turned-returns id (Some u) at = go (is_going (turn_of s u).step) refl
    where
      had : Returns u
      had = All-find Returns (λ (k : Unended). number_of k == id) s.jobs u all at

      go : (goes : Bool) → is_going (turn_of s u).step ≡ goes → All Returns (if goes then with_job s.jobs id (turn_of s u).next else without_job s.jobs id)
      go false is = All-filter (λ (k : Unended). not (number_of k == id)) Returns s.jobs all
      go true is =
          All-map Returns (λ (k : Unended). if number_of k == id then (turn_of s u).next else k) s.jobs
          (All-weaker Returns (λ (k : Unended). Returns (if number_of k == id then (turn_of s u).next else k)) (λ k was. one (number_of k == id) k was) s.jobs all)
        where
          one : (here : Bool) (k : Unended) → Returns k → Returns (if here then (turn_of s u).next else k)
          one true k was = next-returns s.world s.book (next_count s.reads) (record { 0 = s.moment }) u is had
          one false k was = was

  act-returns : (rows : List Row) (a : Act) → All Returns (after_act rows s a).jobs
  act-returns rows (act.PollRead p n) = all
  act-returns rows (act.PollStore p) = all
  act-returns rows (act.Command c) = command-returns c
  act-returns rows (act.Job id) = turned-returns id (job_at s.jobs id) refl
  act-returns rows act.Scan =
      All-append Returns s.jobs (map recovery_job (recoveries_scanned s)) all (All-map Returns recovery_job (recoveries_scanned s) (λ i d lt. tt))
  act-returns rows act.Restart = All-nil Returns

  done-returns : (rows : List Row) (o : Option Act) → All Returns (after_done rows s o).jobs
  done-returns rows None = all
  done-returns rows (Some a) = act-returns rows a

  turn-returns : (rows : List Row) (t : Turn) → All Returns (step rows s t).jobs
  turn-returns rows (turn.Act a) = act-returns rows a
  turn-returns rows (turn.As node a) = done-returns rows (act_in s (turn.As node a))
  turn-returns rows (turn.Claim node) = done-returns rows (act_in s (turn.Claim node))
  turn-returns rows _ = all

run-returns : (s : State) (xs : List (List Row × Turn)) → All Returns s.jobs → All Returns (run_turns engine s xs).jobs
run-returns s [] all = all
run-returns s (x ∷ xs) all = run-returns (step x.0 s x.1) xs (turn-returns s all x.0 x.1)

pub plans-return : PlansReturn
plans-return s xs now comes =
    All-weaker Returns (λ (u : Unended). Returns u × HoldsNone u) (λ u h. (h, holds-none u h)) now.jobs
    (subst (λ (k : State). All Returns k.jobs) (sym comes.state) (run-returns (start s comes.wait comes.rows) xs (All-nil Returns)))
