-- Each turn keeps the servers of the lines of plans' jobs on their way.
use Rattle.std.proofs.Common.{◌≡◌, ◌∙◌, ℕ, Bool, true, false, cond, List, [], ◌∷◌, ◌++◌, refl, sym, ap, subst, Option, Some, None, inl, inr, ◌==◌, All}
use Rattle.run_laws.proofs.Prelude.{All-cons, All-find, All-nil, All-push, All-weaker, BookState, Command, Coordinates, Exchange, Flight, Gtids}
use Rattle.run_laws.proofs.Prelude.{HasLeases, HasPath, HeldJob, HeldJobs, IsLeased, Job, Leases, Matches, Means, Moment, NoPath, Observation}
use Rattle.run_laws.proofs.Prelude.{Passage, Path, PathCommand, Paths, Planner, ServerNo, Stays-keeps, Under-keeps, Unended, World, about_kind, after}
use Rattle.run_laws.proofs.Prelude.{after_turn, all-turned, as_turn, astray, core-found, core_of, eq-eqb, false≢true, first_about, flown, footing}
use Rattle.run_laws.proofs.Prelude.{freed-others, freed_leases, given-by, hooked, is_going, is_outside, job_at, job_by, job_in, job_with, jobs_turned}
use Rattle.run_laws.proofs.Prelude.{kept-leases, leased-by, leased_to, leases-stored_if, leases_by, leases_of, means_of, ne_eqb, neither, number_of}
use Rattle.run_laws.proofs.Prelude.{option_map, outside-stays, outside-stays-so, passage_of, passages_by, passed, passed_in, passing, path-apart}
use Rattle.run_laws.proofs.Prelude.{path_of, plan_by, refusal_by, refused, regroup_about, replicas_but, run, same-stays-so, same_Some, server_at}
use Rattle.run_laws.proofs.Prelude.{stored_if, turn-leased, turned, turned_by, unleased-run, without_path, world-stored_if, world-then}
use Rattle.run_laws.proofs.Prelude.command
use Rattle.run_laws.proofs.Prelude.pass
use Rattle.run_laws.proofs.Prelude.path_permits
use Rattle.run_laws.proofs.Prelude.path_plans
use Rattle.run_laws.proofs.Prelude.unended
use Rattle.run_laws.proofs.Prelude.JobLaws.{Begins as JobBegins, job_at as core_at}
use Rattle.move_laws.proofs.Firsts.{about-permitted}
use Rattle.run_laws.proofs.Leading.{IsTold, coords-tell, gtids-tell, matches-tell, moves-tell, relocates-tell}
use Rattle.run_laws.proofs.HeldLines.{IsOnItsWay, begins-on-its-way, goes-on-its-way, others-leave, same-under, stays-on}

-- each job of these is on its way
abbrev pub AllOnWay : Flight → List Unended → Type 0
AllOnWay f us = All (IsOnItsWay f.world f.leases) us

-- ---- what is no job's turn

-- the same servers and leases
pub same-on-way : (f g : Flight) (us : List Unended) → g.world ≡ f.world → g.leases ≡ f.leases → AllOnWay f us → AllOnWay g us
same-on-way f g us world leases all =
    subst (λ (w : World). All (IsOnItsWay w g.leases) us) (sym world) (subst (λ (l : Leases). All (IsOnItsWay f.world l) us) (sym leases) all)

pub outside-on-way : (f : Flight) (us : List Unended) (e : Exchange) → is_outside e ≡ true → AllOnWay f us → AllOnWay (passed f (pass.Exchanging e)) us
outside-on-way f us e out all =
    All-weaker (IsOnItsWay f.world f.leases) (IsOnItsWay (after f.world e) f.leases) (λ u h. others-leave f.world (after f.world e) f.leases f.leases u (λ n m. m)
    (λ n m leased under. Under-keeps f.world (after f.world e) n m (Stays-keeps f.world (after f.world e) n (outside-stays f.world e out n)) under)
    (λ n leased goes. stays-on f.world (after f.world e) n (outside-stays-so f.world e out n) goes) h) us all

pub stored-on-way : (keeps : Bool) (f : Flight) (o : Option Observation) (us : List Unended) → AllOnWay f us → AllOnWay (stored_if keeps f o) us
stored-on-way keeps f o us all = same-on-way f (stored_if keeps f o) us (world-stored_if keeps f o) (leases-stored_if keeps f o) all

-- a job begins
begun-leases : (f : Flight) (us : List Unended) (list : List ServerNo) (j : Job) → JobBegins f.world f.jobs f.leases list j → AllOnWay f us → AllOnWay (passed f (pass.Beginning list j)) us
begun-leases f us list j may all =
    All-weaker (IsOnItsWay f.world f.leases) (IsOnItsWay f.world (leased_to f.leases list j.id)) (λ u h. others-leave f.world f.world f.leases (leased_to f.leases list j.id) u
    (λ n leased. kept-leases f list j may (number_of u) n leased) (λ n m leased under. under) (λ n leased goes. goes) h) us all

pub begun-on-way : (f : Flight) (us : List Unended) (list : List ServerNo) (u : Unended) → JobBegins f.world f.jobs f.leases list (core_of u) → IsOnItsWay f.world (leased_to f.leases list (core_of u).id) u
    → AllOnWay f us → AllOnWay (passed f (pass.Beginning list (core_of u))) (us ++ u ∷ [])
begun-on-way f us list u may one all =
    All-push (IsOnItsWay f.world (leased_to f.leases list (core_of u).id)) us u (begun-leases f us list (core_of u) may all) one

-- ---- a job's turn

module _ (f : Flight) (us : List Unended) (b : BookState) (id read : ℕ) (now : Moment) (rings : f.rings ≡ b.rings) (held : HeldJobs f us) (keeps : Bool) where
  core-here : (u : Unended) → job_at us id ≡ Some u → core_at f.jobs id ≡ Some (core_of u)
  core-here u at = ap (λ (js : List Job). core_at js id) held.cores ∙ (core-found us id ∙ ap (option_map core_of) at)

  abbrev its : Unended → Passage
  its u = passage_of f.world b read now keeps id u

  abbrev then : Unended → World
  then u = run f.world (flown f.world b read now u).exchanges

  abbrev left : Unended → Leases
  left u = cond (is_going (flown f.world b read now u).step) f.leases (freed_leases f.leases id)

  leases-then : (u : Unended) → job_at us id ≡ Some u → (passed f (its u)).leases ≡ left u
  leases-then (unended.Plan j) at =
      ap (λ (o : Option Job). (turned_by f id read now keeps o).leases) (core-here (unended.Plan j) at)
      ∙ leases-stored_if keeps (after_turn f id (turned f.world read now j)) (turned f.world read now j).observation
  leases-then (unended.Recovery r d) at =
      let t = (hooked f.world b read now r d).taken in
      leases-stored_if keeps (after_turn f id (as_turn id t)) t.observation

  others-leases : (u : Unended) (k n : ℕ) → (k ≡ id → ⊥) → IsLeased f.leases k n → IsLeased (left u) k n
  others-leases u k n apart h = go (is_going (flown f.world b read now u).step)
    where
      go : (c : Bool) → IsLeased (cond c f.leases (freed_leases f.leases id)) k n
      go true = h
      go false = freed-others f.leases id k n (ne_eqb k id apart) h

  other-on-way : (u : Unended) → job_at us id ≡ Some u → (k : Unended) → (number_of k ≡ id → ⊥) → IsOnItsWay f.world f.leases k → IsOnItsWay (then u) (left u) k
  other-on-way u at k apart h =
      others-leave f.world (then u) f.leases (left u) k (λ n leased. others-leases u (number_of k) n apart leased)
      (λ n m leased under. same-under f.world (then u) n m (same n leased) under) (λ n leased goes. stays-on f.world (then u) n (same-stays-so f.world (then u) n (same n leased)) goes) h
    where
      same : (n : ℕ) → IsLeased f.leases (number_of k) n → server_at (then u) n ≡ server_at f.world n
      same n leased =
          unleased-run f.leases id f.world (flown f.world b read now u).exchanges n (leased-by f us b id read now rings held u at)
          (λ mine. apart (same_Some (number_of k) id (sym leased ∙ mine)))

  next-on-way : (u : Unended) → job_at us id ≡ Some u → IsOnItsWay f.world f.leases u → is_going (flown f.world b read now u).step ≡ true → IsOnItsWay (then u) (left u) (flown f.world b read now u).next
  next-on-way (unended.Recovery r d) at h = λ going. tt
  next-on-way (unended.Plan j) at h = λ going.
      let has = All-find (HasLeases f.leases) (λ (k : Job). k.id == id) f.jobs j held.flight.leased.each (core-here (unended.Plan j) at) in
      let mine = All-find (HeldJob f.world) (λ (k : Job). k.id == id) f.jobs j held.flight.jobs (core-here (unended.Plan j) at) in
      subst (λ (l : Leases). IsOnItsWay (then (unended.Plan j)) l (unended.Plan (turned f.world read now j).job)) (sym (ap (λ (c : Bool). cond c f.leases (freed_leases f.leases id)) going))
      (goes-on-its-way f.world f.leases read now j mine going (turn-leased f.leases f.world read now j has).id h)

  pub turn-on-way : (u : Unended) → job_at us id ≡ Some u → AllOnWay f us → AllOnWay (passed f (its u)) (jobs_turned us id (Some (flown f.world b read now u)))
  turn-on-way u at all =
      subst (λ (w : World). All (IsOnItsWay w (passed f (its u)).leases) (jobs_turned us id (Some (flown f.world b read now u)))) (sym (world-then f us b id read now rings held keeps u at))
      (subst (λ (l : Leases). All (IsOnItsWay (then u) l) (jobs_turned us id (Some (flown f.world b read now u)))) (sym (leases-then u at))
      (all-turned (IsOnItsWay f.world f.leases) (IsOnItsWay (then u) (left u)) id (other-on-way u at) us (flown f.world b read now u)
      (next-on-way u at (All-find (IsOnItsWay f.world f.leases) (λ (k : Unended). number_of k == id) us u all at)) all))

module _ (f : Flight) (us : List Unended) (b : BookState) (id read : ℕ) (now : Moment) (keeps : Option Observation → Bool) (rings : f.rings ≡ b.rings) (held : HeldJobs f us) where
  -- the turn of a number, if there may be no such job
  pub number-on-way : (o : Option Unended) → job_at us id ≡ o → AllOnWay f us → AllOnWay (passing f (passages_by f.world b read now keeps id o)) (jobs_turned us id (option_map (flown f.world b read now) o))
  number-on-way None at all = all
  number-on-way (Some u) at all = turn-on-way f us b id read now rings held (keeps (flown f.world b read now u).observation) u at all

-- ---- plans that begin

-- each that moves has a path
paths-there : (b : BookState) (d : ServerNo) (movers : List ServerNo) → first_about (without_path b (Some d)) movers ≡ None → All (HasPath b d) movers
paths-there b d [] h = All-nil (HasPath b d)
paths-there b d (n ∷ ns) h =
    let parts = neither (without_path b (Some d) n) (first_about (without_path b (Some d)) ns) h in
    let p = given-by (path_of b n d) NoPath parts.0 in
    All-cons (HasPath b d) n ns (record {
      passed = p.0.passed;
      under = p.0.under;
      is = p.1;
      apart =
          All-weaker (λ (x : ServerNo). (n.0 == x.0) ≡ false) (λ (x : ServerNo). x.0 ≡ n.0 → ⊥) (λ x e same. false≢true (sym e ∙ eq-eqb n.0 x.0 (sym same))) p.0.passed
          (subst (λ (o : Option Path). All (λ (x : ServerNo). (n.0 == x.0) ≡ false) (passed_in o)) p.1 (path-apart b n d));
    }) (paths-there b d ns parts.1)

relocated-tells : (gtid : Bool) (b : BookState) (movers : List ServerNo) (d : Option ServerNo) → astray gtid b movers d ≡ None → IsTold (path_plans.relocated gtid b movers d)
relocated-tells gtid b movers None h = inl refl
relocated-tells true b movers (Some d) h = moves-tell movers d
relocated-tells false b movers (Some d) h = relocates-tell false b movers d (paths-there b d movers h)

paths-tell : (w : World) (b : BookState) (now : Moment) (kind : Option PathCommand) (c : Command) → refused b (path_permits.refusal_about w b now) kind c ≡ None
    → IsTold (about_kind [] (path_plans.ops_of w b) kind c)
paths-tell w b now kind c h = about-permitted IsTold (path_permits.refusal_about w b now) [] (path_plans.ops_of w b) b c (inl refl) each kind h
  where
    tells : (k : PathCommand) (i : ServerNo) → path_permits.own_refusal w b now k i c.d ≡ None → IsTold (path_plans.ops_of w b k i c.d)
    tells command.Relocate i g = relocated-tells w.gtid b (i ∷ []) c.d g
    tells command.RelocateReplicas i g = relocated-tells w.gtid b (replicas_but b i c.d) c.d g
    tells command.RegroupReplicas i g = inl refl

    each : (k : PathCommand) (i : ServerNo) → path_permits.refusal_about w b now k i c.d ≡ None → IsTold (path_plans.ops_of w b k i c.d)
    each k i g =
        let rest = (neither (path_permits.row_refusal w b k i c.d) (path_permits.rest_refusal w b now k i c.d) g).1 in
        tells k i (neither (path_permits.own_refusal w b now k i c.d) (path_permits.last_refusal w b k i c.d) rest).0

regroup-on-way : (w : World) (l : Leases) (b : BookState) (by : Means) (id wait : ℕ) (i : Option ServerNo) → IsOnItsWay w l (regroup_about b by id wait i)
regroup-on-way w l b by id wait None = inl refl
regroup-on-way w l b by id wait (Some i) = tt

-- a plan that may begin is on its way
plan-on-way : (w : World) (l : Leases) (b : BookState) (now : Moment) (js : List Job) (c : Command) (p : Planner) (id wait every : ℕ) → refusal_by w b now every c p ≡ None
    → JobBegins w js (leases_of b.leases) (leases_by w b c p) (job_with id wait (plan_by w b every c p)) → IsOnItsWay w (leased_to l (leases_by w b c p) id) (unended.Plan (job_with id wait (plan_by w b every c p)))
plan-on-way w l b now js c (Coordinates k) id wait every refuses may =
    begins-on-its-way w l (leases_by w b c (Coordinates k)) id wait (plan_by w b every c (Coordinates k)) may.listed (coords-tell b w (Some k) c (inr (footing w [], may.left)))
plan-on-way w l b now js c (Gtids k) id wait every refuses may =
    begins-on-its-way w l (leases_by w b c (Gtids k)) id wait (plan_by w b every c (Gtids k)) may.listed (gtids-tell b (Some k) c)
plan-on-way w l b now js c (Paths k) id wait every refuses may =
    begins-on-its-way w l (leases_by w b c (Paths k)) id wait (plan_by w b every c (Paths k)) may.listed (paths-tell w b now (Some k) c refuses)
plan-on-way w l b now js c (Matches k) id wait every refuses may =
    begins-on-its-way w l (leases_by w b c (Matches k)) id wait (plan_by w b every c (Matches k)) may.listed (matches-tell b every (Some k) c)

-- and so is a command's job that may begin
pub permitted-on-way : (w : World) (l : Leases) (b : BookState) (now : Moment) (js : List Job) (c : Command) (p : Planner) (id wait every : ℕ) → refusal_by w b now every c p ≡ None
    → JobBegins w js (leases_of b.leases) (leases_by w b c p) (core_of (job_by w b c p id wait every)) → IsOnItsWay w (leased_to l (leases_by w b c p) id) (job_by w b c p id wait every)
permitted-on-way w l b now js c p id wait every refuses may = go (means_of every p) may
  where
    go : (by : Option Means) → JobBegins w js (leases_of b.leases) (leases_by w b c p) (core_of (job_in w b c p id wait every by))
        → IsOnItsWay w (leased_to l (leases_by w b c p) id) (job_in w b c p id wait every by)
    go None may = plan-on-way w l b now js c p id wait every refuses may
    go (Some by) may = regroup-on-way w (leased_to l (leases_by w b c p) id) b by id wait c.i
