-- The book has each replica of a recovery as long as that goes on: its lease keeps it from being forgotten.
use Rattle.std.proofs.Common.{◌≡◌, ◌∙◌, ◌<◌, ◌+◌, ◌++◌, ◌==◌, ℕ, Bool, true, false, cond, List, [], refl, sym, ap, subst, Option, Some, None, ◌⊎◌, inl, inr, zero, suc, arith}
use Rattle.std.specs.Prelude.{All, Contains, is_some, replicate, slice_index_or}
use Rattle.recovery_runs.proofs.Prelude.{Act, All-contains, All-nil, All-weaker, BeginsOnce, BookState, Comes, ComesOf, CommandTurn}
use Rattle.recovery_runs.proofs.Prelude.{Contains-append_cases, Covers, Docket, HasSeen, HeldState, Instance, IsForgotten, IsHeldBeside, IsLeased}
use Rattle.recovery_runs.proofs.Prelude.{IsTurn, Observation, Outcome, Planner, Purpose, Ready, Recovery, Row, SawSo, ServerNo, State, Status, Turn, Unended}
use Rattle.recovery_runs.proofs.Prelude.{World, act_asks, act_in, after_act, after_done, asks, by_name, command-comes, command_outcome, crowns}
use Rattle.recovery_runs.proofs.Prelude.{done_asks, false≢true, filtered-none, follower_nos, instance_at, instances-stay, is_attached_to, is_replica_of}
use Rattle.recovery_runs.proofs.Prelude.{jobs_begun, jobs_done, jobs_of, leases_of, listed, lost_nos, none-some, pollers, replicas_of, route_of}
use Rattle.recovery_runs.proofs.Prelude.{IsAny, IsBegunOnce, LeasedRecovery, SameAim, eqb-true, is_takeover, old-leased, owed}
use Rattle.recovery_runs.proofs.Prelude.{same_Some, seen_source, self-times, slot_at, step, times}
use Rattle.recovery_runs.proofs.Prelude.RecoveryPlans.{Outcome as Report}
use Rattle.recovery_runs.proofs.Prelude.act
use Rattle.recovery_runs.proofs.Prelude.comes
use Rattle.recovery_runs.proofs.Prelude.purpose
use Rattle.recovery_runs.proofs.Prelude.route
use Rattle.recovery_runs.proofs.Prelude.turn
use Rattle.recovery_runs.proofs.Prelude.unended
use Rattle.recovery_runs.proofs.Begun.{begun-once}
use Rattle.recovery_runs.proofs.Coming.{all-come}
use Rattle.recovery_runs.proofs.Tellings.{counted}

-- the book has the server
abbrev pub IsThere : BookState → ServerNo → Type 0
IsThere b n = is_some (instance_at b n) ≡ true

-- it has each replica of a recovery, and a takeover's master
abbrev pub HasReplicas : BookState → Unended → Type 0
HasReplicas b (unended.Plan j) = Unit {0}
HasReplicas b (unended.Recovery r docket) = (n : ServerNo) → 0 < times n.0 (owed r.purpose r.failed r.replicas) → IsThere b n

-- who is owed a place is a replica, or the takeover's master
owed-cases : (u : Purpose) (f : ServerNo) (ns : List ServerNo) (n : ServerNo) → 0 < times n.0 (owed u f ns) → (0 < times n.0 ns) ⊎ ((is_takeover u ≡ true) × (f ≡ n))
owed-cases (purpose.Takeover d) f ns n some = go (f.0 == n.0) refl some
  where
    go : (a : Bool) → (f.0 == n.0) ≡ a → 0 < cond a 1 0 + times n.0 ns → (0 < times n.0 ns) ⊎ ((true ≡ true) × (f ≡ n))
    go true e h = inr (refl, ap (λ (i : ℕ). record { 0 = i }) (eqb-true f.0 n.0 e))
    go false e h = inl (omega (arith, h))
owed-cases _ f ns n some = inl some

pub owes-replicas : (u : Purpose) (f : ServerNo) (ns : List ServerNo) (n : ServerNo) → 0 < times n.0 ns → 0 < times n.0 (owed u f ns)
owes-replicas (purpose.Takeover d) f ns n some = go (f.0 == n.0)
  where
    go : (a : Bool) → 0 < cond a 1 0 + times n.0 ns
    go a = omega (arith, some)
owes-replicas _ f ns n some = some

pub owes-master : (d f : ServerNo) (ns : List ServerNo) → 0 < times f.0 (owed (purpose.Takeover d) f ns)
owes-master d f ns = self-times f ns

-- what goes on owes the same servers a place
pub owes-alike : (was r : Recovery) → SameAim was r → owed r.purpose r.failed r.replicas ≡ owed was.purpose was.failed was.replicas
owes-alike was r aim =
    ap (λ (u : Purpose). owed u r.failed r.replicas) aim.purpose ∙ (ap (λ (f : ServerNo). owed was.purpose f r.replicas) aim.failed ∙ ap (λ (ns : List ServerNo). owed was.purpose was.failed ns) aim.replicas)

pub has-seen : (Q : Status → Type 0) (b : BookState) (n : ServerNo) → IsThere b n → SawSo Q b n → HasSeen Q b n
has-seen Q b n there saw = go (instance_at b n) refl there
  where
    go : (x : Option Instance) → instance_at b n ≡ x → is_some x ≡ true → HasSeen Q b n
    go None at there = absurd (false≢true there)
    go (Some i) at there = (i, at, saw i at)

-- ---- a restart

pub no-slot : (k p : ℕ) (o : Observation) → slice_index_or (replicate k None) p None ≡ Some o → ⊥
no-slot zero p o e = cc
no-slot (suc k) zero o e = cc
no-slot (suc k) (suc p) o e = no-slot k p o e

pub record IsEmpty (s : State) : Type 0 where
  pub jobs : s.jobs ≡ []
  pub slots : (p : ℕ) (o : Observation) → slot_at s p ≡ Some o → ⊥

act-empties : (rows : List Row) (s : State) (a : Act) → act_asks a ≡ true → IsEmpty (after_act rows s a)
act-empties rows s act.Restart asks = record { jobs = refl; slots = no-slot pollers }
act-empties rows s (act.PollRead p n) asks = absurd (false≢true asks)
act-empties rows s a asks = absurd (false≢true asks)

done-empties : (rows : List Row) (s : State) (o : Option Act) → done_asks o ≡ true → IsEmpty (after_done rows s o)
done-empties rows s None asks = absurd (false≢true asks)
done-empties rows s (Some a) asks = act-empties rows s a asks

pub turn-empties : (rows : List Row) (s : State) (t : Turn) → asks s t ≡ true → IsEmpty (step rows s t)
turn-empties rows s (turn.Act a) asks = act-empties rows s a asks
turn-empties rows s (turn.As node a) asks = let h = done-empties rows s (act_in s (turn.As node a)) asks in record { jobs = h.jobs; slots = h.slots }
turn-empties rows s (turn.Claim node) asks = let h = done-empties rows s (act_in s (turn.Claim node)) asks in record { jobs = h.jobs; slots = h.slots }
turn-empties rows s _ asks = absurd (false≢true asks)

-- ---- one server

-- one that isn't forgotten stays
unless-forgotten : (rows : List Row) (s : State) (t : Turn) (n : ServerNo) → asks s t ≡ false → IsThere s.book n → (IsForgotten s t n → ⊥) → IsThere (step rows s t).book n
unless-forgotten rows s t n plain there keeps = go (instance_at s.book n) refl there (instance_at (step rows s t).book n) refl
  where
    go : (x : Option Instance) → instance_at s.book n ≡ x → is_some x ≡ true → (y : Option Instance) → instance_at (step rows s t).book n ≡ y → is_some y ≡ true
    go None before there y after = absurd (false≢true there)
    go (Some was) before there None after = absurd (keeps (instances-stay rows s t n was plain before after))
    go (Some was) before there (Some now) after = refl

-- a job's turn forgets nobody
pub job-leaves : (rows : List Row) (s : State) (id : ℕ) (n : ServerNo) → IsThere s.book n → IsThere (step rows s (turn.Act (act.Job id))).book n
job-leaves rows s id n there = unless-forgotten rows s (turn.Act (act.Job id)) n refl there (λ f. other f.command f.taken)
  where
    other : (c : CommandTurn) → Some (act.Job id) ≡ Some (act.Command c) → ⊥
    other c e = cc

-- a command that forgets begins nothing
forgets-none : (s : State) (c : CommandTurn) → route_of c.command.name ≡ route.Forgets → jobs_of s (command_outcome s c) ≡ []
forgets-none s c forgets = by (command_outcome s c) (command-comes s c)
  where
    no-plan : (p : Planner) → route.Forgets ≡ route.Begins p → ⊥
    no-plan p e = cc

    no-recovery : route.Forgets ≡ route.Recovers → ⊥
    no-recovery e = cc

    no-takeover : route.Forgets ≡ route.TakesOver → ⊥
    no-takeover e = cc

    by : (o : Outcome) → Comes s c o → jobs_of s o ≡ []
    by o (comes.Begun p at free) = absurd (no-plan p (sym forgets ∙ at))
    by o (comes.Recovered x (comes.Fails i at given free)) = absurd (no-recovery (sym forgets ∙ at))
    by o (comes.Recovered x (comes.Passes i d at given there free)) = absurd (no-takeover (sym forgets ∙ at))
    by o _ = refl

-- a replica is a server that the book has
replica-there : (b : BookState) (f n : ServerNo) → 0 < times n.0 (replicas_of b f) → IsThere b n
replica-there b f n some = go (is_replica_of b f n) refl
  where
    seen : (x : Option Instance) → is_attached_to f (seen_source x) ≡ true → is_some x ≡ true
    seen None h = absurd (false≢true h)
    seen (Some i) h = refl

    go : (is : Bool) → is_replica_of b f n ≡ is → IsThere b n
    go true is = seen (instance_at b n) is
    go false is = let none = filtered-none (is_replica_of b f) n (by_name b.names) is in absurd (omega (arith, none, some))

-- one that took a master's place is one of its replicas
pub promoted-one : (w : World) (u : Purpose) (f : ServerNo) (ns : List ServerNo) (o : Report) → Covers w u f ns o → crowns u ≡ true → (n : ServerNo) → o.promoted ≡ Some n → 0 < times n.0 ns
promoted-one w purpose.Master f ns o c crowned n is =
    let all : times n.0 (listed o.promoted) + (times n.0 (follower_nos o.followers) + times n.0 (lost_nos o.lost)) ≡ times n.0 ns = c.once n.0 in
    let one : 0 < times n.0 (listed o.promoted) = subst (λ (x : Option ServerNo). 0 < times n.0 (listed x)) (sym is) (self-times n []) in
    omega (arith, all, one)
promoted-one w (purpose.Takeover d) f ns o c crowned n is =
    let one : times d.0 ns ≡ 1 = c.replicas.placed in
    subst (λ (k : ServerNo). 0 < times k.0 ns) (same_Some d n (sym c.named.0 ∙ is)) (omega (arith, one))
promoted-one w _ f ns o c crowned n is = absurd (false≢true crowned)

-- ---- a turn

module _ (count : ℕ) (rows : List Row) (s : State) (t : Turn) (ready : Ready count s) (held : HeldState s) (is : IsTurn count t) (plain : asks s t ≡ false) where
  -- what was there has leases
  was-there : (r : Recovery) (docket : Docket) → Contains s.jobs (unended.Recovery r docket) → HasReplicas s.book (unended.Recovery r docket) → HasReplicas (step rows s t).book (unended.Recovery r docket)
  was-there r docket among there n some =
      unless-forgotten rows s t n plain (there n some) (λ f. none-some r.core.id (sym f.free ∙ leased (owed-cases r.purpose r.failed r.replicas n some)))
    where
      own : LeasedRecovery (leases_of s.book.leases) r.core.id r
      own = (All-contains (IsHeldBeside s.world (leases_of s.book.leases)) s.jobs (unended.Recovery r docket) held.jobs among).1

      leased : (0 < times n.0 r.replicas) ⊎ ((is_takeover r.purpose ≡ true) × (r.failed ≡ n)) → IsLeased (leases_of s.book.leases) r.core.id n.0
      leased (inl one) = All-contains (λ (k : ServerNo). IsLeased (leases_of s.book.leases) r.core.id k.0) r.replicas n own.replicas (counted r.replicas n one)
      leased (inr master) =
          subst (λ (k : ServerNo). IsLeased (leases_of s.book.leases) r.core.id k.0) master.1
          (old-leased (IsLeased (leases_of s.book.leases) r.core.id) IsAny r.purpose r.failed r.chosen master.0 own.sources)

  -- what begins has the replicas that the book has, and a master that it has
  new-there : (r : Recovery) (docket : Docket) → Contains (jobs_begun s t) (unended.Recovery r docket) → HasReplicas (step rows s t).book (unended.Recovery r docket)
  new-there r docket among n some =
      unless-forgotten rows s t n plain (known (owed-cases r.purpose r.failed r.replicas n some))
      (λ f.
      let none : jobs_begun s t ≡ [] = ap (jobs_done s) f.taken ∙ forgets-none s f.command f.route in
      All-contains (λ u. ⊥) [] (unended.Recovery r docket) (All-nil (λ u. ⊥)) (subst (λ (us : List Unended). Contains us (unended.Recovery r docket)) none among))
    where
      new : IsBegunOnce s r docket
      new = All-contains (BeginsOnce s) (jobs_begun s t) (unended.Recovery r docket) (begun-once count s t ready is) among

      known : (0 < times n.0 r.replicas) ⊎ ((is_takeover r.purpose ≡ true) × (r.failed ≡ n)) → IsThere s.book n
      known (inl one) = replica-there s.book r.failed n (subst (λ (ks : List ServerNo). 0 < times n.0 ks) new.replicas one)
      known (inr master) = subst (λ (k : ServerNo). IsThere s.book k) master.1 (new.known master.0)

  come-there : All (HasReplicas s.book) s.jobs → (u : Unended) → ComesOf (s.jobs ++ jobs_begun s t) u → HasReplicas (step rows s t).book u
  come-there all (unended.Plan j) h = tt
  come-there all (unended.Recovery r docket) h = λ n some.
      let own = subst (λ (ks : List ServerNo). 0 < times n.0 ks) (owes-alike h.was r h.aim) some in
      by n own (Contains-append_cases s.jobs (jobs_begun s t) (unended.Recovery h.was h.had) h.among)
    where
      by : (n : ServerNo) → 0 < times n.0 (owed h.was.purpose h.was.failed h.was.replicas) → Contains s.jobs (unended.Recovery h.was h.had) ⊎ Contains (jobs_begun s t) (unended.Recovery h.was h.had) → IsThere (step rows s t).book n
      by n own (inl there) = was-there h.was h.had there (All-contains (HasReplicas s.book) s.jobs (unended.Recovery h.was h.had) all there) n own
      by n own (inr begun) = new-there h.was h.had begun n own

pub there-step : (count : ℕ) (rows : List Row) (s : State) (t : Turn) → Ready count s → HeldState s → IsTurn count t → All (HasReplicas s.book) s.jobs → All (HasReplicas (step rows s t).book) (step rows s t).jobs
there-step count rows s t ready held is all = by (asks s t) refl
  where
    by : (a : Bool) → asks s t ≡ a → All (HasReplicas (step rows s t).book) (step rows s t).jobs
    by true asked = subst (λ (us : List Unended). All (HasReplicas (step rows s t).book) us) (sym (turn-empties rows s t asked).jobs) (All-nil (HasReplicas (step rows s t).book))
    by false plain =
        All-weaker (ComesOf (s.jobs ++ jobs_begun s t)) (HasReplicas (step rows s t).book) (come-there count rows s t ready held is plain all) (step rows s t).jobs
        (all-come count rows s t ready)
