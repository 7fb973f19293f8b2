-- What others do leaves a recovery with `Held`, `Sound` and its leases.
use Rattle.std.proofs.Common.{◌≡◌, ℕ, Bool, true, false, cond, List, [], ◌∷◌, refl, sym, subst, Option, Some, None, IfSome}
use Rattle.recovery_laws.proofs.Prelude.{All, All-weaker, AllAllowed, AreSourcesOf, Bridge, Exchange, Flight, Follower, Held, HeldRecovery, IsAny}
use Rattle.recovery_laws.proofs.Prelude.{IsLeased, IsOpOf, IsTaskOf, Job, LeasedRecovery, Leases, MayPass, Moment, Op, Passage, Purpose, Recovery}
use Rattle.recovery_laws.proofs.Prelude.{ServerNo, SoundRecovery, Spares, Stopped, Task, World, after_turn, change_of, changed_by, deed_of}
use Rattle.recovery_laws.proofs.Prelude.{freed-others, is_going, job_at, kept-leases, leases-stored_if, ne_eqb, passed, run, slot_of, turn-allowed}
use Rattle.recovery_laws.proofs.Prelude.{turned, turned_by, without_leases, world-stored_if}
use Rattle.recovery_laws.proofs.Prelude.pass
use Rattle.recovery_laws.proofs.Prelude.purpose
use Rattle.recovery_laws.proofs.Prelude.task
use Rattle.recovery_laws.proofs.Sounding.{run-sound}
use Rattle.recovery_laws.proofs.Taking.{others-held}

-- ---- the servers go on by allowed exchanges

record GoesOn (f : Flight) (p : Passage) : Type 0 where
  es : List Exchange
  is : (passed f p).world ≡ run f.world es
  allowed : AllAllowed f.world es

still : (f : Flight) (p : Passage) → (passed f p).world ≡ f.world → GoesOn f p
still f p same = record { es = []; is = same; allowed = tt }

turning-goes : (f : Flight) (id read : ℕ) (now : Moment) (keeps : Bool) → GoesOn f (pass.Turning id read now keeps)
turning-goes f id read now keeps = go (job_at f.jobs id) refl
  where
    back : (o : Option Job) → job_at f.jobs id ≡ o → (es : List Exchange) → (turned_by f id read now keeps o).world ≡ run f.world es → AllAllowed f.world es → GoesOn f (pass.Turning id read now keeps)
    back o at es is allowed = record {
      es = es;
      is = subst (λ (x : Option Job). (turned_by f id read now keeps x).world ≡ run f.world es) (sym at) is;
      allowed = allowed;
    }

    go : (o : Option Job) → job_at f.jobs id ≡ o → GoesOn f (pass.Turning id read now keeps)
    go None at = back None at [] refl tt
    go (Some j) at =
        back (Some j) at (turned f.world read now j).exchanges
        (world-stored_if keeps (after_turn f id (turned f.world read now j)) (turned f.world read now j).observation)
        (turn-allowed f.world read now j)

goes-on : (f : Flight) (p : Passage) → MayPass f p → GoesOn f p
goes-on f (pass.Exchanging e) may = record { es = e ∷ []; is = refl; allowed = (may.0, tt) }
goes-on f (pass.Storing p keeps) may = still f (pass.Storing p keeps) (world-stored_if keeps f (slot_of f p))
goes-on f (pass.Turning id read now keeps) may = turning-goes f id read now keeps
goes-on f (pass.Taking id t keeps) may = record { es = t.exchanges; is = world-stored_if keeps (after_turn f id t) t.observation; allowed = may.held.allowed }
goes-on f x may = still f x refl

pub passage-held : (f : Flight) (p : Passage) (r : Recovery) → MayPass f p → Held f → HeldRecovery f.world r → HeldRecovery (passed f p).world r
passage-held f p r may held mine =
    let on = goes-on f p may in
    subst (λ (w : World). HeldRecovery w r) (sym on.is) (others-held f.world on.es r held.placed on.allowed mine)

pub passage-sound : (f : Flight) (p : Passage) (r : Recovery) → MayPass f p → Held f → SoundRecovery f.world r → SoundRecovery (passed f p).world r
passage-sound f p r may held mine =
    let on = goes-on f p may in
    subst (λ (w : World). SoundRecovery w r) (sym on.is) (run-sound f.world on.es r held.placed on.allowed mine)

-- ---- leases

if-more : {X : Type 0} (P Q : X → Type 0) (o : Option X) → ((x : X) → P x → Q x) → IfSome o P → IfSome o Q
if-more P Q None f h = h
if-more P Q (Some x) f h = f x h

module _ (L M : Leases) (id : ℕ) (more : (n : ℕ) → IsLeased L id n → IsLeased M id n) where
  op-more : (o : Op) → IsOpOf (IsLeased L id) IsAny o → IsOpOf (IsLeased M id) IsAny o
  op-more o h = (if-more (λ (n : ServerNo). IsLeased L id n.0) (λ (n : ServerNo). IsLeased M id n.0) (change_of (deed_of o)) (λ n h. more n.0 h) h.0, h.1)

  task-more : (f : ServerNo) (t : Task) → IsTaskOf (IsLeased L id) IsAny f t → IsTaskOf (IsLeased M id) IsAny f t
  task-more f (task.Draining n) h = more n.0 h
  task-more f (task.Moving n by) h = more n.0 h
  task-more f (task.Expelling n) h = more n.0 h
  task-more f (task.Releasing n) h = more n.0 h
  task-more f (task.Trailing n) h = more n.0 h
  task-more f task.Yielding h = more f.0 h
  task-more f _ h = h

  sources-more : (u : Purpose) (f : ServerNo) (chosen : Option ServerNo) → AreSourcesOf (IsLeased L id) IsAny u f chosen → AreSourcesOf (IsLeased M id) IsAny u f chosen
  sources-more purpose.Regroup f chosen h = if-more (λ (n : ServerNo). IsLeased L id n.0) (λ (n : ServerNo). IsLeased M id n.0) chosen (λ n h. more n.0 h) h
  sources-more purpose.Master f chosen h = if-more (λ (n : ServerNo). IsLeased L id n.0) (λ (n : ServerNo). IsLeased M id n.0) chosen (λ n h. more n.0 h) h
  sources-more (purpose.Intermediate s) f chosen h = h
  sources-more (purpose.Takeover d) f chosen h = more f.0 h

  all-more : (ns : List ServerNo) → All (λ n. IsLeased L id n.0) ns → All (λ n. IsLeased M id n.0) ns
  all-more ns all = All-weaker (λ n. IsLeased L id n.0) (λ n. IsLeased M id n.0) (λ n h. more n.0 h) ns all

  leased-more : (r : Recovery) → LeasedRecovery L id r → LeasedRecovery M id r
  leased-more r has = record {
    number = has.number;
    ops = All-weaker (IsOpOf (IsLeased L id) IsAny) (IsOpOf (IsLeased M id) IsAny) op-more r.core.ops has.ops;
    hands = all-more r.core.hands has.hands;
    stage = all-more (changed_by r.stage) has.stage;
    queue = All-weaker (IsTaskOf (IsLeased L id) IsAny r.failed) (IsTaskOf (IsLeased M id) IsAny r.failed) (task-more r.failed) r.queue has.queue;
    failed = has.failed;
    replicas = all-more r.replicas has.replicas;
    drained = All-weaker (λ (s : Stopped). IsLeased L id s.no.0) (λ (s : Stopped). IsLeased M id s.no.0) (λ s h. more s.no.0 h) r.drained has.drained;
    sources = sources-more r.purpose r.failed r.chosen has.sources;
    lead = if-more (λ (b : Bridge). IsLeased L id b.no.0) (λ (b : Bridge). IsLeased M id b.no.0) r.lead (λ b h. more b.no.0 h) has.lead;
    followers = All-weaker (λ (x : Follower). IsLeased L id x.no.0) (λ (x : Follower). IsLeased M id x.no.0) (λ x h. more x.no.0 h) r.outcome.followers has.followers;
  }

-- the turn of another job leaves this one's leases
turn-leases : (L : Leases) (k id : ℕ) (b : Bool) → (k ≡ id → ⊥) → (n : ℕ) → IsLeased L id n → IsLeased (cond b L (without_leases L k)) id n
turn-leases L k id true apart n h = h
turn-leases L k id false apart n h = freed-others L k id n (ne_eqb id k (λ same. apart (sym same))) h

pub passage-leased : (f : Flight) (p : Passage) (id : ℕ) (r : Recovery) → MayPass f p → Spares id p → LeasedRecovery f.leases id r → LeasedRecovery (passed f p).leases id r
passage-leased f p id r may spares mine = leased-more f.leases (passed f p).leases id (keeps-of p may spares) r mine
  where
    turned-leases : (k read : ℕ) (now : Moment) (keeps : Bool) (o : Option Job) → (k ≡ id → ⊥) → (n : ℕ) → IsLeased f.leases id n → IsLeased (turned_by f k read now keeps o).leases id n
    turned-leases k read now keeps None apart n h = h
    turned-leases k read now keeps (Some j) apart n h =
        subst (λ (l : Leases). IsLeased l id n) (sym (leases-stored_if keeps (after_turn f k (turned f.world read now j)) (turned f.world read now j).observation))
        (turn-leases f.leases k id (is_going (turned f.world read now j).step) apart n h)

    keeps-of : (q : Passage) → MayPass f q → Spares id q → (n : ℕ) → IsLeased f.leases id n → IsLeased (passed f q).leases id n
    keeps-of (pass.Storing p keeps) may spares n h = subst (λ (l : Leases). IsLeased l id n) (sym (leases-stored_if keeps f (slot_of f p))) h
    keeps-of pass.Restarting may spares n h = absurd spares
    keeps-of (pass.Beginning list j) may spares n h = kept-leases f list j may id n h
    keeps-of (pass.Turning k read now keeps) may spares n h = turned-leases k read now keeps (job_at f.jobs k) spares n h
    keeps-of (pass.Taking k t keeps) may spares n h =
        subst (λ (l : Leases). IsLeased l id n) (sym (leases-stored_if keeps (after_turn f k t) t.observation))
        (turn-leases f.leases k id (is_going t.step) spares n h)
    keeps-of _ may spares _ h = h
