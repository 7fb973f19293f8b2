-- The turn of an unended job leaves all with `Held` and `Sound`.
use Rattle.std.proofs.Common.{◌≡◌, ◌∙◌, ℕ, Bool, true, false, List, [], ◌∷◌, cond, refl, sym, ap, subst, Option, Some, None, All, ◌==◌, not, map, if◌then◌else◌}
use Rattle.unended_laws.proofs.Prelude.{All-cons, All-find, All-head, All-nil, All-tail, AllMayPass, AllPassWell, AreOwn, BookState, Bridge, Flight}
use Rattle.unended_laws.proofs.Prelude.{Flown, Held-passed, HeldJobs, HeldRecovery, HeldRings, IsHeldBeside, IsQuiet, IsSoundBeside, Job}
use Rattle.unended_laws.proofs.Prelude.{LeasedRecovery, Leases, MayPass, MayTake, Moment, Observation, PassesWell, Recovery, Sound-passed, SoundJobs}
use Rattle.unended_laws.proofs.Prelude.{SoundRecovery, SoundRings, Spans, Spares, StandsIn, Taken, TakesWell, Unended, World, after_turn, as_turn}
use Rattle.unended_laws.proofs.Prelude.{core_by, core_of, eq-eqb, false≢true, flown, found-number, hooked, hooked-has, is_going, job_at as core_at}
use Rattle.unended_laws.proofs.Prelude.{jobs_turned, leases-stored_if, number_of, option_map, passage_of, passages_by, passed, passing, promoted_in}
use Rattle.unended_laws.proofs.Prelude.{recovery-passes, recovery-passes-well, replaced, run, taken, taken-held, taken-leased, taken-sound, turned}
use Rattle.unended_laws.proofs.Prelude.{turned_by, with_job, without_job as without_core, without_leases, world-stored_if}
use Rattle.unended_laws.proofs.Prelude.Jobs.{job_at, without_job}
use Rattle.unended_laws.proofs.Prelude.pass
use Rattle.unended_laws.proofs.Prelude.unended
use Rattle.unended_laws.proofs.Hooked.{own-may, own-well, quiet-may, quiet-well}
use Rattle.unended_laws.proofs.Cores.{core-found, cores-replaced, cores-without}
use Rattle.unended_laws.proofs.Beside.{beside-held, beside-sound, jobs-stored_if, passage-own}

-- ---- what a turn leaves of the list

module _ (P Q : Unended → Type 0) (id : ℕ) (others : (k : Unended) → (number_of k ≡ id → ⊥) → P k → Q k) where
  differ : (k : Unended) → (number_of k == id) ≡ false → number_of k ≡ id → ⊥
  differ k e same = false≢true (sym e ∙ eq-eqb (number_of k) id same)

  all-with : (us : List Unended) (u : Unended) → Q u → All P us → All Q (with_job us id u)
  all-with [] u one all = All-nil Q
  all-with (k ∷ ks) u one all = All-cons Q (cond (number_of k == id) u k) (with_job ks id u) (go (number_of k == id) refl) (all-with ks u one (All-tail P k ks all))
    where
      go : (b : Bool) → (number_of k == id) ≡ b → Q (cond b u k)
      go true e = one
      go false e = others k (differ k e) (All-head P k ks all)

  all-without : (us : List Unended) → All P us → All Q (without_job us id)
  all-without [] all = All-nil Q
  all-without (k ∷ ks) all = go (number_of k == id) refl (all-without ks (All-tail P k ks all))
    where
      go : (b : Bool) → (number_of k == id) ≡ b → All Q (without_job ks id) → All Q (cond (not b) (k ∷ without_job ks id) (without_job ks id))
      go true e rest = rest
      go false e rest = All-cons Q k (without_job ks id) (others k (differ k e) (All-head P k ks all)) rest

  all-turned : (us : List Unended) (t : Flown) → (is_going t.step ≡ true → Q t.next) → All P us → All Q (jobs_turned us id (Some t))
  all-turned us t next all = go (is_going t.step) next
    where
      go : (b : Bool) → (b ≡ true → Q t.next) → All Q (cond b (with_job us id t.next) (without_job us id))
      go true one = all-with us t.next (one refl) all
      go false one = all-without us all

-- ---- one turn

module _ (f : Flight) (us : List Unended) (b : BookState) (id read : ℕ) (now : Moment) (keeps : Bool) (rings : f.rings ≡ b.rings) (held : HeldJobs f us) where
  rings-held : HeldRings f.world b.rings
  rings-held = record {
    spans = subst (λ (rs : List (List Bridge)). All (All (Spans f.world)) rs) rings held.flight.rings;
    own = subst (λ (rs : List (List Bridge)). AreOwn rs) rings held.own;
  }

  rings-sound : SoundJobs f us → SoundRings f.world b.rings
  rings-sound sound = subst (λ (rs : List (List Bridge)). All (All (StandsIn f.world)) rs) rings sound.flight.rings

  here : (u : Unended) → job_at us id ≡ Some u → IsHeldBeside f.world f.leases u
  here u at = All-find (IsHeldBeside f.world f.leases) (λ k. number_of k == id) us u held.jobs at

  sound-here : SoundJobs f us → (u : Unended) → job_at us id ≡ Some u → IsSoundBeside f.world u
  sound-here sound u at = All-find (IsSoundBeside f.world) (λ k. number_of k == id) us u sound.jobs at

  leased-here : (r : Recovery) → r.core.id ≡ id → LeasedRecovery f.leases r.core.id r → LeasedRecovery f.leases id r
  leased-here r n mine = subst (λ (i : ℕ). LeasedRecovery f.leases i r) n mine

  may-by : (u : Unended) → number_of u ≡ id → IsHeldBeside f.world f.leases u → MayPass f (passage_of f.world b read now keeps id u)
  may-by (unended.Plan j) n mine = tt
  may-by (unended.Recovery r d) n mine =
      let t = taken f.world b read now r in
      let leased = leased-here r n mine.1 in
      let passes = recovery-passes f b id read now r held.flight rings-held mine.0 leased in
      hooked-has (λ x. MayTake f id (as_turn id x)) d (promoted_in b t) r t (λ s same. own-may f id t s same passes) (λ s. quiet-may f id r s mine.0 leased)

  pub turn-may : (u : Unended) → job_at us id ≡ Some u → MayPass f (passage_of f.world b read now keeps id u)
  turn-may u at = may-by u (found-number us id u at) (here u at)

  well-by : SoundJobs f us → (u : Unended) → IsHeldBeside f.world f.leases u → IsSoundBeside f.world u → PassesWell f (passage_of f.world b read now keeps id u)
  well-by sound (unended.Plan j) mine good = tt
  well-by sound (unended.Recovery r d) mine good =
      let t = taken f.world b read now r in
      let passes = recovery-passes-well f b id read now r held.flight rings-held mine.0 sound.flight (rings-sound sound) good in
      hooked-has (λ x. TakesWell f (as_turn id x)) d (promoted_in b t) r t (λ s same. own-well f id t s same passes) (λ s. quiet-well f id r s good)

  pub turn-well : (u : Unended) → job_at us id ≡ Some u → SoundJobs f us → PassesWell f (passage_of f.world b read now keeps id u)
  turn-well u at sound = well-by sound u (here u at) (sound-here sound u at)

  -- the cores, by whether the job goes on

  cores-by : (going : Bool) (core : Job) (next : Unended) → (going ≡ true → core ≡ core_of next)
      → (if going then replaced f.jobs id core else without_core f.jobs id) ≡ map core_of (if going then with_job us id next else without_job us id)
  cores-by true core next same =
      ap (λ (js : List Job). replaced js id core) held.cores
      ∙ (ap (λ (c : Job). replaced (map core_of us) id c) (same refl) ∙ sym (cores-replaced us id next))
  cores-by false core next same = ap (λ (js : List Job). without_core js id) held.cores ∙ sym (cores-without us id)

  core-going : (r : Recovery) (going : Bool) → going ≡ true → core_by id r going ≡ r.core
  core-going r true h = refl
  core-going r false h = absurd (false≢true h)

  core-here : (u : Unended) → job_at us id ≡ Some u → core_at f.jobs id ≡ Some (core_of u)
  core-here u at = ap (λ (js : List Job). core_at js id) held.cores ∙ (core-found us id ∙ ap (option_map core_of) at)

  turn-cores : (u : Unended) → job_at us id ≡ Some u
      → (passed f (passage_of f.world b read now keeps id u)).jobs ≡ map core_of (jobs_turned us id (Some (flown f.world b read now u)))
  turn-cores (unended.Plan j) at =
      let t = turned f.world read now j in
      ap (λ (o : Option Job). (turned_by f id read now keeps o).jobs) (core-here (unended.Plan j) at)
      ∙ (jobs-stored_if keeps (after_turn f id t) t.observation ∙ cores-by (is_going t.step) t.job (unended.Plan t.job) (λ h. refl))
  turn-cores (unended.Recovery r d) at =
      let t = (hooked f.world b read now r d).taken in
      jobs-stored_if keeps (after_turn f id (as_turn id t)) t.observation
      ∙ cores-by (is_going t.step) (core_by id t.recovery (is_going t.step)) (unended.Recovery t.recovery (hooked f.world b read now r d).docket) (core-going t.recovery (is_going t.step))

  -- the others, and the job itself if it goes on

  spares : (u k : Unended) → (number_of k ≡ id → ⊥) → Spares (number_of k) (passage_of f.world b read now keeps id u)
  spares (unended.Plan j) k apart = λ same. apart (sym same)
  spares (unended.Recovery r d) k apart = λ same. apart (sym same)

  world-taken : (t : Taken) → (passed f (pass.Taking id (as_turn id t) keeps)).world ≡ run f.world t.exchanges
  world-taken t = world-stored_if keeps (after_turn f id (as_turn id t)) t.observation

  leases-taken : (t : Taken) → is_going t.step ≡ true → (passed f (pass.Taking id (as_turn id t) keeps)).leases ≡ f.leases
  leases-taken t going =
      leases-stored_if keeps (after_turn f id (as_turn id t)) t.observation
      ∙ ap (λ (g : Bool). if g then f.leases else without_leases f.leases id) going

  abbrev StaysHeld : Taken → Type 0
  StaysHeld x = is_going x.step ≡ true → HeldRecovery (run f.world x.exchanges) x.recovery × LeasedRecovery f.leases x.recovery.core.id x.recovery

  abbrev StaysSound : Taken → Type 0
  StaysSound x = is_going x.step ≡ true → SoundRecovery (run f.world x.exchanges) x.recovery

  next-held : (u : Unended) → number_of u ≡ id → IsHeldBeside f.world f.leases u → is_going (flown f.world b read now u).step ≡ true
      → IsHeldBeside (passed f (passage_of f.world b read now keeps id u)).world (passed f (passage_of f.world b read now keeps id u)).leases (flown f.world b read now u).next
  next-held (unended.Plan j) n mine going = tt
  next-held (unended.Recovery r d) n mine going =
      let h = (hooked f.world b read now r d).taken in
      let has = stays going in (
        subst (λ (w : World). HeldRecovery w h.recovery) (sym (world-taken h)) has.0,
        subst (λ (l : Leases). LeasedRecovery l h.recovery.core.id h.recovery) (sym (leases-taken h going)) has.1,
      )
    where
      own : is_going (taken f.world b read now r).step ≡ true
          → HeldRecovery (run f.world (taken f.world b read now r).exchanges) (taken f.world b read now r).recovery
          × LeasedRecovery f.leases (taken f.world b read now r).recovery.core.id (taken f.world b read now r).recovery
      own g =
          let t = taken f.world b read now r in
          let kept = (taken-held f.world b read now r held.flight.placed rings-held mine.0).held g in
          let has = (taken-leased f.leases id f.world b read now r (leased-here r n mine.1)).servers g in
          (kept, subst (λ (i : ℕ). LeasedRecovery f.leases i t.recovery) (sym has.number) has)

      stays : StaysHeld (hooked f.world b read now r d).taken
      stays =
          let t = taken f.world b read now r in
          hooked-has StaysHeld d (promoted_in b t) r t (λ s same g. own (sym same ∙ g)) (λ s g. mine)

  next-sound : SoundJobs f us → (u : Unended) → IsHeldBeside f.world f.leases u → IsSoundBeside f.world u → is_going (flown f.world b read now u).step ≡ true
      → IsSoundBeside (passed f (passage_of f.world b read now keeps id u)).world (flown f.world b read now u).next
  next-sound sound (unended.Plan j) mine good going = tt
  next-sound sound (unended.Recovery r d) mine good going =
      let h = (hooked f.world b read now r d).taken in
      subst (λ (w : World). SoundRecovery w h.recovery) (sym (world-taken h)) (stays going)
    where
      stays : StaysSound (hooked f.world b read now r d).taken
      stays =
          let t = taken f.world b read now r in
          let kept = (taken-sound f.world b read now r sound.flight.safe held.flight.placed rings-held (rings-sound sound) mine.0 good).sound in
          hooked-has StaysSound d (promoted_in b t) r t (λ s same g. kept (sym same ∙ g)) (λ s g. good)

  pub turn-held : (u : Unended) → job_at us id ≡ Some u → HeldJobs (passed f (passage_of f.world b read now keeps id u)) (jobs_turned us id (Some (flown f.world b read now u)))
  turn-held u at =
      let p = passage_of f.world b read now keeps id u in
      let may = turn-may u at in
      record {
        cores = turn-cores u at;
        flight = Held-passed f p may held.flight;
        own = passage-own f p held.own;
        jobs =
            all-turned (IsHeldBeside f.world f.leases) (IsHeldBeside (passed f p).world (passed f p).leases) id (λ k apart h. beside-held f p k may held.flight (spares u k apart) h) us
            (flown f.world b read now u) (next-held u (found-number us id u at) (here u at)) held.jobs;
      }

  pub turn-sound : (u : Unended) → job_at us id ≡ Some u → SoundJobs f us → IsQuiet (passed f (passage_of f.world b read now keeps id u)).world
      → SoundJobs (passed f (passage_of f.world b read now keeps id u)) (jobs_turned us id (Some (flown f.world b read now u)))
  turn-sound u at sound quiet =
      let p = passage_of f.world b read now keeps id u in
      let may = turn-may u at in
      record {
        flight = Sound-passed f p may (turn-well u at sound) quiet held.flight sound.flight;
        jobs =
            all-turned (IsSoundBeside f.world) (IsSoundBeside (passed f p).world) id (λ k apart h. beside-sound f p k may held.flight h) us
            (flown f.world b read now u) (next-sound sound u (here u at) (sound-here sound u at)) sound.jobs;
      }

-- ---- the turn of a number, if there may be no such job

module _ (f : Flight) (us : List Unended) (b : BookState) (id read : ℕ) (now : Moment) (keeps : Option Observation → Bool) (rings : f.rings ≡ b.rings) (held : HeldJobs f us) where
  pub number-may : (o : Option Unended) → job_at us id ≡ o → AllMayPass f (passages_by f.world b read now keeps id o)
  number-may None at = tt
  number-may (Some u) at = (turn-may f us b id read now (keeps (flown f.world b read now u).observation) rings held u at, tt)

  pub number-well : (o : Option Unended) → job_at us id ≡ o → SoundJobs f us → AllPassWell f (passages_by f.world b read now keeps id o)
  number-well None at sound = tt
  number-well (Some u) at sound = (turn-well f us b id read now (keeps (flown f.world b read now u).observation) rings held u at sound, tt)

  pub number-held : (o : Option Unended) → job_at us id ≡ o → HeldJobs (passing f (passages_by f.world b read now keeps id o)) (jobs_turned us id (option_map (flown f.world b read now) o))
  number-held None at = held
  number-held (Some u) at = turn-held f us b id read now (keeps (flown f.world b read now u).observation) rings held u at

  pub number-sound : (o : Option Unended) → job_at us id ≡ o → SoundJobs f us → IsQuiet (passing f (passages_by f.world b read now keeps id o)).world
      → SoundJobs (passing f (passages_by f.world b read now keeps id o)) (jobs_turned us id (option_map (flown f.world b read now) o))
  number-sound None at sound quiet = sound
  number-sound (Some u) at sound quiet = turn-sound f us b id read now (keeps (flown f.world b read now u).observation) rings held u at sound quiet
