-- The turn of an unended job leaves all covered, kept and speaking.
use Rattle.std.proofs.Common.{◌≡◌, ◌∙◌, ℕ, Bool, true, false, List, cond, get_or, refl, sym, ap, subst, Option, Some, None, All, ◌==◌, not}
use Rattle.unended_laws.proofs.Prelude.{AimedJobs, All-filter, All-find, All-map, All-nil, All-weaker, AreOwn, BookState, Bridge, CoveredJobs, CoversSoFar}
use Rattle.unended_laws.proofs.Prelude.{Docket, Flight, Flown, HasLeases, HeldJobs, HeldRings, IsAimedBeside, IsCoveredBeside, IsHeldBeside, IsKeptBeside}
use Rattle.unended_laws.proofs.Prelude.{IsLeased, IsSoundBeside, IsSpeakingBeside, Job, KeepsLeased, KeptByChosen, KeptJobs, LeasedRecovery, Moment}
use Rattle.unended_laws.proofs.Prelude.{Observation, Recovery, SameAim, SoundJobs, SoundRings, Spans, SpeakingJobs, Speaks, StandsIn, Unended, World}
use Rattle.unended_laws.proofs.Prelude.{after_turn, as_turn, core_of, eq-eqb, false≢true, filter_passes, flown, flown-allowed, found-number, hooked, hooked-has}
use Rattle.unended_laws.proofs.Prelude.{is_going, jobs_turned, number_of, option_map, others-cover, passage_of, passages_by, passed, passing, promoted_in, run}
use Rattle.unended_laws.proofs.Prelude.{server_of, taken, taken-aim, taken-kept, taken-leased, taken-speaks, then-aim, turn-covers, turn-leased, turned}
use Rattle.unended_laws.proofs.Prelude.{turned_by, with_job, world-stored_if}
use Rattle.unended_laws.proofs.Cores.{core-found}
use Rattle.unended_jobs.specs.Jobs.{job_at, without_job}
use Rattle.recovery_covers.specs.JobLaws.Leases.{job_at as core_at}
use Rattle.unended_laws.proofs.Prelude.unended
use Rattle.unended_laws.proofs.CoveredBeside.{run-kept}

-- ---- what a turn leaves of the list

module _ (P Q : Unended → Type 0) (id : ℕ) (others : (k : Unended) → (number_of k ≡ id → ⊥) → P k → Q k) where
  differ : (k : Unended) → not (number_of k == id) ≡ true → number_of k ≡ id → ⊥
  differ k passes same = false≢true (sym (ap not (eq-eqb (number_of k) id same)) ∙ passes)

  all-with : (us : List Unended) (u : Unended) → Q u → All P us → All Q (with_job us id u)
  all-with us u one all =
      All-map Q (λ k. cond (number_of k == id) u k) us
      (All-weaker P (λ k. Q (cond (number_of k == id) u k)) (λ k h. go k h (number_of k == id) refl) us all)
    where
      go : (k : Unended) → P k → (b : Bool) → (number_of k == id) ≡ b → Q (cond b u k)
      go k h true e = one
      go k h false e = others k (differ k (ap not e)) h

  all-without : (us : List Unended) → All P us → All Q (without_job us id)
  all-without us all =
      λ i d lt. others (get_or (without_job us id) i d)
      (differ (get_or (without_job us id) i d) (filter_passes (λ (k : Unended). not (number_of k == id)) us i d lt))
      (All-filter (λ (k : Unended). not (number_of k == id)) P us all i d lt)

  pub all-turned : (us : List Unended) (t : Flown) → (is_going t.step ≡ true → Q t.next) → All P us → All Q (jobs_turned us id (Some t))
  all-turned us t next all = go (is_going t.step) next
    where
      go : (b : Bool) → (b ≡ true → Q t.next) → All Q (cond b (with_job us id t.next) (without_job us id))
      go true one = all-with us t.next (one refl) all
      go false one = all-without us all

-- ---- one turn

pub both : (P Q : Unended → Type 0) (us : List Unended) → All P us → All Q us → All (λ k. P k × Q k) us
both P Q us ps qs = λ i d lt. (ps i d lt, qs i d lt)

module _ (f : Flight) (us : List Unended) (b : BookState) (id read : ℕ) (now : Moment) (rings : f.rings ≡ b.rings) (held : HeldJobs f us) where
  pub rings-held : HeldRings f.world b.rings
  rings-held = record {
    spans = subst (λ (rs : List (List Bridge)). All (All (Spans f.world)) rs) rings held.flight.rings;
    own = subst (λ (rs : List (List Bridge)). AreOwn rs) rings held.own;
  }

  pub rings-sound : SoundJobs f us → SoundRings f.world b.rings
  rings-sound sound = subst (λ (rs : List (List Bridge)). All (All (StandsIn f.world)) rs) rings sound.flight.rings

  pub found : (P : Unended → Type 0) → All P us → (u : Unended) → job_at us id ≡ Some u → P u
  found P all u at = All-find P (λ k. number_of k == id) us u all at

  core-here : (u : Unended) → job_at us id ≡ Some u → core_at f.jobs id ≡ Some (core_of u)
  core-here u at = ap (λ (js : List Job). core_at js id) held.cores ∙ (core-found us id ∙ ap (option_map core_of) at)

  abbrev pub then : Unended → World
  then u = run f.world (flown f.world b read now u).exchanges

  pub recovery-leased : (r : Recovery) (d : Docket) → job_at us id ≡ Some (unended.Recovery r d) → KeepsLeased f.leases id (taken f.world b read now r)
  recovery-leased r d at =
      let mine = found (IsHeldBeside f.world f.leases) held.jobs (unended.Recovery r d) at in
      taken-leased f.leases id f.world b read now r (subst (λ (i : ℕ). LeasedRecovery f.leases i r) (found-number us id (unended.Recovery r d) at) mine.1)

  -- a turn's exchanges are with servers that are leased to its job
  pub leased-by : (u : Unended) → job_at us id ≡ Some u → All (λ e. IsLeased f.leases id (server_of e)) (flown f.world b read now u).exchanges
  leased-by (unended.Plan j) at =
      let has = All-find (HasLeases f.leases) (λ (k : Job). k.id == id) f.jobs j held.flight.leased.each (core-here (unended.Plan j) at) in
      subst (λ (i : ℕ). All (λ e. IsLeased f.leases i (server_of e)) (turned f.world read now j).exchanges) (found-number us id (unended.Plan j) at)
      (turn-leased f.leases f.world read now j has).exchanges
  leased-by (unended.Recovery r d) at =
      let t = taken f.world b read now r in
      hooked-has (λ x. All (λ e. IsLeased f.leases id (server_of e)) x.exchanges) d (promoted_in b t) r t (λ s same. (recovery-leased r d at).exchanges)
      (λ s. All-nil (λ e. IsLeased f.leases id (server_of e)))

  other-covered : (u : Unended) → job_at us id ≡ Some u → (k : Unended) → (number_of k ≡ id → ⊥) → IsHeldBeside f.world f.leases k × IsCoveredBeside f.world k → IsCoveredBeside (then u) k
  other-covered u at (unended.Plan j) apart c = tt
  other-covered u at (unended.Recovery r d) apart c =
      others-cover f.leases id r.core.id f.world (flown f.world b read now u).exchanges r (leased-by u at) (λ same. apart (sym same)) c.0.1 c.1

  next-covered : (u : Unended) → IsHeldBeside f.world f.leases u → IsCoveredBeside f.world u → is_going (flown f.world b read now u).step ≡ true → IsCoveredBeside (then u) (flown f.world b read now u).next
  next-covered (unended.Plan j) mine c = λ going. tt
  next-covered (unended.Recovery r d) mine c =
      let t = taken f.world b read now r in
      hooked-has (λ x. is_going x.step ≡ true → CoversSoFar (run f.world x.exchanges) x.recovery) d (promoted_in b t) r t
      (λ s same g. turn-covers f.world b read now r held.flight.placed rings-held mine.0 c (sym same ∙ g)) (λ s g. c)

  next-kept : SoundJobs f us → (u : Unended) → IsHeldBeside f.world f.leases u → IsSoundBeside f.world u → IsCoveredBeside f.world u → IsKeptBeside f.world u → IsKeptBeside (then u) (flown f.world b read now u).next
  next-kept sound (unended.Plan j) mine good c k = tt
  next-kept sound (unended.Recovery r d) mine good c k =
      let t = taken f.world b read now r in
      let kept = taken-kept f.world b read now r held.flight.placed rings-held (rings-sound sound) mine.0 good c k in
      hooked-has (λ x. KeptByChosen (run f.world x.exchanges) x.recovery) d (promoted_in b t) r t (λ s same. kept) (λ s. k)

  next-speaks : (u : Unended) → IsHeldBeside f.world f.leases u → IsSpeakingBeside u → is_going (flown f.world b read now u).step ≡ true → IsSpeakingBeside (flown f.world b read now u).next
  next-speaks (unended.Plan j) mine s = λ going. tt
  next-speaks (unended.Recovery r d) mine s =
      let t = taken f.world b read now r in
      hooked-has (λ x. is_going x.step ≡ true → Speaks x.recovery) d (promoted_in b t) r t (λ own same g. taken-speaks f.world b read now r rings-held mine.0 s (sym same ∙ g)) (λ own g. s)

  next-aimed : (begun : ℕ → Recovery) (u : Unended) → job_at us id ≡ Some u → IsAimedBeside begun u → is_going (flown f.world b read now u).step ≡ true → IsAimedBeside begun (flown f.world b read now u).next
  next-aimed begun (unended.Plan j) at a = λ going. tt
  next-aimed begun (unended.Recovery r d) at a =
      let t = taken f.world b read now r in
      hooked-has (λ x. is_going x.step ≡ true → SameAim (begun x.recovery.core.id) x.recovery) d (promoted_in b t) r t (λ s same g. own (sym same ∙ g)) (λ s g. a)
    where
      own : is_going (taken f.world b read now r).step ≡ true → SameAim (begun (taken f.world b read now r).recovery.core.id) (taken f.world b read now r).recovery
      own going =
          let t = taken f.world b read now r in
          let number : t.recovery.core.id ≡ r.core.id = ((recovery-leased r d at).servers going).number ∙ sym (found-number us id (unended.Recovery r d) at) in
          then-aim (begun t.recovery.core.id) r t.recovery (subst (λ (i : ℕ). SameAim (begun i) r) (sym number) a) (taken-aim f.world b read now r)

  turn-covered : (u : Unended) → job_at us id ≡ Some u → CoveredJobs f us → All (IsCoveredBeside (then u)) (jobs_turned us id (Some (flown f.world b read now u)))
  turn-covered u at covered =
      all-turned (λ k. IsHeldBeside f.world f.leases k × IsCoveredBeside f.world k) (IsCoveredBeside (then u)) id (other-covered u at) us (flown f.world b read now u)
      (next-covered u (found (IsHeldBeside f.world f.leases) held.jobs u at) (found (IsCoveredBeside f.world) covered.jobs u at))
      (both (IsHeldBeside f.world f.leases) (IsCoveredBeside f.world) us held.jobs covered.jobs)

  turn-kept : (u : Unended) → job_at us id ≡ Some u → SoundJobs f us → CoveredJobs f us → KeptJobs f us → All (IsKeptBeside (then u)) (jobs_turned us id (Some (flown f.world b read now u)))
  turn-kept u at sound covered kept =
      all-turned (IsKeptBeside f.world) (IsKeptBeside (then u)) id
      (λ k apart h. run-kept f.world (flown f.world b read now u).exchanges k held.flight.placed (flown-allowed f.world b read now u) h) us (flown f.world b read now u)
      (λ going. next-kept sound u (found (IsHeldBeside f.world f.leases) held.jobs u at) (found (IsSoundBeside f.world) sound.jobs u at) (found (IsCoveredBeside f.world) covered.jobs u at)
      (found (IsKeptBeside f.world) kept.jobs u at)) kept.jobs

  turn-speaking : (u : Unended) → job_at us id ≡ Some u → SpeakingJobs us → SpeakingJobs (jobs_turned us id (Some (flown f.world b read now u)))
  turn-speaking u at speaking = record {
    jobs =
        all-turned IsSpeakingBeside IsSpeakingBeside id (λ k apart h. h) us (flown f.world b read now u)
        (next-speaks u (found (IsHeldBeside f.world f.leases) held.jobs u at) (found IsSpeakingBeside speaking.jobs u at)) speaking.jobs;
  }

  turn-aimed : (begun : ℕ → Recovery) (u : Unended) → job_at us id ≡ Some u → AimedJobs begun us → AimedJobs begun (jobs_turned us id (Some (flown f.world b read now u)))
  turn-aimed begun u at aimed = record {
    jobs =
        all-turned (IsAimedBeside begun) (IsAimedBeside begun) id (λ k apart h. h) us (flown f.world b read now u)
        (next-aimed begun u at (found (IsAimedBeside begun) aimed.jobs u at)) aimed.jobs;
  }

  -- the `Passage`'s world is that after the turn's exchanges
  pub world-then : (keeps : Bool) (u : Unended) → job_at us id ≡ Some u → (passed f (passage_of f.world b read now keeps id u)).world ≡ then u
  world-then keeps (unended.Plan j) at =
      ap (λ (o : Option Job). (turned_by f id read now keeps o).world) (core-here (unended.Plan j) at)
      ∙ world-stored_if keeps (after_turn f id (turned f.world read now j)) (turned f.world read now j).observation
  world-then keeps (unended.Recovery r d) at =
      let t = (hooked f.world b read now r d).taken in
      world-stored_if keeps (after_turn f id (as_turn id t)) t.observation

  -- ---- the turn of a number, if there may be no such job

  pub number-covered : (keeps : Option Observation → Bool) (o : Option Unended) → job_at us id ≡ o → CoveredJobs f us
      → CoveredJobs (passing f (passages_by f.world b read now keeps id o)) (jobs_turned us id (option_map (flown f.world b read now) o))
  number-covered keeps None at covered = covered
  number-covered keeps (Some u) at covered = record {
    jobs =
        subst (λ (w : World). All (IsCoveredBeside w) (jobs_turned us id (Some (flown f.world b read now u))))
        (sym (world-then (keeps (flown f.world b read now u).observation) u at)) (turn-covered u at covered);
  }

  pub number-kept : (keeps : Option Observation → Bool) (o : Option Unended) → job_at us id ≡ o → SoundJobs f us → CoveredJobs f us → KeptJobs f us
      → KeptJobs (passing f (passages_by f.world b read now keeps id o)) (jobs_turned us id (option_map (flown f.world b read now) o))
  number-kept keeps None at sound covered kept = kept
  number-kept keeps (Some u) at sound covered kept = record {
    jobs =
        subst (λ (w : World). All (IsKeptBeside w) (jobs_turned us id (Some (flown f.world b read now u))))
        (sym (world-then (keeps (flown f.world b read now u).observation) u at)) (turn-kept u at sound covered kept);
  }

  pub number-speaking : (o : Option Unended) → job_at us id ≡ o → SpeakingJobs us → SpeakingJobs (jobs_turned us id (option_map (flown f.world b read now) o))
  number-speaking None at speaking = speaking
  number-speaking (Some u) at speaking = turn-speaking u at speaking

  pub number-aimed : (begun : ℕ → Recovery) (o : Option Unended) → job_at us id ≡ o → AimedJobs begun us → AimedJobs begun (jobs_turned us id (option_map (flown f.world b read now) o))
  number-aimed begun None at aimed = aimed
  number-aimed begun (Some u) at aimed = turn-aimed begun u at aimed
