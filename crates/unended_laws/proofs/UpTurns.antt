-- Turns of unended jobs leave recoveries up, and so they end.
use Rattle.std.proofs.Common.{◌≡◌, ◌∙◌, ℕ, Bool, true, List, [], sym, subst, Option, Some, None, All}
use Rattle.unended_laws.proofs.Prelude.{All-nil, All-weaker, BookState, ClosesFirst, CoveredJobs, CoversSoFar, Decisions, Docket, Exchange}
use Rattle.unended_laws.proofs.Prelude.{ExplainsTruly, Fact, Flight, HeldJobs, HeldRecovery, IsCoveredBeside, IsDoneIn, IsHeldBeside}
use Rattle.unended_laws.proofs.Prelude.{IsNeverInterfered, IsSpeakingBeside, IsUpBeside, KeepsUp, Line, Means, Moment, Observation, OpensAlone}
use Rattle.unended_laws.proofs.Prelude.{Purpose, Recovery, RecoveryTurn, ServerNo, SpeakingJobs, Speaks, Unended, UpJobs, World, begun_recovery}
use Rattle.unended_laws.proofs.Prelude.{flown, found-number, ground_of, hooked-has, is_going, is_outside, jobs_turned, number_of}
use Rattle.unended_laws.proofs.Prelude.{option_map, passages_by, passed, passing, promoted_in, recovery_then, run, taken, taken_in, world_then}
use Rattle.unended_laws.proofs.Prelude.pass
use Rattle.unended_laws.proofs.Prelude.unended
use Rattle.unended_jobs.specs.Jobs.{job_at}
use Rattle.unended_laws.proofs.Alone.{begun-alone, opens-alone, others-alone, outside-alone, taken-alone}
use Rattle.unended_laws.proofs.AtRest.{begun-rests, others-rest, outside-rests}
use Rattle.unended_laws.proofs.Lasting.{begun-up, others-up, outside-up}
use Rattle.unended_laws.proofs.CoveredTurning.{all-turned, both, found, leased-by, recovery-leased, rings-held, then, world-then}
use Rattle.unended_laws.proofs.RestTurns.{never-interfered, taken-rests}
use Rattle.unended_laws.proofs.Upkeeping.{finished-keeps, taken-keeps, turn-closes}

module _ (P : Fact → Bool) (mine : ℕ) where
  abbrev Up : World → Unended → Type 0
  Up w u = number_of u ≡ mine → IsUpBeside P w u

  -- ---- what is no job's turn

  pub exchange-ups : (f : Flight) (us : List Unended) (e : Exchange) → is_outside e ≡ true → UpJobs P mine f us → UpJobs P mine (passed f (pass.Exchanging e)) us
  exchange-ups f us e out up = record { jobs = All-weaker (Up f.world) (Up (passed f (pass.Exchanging e)).world) (λ u h. go u h) us up.jobs }
    where
      go : (u : Unended) → Up f.world u → Up (passed f (pass.Exchanging e)).world u
      go (unended.Plan j) h = λ same. tt
      go (unended.Recovery r docket) h = λ same. (outside-up P f.world e r out (h same).0, outside-rests f.world e r out (h same).1, outside-alone f.world e r out (h same).2)

  pub none-ups : (f : Flight) → UpJobs P mine f []
  none-ups f = record { jobs = All-nil (Up f.world) }

  pub recovery-up : (w : World) (u : Purpose) (by : Means) (id wait : ℕ) (f : ServerNo) (replicas order : List ServerNo) (docket : Docket)
      → IsUpBeside P w (unended.Recovery (begun_recovery u by id wait f replicas order) docket)
  recovery-up w u by id wait f replicas order docket = (begun-up P w u by id wait f replicas order, begun-rests w u by id wait f replicas order, begun-alone w u by id wait f replicas order)

  -- ---- one turn

  module _ (f : Flight) (us : List Unended) (b : BookState) (id read : ℕ) (now : Moment) (rings : f.rings ≡ b.rings) (held : HeldJobs f us) (covered : CoveredJobs f us) (speaking : SpeakingJobs us)
      (explains : (r : Recovery) (docket : Docket) → job_at us id ≡ Some (unended.Recovery r docket) → r.core.id ≡ mine → ExplainsTruly f.world b now r P) where
    other-up : (u : Unended) → job_at us id ≡ Some u → (k : Unended) → (number_of k ≡ id → ⊥) → IsHeldBeside f.world f.leases k × Up f.world k → Up (then f us b id read now rings held u) k
    other-up u at (unended.Plan j) apart c = λ same. tt
    other-up u at (unended.Recovery r d) apart c = λ same. (
      others-up P f.leases id r.core.id f.world (flown f.world b read now u).exchanges r (leased-by f us b id read now rings held u at) (λ e. apart (sym e)) c.0.1 (c.1 same).0,
      others-rest f.leases id r.core.id f.world (flown f.world b read now u).exchanges r (leased-by f us b id read now rings held u at) (λ e. apart (sym e)) c.0.1 (c.1 same).1,
      others-alone f.leases id r.core.id f.world (flown f.world b read now u).exchanges r (leased-by f us b id read now rings held u at) (λ e. apart (sym e)) c.0.1 (c.1 same).2,
    )

    next-up : (u : Unended) → job_at us id ≡ Some u → Up f.world u → is_going (flown f.world b read now u).step ≡ true → Up (then f us b id read now rings held u) (flown f.world b read now u).next
    next-up (unended.Plan j) at up = λ going same. tt
    next-up (unended.Recovery r d) at up =
        let t = taken f.world b read now r in
        hooked-has (λ x. is_going x.step ≡ true → x.recovery.core.id ≡ mine → IsUpBeside P (run f.world x.exchanges) (unended.Recovery x.recovery d)) d (promoted_in b t) r t (λ s same g e. own (sym same ∙ g) e) (λ s g e. up e)
      where
        own : is_going (taken f.world b read now r).step ≡ true → (taken f.world b read now r).recovery.core.id ≡ mine
            → IsUpBeside P (run f.world (taken f.world b read now r).exchanges) (unended.Recovery (taken f.world b read now r).recovery d)
        own going e = (
          taken-keeps f.world b now r P (explains r d at same) read held.flight.placed (rings-held f us b id read now rings held) here covers speaks.says (up same).0 going,
          taken-rests f.world b now r P (explains r d at same) read held.flight.placed (rings-held f us b id read now rings held) here covers speaks (up same).0 (up same).1 going,
          taken-alone f.world b now r P (explains r d at same) read held.flight.placed (rings-held f us b id read now rings held) here covers speaks (up same).0 (up same).2 going,
        )
          where
            same : r.core.id ≡ mine
            same = found-number us id (unended.Recovery r d) at ∙ (sym ((recovery-leased f us b id read now rings held r d at).servers going).number ∙ e)

            here : HeldRecovery f.world r
            here = (found f us b id read now rings held (IsHeldBeside f.world f.leases) held.jobs (unended.Recovery r d) at).0

            covers : CoversSoFar f.world r
            covers = found f us b id read now rings held (IsCoveredBeside f.world) covered.jobs (unended.Recovery r d) at

            speaks : Speaks r
            speaks = found f us b id read now rings held IsSpeakingBeside speaking.jobs (unended.Recovery r d) at

    turn-up : (u : Unended) → job_at us id ≡ Some u → UpJobs P mine f us → All (Up (then f us b id read now rings held u)) (jobs_turned us id (Some (flown f.world b read now u)))
    turn-up u at up =
        all-turned (λ k. IsHeldBeside f.world f.leases k × Up f.world k) (Up (then f us b id read now rings held u)) id (other-up u at) us (flown f.world b read now u)
        (next-up u at (found f us b id read now rings held (Up f.world) up.jobs u at)) (both (IsHeldBeside f.world f.leases) (Up f.world) us held.jobs up.jobs)

    -- the turn of a number, if there may be no such job
    pub number-up : (keeps : Option Observation → Bool) (o : Option Unended) → job_at us id ≡ o → UpJobs P mine f us
        → UpJobs P mine (passing f (passages_by f.world b read now keeps id o)) (jobs_turned us id (option_map (flown f.world b read now) o))
    number-up keeps None at up = up
    number-up keeps (Some u) at up = record {
      jobs =
          subst (λ (w : World). All (Up w) (jobs_turned us id (Some (flown f.world b read now u))))
          (sym (world-then f us b id read now rings held (keeps (flown f.world b read now u).observation) u at)) (turn-up u at up);
    }

  -- ---- the turn of a recovery

  module _ (f : Flight) (us : List Unended) (t : RecoveryTurn f us) (held : HeldJobs f us) (covered : CoveredJobs f us) (speaking : SpeakingJobs us)
      (explains : ExplainsTruly f.world t.book t.at_moment t.recovery P) (up : UpJobs P mine f us) (same : t.recovery.core.id ≡ mine) where
    here : (Q : Unended → Type 0) → All Q us → Q (unended.Recovery t.recovery t.docket)
    here Q all = found f us t.book t.id t.at_read t.at_moment t.rings held Q all (unended.Recovery t.recovery t.docket) t.found

    pub done-ups : (lines : List Line) → IsDoneIn f us t lines → KeepsUp P (world_then f us t) (recovery_then f us t)
    done-ups lines done =
        finished-keeps f.world t.book t.at_moment t.recovery P explains t.at_read held.flight.placed (rings-held f us t.book t.id t.at_read t.at_moment t.rings held)
        (here (IsHeldBeside f.world f.leases) held.jobs).0 (here (IsCoveredBeside f.world) covered.jobs) (here IsSpeakingBeside speaking.jobs).says (here (Up f.world) up.jobs same).0 lines done

    pub turn-shuts : is_going (taken_in f us t).step ≡ true → All (ClosesFirst f.world t.recovery) (taken_in f us t).exchanges
    turn-shuts going =
        turn-closes f.world t.book t.at_read t.at_moment t.recovery P held.flight.placed (rings-held f us t.book t.id t.at_read t.at_moment t.rings held)
        (here (IsHeldBeside f.world f.leases) held.jobs).0 (here (IsCoveredBeside f.world) covered.jobs) (here IsSpeakingBeside speaking.jobs) (here (Up f.world) up.jobs same).0 going

    -- no attachment by which a replica goes its way finds it elsewhere
    pub turn-finds : (d : Recovery) → Decisions (ground_of f.world t.book t.at_moment) t.recovery d → IsNeverInterfered f.world d
    turn-finds d so =
        never-interfered f.world t.book t.at_moment t.recovery P explains t.at_read held.flight.placed (rings-held f us t.book t.id t.at_read t.at_moment t.rings held)
        (here (IsHeldBeside f.world f.leases) held.jobs).0 (here (IsCoveredBeside f.world) covered.jobs) (here IsSpeakingBeside speaking.jobs) (here (Up f.world) up.jobs same).0
        (here (Up f.world) up.jobs same).1 d so

    -- a takeover's closed master has no source
    pub turn-stands : (d : Recovery) → Decisions (ground_of f.world t.book t.at_moment) t.recovery d → OpensAlone f.world d
    turn-stands d so =
        opens-alone f.world t.book t.at_moment t.recovery P explains t.at_read held.flight.placed (rings-held f us t.book t.id t.at_read t.at_moment t.rings held)
        (here (IsHeldBeside f.world f.leases) held.jobs).0 (here (IsCoveredBeside f.world) covered.jobs) (here IsSpeakingBeside speaking.jobs) (here (Up f.world) up.jobs same).0
        (here (Up f.world) up.jobs same).2 d so
