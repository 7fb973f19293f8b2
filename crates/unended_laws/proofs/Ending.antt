-- Unended recoveries that are done have covered their replicas, and what they owe beside.
use Rattle.std.proofs.Common.{◌≡◌, ◌∙◌, ℕ, ◌+◌, ◌<◌, Bool, true, false, List, [], ◌∷◌, cond, refl, sym, ap, subst, Option, Some, None, inl, inr, arith, All, IfSome, ◌==◌}
use Rattle.unended_laws.proofs.Prelude.{AimedJobs, All-cons, All-contains, All-head, All-tail, All-weaker, AreSourcesOf, AsksAsDue, AttachesAsSent, BeginsWhole}
use Rattle.unended_laws.proofs.Prelude.{CoveredJobs, Covers, CoversSoFar, DecidesOverAll, Decisions, ExplainsTruly, Fact, Flight, Follower, Follows}
use Rattle.unended_laws.proofs.Prelude.{HasOnePlace, HeldJobs, HeldRecovery, HeldRings, IsAimedBeside, IsAsNamed, IsBeginning, IsChain}
use Rattle.unended_laws.proofs.Prelude.{IsCoveredBeside, IsDoneIn, IsExplained, IsHeldBeside, IsKeptBeside, IsNamedOutcome, IsNamedRecovery}
use Rattle.unended_laws.proofs.Prelude.{IsSoundBeside, IsSpeakingBeside, IsTold, Keeps, KeptByChosen, KeptJobs, Line, LostReplica, MakesWell, Outcome}
use Rattle.unended_laws.proofs.Prelude.{Purpose, Recovery, RecoveryTurn, Safe, SameAim, ServerNo, SoundJobs, SparesItsMaster, SpeakingJobs, Speaks, Unended, World}
use Rattle.unended_laws.proofs.Prelude.{decided-chooses, eqb-true, first_source, follower_nos, found-number, ground_of, is_going, leader, listed}
use Rattle.unended_laws.proofs.Prelude.{lost_nos, old-begins, outcome_then, owed, promoted-keeps, recovery_then, replica-placed, same_Some, self-all}
use Rattle.unended_laws.proofs.Prelude.{self-times, taken-aim, taken-explained, taken-kept, taken_in, then-aim, times, turn-asks, turn-attaches, turn-begins}
use Rattle.unended_laws.proofs.Prelude.{turn-chain, turn-done, turn-makes, world_then}
use Rattle.unended_laws.proofs.Prelude.lost
use Rattle.unended_laws.proofs.Prelude.purpose
use Rattle.unended_laws.proofs.Prelude.unended
use Rattle.unended_laws.proofs.CoveredTurning.{found, rings-held, rings-sound}
use Rattle.unended_laws.proofs.Sparing.{spares-master}

-- ---- the servers of an outcome are those of the recovery

module _ (count : ℕ) where
  -- who is in a list of servers that are there is there
  listed-there : (ns : List ServerNo) → All (λ n. n.0 < count) ns → (n : ℕ) → 0 < times n ns → n < count
  listed-there [] all n h = absurd (omega (arith, h))
  listed-there (k ∷ ks) all n h = go (k.0 == n) refl h (listed-there ks (All-tail (λ (m : ServerNo). m.0 < count) k ks all) n)
    where
      go : (b : Bool) → (k.0 == n) ≡ b → 0 < cond b 1 0 + times n ks → (0 < times n ks → n < count) → n < count
      go true e g rest = subst (λ (i : ℕ). i < count) (eqb-true k.0 n e) (All-head (λ (m : ServerNo). m.0 < count) k ks all)
      go false e g rest = rest (omega (arith, g))

  owed-there : (u : Purpose) (f : ServerNo) (ns : List ServerNo) → f.0 < count → All (λ n. n.0 < count) ns → All (λ n. n.0 < count) (owed u f ns)
  owed-there (purpose.Takeover d) f ns source all = All-cons (λ (n : ServerNo). n.0 < count) f ns source all
  owed-there _ f ns source all = all

  module _ (w : World) (u : Purpose) (f : ServerNo) (ns : List ServerNo) (o : Outcome) (c : Covers w u f ns o) (source : f.0 < count) (all : All (λ n. n.0 < count) ns) (first : (s : ServerNo) → u ≡ purpose.Intermediate s → s.0 < count) where
    placed-there : (n : ℕ) → 0 < times n (leader u o.promoted) + (times n (follower_nos o.followers) + times n (lost_nos o.lost)) → n < count
    placed-there n h = listed-there (owed u f ns) (owed-there u f ns source all) n (let e = c.once n in omega (arith, e, h))

    promoted-there : (p : ServerNo) → o.promoted ≡ Some p → p.0 < count
    promoted-there p e = go u refl
      where
        as-placed : leader u o.promoted ≡ listed o.promoted → p.0 < count
        as-placed same =
            let is : leader u o.promoted ≡ p ∷ [] = same ∙ ap listed e in
            let here : 0 < times p.0 (leader u o.promoted) = subst (λ (ks : List ServerNo). 0 < times p.0 ks) (sym is) (self-times p []) in
            placed-there p.0 (omega (arith, here))

        go : (v : Purpose) → u ≡ v → p.0 < count
        go (purpose.Intermediate s) h =
            let named : o.promoted ≡ Some s = subst (λ (x : Purpose). IsAsNamed x f o) h c.named in
            subst (λ (n : ServerNo). n.0 < count) (same_Some s p (sym named ∙ e)) (first s h)
        go _ h = as-placed (ap (λ (x : Purpose). leader x o.promoted) h)

    followers-there : All (λ x. x.no.0 < count) o.followers
    followers-there =
        All-weaker (λ (x : Follower). 0 < times x.no.0 (follower_nos o.followers)) (λ (x : Follower). x.no.0 < count) (λ x h. placed-there x.no.0 (omega (arith, h))) o.followers
        (self-all (λ (x : Follower). x.no) o.followers)

    lost-there : All (λ l. l.no.0 < count) o.lost
    lost-there =
        All-weaker (λ (l : LostReplica). 0 < times l.no.0 (lost_nos o.lost)) (λ (l : LostReplica). l.no.0 < count) (λ l h. placed-there l.no.0 (omega (arith, h))) o.lost
        (self-all (λ (l : LostReplica). l.no) o.lost)

    source-there : (x : Follower) → Follows u o x → x.source.0 < count
    source-there x (inl e) = promoted-there x.source e
    source-there x (inr y) = All-contains (λ (z : Follower). z.no.0 < count) o.followers (record { no = x.source; source = y.0 }) followers-there y.3

    by-some : (p : Option ServerNo) → o.promoted ≡ p → IfSome p (λ n. n.0 < count)
    by-some None e = tt
    by-some (Some p) e = promoted-there p e

    outcome-there : IsNamedOutcome count o
    outcome-there = record {
      promoted = by-some o.promoted refl;
      followers = followers-there;
      sources = All-weaker (Follows u o) (λ (x : Follower). x.source.0 < count) source-there o.followers c.follow;
      lost = lost-there;
    }

-- ---- the turn of a recovery

module _ (f : Flight) (us : List Unended) (t : RecoveryTurn f us) where
  pub turn-aim : SameAim t.recovery (recovery_then f us t)
  turn-aim = taken-aim f.world t.book t.at_read t.at_moment t.recovery

  at-failed : (P : ServerNo → Type 0) → P (recovery_then f us t).failed → P t.recovery.failed
  at-failed P h = subst P turn-aim.failed h

  module _ (held : HeldJobs f us) where
    here : (P : Unended → Type 0) → All P us → P (unended.Recovery t.recovery t.docket)
    here P all = found f us t.book t.id t.at_read t.at_moment t.rings held P all (unended.Recovery t.recovery t.docket) t.found

    pub last-aim : (begun : ℕ → Recovery) → AimedJobs begun us → SameAim (begun t.id) (recovery_then f us t)
    last-aim begun aimed =
        let was = here (IsAimedBeside begun) aimed.jobs in
        then-aim (begun t.id) t.recovery (recovery_then f us t)
        (subst (λ (i : ℕ). SameAim (begun i) t.recovery) (found-number us t.id (unended.Recovery t.recovery t.docket) t.found) was) turn-aim

    rings : HeldRings f.world t.book.rings
    rings = rings-held f us t.book t.id t.at_read t.at_moment t.rings held

    mine : HeldRecovery f.world t.recovery
    mine = (here (IsHeldBeside f.world f.leases) held.jobs).0

    pub turn-explained : (P : Fact → Bool) → SpeakingJobs us → ExplainsTruly f.world t.book t.at_moment t.recovery P → IsExplained P t.recovery → IsExplained P (recovery_then f us t)
    turn-explained P speaking explains lost = taken-explained f.world t.book t.at_read t.at_moment t.recovery P rings mine (here IsSpeakingBeside speaking.jobs) explains lost

    pub turn-rings : HeldRings f.world t.book.rings
    turn-rings = rings

    pub turn-held : HeldRecovery f.world t.recovery
    turn-held = mine

    pub turn-speaks : SpeakingJobs us → Speaks t.recovery
    turn-speaks speaking = here IsSpeakingBeside speaking.jobs

    pub turn-sends : (P : Fact → Bool) → SpeakingJobs us → ExplainsTruly f.world t.book t.at_moment t.recovery P → IsExplained P t.recovery → is_going (taken_in f us t).step ≡ true
        → AttachesAsSent P (ground_of f.world t.book t.at_moment) t.recovery (taken_in f us t).exchanges
    turn-sends P speaking explains lost going =
        turn-attaches f.world t.book t.at_read t.at_moment t.recovery P rings mine (turn-speaks speaking) explains lost.sent going

    pub turn-due : SpeakingJobs us → is_going (taken_in f us t).step ≡ true → AsksAsDue (ground_of f.world t.book t.at_moment) t.recovery (taken_in f us t).exchanges
    turn-due speaking going = turn-asks f.world t.book t.at_read t.at_moment t.recovery rings mine (turn-speaks speaking) going

    pub turn-whole : SpeakingJobs us → is_going (taken_in f us t).step ≡ true → BeginsWhole (ground_of f.world t.book t.at_moment) t.recovery (taken_in f us t)
    turn-whole speaking going = turn-begins f.world t.book t.at_moment t.recovery t.at_read rings mine (turn-speaks speaking) going

    module _ (covered : CoveredJobs f us) where
      so-far : CoversSoFar f.world t.recovery
      so-far = here (IsCoveredBeside f.world) covered.jobs

      pub turn-chooses : (d : Recovery) → Decisions (ground_of f.world t.book t.at_moment) t.recovery d → DecidesOverAll d
      turn-chooses d so = decided-chooses f.world t.book t.at_read t.at_moment t.recovery held.flight.placed rings mine so-far d so

      pub turn-changes : is_going (taken_in f us t).step ≡ true → MakesWell f.world (ground_of f.world t.book t.at_moment) t.recovery (taken_in f us t).exchanges
      turn-changes going = turn-makes f.world t.book t.at_read t.at_moment t.recovery held.flight.placed rings mine so-far going

      pub turn-spares : SpeakingJobs us → is_going (taken_in f us t).step ≡ true → SparesItsMaster (ground_of f.world t.book t.at_moment) t.recovery (taken_in f us t).exchanges
      turn-spares speaking going = spares-master f.world t.book t.at_read t.at_moment t.recovery held.flight.placed rings mine so-far (turn-speaks speaking) going

      turn-keeps : SoundJobs f us → KeptJobs f us → KeptByChosen (world_then f us t) (recovery_then f us t)
      turn-keeps sound kept =
          taken-kept f.world t.book t.at_read t.at_moment t.recovery held.flight.placed rings (rings-sound f us t.book t.id t.at_read t.at_moment t.rings held sound) mine
          (here (IsSoundBeside f.world) sound.jobs) so-far (here (IsKeptBeside f.world) kept.jobs)

      module _ (lines : List Line) (done : IsDoneIn f us t lines) where
        pub done-told : IsTold (world_then f us t) (recovery_then f us t) lines
        done-told = turn-done f.world t.book t.at_read t.at_moment t.recovery held.flight.placed rings mine so-far lines done

        pub done-chain : IsChain (recovery_then f us t)
        done-chain = turn-chain f.world t.book t.at_read t.at_moment t.recovery held.flight.placed rings mine so-far lines done

        -- by what the recovery was before it
        done-covers : Covers (world_then f us t) t.recovery.purpose t.recovery.failed t.recovery.replicas (outcome_then f us t)
        done-covers =
            subst (λ (ns : List ServerNo). Covers (world_then f us t) t.recovery.purpose t.recovery.failed ns (outcome_then f us t)) turn-aim.replicas
            (at-failed (λ n. Covers (world_then f us t) t.recovery.purpose n (recovery_then f us t).replicas (outcome_then f us t))
            (subst (λ (u : Purpose). Covers (world_then f us t) u (recovery_then f us t).failed (recovery_then f us t).replicas (outcome_then f us t)) turn-aim.purpose done-told.covers))

        pub done-placed : (n : ℕ) → 0 < times n t.recovery.replicas → HasOnePlace t.recovery.purpose (outcome_then f us t) n
        done-placed n h = replica-placed (world_then f us t) t.recovery.purpose t.recovery.failed t.recovery.replicas (outcome_then f us t) done-covers n h

        pub done-named : (count : ℕ) → IsNamedRecovery count t.recovery → IsNamedOutcome count (outcome_then f us t)
        done-named count named =
            outcome-there count (world_then f us t) t.recovery.purpose t.recovery.failed t.recovery.replicas (outcome_then f us t) done-covers named.failed named.replicas successor
          where
            -- a successor was chosen from the start
            successor : (s : ServerNo) → t.recovery.purpose ≡ purpose.Intermediate s → s.0 < count
            successor s is =
                let chosen : t.recovery.chosen ≡ Some s = subst (λ (u : Purpose). IfSome (first_source u) (λ n. t.recovery.chosen ≡ Some n)) is so-far.at.named in
                let there : IfSome t.recovery.chosen (λ n. n.0 < count) =
                subst (λ (u : Purpose). AreSourcesOf (λ n. n < count) (λ n. n < count) u t.recovery.failed t.recovery.chosen) is named.sources in
                subst (λ (o : Option ServerNo). IfSome o (λ n. n.0 < count)) chosen there

        pub done-promoted : (n : ServerNo) → SoundJobs f us → KeptJobs f us → Safe (world_then f us t) → (outcome_then f us t).promoted ≡ Some n
            → All (λ s. Keeps (world_then f us t) t.recovery.failed.0 s.exec n.0) (recovery_then f us t).eligible
        done-promoted n sound kept safe is =
            at-failed (λ m. All (λ s. Keeps (world_then f us t) m.0 s.exec n.0) (recovery_then f us t).eligible)
            (promoted-keeps (world_then f us t) (recovery_then f us t) lines n safe (turn-keeps sound kept) done-told is)

        pub done-old : (d : ServerNo) → Safe (world_then f us t) → t.recovery.purpose ≡ purpose.Takeover d → IsBeginning (world_then f us t) t.recovery.failed.0 d.0
        done-old d safe is =
            at-failed (λ n. IsBeginning (world_then f us t) n.0 d.0) (old-begins (world_then f us t) (recovery_then f us t) lines d safe done-told (turn-aim.purpose ∙ is))
