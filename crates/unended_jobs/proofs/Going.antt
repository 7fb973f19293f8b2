-- Turns of unended jobs.
use Rattle.std.proofs.Common.{◌≡◌, ℕ, ◌<◌, ◌^◌, true, length, sym, subst, ◌∙◌, refl, Some, IfSome}
use Rattle.unended_jobs.proofs.Prelude.{AllAllowed, BookState, Docket, IsReady, IsReadyRecovery, IsUnended, Moment, Observation, Recovery, Unended}
use Rattle.unended_jobs.proofs.Prelude.{World, flown, hooked, id-after, is_going, named-after, number_of, promoted_in, range-after, renumbered, taken}
use Rattle.unended_jobs.proofs.Prelude.{taken-allowed, taken-ends, taken-leads, taken-of, taken-shaped, turn-allowed, turn-moves, turns_of}
use Rattle.unended_jobs.proofs.Prelude.unended
use Rattle.unended_jobs.proofs.Hooked.{hooked-fewer, hooked-has}
use Rattle.unended_jobs.proofs.Seeing.{IsSightOf, plan-sees, recovery-sees}

pub flown-allowed : (w : World) (b : BookState) (read : ℕ) (now : Moment) (u : Unended) → AllAllowed w (flown w b read now u).exchanges
flown-allowed w b read now (unended.Plan j) = turn-allowed w read now j
flown-allowed w b read now (unended.Recovery r d) =
    let t = taken w b read now r in
    hooked-has (λ x. AllAllowed w x.exchanges) d (promoted_in b t) r t (λ s same. taken-allowed w b read now r) (λ s. tt)

pub flown-sees : (w : World) (b : BookState) (read : ℕ) (now : Moment) (u : Unended) (o : Observation) → IsReady (length w.servers) u → (flown w b read now u).observation ≡ Some o → IsSightOf w read now o
flown-sees w b read now (unended.Plan j) o is h = plan-sees w read now j o is.named.ops h
flown-sees w b read now (unended.Recovery r d) o is h =
    let t = taken w b read now r in
    hooked-has (λ x. x.observation ≡ Some o → IsSightOf w read now o) d (promoted_in b t) r t (λ s same seen. recovery-sees w b read now r o is.named seen) (λ s seen. absurd cc) h

-- the numbers of one that is within them

pub ready-of : (count : ℕ) (u : Unended) → IsUnended count u → IsReady count u
ready-of count (unended.Plan j) is = record { named = is.named; waited = is.waited }
ready-of count (unended.Recovery r d) is = is.ready

recovery-number : (count : ℕ) (w : World) (b : BookState) (read : ℕ) (now : Moment) (r : Recovery) → IsReadyRecovery count r → is_going (taken w b read now r).step ≡ true → (taken w b read now r).recovery.core.id ≡ r.core.id
recovery-number count w b read now r is g = ((taken-of (λ n. n < count) (λ n. n < count) r.core.id (λ n h. h) w b read now r is.named).servers g).number

-- whatever the turn comes to
pub recovery-promotes : (count : ℕ) (w : World) (b : BookState) (read : ℕ) (now : Moment) (r : Recovery) → IsReadyRecovery count r → IfSome (taken w b read now r).recovery.outcome.promoted (λ n. n.0 < count)
recovery-promotes count w b read now r is = taken-leads (λ n. n < count) r.core.id w b read now r is.named is.promoted

recovery-ready : (count : ℕ) (w : World) (b : BookState) (read : ℕ) (now : Moment) (r : Recovery) → IsReadyRecovery count r → is_going (taken w b read now r).step ≡ true → IsReadyRecovery count (taken w b read now r).recovery
recovery-ready count w b read now r is g = record {
  named = renumbered (λ n. n < count) (λ n. n < count) r.core.id (taken w b read now r).recovery ((taken-of (λ n. n < count) (λ n. n < count) r.core.id (λ n h. h) w b read now r is.named).servers g);
  promoted = recovery-promotes count w b read now r is;
  shaped = taken-shaped w b read now r is.shaped g;
}

-- with hooks

hooked-number : (count : ℕ) (w : World) (b : BookState) (read : ℕ) (now : Moment) (r : Recovery) (d : Docket) → IsReadyRecovery count r → is_going (hooked w b read now r d).taken.step ≡ true
    → (hooked w b read now r d).taken.recovery.core.id ≡ r.core.id
hooked-number count w b read now r d is =
    let t = taken w b read now r in
    hooked-has (λ x. is_going x.step ≡ true → x.recovery.core.id ≡ r.core.id) d (promoted_in b t) r t (λ s same g. recovery-number count w b read now r is (sym same ∙ g)) (λ s g. refl)

hooked-ready : (count : ℕ) (w : World) (b : BookState) (read : ℕ) (now : Moment) (r : Recovery) (d : Docket) → IsReadyRecovery count r → is_going (hooked w b read now r d).taken.step ≡ true
    → IsReadyRecovery count (hooked w b read now r d).taken.recovery
hooked-ready count w b read now r d is =
    let t = taken w b read now r in
    hooked-has (λ x. is_going x.step ≡ true → IsReadyRecovery count x.recovery) d (promoted_in b t) r t (λ s same g. recovery-ready count w b read now r is (sym same ∙ g)) (λ s g. is)

pub flown-number : (count : ℕ) (w : World) (b : BookState) (read : ℕ) (now : Moment) (u : Unended) → IsReady count u → is_going (flown w b read now u).step ≡ true → number_of (flown w b read now u).next ≡ number_of u
flown-number count w b read now (unended.Plan j) is g = id-after count w read now j is.named
flown-number count w b read now (unended.Recovery r d) is g = hooked-number count w b read now r d is g

pub flown-ready : (count : ℕ) (w : World) (b : BookState) (read : ℕ) (now : Moment) (u : Unended) → IsReady count u → is_going (flown w b read now u).step ≡ true → IsReady count (flown w b read now u).next
flown-ready count w b read now (unended.Plan j) is g = record { named = named-after count w read now j is.named; waited = (turn-moves w read now j is.waited).waited }
flown-ready count w b read now (unended.Recovery r d) is g = hooked-ready count w b read now r d is g

pub flown-unended : (count : ℕ) (w : World) (b : BookState) (read : ℕ) (now : Moment) (u : Unended) → IsUnended count u → is_going (flown w b read now u).step ≡ true → IsUnended count (flown w b read now u).next
flown-unended count w b read now (unended.Plan j) is g = range-after count w read now j is
flown-unended count w b read now (unended.Recovery r d) is g =
    let number = hooked-number count w b read now r d is.ready g in
    record { id = subst (λ (n : ℕ). n < 2 ^ 64) (sym number) is.id; ready = hooked-ready count w b read now r d is.ready g }

pub flown-fewer : (count : ℕ) (w : World) (b : BookState) (read : ℕ) (now : Moment) (u : Unended) → IsReady count u → is_going (flown w b read now u).step ≡ true → turns_of (flown w b read now u).next < turns_of u
flown-fewer count w b read now (unended.Plan j) is g = (turn-moves w read now j is.waited).fewer g
flown-fewer count w b read now (unended.Recovery r d) is g =
    let t = taken w b read now r in
    hooked-fewer d (promoted_in b t) r t (taken-ends w b read now r is.shaped) g
