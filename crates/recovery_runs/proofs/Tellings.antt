-- A recovery reports all that it owes.
use Rattle.recovery_runs.proofs.Prelude.{All-contains, BookState, Contains-append_left, Contains-append_right, Contains-push, IsAsNamed, IsTold}
use Rattle.recovery_runs.proofs.Prelude.{IsToldOf, Line, Purpose, Recovery, SameAim, ServerNo, TellsAll, World, all-told, by_name, comes_below}
use Rattle.recovery_runs.proofs.Prelude.{eq-eqb, eqb-true, filtered-all, filtered-few, filtered-none, first_source, followers_of, is_replica_of}
use Rattle.recovery_runs.proofs.Prelude.{leader-told, none-some, ordered-once, owed, replicas_of, same-no as same-server, times, told_by}
use Rattle.recovery_runs.proofs.Prelude.RecoveryPlans.{Outcome}
use Rattle.recovery_runs.proofs.Prelude.purpose
use Rattle.std.proofs.Common.{◌≡◌, ◌∙◌, ℕ, ◌+◌, ◌<◌, Bool, true, false, cond, not, ◌&&◌, ◌||◌, List, [], ◌∷◌, length, refl, sym, ap, subst, Option, Some, ◌⊎◌, inl, inr, arith, ◌==◌, Contains}

-- who is in a list at all is one of it
pub counted : (ks : List ServerNo) (n : ServerNo) → 0 < times n.0 ks → Contains ks n
counted [] n h = absurd (omega (arith, h))
counted (k ∷ ks) n h = go (k.0 == n.0) refl h (counted ks n)
  where
    go : (b : Bool) → (k.0 == n.0) ≡ b → 0 < cond b 1 0 + times n.0 ks → (0 < times n.0 ks → Contains ks n) → Contains (k ∷ ks) n
    go true e g rest = subst (Contains (k ∷ ks)) (same-server k n (eqb-true k.0 n.0 e)) (Contains-append_left (k ∷ []) ks k (Contains-push [] k))
    go false e g rest = Contains-append_right (k ∷ []) ks n (rest (omega (arith, g)))

-- ---- as it begins

-- one that reports its replicas
pub tells-own : (o : Option ServerNo) (ks : List ServerNo) (n : ServerNo) → 0 < times n.0 ks → Contains ks n ⊎ (o ≡ Some n)
tells-own o ks n h = inl (counted ks n h)

-- a takeover reports the master and its replicas except the designated one
module _ (b : BookState) (i d : ServerNo) (there : i.0 < length b.names) where
  below : (n : ServerNo) → comes_below b i d n ≡ true → 0 < times n.0 (by_name b.names) → Contains (followers_of b i d) n
  below n comes has = let same = filtered-all (comes_below b i d) n (by_name b.names) comes in counted (followers_of b i d) n (omega (arith, same, has))

  by-place : (n : ServerNo) (own : Bool) → (n.0 == d.0) ≡ own → (((n.0 == i.0) || is_replica_of b i n) ≡ true) → 0 < times n.0 (by_name b.names)
      → Contains (followers_of b i d) n ⊎ (Some d ≡ Some n)
  by-place n true is comes has = inr (ap (λ (k : ServerNo). Some k) (sym (same-server n d (eqb-true n.0 d.0 is))))
  by-place n false is comes has =
      inl (below n (ap (λ (c : Bool). not c && ((n.0 == i.0) || is_replica_of b i n)) is ∙ comes) has)

  -- the master is in the book's order, and so is each replica
  pub listed : (n : ServerNo) → (0 < times n.0 (i ∷ replicas_of b i)) → Contains (followers_of b i d) n ⊎ (Some d ≡ Some n)
  listed n h = go (i.0 == n.0) refl h
    where
      or-true : (c : Bool) → (c || true) ≡ true
      or-true true = refl
      or-true false = refl

      replica : (c : Bool) → is_replica_of b i n ≡ c → 0 < times n.0 (replicas_of b i) → Contains (followers_of b i d) n ⊎ (Some d ≡ Some n)
      replica true is has =
          let few = filtered-few n.0 (is_replica_of b i) (by_name b.names) in
          by-place n (n.0 == d.0) refl (ap (λ (c : Bool). (n.0 == i.0) || c) is ∙ or-true (n.0 == i.0)) (omega (arith, few, has))
      replica false is has = let none = filtered-none (is_replica_of b i) n (by_name b.names) is in absurd (omega (arith, none, has))

      go : (c : Bool) → (i.0 == n.0) ≡ c → 0 < cond c 1 0 + times n.0 (replicas_of b i) → Contains (followers_of b i d) n ⊎ (Some d ≡ Some n)
      go true is has =
          let one = ordered-once b.names i there in
          let same : i.0 ≡ n.0 = eqb-true i.0 n.0 is in
          let all : times n.0 (by_name b.names) ≡ 1 = subst (λ (m : ℕ). times m (by_name b.names) ≡ 1) same one in
          by-place n (n.0 == d.0) refl (ap (λ (c : Bool). c || is_replica_of b i n) (eq-eqb n.0 i.0 (sym same))) (omega (arith, all))
      go false is has = replica (is_replica_of b i n) refl (omega (arith, has))

-- ---- as it goes on

pub tells-on : (was r : Recovery) → SameAim was r → TellsAll was → TellsAll r
tells-on was r aim tells n h =
    let failed = subst (λ (f : ServerNo). 0 < times n.0 (owed r.purpose f r.replicas)) aim.failed h in
    let replicas = subst (λ (ks : List ServerNo). 0 < times n.0 (owed r.purpose was.failed ks)) aim.replicas failed in
    let owes : 0 < times n.0 (owed was.purpose was.failed was.replicas) = subst (λ (u : Purpose). 0 < times n.0 (owed u was.failed was.replicas)) aim.purpose replicas in
    subst (λ (u : Purpose). Contains r.order n ⊎ (first_source u ≡ Some n)) (sym aim.purpose)
    (subst (λ (ks : List ServerNo). Contains ks n ⊎ (first_source was.purpose ≡ Some n)) (sym aim.order) (tells n owes))

-- ---- when it is done

named-leads : (u : Purpose) (f : ServerNo) (o : Outcome) (n : ServerNo) → IsAsNamed u f o → first_source u ≡ Some n → o.promoted ≡ Some n
named-leads purpose.Regroup f o n named first = absurd (none-some n first)
named-leads purpose.Master f o n named first = absurd (none-some n first)
named-leads (purpose.Intermediate s) f o n named first = named ∙ first
named-leads (purpose.Takeover d) f o n named first = named.0 ∙ first

pub told-all : (w : World) (r : Recovery) (lines : List Line) → IsTold w r lines → TellsAll r → (n : ServerNo) → 0 < times n.0 (owed r.purpose r.failed r.replicas) → IsToldOf r.purpose r.outcome lines n
told-all w r lines told tells n h = subst (λ (ls : List Line). IsToldOf r.purpose r.outcome ls n) (sym told.told) (go (tells n h))
  where
    go : Contains r.order n ⊎ (first_source r.purpose ≡ Some n) → IsToldOf r.purpose r.outcome (told_by r.purpose r.outcome r.order) n
    go (inl has) =
        All-contains (λ (k : ServerNo). 0 < times k.0 (owed r.purpose r.failed r.replicas) → IsToldOf r.purpose r.outcome (told_by r.purpose r.outcome r.order) k) r.order n
        (all-told w r.purpose r.failed r.replicas r.outcome told.covers r.order) has h
    go (inr first) =
        let is = named-leads r.purpose r.failed r.outcome n told.covers.named first in
        inl (is, leader-told r.purpose r.outcome r.order n is)

-- by what it was before the turn
pub told-then : (w : World) (r after : Recovery) (lines : List Line) → SameAim r after → IsTold w after lines → TellsAll r → (n : ServerNo) → 0 < times n.0 (owed r.purpose r.failed r.replicas)
    → IsToldOf r.purpose after.outcome lines n
told-then w r after lines aim told tells n h =
    let replicas = subst (λ (ks : List ServerNo). 0 < times n.0 (owed r.purpose r.failed ks)) (sym aim.replicas) h in
    let failed = subst (λ (f : ServerNo). 0 < times n.0 (owed r.purpose f after.replicas)) (sym aim.failed) replicas in
    let owes = subst (λ (u : Purpose). 0 < times n.0 (owed u after.failed after.replicas)) (sym aim.purpose) failed in
    subst (λ (u : Purpose). IsToldOf u after.outcome lines n) aim.purpose (told-all w after lines told (tells-on r after aim tells) n owes)
