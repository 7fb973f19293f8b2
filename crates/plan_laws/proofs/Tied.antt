-- The recovery that a command begins is one of its instance.
use Rattle.std.proofs.Common.{◌≡◌, ◌∙◌, ℕ, ◌+◌, ◌≤◌, Bool, true, false, cond, List, [], ◌∷◌, Option, Some, None, refl, sym, ap, subst, arith, ◌==◌, All}
use Rattle.plan_laws.proofs.Prelude.{All-cons, All-nil, AreApart, Begins, BegunJob, BookState, Comes, CommandTurn, Course, Docket, GoesAsPlanned}
use Rattle.plan_laws.proofs.Prelude.{IsAsPlanned, IsBegunBy, IsOf, Means, Planner, Purpose, RecoveriesAreDoneAsTold, RecoveriesAreOfTheirInstances}
use Rattle.plan_laws.proofs.Prelude.{Recovery, Route, ServerNo, State, Unended, begun_of, begun_recovery, begun_replies, begun_state, command-comes}
use Rattle.plan_laws.proofs.Prelude.{command_outcome, eq-eqb, followers_of, ground_in, job-begun, job_by, known_of, means_of, no_docket, recovery_job}
use Rattle.plan_laws.proofs.Prelude.{recovery_purpose, regroup-are, regroup_about, replicas_of, route_of, same_Some, times, told_means, updated}
use Rattle.plan_laws.proofs.Prelude.{with_told}
use Rattle.plan_laws.proofs.Prelude.Outcomes.{Outcome}
use Rattle.plan_laws.proofs.Prelude.answered
use Rattle.plan_laws.proofs.Prelude.comes
use Rattle.plan_laws.proofs.Prelude.making
use Rattle.plan_laws.proofs.Prelude.matching
use Rattle.plan_laws.proofs.Prelude.means
use Rattle.plan_laws.proofs.Prelude.pathcommand as path
use Rattle.plan_laws.proofs.Prelude.planner
use Rattle.plan_laws.proofs.Prelude.purpose
use Rattle.plan_laws.proofs.Prelude.route
use Rattle.plan_laws.proofs.Prelude.unended
use Rattle.plan_laws.proofs.Lost.{differs}
use Rattle.plan_laws.proofs.Handing.{recoveries-follow}

-- ---- none is named twice

none-of : (n : ServerNo) (ns : List ServerNo) → times n.0 ns ≡ 0 → All (λ m. (n.0 == m.0) ≡ false) ns
none-of n [] none = All-nil (λ (m : ServerNo). (n.0 == m.0) ≡ false)
none-of n (k ∷ ks) none = go (k.0 == n.0) refl none (none-of n ks)
  where
    go : (b : Bool) → (k.0 == n.0) ≡ b → cond b 1 0 + times n.0 ks ≡ 0 → (times n.0 ks ≡ 0 → All (λ m. (n.0 == m.0) ≡ false) ks) → All (λ m. (n.0 == m.0) ≡ false) (k ∷ ks)
    go true is none rest = absurd (omega (arith, none))
    go false is none rest = All-cons (λ (m : ServerNo). (n.0 == m.0) ≡ false) k ks (differs n.0 k.0 is) (rest (omega (arith, none)))

few-apart : (ns : List ServerNo) → ((k : ℕ) → times k ns ≤ 1) → AreApart ns
few-apart [] few = tt
few-apart (n ∷ ns) few =
    (none-of n ns (only (n.0 == n.0) (eq-eqb n.0 n.0 refl) (few n.0)), few-apart ns (λ k. fewer k (n.0 == k) (few k)))
  where
    only : (b : Bool) → b ≡ true → cond b 1 0 + times n.0 ns ≤ 1 → times n.0 ns ≡ 0
    only true is few = omega (arith, few)
    only false is few = let h : false ≡ true = is in cc

    fewer : (k : ℕ) (b : Bool) → cond b 1 0 + times k ns ≤ 1 → times k ns ≤ 1
    fewer k true few = omega (arith, few)
    fewer k false few = omega (arith, few)

replicas-apart : (b : BookState) (f : ServerNo) → AreApart (replicas_of b f)
replicas-apart b f = few-apart (replicas_of b f) (regroup-are b f).distinct

-- ---- which recovery begins

abbrev recovery-in : Recovery → Unended → Recovery
recovery-in d (unended.Plan j) = d
recovery-in d (unended.Recovery r k) = r

module _ (id wait : ℕ) (b : BookState) (f : ServerNo) (r : Recovery) (k : Docket) where
  abbrev Of : Means → Type 0
  Of by = IsOf id wait f (replicas_of b f) by r

  of-begun : (u : Purpose) (by told : Means) (order : List ServerNo) (d : Docket) → told_means by ≡ told
      → unended.Recovery (begun_recovery u by id wait f (replicas_of b f) order) d ≡ unended.Recovery r k → Of told
  of-begun u by told order d same is =
      subst (λ (x : Recovery). IsOf id wait f (replicas_of b f) told x) (ap (recovery-in (begun_recovery u by id wait f (replicas_of b f) order)) is)
      (record { order = order; is = refl; apart = replicas-apart b f; means = same })

  -- a regroup
  regroup-is : (by told : Means) (i : Option ServerNo) → i ≡ Some f → told_means by ≡ told → regroup_about b by id wait i ≡ unended.Recovery r k → Of told
  regroup-is by told None about same is = cc
  regroup-is by told (Some i) about same is =
      of-begun purpose.Regroup by told (replicas_of b f) no_docket same
      (subst (λ (n : ServerNo). regroup_about b by id wait (Some n) ≡ unended.Recovery r k) (same_Some i f about) is)

module _ (s : State) (c : CommandTurn) (f : ServerNo) (about : c.command.i ≡ Some f) (r : Recovery) (k : Docket) where
  abbrev Told : Route → Type 0
  Told x = IsOf (s.last_job + 1) s.configuration.wait f (replicas_of s.book f) (means_of x) r

  planned-is : (p : Planner) → job_by s.world s.book c.command p (s.last_job + 1) s.configuration.wait s.configuration.every ≡ unended.Recovery r k → Told (route.Begins p)
  planned-is (planner.Paths path.RegroupReplicas) e = regroup-is (s.last_job + 1) s.configuration.wait s.book f r k means.Bridges means.Bridges c.command.i about refl e
  planned-is (planner.Matches matching.RegroupReplicas) e =
      regroup-is (s.last_job + 1) s.configuration.wait s.book f r k (means.Matches s.configuration.every) (means.Matches 0) c.command.i about refl e
  planned-is _ e = cc

  try-is : (x : Begins) (u : Purpose) (order : List ServerNo) → x.job ≡ begun_recovery u means.Bridges (s.last_job + 1) s.configuration.wait f (replicas_of s.book f) order
      → recovery_job (with_told s.configuration s.book x) ≡ unended.Recovery r k → IsOf (s.last_job + 1) s.configuration.wait f (replicas_of s.book f) means.Bridges r
  try-is x u order made e =
      subst (λ (y : Recovery). IsOf (s.last_job + 1) s.configuration.wait f (replicas_of s.book f) means.Bridges y) (sym made ∙ ap (recovery-in x.job) e)
      (record { order = order; is = refl; apart = replicas-apart s.book f; means = refl })

  begun-is : (x : BegunJob) → IsBegunBy s c.command x → x.job ≡ unended.Recovery r k → Told (route_of c.command.name)
  begun-is x (making.Planned p is) e = subst Told (sym is) (planned-is p e)
  begun-is x (making.Recovering y (comes.Fails i is at free)) e =
      let same : i ≡ f = same_Some i f (sym at ∙ about) in
      subst Told (sym is)
      (try-is y (recovery_purpose s.book f) (replicas_of s.book f)
      (ap (λ (n : ServerNo). begun_recovery (recovery_purpose s.book n) means.Bridges (s.last_job + 1) s.configuration.wait n (replicas_of s.book n) (replicas_of s.book n)) same) e)
  begun-is x (making.Recovering y (comes.Passes i d is at there free)) e =
      let same : i ≡ f = same_Some i f (sym at ∙ about) in
      subst Told (sym is)
      (try-is y (purpose.Takeover d) (followers_of s.book f d)
      (ap (λ (n : ServerNo). begun_recovery (purpose.Takeover d) means.Bridges (s.last_job + 1) s.configuration.wait n (replicas_of s.book n) (followers_of s.book n d)) same) e)

-- ---- the book that it begins with

-- it has other leases, and no more
keeps : (s : State) (c : CommandTurn) (begun : BegunJob) → begun_of s c.command ≡ Some begun → (n : ServerNo) → replicas_of (begun_state c s).book n ≡ replicas_of s.book n
keeps s c begun is n = by (command_outcome s c) (command-comes s c) (begun_replies s c begun is)
  where
    by : (o : Outcome) → Comes s c o → o.reply ≡ answered.Begun (s.last_job + 1) → replicas_of (updated (known_of s) o.book).book n ≡ replicas_of s.book n
    by o (comes.Begun p at free) replies = refl
    by o (comes.Recovered x asked) replies = refl
    by o _ replies = cc

-- ---- the laws

pub recoveries-are-of : RecoveriesAreOfTheirInstances
recoveries-are-of s c r k f is about =
    subst (λ (ns : List ServerNo). IsOf (s.last_job + 1) s.configuration.wait f ns (means_of (route_of c.command.name)) r) (sym (keeps s c is.begun is.is_begun f))
    (begun-is s c f about r k is.begun (job-begun s c.command is.begun is.is_begun) is.job_is)

pub recoveries-are-done : RecoveriesAreDoneAsTold
recoveries-are-done s c r k f es is about apart goes =
    let of = recoveries-are-of s c r k f is about in
    recoveries-follow (ground_in (begun_state c s)) r.purpose r.means (s.last_job + 1) s.configuration.wait f (replicas_of (begun_state c s).book f) of.order es apart of.apart
    (subst (λ (x : Recovery). Course (IsAsPlanned (ground_in (begun_state c s)) r.means f (replicas_of (begun_state c s).book f)) (GoesAsPlanned (begun_state c s).book) x es) of.is goes)
