-- What ends with a job's turn: how, and what is kept of it.
use Rattle.std.proofs.Common.{◌≡◌, ◌∙◌, ℕ, ◌<◌, ◌≤◌, ◌^◌, Bool, true, false, cond, List, [], ◌∷◌, map, refl, sym, ap, subst, Option, Some, None, arith, ◌==◌, All, AllPairs, IfSome, filter, find, if◌then◌else◌}
use Rattle.run_laws.proofs.Prelude.{All-cons, All-find, All-head, All-nil, All-tail, All-weaker, AuditState, Change, Ending, FollowAudit}
use Rattle.run_laws.proofs.Prelude.{FollowAudit-mapped, IsApart, IsAudit, IsReady, JobStep, Moment, Ready, Recovery, Row, ServerNo, State, Unended}
use Rattle.run_laws.proofs.Prelude.{acked_so, acknowledged_at, acknowledged_at-apart, are_known, cause_name, changed, closed_by, closing_at}
use Rattle.run_laws.proofs.Prelude.{closing_by, closing_changes, closing_for, closing_of, done_with, ended, ended-apart, ended_so, ending-closed}
use Rattle.run_laws.proofs.Prelude.{ending_of, ending_servers, eqb-true, found-passes, hooked, hooked-has, is_acknowledged, is_open, job_at, ne_eqb}
use Rattle.run_laws.proofs.Prelude.{next_count, number_of, one_known, option_map, option_to_list, pairs_head, pairs_tail, promoted_in, put_recovery}
use Rattle.run_laws.proofs.Prelude.{recovery-promotes, recovery_at, same_Some, turn_of, turned_at}
use Rattle.run_laws.proofs.Prelude.Finding.{All-found}
use Rattle.run_laws.proofs.Prelude.RecoveryPlans.{Recovery as RecoveryJob}
use Rattle.run_laws.proofs.Prelude.taking.{taken}
use Rattle.run_laws.proofs.Prelude.ending
use Rattle.run_laws.proofs.Prelude.jobstep as step
use Rattle.run_laws.proofs.Prelude.unended

-- ---- the audit and the kept rows with an end

-- the entry of an id ends, and is acknowledged or not
abbrev pub ended_with : AuditState → Moment → ℕ → Ending → Bool → AuditState
ended_with a now id e acked = if acked then acknowledged_at (ended a id now e) id else ended a id now e

abbrev pub ended_as : Moment → Ending → Bool → Recovery → Recovery
ended_as now e acked r = if acked then acked_so (ended_so now e r) else ended_so now e r

abbrev pub ended_in : Moment → ℕ → Ending → Bool → Recovery → Recovery
ended_in now id e acked r = if r.id == id then ended_as now e acked r else r

-- how it is kept then
abbrev pub end_changes : AuditState → Moment → ℕ → Ending → Bool → List Change
end_changes a now id e acked = option_to_list (option_map (λ r. put_recovery (ended_as now e acked r)) (recovery_at a id))

module _ (now : Moment) (id : ℕ) (e : Ending) where
  abbrev ends : Recovery → Recovery
  ends r = if r.id == id then ended_so now e r else r

  abbrev acks : Recovery → Recovery
  acks r = if r.id == id then acked_so r else r

  one-both : (r : Recovery) → acks (ends r) ≡ ended_in now id e true r
  one-both r = go (r.id == id) refl
    where
      go : (b : Bool) → (r.id == id) ≡ b → acks (if b then ended_so now e r else r) ≡ (if b then acked_so (ended_so now e r) else r)
      go true is = ap (λ (b : Bool). if b then acked_so (ended_so now e r) else ended_so now e r) is
      go false is = ap (λ (b : Bool). if b then acked_so r else r) is

  all-both : (xs : List Recovery) → map acks (map ends xs) ≡ map (ended_in now id e true) xs
  all-both [] = refl
  all-both (x ∷ xs) = λ i. one-both x i ∷ all-both xs i

  -- only the entry of its id changes
  pub ended-map : (a : AuditState) (acked : Bool) → ended_with a now id e acked ≡ record a { recoveries = map (ended_in now id e acked) a.recoveries }
  ended-map a true = ap (λ (xs : List Recovery). record a { recoveries = xs }) (all-both a.recoveries)
  ended-map a false = refl

  as-id : (acked : Bool) (r : Recovery) → (ended_as now e acked r).id ≡ r.id
  as-id true r = refl
  as-id false r = refl

  in-id : (acked : Bool) (r : Recovery) → (ended_in now id e acked r).id ≡ r.id
  in-id acked r = go (r.id == id)
    where
      go : (b : Bool) → (if b then ended_as now e acked r else r).id ≡ r.id
      go true = as-id acked r
      go false = refl

  -- the block period stays
  as-block : (acked : Bool) (r : Recovery) → (ended_as now e acked r).block ≡ r.block
  as-block true r = refl
  as-block false r = refl

  in-block : (acked : Bool) (r : Recovery) → (ended_in now id e acked r).block ≡ r.block
  in-block acked r = go (r.id == id)
    where
      go : (b : Bool) → (if b then ended_as now e acked r else r).block ≡ r.block
      go true = as-block acked r
      go false = refl

  abbrev is-its : Recovery → Bool
  is-its r = r.id == id

  pub end-puts : (a : AuditState) (acked : Bool) → end_changes a now id e acked ≡ map put_recovery (option_to_list (option_map (ended_as now e acked) (recovery_at a id)))
  end-puts a acked = go (recovery_at a id)
    where
      go : (o : Option Recovery) → option_to_list (option_map (λ r. put_recovery (ended_as now e acked r)) o) ≡ map put_recovery (option_to_list (option_map (ended_as now e acked) o))
      go None = refl
      go (Some r) = refl

  -- its id is in its type's range
  pub end-small : (a : AuditState) (acked : Bool) → IsAudit a → a.next ≤ 2 ^ 64 → All (λ r. r.id < 2 ^ 64) (option_to_list (option_map (ended_as now e acked) (recovery_at a id)))
  end-small a acked is most = go (recovery_at a id) refl
    where
      go : (o : Option Recovery) → recovery_at a id ≡ o → All (λ r. r.id < 2 ^ 64) (option_to_list (option_map (ended_as now e acked) o))
      go None at = All-nil (λ (r : Recovery). r.id < 2 ^ 64)
      go (Some r) at =
          let less = All-found is-its (λ (x : Recovery). x.id < a.next) a.recoveries r is.below at in
          let same = as-id acked r in
          All-cons (λ (x : Recovery). x.id < 2 ^ 64) (ended_as now e acked r) [] (omega (arith, less, same, most)) (All-nil (λ (x : Recovery). x.id < 2 ^ 64))

  none-its : (xs : List Recovery) → All (λ r. is-its r ≡ false) xs → filter is-its xs ≡ []
  none-its [] none = refl
  none-its (x ∷ xs) none =
      ap (λ (b : Bool). cond b (x ∷ filter is-its xs) (filter is-its xs)) (All-head (λ (r : Recovery). is-its r ≡ false) x xs none)
      ∙ none-its xs (All-tail (λ (r : Recovery). is-its r ≡ false) x xs none)

  -- if ids rise, at most one has it
  one-its : (xs : List Recovery) → AllPairs (λ x y. x.id < y.id) xs → filter is-its xs ≡ option_to_list (find is-its xs)
  one-its [] rising = refl
  one-its (x ∷ xs) rising = go (x.id == id) refl (one-its xs (pairs_tail (λ (x y : Recovery). x.id < y.id) x xs rising))
    where
      above : All (λ y. x.id < y.id) xs
      above = pairs_head (λ (x y : Recovery). x.id < y.id) x xs rising

      go : (b : Bool) → (x.id == id) ≡ b → filter is-its xs ≡ option_to_list (find is-its xs)
          → cond b (x ∷ filter is-its xs) (filter is-its xs) ≡ option_to_list (cond b (Some x) (find is-its xs))
      go true here rest =
          let same = eqb-true x.id id here in
          ap (λ (ys : List Recovery). x ∷ ys)
          (none-its xs (All-weaker (λ (y : Recovery). x.id < y.id) (λ y. is-its y ≡ false) (λ y more. ne_eqb y.id id (λ e. absurd (omega (arith, more, e, same)))) xs above))
      go false here rest = rest

  put-one : (a : AuditState) (acked : Bool) → AllPairs (λ x y. x.id < y.id) a.recoveries → map put_recovery (map (ended_in now id e acked) (filter is-its a.recoveries)) ≡ end_changes a now id e acked
  put-one a acked rising = ap (λ (xs : List Recovery). map put_recovery (map (ended_in now id e acked) xs)) (one-its a.recoveries rising) ∙ go (recovery_at a id) refl
    where
      go : (o : Option Recovery) → recovery_at a id ≡ o
          → map put_recovery (map (ended_in now id e acked) (option_to_list o)) ≡ option_to_list (option_map (λ r. put_recovery (ended_as now e acked r)) o)
      go None at = refl
      go (Some r) at = ap (λ (b : Bool). put_recovery (if b then ended_as now e acked r else r) ∷ []) (found-passes is-its a.recoveries r at)

  -- the entry that ends is kept as it is then
  pub follow-end : (count : ℕ) (rows : List Row) (a : AuditState) (acked : Bool) → FollowAudit count rows a → FollowAudit count (changed rows (end_changes a now id e acked)) (ended_with a now id e acked)
  follow-end count rows a acked follow =
      subst (FollowAudit count (changed rows (end_changes a now id e acked))) (sym (ended-map a acked))
      (subst (λ (cs : List Change). FollowAudit count (changed rows cs) (record a { recoveries = map (ended_in now id e acked) a.recoveries })) (put-one a acked follow.audit.rising)
      (FollowAudit-mapped (ended_in now id e acked) (in-id acked) (in-block acked) is-its (λ r off. ap (λ (b : Bool). if b then ended_as now e acked r else r) off) count rows a follow))

  -- recoveries of an audit stay not overlapping
  pub end-apart : (a : AuditState) (acked : Bool) → is_open e ≡ false → IsApart a → IsApart (ended_with a now id e acked)
  end-apart a true closes apart = acknowledged_at-apart (ended a id now e) id (ended-apart a id now e closes apart)
  end-apart a false closes apart = ended-apart a id now e closes apart

-- ---- how a recovery ends

module _ (count : ℕ) where
  done-known : (o : Option ServerNo) → IfSome o (λ n. n.0 < count) → are_known count (ending_servers (done_with o)) ≡ true
  done-known None there = refl
  done-known (Some n) there = one_known count n.0 there

  -- by a server that is there
  ending-known : (r : RecoveryJob) (s : JobStep) (e : Ending) → IfSome r.outcome.promoted (λ n. n.0 < count) → ending_of r s ≡ Some e → are_known count (ending_servers e) ≡ true
  ending-known r step.Going e there is = cc
  ending-known r (step.Done lines) e there is =
      subst (λ (x : Ending). are_known count (ending_servers x) ≡ true) (same_Some (done_with r.outcome.promoted) e is) (done-known r.outcome.promoted there)
  ending-known r (step.Failed c lines) e there is =
      subst (λ (x : Ending). are_known count (ending_servers x) ≡ true) (same_Some (ending.Failed (cause_name c)) e is) refl

-- what a job's turn leaves of the audit and the kept rows: nothing ends, or the entry of its recovery does
module _ (count : ℕ) (s : State) (id : ℕ) (P : AuditState → List Change → Type 0) (none : P s.audit [])
    (some : (entry : ℕ) (e : Ending) (acked : Bool) → is_open e ≡ false → (Ready count s → are_known count (ending_servers e) ≡ true)
    → P (ended_with s.audit (record { 0 = s.moment }) entry e acked) (end_changes s.audit (record { 0 = s.moment }) entry e acked)) where
  abbrev now : Moment
  now = record { 0 = s.moment }

  recovery-ends : (r : RecoveryJob) (entry : ℕ) (x : JobStep) → (Ready count s → IfSome r.outcome.promoted (λ n. n.0 < count))
      → P (closed_by s.audit now (closing_at r x entry)) (closing_changes s.audit now (closing_at r x entry))
  recovery-ends r entry step.Going there = none
  recovery-ends r entry (step.Done lines) there =
      some entry (done_with r.outcome.promoted) (is_acknowledged r (step.Done lines)) (ending-closed r (step.Done lines) (done_with r.outcome.promoted) refl)
      (λ ready. ending-known count r (step.Done lines) (done_with r.outcome.promoted) (there ready) refl)
  recovery-ends r entry (step.Failed c lines) there =
      some entry (ending.Failed (cause_name c)) false (ending-closed r (step.Failed c lines) (ending.Failed (cause_name c)) refl)
      (λ ready. ending-known count r (step.Failed c lines) (ending.Failed (cause_name c)) (there ready) refl)

  flown-ends : (u : Unended) → (Ready count s → IsReady count u) → P (closed_by s.audit now (closing_by (turn_of s u).next (turn_of s u).step)) (closing_changes s.audit now (closing_by (turn_of s u).next (turn_of s u).step))
  flown-ends (unended.Plan j) is = none
  flown-ends (unended.Recovery r d) is = by (hooked s.world s.book (next_count s.reads) now r d).docket.entry
    where
      promotes : Ready count s → IfSome (hooked s.world s.book (next_count s.reads) now r d).taken.recovery.outcome.promoted (λ n. n.0 < count)
      promotes ready =
          let t = taken s.world s.book (next_count s.reads) now r in
          hooked-has (λ x. IfSome x.recovery.outcome.promoted (λ n. n.0 < count)) d (promoted_in s.book t) r t (λ own same. recovery-promotes count s.world s.book (next_count s.reads) now r (is ready))
          (λ own. (is ready).promoted)

      by : (o : Option ℕ) → P (closed_by s.audit now (closing_for (hooked s.world s.book (next_count s.reads) now r d).taken.recovery (hooked s.world s.book (next_count s.reads) now r d).taken.step o)) (closing_changes s.audit now (closing_for (hooked s.world s.book (next_count s.reads) now r d).taken.recovery (hooked s.world s.book (next_count s.reads) now r d).taken.step o))
      by None = none
      by (Some entry) = let h = (hooked s.world s.book (next_count s.reads) now r d).taken in recovery-ends h.recovery entry h.step promotes

  pub turned-ends : P (closed_by s.audit now (closing_of (turned_at s id))) (closing_changes s.audit now (closing_of (turned_at s id)))
  turned-ends = go (job_at s.jobs id) refl
    where
      go : (o : Option Unended) → job_at s.jobs id ≡ o → P (closed_by s.audit now (closing_of (option_map (turn_of s) o))) (closing_changes s.audit now (closing_of (option_map (turn_of s) o)))
      go None at = none
      go (Some u) at = flown-ends u (λ ready. All-find (IsReady count) (λ (k : Unended). number_of k == id) s.jobs u ready.jobs at)
