-- The entry that ends with a job's turn.
use Rattle.std.proofs.Common.{◌≡◌, ◌≢◌, ◌∙◌, ℕ, Bool, true, false, cond, List, refl, sym, ap, subst, Option, Some, None, ◌==◌, IfSome, if◌then◌else◌}
use Rattle.orch_core.proofs.Prelude.{AuditState, BookState, Closing, Ending, Flown, HaveEntries, Hook, IsAudit, IsAudit-map, IsOpenAt, JobStep}
use Rattle.orch_core.proofs.Prelude.{Moment, Recovery as KeptRecovery, Rise, Unended, World, acked_so, acknowledged_at, closed_by, closing_by}
use Rattle.orch_core.proofs.Prelude.{closing_for, closing_of, ended, ended_so, ending_of, entry_id, flown, front_hook, front_turn, going-unended}
use Rattle.orch_core.proofs.Prelude.{is_acknowledged, is_going, job_at, jobs_turned, option_map, promoted_in, rear_hook, rear_turn, same_Some, taken}
use Rattle.orch_core.proofs.Prelude.{with_job, without_job}
use Rattle.orch_core.proofs.Prelude.Recoveries.{Recovery}
use Rattle.orch_core.proofs.Prelude.unended
use Rattle.orch_core.proofs.Entries.{entries-closed, entries-with, entries-without, found-open, open-acked, open-ended}
use Rattle.orch_core.proofs.Recoveries.{HasBegun, mapped-begun}

-- ---- which one ends

abbrev closing_as : Recovery → JobStep → ℕ → Ending → Closing
closing_as r s id e = record { id = id; outcome = e; acked = is_acknowledged r s }

-- none while the job goes on
pub closing-going : (u : Unended) (s : JobStep) → is_going s ≡ true → closing_by u s ≡ None
closing-going (unended.Plan j) s going = refl
closing-going (unended.Recovery r d) s going = go d.entry
  where
    go : (o : Option ℕ) → closing_for r s o ≡ None
    go None = refl
    go (Some id) = ap (option_map (closing_as r s id)) (going-unended r s going)

-- else the job's own
closing-entry : (u : Unended) (s : JobStep) (c : Closing) → closing_by u s ≡ Some c → entry_id u ≡ Some c.id
closing-entry (unended.Plan j) s c h = cc
closing-entry (unended.Recovery r d) s c h = by d.entry h
  where
    go : (id : ℕ) (o : Option Ending) → option_map (closing_as r s id) o ≡ Some c → Some id ≡ Some c.id
    go id None h = cc
    go id (Some e) h = ap (λ (x : Closing). Some x.id) (same_Some (closing_as r s id e) c h)

    by : (o : Option ℕ) → closing_for r s o ≡ Some c → o ≡ Some c.id
    by None h = cc
    by (Some id) h = go id (ending_of r s) h

-- a turn leaves the job its entry
pub flown-entry : (w : World) (b : BookState) (read : ℕ) (now : Moment) (u : Unended) → entry_id (flown w b read now u).next ≡ entry_id u
flown-entry w b read now (unended.Plan j) = refl
flown-entry w b read now (unended.Recovery r d) = front (front_hook d.hooks)
  where
    rear : (o : Option Hook) → (rear_turn d (promoted_in b (taken w b read now r)) r (taken w b read now r) o).docket.entry ≡ d.entry
    rear None = refl
    rear (Some h) = refl

    front : (o : Option Hook) → (front_turn d (promoted_in b (taken w b read now r)) r (taken w b read now r) o).docket.entry ≡ d.entry
    front None = rear (rear_hook d.hooks (taken w b read now r).step)
    front (Some h) = refl

-- ---- the audit after it

module _ (a : AuditState) (now : Moment) where
  others-open : (c : Closing) (id : ℕ) → id ≢ c.id → IsOpenAt a id → IsOpenAt (closed_by a now (Some c)) id
  others-open c id other h = go c.acked
    where
      go : (b : Bool) → IsOpenAt (if b then acknowledged_at (ended a c.id now c.outcome) c.id else ended a c.id now c.outcome) id
      go true = open-acked (ended a c.id now c.outcome) c.id id (open-ended a c.id now c.outcome id other h)
      go false = open-ended a c.id now c.outcome id other h

  ended-id : (id : ℕ) (outcome : Ending) (r : KeptRecovery) (b : Bool) → (cond b (ended_so now outcome r) r).id ≡ r.id
  ended-id id outcome r true = refl
  ended-id id outcome r false = refl

  acked-id : (r : KeptRecovery) (b : Bool) → (cond b (acked_so r) r).id ≡ r.id
  acked-id r true = refl
  acked-id r false = refl

  ended-block : (id : ℕ) (outcome : Ending) (r : KeptRecovery) (b : Bool) → (cond b (ended_so now outcome r) r).block ≡ r.block
  ended-block id outcome r true = refl
  ended-block id outcome r false = refl

  acked-block : (r : KeptRecovery) (b : Bool) → (cond b (acked_so r) r).block ≡ r.block
  acked-block r true = refl
  acked-block r false = refl

  pub closed_by-is : (o : Option Closing) → IsAudit a → IsAudit (closed_by a now o)
  closed_by-is None is = is
  closed_by-is (Some c) is = go c.acked
    where
      closed : IsAudit (ended a c.id now c.outcome)
      closed = IsAudit-map (λ r. cond (r.id == c.id) (ended_so now c.outcome r) r) (λ r. ended-id c.id c.outcome r (r.id == c.id)) (λ r. ended-block c.id c.outcome r (r.id == c.id)) a is

      go : (b : Bool) → IsAudit (if b then acknowledged_at (ended a c.id now c.outcome) c.id else ended a c.id now c.outcome)
      go true = IsAudit-map (λ r. cond (r.id == c.id) (acked_so r) r) (λ r. acked-id r (r.id == c.id)) (λ r. acked-block r (r.id == c.id)) (ended a c.id now c.outcome) closed
      go false = closed

  pub closed_by-next : (o : Option Closing) → (closed_by a now o).next ≡ a.next
  closed_by-next None = refl
  closed_by-next (Some c) = go c.acked
    where
      go : (b : Bool) → (if b then acknowledged_at (ended a c.id now c.outcome) c.id else ended a c.id now c.outcome).next ≡ a.next
      go true = refl
      go false = refl

  pub closed_by-begun : (o : Option Closing) → HasBegun a.recoveries → HasBegun (closed_by a now o).recoveries
  closed_by-begun None all = all
  closed_by-begun (Some c) all = go c.acked
    where
      same : (r : KeptRecovery) (b : Bool) → (cond b (ended_so now c.outcome r) r).begun ≡ r.begun
      same r true = refl
      same r false = refl

      acked : (r : KeptRecovery) (b : Bool) → (cond b (acked_so r) r).begun ≡ r.begun
      acked r true = refl
      acked r false = refl

      closed : HasBegun (ended a c.id now c.outcome).recoveries
      closed = mapped-begun (λ r. cond (r.id == c.id) (ended_so now c.outcome r) r) (λ r. same r (r.id == c.id)) a.recoveries all

      go : (b : Bool) → HasBegun (if b then acknowledged_at (ended a c.id now c.outcome) c.id else ended a c.id now c.outcome).recoveries
      go true = mapped-begun (λ r. cond (r.id == c.id) (acked_so r) r) (λ r. acked r (r.id == c.id)) (ended a c.id now c.outcome).recoveries closed
      go false = closed

  -- ---- the jobs' entries after it

  pub entries-turned : (jobs : List Unended) (last id : ℕ) (j : Unended) (t : Flown) → Rise 0 jobs last → job_at jobs id ≡ Some j → entry_id t.next ≡ entry_id j → HaveEntries a 0 jobs
      → HaveEntries (closed_by a now (closing_of (Some t))) 0 (jobs_turned jobs id (Some t))
  entries-turned jobs last id j t rise found entry h = go (is_going t.step) refl
    where
      ends : (o : Option Closing) → closing_by t.next t.step ≡ o → HaveEntries (closed_by a now o) 0 (without_job jobs id)
      ends None e = entries-without a 0 jobs id h
      ends (Some c) e = entries-closed a (closed_by a now (Some c)) c.id (others-open c) 0 jobs id j found (sym entry ∙ closing-entry t.next t.step c e) h

      go : (g : Bool) → is_going t.step ≡ g → HaveEntries (closed_by a now (closing_of (Some t))) 0 (if g then with_job jobs id t.next else without_job jobs id)
      go true e =
          subst (λ (o : Option Closing). HaveEntries (closed_by a now o) 0 (with_job jobs id t.next)) (sym (closing-going t.next t.step e))
          (entries-with a 0 0 jobs last id j t.next rise entry found h)
      go false e = ends (closing_by t.next t.step) refl

-- the entry that ends is open
pub closing-open : (a : AuditState) (jobs : List Unended) (id : ℕ) (j : Unended) (t : Flown) → job_at jobs id ≡ Some j → entry_id t.next ≡ entry_id j → HaveEntries a 0 jobs
    → IfSome (closing_of (Some t)) (λ c. IsOpenAt a c.id)
closing-open a jobs id j t found entry h = go (closing_by t.next t.step) refl
  where
    go : (o : Option Closing) → closing_by t.next t.step ≡ o → IfSome o (λ c. IsOpenAt a c.id)
    go None e = tt
    go (Some c) e = found-open a 0 jobs id j c.id found (sym entry ∙ closing-entry t.next t.step c e) h
