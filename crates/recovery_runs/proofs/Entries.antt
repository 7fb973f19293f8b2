-- The entry of a recovery that is done ends with the server that it promoted.
use Rattle.std.proofs.Common.{◌≡◌, ◌∙◌, ℕ, Bool, true, false, cond, List, [], ◌∷◌, ◌++◌, map, refl, sym, ap, subst, Option, Some, None, ◌==◌, ◌||◌, Contains, find, if◌then◌else◌}
use Rattle.recovery_runs.proofs.Prelude.{AuditState, Change, Contains-push, Docket, Ending, Hooked, IsFinish, JobStep, Line, Moment, Purpose}
use Rattle.recovery_runs.proofs.Prelude.{Recovery, Row, ServerNo, State, Unended, acked_so, acknowledged_at, changes_by, changes_of, closed_by}
use Rattle.recovery_runs.proofs.Prelude.{closing_at, closing_changes, closing_for, closing_of, ended, ended_so, finished_so, is_takeover}
use Rattle.recovery_runs.proofs.Prelude.{job_observation, moment_at, option_map, option_to_list, own_turn, promoted_then, put_recovery}
use Rattle.recovery_runs.proofs.Prelude.{recovery_after, recovery_at, step, turn_hooked, turn_of, turn_taken, turned_at}
use Rattle.recovery_runs.proofs.Prelude.Endings.{done_with}
use Rattle.recovery_runs.proofs.Prelude.KeptRows.{Recovery as KeptRecovery}
use Rattle.recovery_runs.proofs.Prelude.act
use Rattle.recovery_runs.proofs.Prelude.ending
use Rattle.recovery_runs.proofs.Prelude.job_step
use Rattle.recovery_runs.proofs.Prelude.turn
use Rattle.recovery_runs.proofs.Finishing.{aim-at, own-turned}

-- ---- an entry by its id

module _ (f : KeptRecovery → KeptRecovery) (same : (r : KeptRecovery) → (f r).id ≡ r.id) (id : ℕ) where
  abbrev is_it : KeptRecovery → Bool
  is_it r = r.id == id

  abbrev changed : KeptRecovery → KeptRecovery
  changed r = cond (r.id == id) (f r) r

  found-changed : (xs : List KeptRecovery) → find is_it (map changed xs) ≡ option_map f (find is_it xs)
  found-changed [] = refl
  found-changed (x ∷ xs) = go (x.id == id) refl (found-changed xs)
    where
      go : (b : Bool) → (x.id == id) ≡ b → find is_it (map changed xs) ≡ option_map f (find is_it xs)
          → cond ((cond b (f x) x).id == id) (Some (cond b (f x) x)) (find is_it (map changed xs)) ≡ option_map f (cond b (Some x) (find is_it xs))
      go true e rest = ap (λ (k : ℕ). cond (k == id) (Some (f x)) (find is_it (map changed xs))) (same x) ∙ ap (λ (c : Bool). cond c (Some (f x)) (find is_it (map changed xs))) e
      go false e rest = ap (λ (c : Bool). cond c (Some x) (find is_it (map changed xs))) e ∙ rest

ended-at : (a : AuditState) (e : ℕ) (now : Moment) (o : Ending) → recovery_at (ended a e now o) e ≡ option_map (ended_so now o) (recovery_at a e)
ended-at a e now o = found-changed (ended_so now o) (λ r. refl) e a.recoveries

acked-at : (a : AuditState) (e : ℕ) → recovery_at (acknowledged_at a e) e ≡ option_map acked_so (recovery_at a e)
acked-at a e = found-changed acked_so (λ r. refl) e a.recoveries

-- an entry that ends with a promoted server, by whether it is acknowledged
abbrev promoted_so : Moment → ServerNo → Bool → KeptRecovery → KeptRecovery
promoted_so now n b k = record k { ended = Some now; outcome = ending.Promoted n; acked = b || k.acked }

finished-at : (a : AuditState) (e : ℕ) (now : Moment) (n : ServerNo) (b : Bool)
    → recovery_at (if b then acknowledged_at (ended a e now (ending.Promoted n)) e else ended a e now (ending.Promoted n)) e ≡ option_map (promoted_so now n b) (recovery_at a e)
finished-at a e now n true =
    acked-at (ended a e now (ending.Promoted n)) e ∙ (ap (option_map acked_so) (ended-at a e now (ending.Promoted n)) ∙ twice (recovery_at a e))
  where
    twice : (o : Option KeptRecovery) → option_map acked_so (option_map (ended_so now (ending.Promoted n)) o) ≡ option_map (promoted_so now n true) o
    twice None = refl
    twice (Some k) = refl
finished-at a e now n false = ended-at a e now (ending.Promoted n) ∙ once (recovery_at a e)
  where
    once : (o : Option KeptRecovery) → option_map (ended_so now (ending.Promoted n)) o ≡ option_map (promoted_so now n false) o
    once None = refl
    once (Some k) = refl

-- ---- the turn in which a recovery is done

-- an entry as it ends, by whether it is acknowledged
abbrev closed_so : Moment → Bool → Ending → KeptRecovery → KeptRecovery
closed_so now b o k = if b then acked_so (ended_so now o k) else ended_so now o k

-- and the audit
abbrev audit_so : AuditState → ℕ → Moment → Bool → Ending → AuditState
audit_so a e now b o = if b then acknowledged_at (ended a e now o) e else ended a e now o

module _ (s : State) (id e : ℕ) (r : Recovery) (docket : Docket) (lines : List Line) (n : ServerNo) (entry : docket.entry ≡ Some e) (is : IsFinish s id r docket lines) (promoted : (recovery_after s r).outcome.promoted ≡ Some n) where
  same-purpose : (recovery_after s r).purpose ≡ r.purpose
  same-purpose = (aim-at s id r docket is.found).purpose

  -- by its own turn
  abbrev own : Hooked
  own = own_turn docket (promoted_then s r) (turn_taken s r)

  turned : turn_hooked s r docket ≡ own
  turned = own-turned s id r docket lines is

  told : own.taken.step ≡ job_step.Done lines
  told = subst (λ (h : Hooked). h.taken.step ≡ job_step.Done lines) turned is.done

  pub audit-ends : (rows : List Row) → recovery_at (step rows s (turn.Act (act.Job id))).audit e ≡ option_map (finished_so (moment_at s) r.purpose n) (recovery_at s.audit e)
  audit-ends rows =
      ap (λ (o : Option Unended). recovery_at (closed_by s.audit (moment_at s) (closing_of (option_map (turn_of s) o))) e) is.found
      ∙ (ap (λ (h : Hooked). recovery_at (closed_by s.audit (moment_at s) (closing_for h.taken.recovery h.taken.step h.docket.entry)) e) turned
      ∙ (ap (λ (o : Option ℕ). recovery_at (closed_by s.audit (moment_at s) (closing_for (recovery_after s r) own.taken.step o)) e) entry
      ∙ (ap (λ (x : JobStep). recovery_at (closed_by s.audit (moment_at s) (closing_at (recovery_after s r) x e)) e) told
      ∙ (ap (λ (o : Option ServerNo). recovery_at (audit_so s.audit e (moment_at s) (is_takeover (recovery_after s r).purpose) (done_with o)) e) promoted
      ∙ (ap (λ (u : Purpose). recovery_at (audit_so s.audit e (moment_at s) (is_takeover u) (ending.Promoted n)) e) same-purpose
      ∙ finished-at s.audit e (moment_at s) n (is_takeover r.purpose))))))

  closed-same : (k : KeptRecovery) (b : Bool) → closed_so (moment_at s) b (ending.Promoted n) k ≡ promoted_so (moment_at s) n b k
  closed-same k true = refl
  closed-same k false = refl

  abbrev before : List Change
  before = changes_by s.book (job_observation (turned_at s id))

  -- the entry as it is kept
  abbrev kept_as : Bool → Ending → Option KeptRecovery → List Change
  kept_as b o found = option_to_list (option_map (λ k. put_recovery (closed_so (moment_at s) b o k)) found)

  changes-are : (rows : List Row) (k : KeptRecovery) → recovery_at s.audit e ≡ Some k
      → changes_of rows s (turn.Act (act.Job id)) ≡ before ++ put_recovery (finished_so (moment_at s) r.purpose n k) ∷ []
  changes-are rows k at =
      ap (λ (o : Option Unended). before ++ closing_changes s.audit (moment_at s) (closing_of (option_map (turn_of s) o))) is.found
      ∙ (ap (λ (h : Hooked). before ++ closing_changes s.audit (moment_at s) (closing_for h.taken.recovery h.taken.step h.docket.entry)) turned
      ∙ (ap (λ (o : Option ℕ). before ++ closing_changes s.audit (moment_at s) (closing_for (recovery_after s r) own.taken.step o)) entry
      ∙ (ap (λ (x : JobStep). before ++ closing_changes s.audit (moment_at s) (closing_at (recovery_after s r) x e)) told
      ∙ (ap (λ (o : Option ServerNo). before ++ kept_as (is_takeover (recovery_after s r).purpose) (done_with o) (recovery_at s.audit e)) promoted
      ∙ (ap (λ (u : Purpose). before ++ kept_as (is_takeover u) (ending.Promoted n) (recovery_at s.audit e)) same-purpose
      ∙ (ap (λ (o : Option KeptRecovery). before ++ kept_as (is_takeover r.purpose) (ending.Promoted n) o) at
      ∙ ap (λ (x : KeptRecovery). before ++ put_recovery x ∷ []) (closed-same k (is_takeover r.purpose))))))))

  pub entry-kept : (rows : List Row) (k : KeptRecovery) → recovery_at s.audit e ≡ Some k
      → Contains (changes_of rows s (turn.Act (act.Job id))) (put_recovery (finished_so (moment_at s) r.purpose n k))
  entry-kept rows k at =
      let put = put_recovery (finished_so (moment_at s) r.purpose n k) in
      subst (λ (cs : List Change). Contains cs put) (sym (changes-are rows k at)) (Contains-push before put)
