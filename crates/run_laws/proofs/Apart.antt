-- What begins keeps the block periods of its cluster's recoveries.
use Rattle.std.proofs.Common.{◌≡◌, ℕ, ◌+◌, ◌∙◌, List, [], ◌∷◌, ◌++◌, refl, sym, ap, subst, Option, Some, None, Ok}
use Rattle.run_laws.proofs.Prelude.{Attempt, AuditState, BeginApartInTurn, Begins, BeginsApart, BookState, Entry, Moment, Refusal, ServerNo, Staged}
use Rattle.run_laws.proofs.Prelude.{World, actionable_in, after_try, apart-begins, audit_after, begun, entries_of, from_start, label_at, recovery-may}
use Rattle.run_laws.proofs.Prelude.{recovery_begins, recovery_refusal, recovery_try, scan_step, scanned, scanned_over, staged_refusal, takeover-may}
use Rattle.run_laws.proofs.Prelude.{takeover_begins, takeover_refusal, takeover_try, unless_refused, unrefused}

module _ (w : World) (b : BookState) (audit : AuditState) (a : Attempt) where
  recovery-clear : (wait job : ℕ) (f : ServerNo) → recovery_refusal w b audit a f ≡ None → BeginsApart a.now audit (recovery_begins b audit a.now a.block wait job f).entry
  recovery-clear wait job f free = record {
    number = refl;
    moment = refl;
    clear = (apart-begins (label_at b f) a.now.0 audit audit.next (recovery-may b audit a f w free)).1;
  }

  takeover-clear : (wait job : ℕ) (i d : ServerNo) → takeover_refusal w b audit a i d ≡ None → BeginsApart a.now audit (takeover_begins b audit a.now a.block wait job i d).entry
  takeover-clear wait job i d free = record {
    number = refl;
    moment = refl;
    clear = (apart-begins (label_at b i) a.now.0 audit audit.next (takeover-may b audit a i w d free)).1;
  }

  pub recovery-apart : (wait job : ℕ) (f : ServerNo) (x : Begins) → recovery_try w b audit a wait job f ≡ Ok x → BeginsApart a.now audit x.entry
  recovery-apart wait job f x h =
      let parts = unrefused (recovery_refusal w b audit a f) (recovery_begins b audit a.now a.block wait job f) x h in
      subst (λ (y : Begins). BeginsApart a.now audit y.entry) parts.1 (recovery-clear wait job f parts.0)

  pub takeover-apart : (wait job : ℕ) (i d : ServerNo) (x : Begins) → takeover_try w b audit a wait job i d ≡ Ok x → BeginsApart a.now audit x.entry
  takeover-apart wait job i d x h =
      let parts = unrefused (takeover_refusal w b audit a i d) (takeover_begins b audit a.now a.block wait job i d) x h in
      subst (λ (y : Begins). BeginsApart a.now audit y.entry) parts.1 (takeover-clear wait job i d parts.0)

-- ---- one after another

after-more : (a : AuditState) (xs : List Begins) (x : Begins) → audit_after a (xs ++ x ∷ []) ≡ begun (audit_after a xs) x.entry
after-more a [] x = refl
after-more a (y ∷ ys) x = after-more (begun a y.entry) ys x

apart-more : (now : Moment) (a : AuditState) (xs : List Begins) (x : Begins) → BeginApartInTurn now a (entries_of xs)
    → BeginsApart now (audit_after a xs) x.entry → BeginApartInTurn now a (entries_of (xs ++ x ∷ []))
apart-more now a [] x each last = (last, tt)
apart-more now a (y ∷ ys) x each last = (each.0, apart-more now (begun a y.entry) ys x each.1 last)

-- ---- by a scan

module _ (w : World) (b : BookState) (by : ServerNo → Attempt) (wait : ℕ) (now : Moment) (moments : (n : ServerNo) → (by n).now ≡ now) (audit : AuditState) where
  -- what has begun so far, beside the audit from which the scan started
  record HasBegun (s : Staged) : Type 0 where
    audit_is : s.audit ≡ audit_after audit s.begun
    apart : BeginApartInTurn now audit (entries_of s.begun)

  abbrev begins_at : Staged → Entry → Begins
  begins_at s e = recovery_begins (record b { leases = s.leases }) s.audit (by e.no).now (by e.no).block wait (s.last + 1) e.no

  clear-at : (s : Staged) (e : Entry) → staged_refusal w b (by e.no) s e.no ≡ None → BeginsApart now s.audit (begins_at s e).entry
  clear-at s e free =
      subst (λ (t : Moment). BeginsApart t s.audit (begins_at s e).entry) (moments e.no)
      (recovery-clear w (record b { leases = s.leases }) s.audit (by e.no) wait (s.last + 1) e.no free)

  step-begun : (s : Staged) (e : Entry) → HasBegun s → HasBegun (scan_step w b by wait s e)
  step-begun s e so_far = go (staged_refusal w b (by e.no) s e.no) refl
    where
      go : (o : Option Refusal) → staged_refusal w b (by e.no) s e.no ≡ o → HasBegun (after_try s e (unless_refused o (begins_at s e)))
      go None free = record {
        audit_is = ap (λ (a : AuditState). begun a (begins_at s e).entry) so_far.audit_is ∙ sym (after-more audit s.begun (begins_at s e));
        apart = apart-more now audit s.begun (begins_at s e) so_far.apart
            (subst (λ (a : AuditState). BeginsApart now a (begins_at s e).entry) so_far.audit_is (clear-at s e free));
      }
      go (Some r) why = record { audit_is = so_far.audit_is; apart = so_far.apart }

  over-begun : (s : Staged) (es : List Entry) → HasBegun s → HasBegun (scanned_over w b by wait s es)
  over-begun s [] so_far = so_far
  over-begun s (e ∷ es) so_far = over-begun (scan_step w b by wait s e) es (step-begun s e so_far)

  pub scan-apart : (last : ℕ) → BeginApartInTurn now audit (entries_of (scanned w b audit by wait last).begun)
  scan-apart last = (over-begun (from_start b audit last) (actionable_in b) (record { audit_is = refl; apart = tt })).apart
