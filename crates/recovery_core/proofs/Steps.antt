-- What a scan keeps from one try to the next.
use Rattle.std.proofs.Common.{◌≡◌, ℕ, ◌+◌, ◌<◌, ◌≤◌, ◌∙◌, List, [], ◌∷◌, length, get_or, take, refl, sym, subst, Option, Some, None, slice_set}
use Rattle.recovery_core.proofs.Prelude.{All-push, Attempt, Begins, BookState, Entry, IsReady, Recovery as KeptRecovery, Refusal, ServerNo, Staged}
use Rattle.recovery_core.proofs.Prelude.{World, after_try, fold_more, length-set, recovery_begins, scan_step, scanned_over, staged_refusal}
use Rattle.recovery_core.proofs.Prelude.{staged_try, taken, unless_refused}

pub length-taken : (leases : List (Option ℕ)) (list : List ServerNo) (job : ℕ) → length (taken leases list job) ≡ length leases
length-taken leases [] job = refl
length-taken leases (n ∷ ns) job = length-taken (slice_set leases n.0 (Some job)) ns job ∙ length-set leases n.0 (Some job)

-- a recovery began at a small moment
abbrev pub IsEarly : KeptRecovery → Type 0
IsEarly r = r.begun.0 ≤ 9223372036854775808

pub step-ready : (w : World) (b : BookState) (a : Attempt) (wait : ℕ) (s : Staged) (e : Entry) → a.now.0 ≤ 9223372036854775808 → IsReady b s
    → IsReady b (after_try s e (staged_try w b a wait s e.no))
step-ready w b a wait s e early ready = go (staged_refusal w b a s e.no)
  where
    begins : Begins
    begins = recovery_begins (record b { leases = s.leases }) s.audit a.now a.block wait (s.last + 1) e.no

    go : (o : Option Refusal) → IsReady b (after_try s e (unless_refused o begins))
    go None = record {
      leases = length-taken s.leases begins.list (s.last + 1) ∙ ready.leases;
      begun = All-push IsEarly s.audit.recoveries begins.entry ready.begun early;
    }
    go (Some r) = record { leases = ready.leases; begun = ready.begun }

-- one more entry is tried
pub step-more : (w : World) (b : BookState) (by : ServerNo → Attempt) (wait : ℕ) (start : Staged) (items : List Entry) (i : ℕ) (d : Entry) (a : Attempt) (st new : Staged)
    → i < length items → a ≡ by (get_or items i d).no → st ≡ scanned_over w b by wait start (take i items)
    → new ≡ after_try st (get_or items i d) (staged_try w b a wait st (get_or items i d).no)
    → new ≡ scanned_over w b by wait start (take (i + 1) items)
step-more w b by wait start items i d a st new within is so_far tried =
    tried
    ∙ (λ j. after_try (so_far j) e (staged_try w b (is j) wait (so_far j) e.no))
    ∙ sym (fold_more (scan_step w b by wait) start items i d within)
  where
    e : Entry
    e = get_or items i d

pub more-ready : (w : World) (b : BookState) (wait : ℕ) (items : List Entry) (i : ℕ) (d : Entry) (a : Attempt) (st new : Staged) → a.now.0 ≤ 9223372036854775808 → IsReady b st
    → new ≡ after_try st (get_or items i d) (staged_try w b a wait st (get_or items i d).no) → IsReady b new
more-ready w b wait items i d a st new early ready is = subst (IsReady b) (sym is) (step-ready w b a wait st (get_or items i d) early ready)
