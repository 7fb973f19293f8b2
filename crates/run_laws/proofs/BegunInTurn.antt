-- Recoveries that begin in turn leave a book, and jobs whose turns can be taken.
use Rattle.std.proofs.Common.{◌≡◌, ◌∙◌, ℕ, ◌<◌, Bool, true, false, List, [], ◌∷◌, length, map, refl, sym, subst, Option, Some, All, IfSome, ◌||◌, ◌==◌, slice_set}
use Rattle.run_laws.proofs.Prelude.{All-cons, All-head, All-nil, All-tail, AuditState, BeginInTurn, Begins, BookState, CanBegin, IsBook, IsListOf}
use Rattle.run_laws.proofs.Prelude.{IsReady, IsShaped, Purpose, ServerNo, begun, begun-shaped, eqb-true, false≢true, first_source, leases_after}
use Rattle.run_laws.proofs.Prelude.{leases_set, length-set, list_any, recovery_job, taken}
use Rattle.run_laws.proofs.Prelude.Begun.{IsListed}
use Rattle.run_laws.proofs.Prelude.RecoveryPlans.{Recovery}
use Rattle.run_laws.proofs.Prelude.purpose

-- ---- leases

pub length-taken : (list : List ServerNo) (leases : List (Option ℕ)) (id : ℕ) → length (taken leases list id) ≡ length leases
length-taken [] leases id = refl
length-taken (k ∷ ks) leases id = length-taken ks (slice_set leases k.0 (Some id)) id ∙ length-set leases k.0 (Some id)

pub length-after : (leases : List (Option ℕ)) (xs : List Begins) → length (leases_after leases xs) ≡ length leases
length-after leases [] = refl
length-after leases (x ∷ xs) = length-after (taken leases x.list x.job.core.id) xs ∙ length-taken x.list leases x.job.core.id

pub IsBook-after : (b : BookState) (xs : List Begins) → IsBook b → IsBook (record b { leases = leases_after b.leases xs })
IsBook-after b xs is = leases_set b (leases_after b.leases xs) is (length-after b.leases xs)

-- ---- jobs

module _ (count : ℕ) where
  abbrev IsThere : ServerNo → Type 0
  IsThere n = n.0 < count

  -- what is of a list of servers that are there is one of them
  listed-there : (list : List ServerNo) (n : ℕ) → All IsThere list → IsListed list n → n < count
  listed-there [] n all h = absurd (false≢true h)
  listed-there (k ∷ ks) n all h = go (k.0 == n) refl h (listed-there ks n (All-tail IsThere k ks all))
    where
      go : (b : Bool) → (k.0 == n) ≡ b → (b || list_any (λ (m : ServerNo). m.0 == n) ks) ≡ true → (IsListed ks n → n < count) → n < count
      go true e any rest = subst (λ (m : ℕ). m < count) (eqb-true k.0 n e) (All-head IsThere k ks all)
      go false e any rest = rest any

  -- who is to be promoted from the start is there
  source-there : (list : List ServerNo) (u : Purpose) (f : ServerNo) → All IsThere list → IsListOf (IsListed list) (λ n. n < count) u f → IfSome (first_source u) IsThere
  source-there list purpose.Regroup f all h = tt
  source-there list purpose.Master f all h = tt
  source-there list (purpose.Intermediate s) f all h = h
  source-there list (purpose.Takeover d) f all h = listed-there list d.0 all h.1

  begun-ready : (leases : List (Option ℕ)) (a : AuditState) (last : ℕ) (x : Begins) → CanBegin count leases a last x → IsReady count (recovery_job x)
  begun-ready leases a last x can = record {
    named = can.named;
    promoted = subst (λ (r : Recovery). IfSome r.outcome.promoted IsThere) (sym can.fresh) (source-there x.list x.job.purpose x.job.failed can.within can.listed);
    shaped = subst IsShaped (sym can.fresh) (begun-shaped x.job.purpose x.job.means x.job.core.id x.job.core.wait x.job.failed x.job.replicas x.job.order);
  }

  pub all-ready : (leases : List (Option ℕ)) (a : AuditState) (last : ℕ) (xs : List Begins) → BeginInTurn count leases a last xs → All (IsReady count) (map recovery_job xs)
  all-ready leases a last [] each = All-nil (IsReady count)
  all-ready leases a last (x ∷ xs) each =
      All-cons (IsReady count) (recovery_job x) (map recovery_job xs) (begun-ready leases a last x each.0)
      (all-ready (taken leases x.list x.job.core.id) (begun a x.entry) x.job.core.id xs each.1)
