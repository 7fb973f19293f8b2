-- What recoveries that begin in turn leave of the jobs and the audit.
use Rattle.std.proofs.Common.{◌≡◌, ℕ, ◌+◌, ◌-◌, ◌<◌, ◌≤◌, ◌^◌, Bool, true, false, List, [], ◌∷◌, ◌++◌, map, refl, sym, ap, subst, Option, arith, ◌==◌, ◌||◌, All, IfSome, fold, is_none}
use Rattle.orch_core.proofs.Prelude.{All-cons, All-head, All-nil, All-push, All-tail, AuditState, BeginInTurn, Begins, HasRoom, HaveEntries, IsAudit}
use Rattle.orch_core.proofs.Prelude.{IsAudit-begun, IsListed, IsListOf, IsShaped, IsUnended, MayBegin, Purpose, Recovery as KeptRecovery, Rise}
use Rattle.orch_core.proofs.Prelude.{Rise-push, ServerNo, Unended, apart-begins, append-nil, audit_after, begun, begun-shaped, eqb-true, false≢true}
use Rattle.orch_core.proofs.Prelude.{first_source, is_unended, joined, list_any, recovery_job}
use Rattle.orch_core.proofs.Prelude.Audits.{is_open}
use Rattle.orch_core.proofs.Prelude.Recoveries.{Recovery}
use Rattle.orch_core.proofs.Prelude.purpose
use Rattle.orch_core.proofs.Entries.{entries-joined}
use Rattle.orch_core.proofs.Recoveries.{HasBegun}

abbrev number_after : ℕ → List Begins → ℕ
number_after last xs = fold (λ k x. x.job.core.id) last xs

-- the next id
next-id : (a : AuditState) (r : KeptRecovery) → MayBegin a r → r.id ≡ a.next
next-id a r may = (apart-begins r.cluster r.begun.0 a r.id may.answered).0

module _ (count : ℕ) where
  -- a server of a list of servers that are there is there
  listed-within : (list : List ServerNo) → All (λ n. n.0 < count) list → (n : ℕ) → IsListed list n → n < count
  listed-within [] all n is = absurd (false≢true is)
  listed-within (k ∷ ks) all n is = go (k.0 == n) refl is (listed-within ks (All-tail (λ (m : ServerNo). m.0 < count) k ks all) n)
    where
      go : (c : Bool) → (k.0 == n) ≡ c → (c || list_any (λ (m : ServerNo). m.0 == n) ks) ≡ true → (IsListed ks n → n < count) → n < count
      go true e any rest = subst (λ (m : ℕ). m < count) (eqb-true k.0 n e) (All-head (λ (m : ServerNo). m.0 < count) k ks all)
      go false e any rest = rest any

  -- the source that is known from the start is there
  first-within : (P : ℕ → Type 0) (u : Purpose) (f : ServerNo) → ((n : ℕ) → P n → n < count) → IsListOf P (λ n. n < count) u f → IfSome (first_source u) (λ n. n.0 < count)
  first-within P purpose.Regroup f within h = tt
  first-within P purpose.Master f within h = tt
  first-within P (purpose.Intermediate s) f within h = h
  first-within P (purpose.Takeover d) f within h = within d.0 h.1

  last-most : (leases : List (Option ℕ)) (a : AuditState) (last : ℕ) (xs : List Begins) → BeginInTurn count leases a last xs → last ≤ number_after last xs
  last-most leases a last [] each = omega arith
  last-most leases a last (x ∷ xs) each =
      let rest = last-most _ (begun a x.entry) x.job.core.id xs each.1 in
      let number = each.0.number in
      omega (arith, rest, number)

  -- each job can be turned
  pub joined-range : (leases : List (Option ℕ)) (a : AuditState) (last : ℕ) (xs : List Begins) → BeginInTurn count leases a last xs → number_after last xs < 2 ^ 64
      → All (IsUnended count) (map recovery_job xs)
  joined-range leases a last [] each few = All-nil (IsUnended count)
  joined-range leases a last (x ∷ xs) each few =
      let most = last-most _ (begun a x.entry) x.job.core.id xs each.1 in
      let can = each.0 in
      All-cons (IsUnended count) (recovery_job x) (map recovery_job xs)
      (record {
        id = omega (arith, most, few);
        ready = record {
          named = can.named;
          promoted = subst (λ (r : Recovery). IfSome r.outcome.promoted (λ n. n.0 < count)) (sym can.fresh)
              (first-within (IsListed x.list) x.job.purpose x.job.failed (listed-within x.list can.within) can.listed);
          shaped = subst IsShaped (sym can.fresh) (begun-shaped x.job.purpose x.job.means x.job.core.id x.job.core.wait x.job.failed x.job.replicas x.job.order);
        };
      })
      (joined-range _ (begun a x.entry) x.job.core.id xs each.1 few)

  pub joined-rising : (low : ℕ) (leases : List (Option ℕ)) (a : AuditState) (last : ℕ) (xs : List Begins) (jobs : List Unended) → BeginInTurn count leases a last xs → Rise low jobs last
      → Rise low (jobs ++ map recovery_job xs) (number_after last xs)
  joined-rising low leases a last [] jobs each rise = subst (λ (js : List Unended). Rise low js last) (sym (append-nil jobs)) rise
  joined-rising low leases a last (x ∷ xs) jobs each rise =
      let number = each.0.number in
      subst (λ (js : List Unended). Rise low js (number_after x.job.core.id xs)) (joined jobs x xs)
      (joined-rising low _ (begun a x.entry) x.job.core.id xs (jobs ++ recovery_job x ∷ []) each.1 (Rise-push low jobs last (recovery_job x) (omega (arith, number)) rise))

  pub joined-audit : (leases : List (Option ℕ)) (a : AuditState) (last : ℕ) (xs : List Begins) → BeginInTurn count leases a last xs → IsAudit a → IsAudit (audit_after a xs)
  joined-audit leases a last [] each is = is
  joined-audit leases a last (x ∷ xs) each is =
      joined-audit _ (begun a x.entry) x.job.core.id xs each.1 (IsAudit-begun a x.entry (next-id a x.entry each.0.may) each.0.may.short is)

  pub joined-entries : (leases : List (Option ℕ)) (a : AuditState) (last : ℕ) (xs : List Begins) (jobs : List Unended) → BeginInTurn count leases a last xs → IsAudit a → HaveEntries a 0 jobs
      → HaveEntries (audit_after a xs) 0 (jobs ++ map recovery_job xs)
  joined-entries leases a last [] jobs each is entries = subst (HaveEntries a 0) (sym (append-nil jobs)) entries
  joined-entries leases a last (x ∷ xs) jobs each is entries =
      let next = next-id a x.entry each.0.may in
      let unended : is_unended x.entry ≡ true = ap (λ o. is_none o || is_open x.entry.outcome) each.0.ended in
      subst (HaveEntries (audit_after (begun a x.entry) xs) 0) (joined jobs x xs)
      (joined-entries _ (begun a x.entry) x.job.core.id xs (jobs ++ recovery_job x ∷ []) each.1 (IsAudit-begun a x.entry next each.0.may.short is)
      (entries-joined a jobs (recovery_job x) x.entry is next unended refl entries))

-- the next id is in its type's range
pub joined-next : (a : AuditState) (xs : List Begins) → HasRoom xs → a.next < 2 ^ 64 → (audit_after a xs).next < 2 ^ 64
joined-next a [] room fits = fits
joined-next a (x ∷ xs) room fits =
    let here = All-head (λ (y : Begins). y.entry.id < 18446744073709551615) x xs room in
    joined-next (begun a x.entry) xs (All-tail (λ (y : Begins). y.entry.id < 18446744073709551615) x xs room) (omega (arith, here))

pub joined-begun : (a : AuditState) (xs : List Begins) → All (λ x. x.entry.begun.0 ≤ 2 ^ 63) xs → HasBegun a.recoveries → HasBegun (audit_after a xs).recoveries
joined-begun a [] all began = began
joined-begun a (x ∷ xs) all began =
    joined-begun (begun a x.entry) xs (All-tail (λ (y : Begins). y.entry.begun.0 ≤ 2 ^ 63) x xs all)
    (All-push (λ (r : KeptRecovery). r.begun.0 ≤ 2 ^ 63) a.recoveries x.entry began (All-head (λ (y : Begins). y.entry.begun.0 ≤ 2 ^ 63) x xs all))
