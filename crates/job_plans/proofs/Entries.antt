-- The entries that a log keeps, and a search among them.
use Rattle.job_plans.proofs.Prelude.{Server, Txn, World, alike, entry-is, first_not, kept_from, last_below, le-ltb, log_of, logged_by, lt-ltb}
use Rattle.job_plans.proofs.Prelude.{purged_len, same_Some, server-there as nth-there, server_at, shows_same, slice_get_past, slice_get_within}
use Rattle.std.proofs.Common.{◌≡◌, ℕ, suc, ◌+◌, ◌<◌, ◌≤◌, Bool, true, false, cond, not, length, refl, sym, ◌∙◌, ap, subst, Option, Some, None, arith, nat_lt, option_and_then, option_map, slice_get}

-- ---- what is kept

module _ (s : Server) (k : ℕ) where
  pub entry-kept : kept_from s ≤ k → logged_by s k ≡ slice_get s.history.txns k
  entry-kept le = go s.settings.logs le
    where
      go : (b : Bool) → cond b (purged_len s) (length s.history.txns) ≤ k
          → cond (not b) None (cond (nat_lt k (purged_len s)) None (slice_get s.history.txns k)) ≡ slice_get s.history.txns k
      go true le = ap (λ c. cond c None (slice_get s.history.txns k)) (le-ltb k (purged_len s) le)
      go false le = sym (slice_get_past s.history.txns k le)

  pub entry-gone : k < kept_from s → logged_by s k ≡ None
  entry-gone lt = go s.settings.logs lt
    where
      go : (b : Bool) → k < cond b (purged_len s) (length s.history.txns) → cond (not b) None (cond (nat_lt k (purged_len s)) None (slice_get s.history.txns k)) ≡ None
      go true lt = ap (λ c. cond c None (slice_get s.history.txns k)) (lt-ltb k (purged_len s) lt)
      go false lt = refl

-- ---- the last of the numbers below one

module _ (p : ℕ → Bool) where
  pub last-here : (n k : ℕ) → n ≡ k + 1 → p k ≡ true → last_below p n ≡ Some k
  last-here n k is h =
      let next : n ≡ suc k = omega (arith, is) in
      ap (last_below p) next ∙ ap (λ b. cond b (Some k) (last_below p k)) h

  pub last-before : (n k : ℕ) → n ≡ k + 1 → p k ≡ false → last_below p n ≡ last_below p k
  last-before n k is h =
      let next : n ≡ suc k = omega (arith, is) in
      ap (last_below p) next ∙ ap (λ b. cond b (Some k) (last_below p k)) h

  -- ---- the first that doesn't

  pub first-here : (k n m : ℕ) → n ≡ m + 1 → p k ≡ false → first_not p k n ≡ Some k
  first-here k n m is h =
      let next : n ≡ suc m = omega (arith, is) in
      ap (first_not p k) next ∙ ap (λ b. cond b (first_not p (suc k) m) (Some k)) h

  pub first-after : (k n m : ℕ) → n ≡ m + 1 → p k ≡ true → first_not p k n ≡ first_not p (k + 1) m
  first-after k n m is h =
      let next : n ≡ suc m = omega (arith, is) in
      let more : suc k ≡ k + 1 = omega arith in
      ap (first_not p k) next ∙ ap (λ b. cond b (first_not p (suc k) m) (Some k)) h ∙ ap (λ x. first_not p x m) more

-- ---- what is read of a kept entry

module _ (s : Server) (f : Option Txn → Bool) where
  pub test-kept : (k : ℕ) (t : Txn) → kept_from s ≤ k → slice_get s.history.txns k ≡ Some t → f (logged_by s k) ≡ f (Some t)
  test-kept k t le at = ap f (entry-kept s k le ∙ at)

  pub test-gone : (k : ℕ) → k < kept_from s → f None ≡ false → f (logged_by s k) ≡ false
  test-gone k lt none = ap f (entry-gone s k lt) ∙ none

-- the transaction of an index, as the world answers it
pub txn-of : (w : World) (n k : ℕ) (s : Server) (t : Txn) → server_at w n ≡ Some s → option_and_then (λ x. slice_get x.history.txns k) (server_at w n) ≡ Some t → slice_get s.history.txns k ≡ Some t
txn-of w n k s t at h = sym (ap (λ o. option_and_then (λ x. slice_get x.history.txns k) o) at) ∙ h

pub count-of : (w : World) (n k : ℕ) (s : Server) → server_at w n ≡ Some s → option_map (λ x. length x.history.txns) (server_at w n) ≡ Some k → length s.history.txns ≡ k
count-of w n k s at h = same_Some (length s.history.txns) k (sym (ap (λ o. option_map (λ x. length x.history.txns) o) at) ∙ h)

pub counted : (o : Option Server) (k : ℕ) → option_map (λ x. length x.history.txns) o ≡ Some k → (s : Server) × (o ≡ Some s) × (length s.history.txns ≡ k)
counted None k h = cc
counted (Some s) k h = (s, refl, same_Some (length s.history.txns) k h)

-- ---- two entries

module _ (every : ℕ) (x y : Server) where
  pub alike-at : (k m : ℕ) (t u : Txn) → kept_from x ≤ k → kept_from y ≤ m → slice_get x.history.txns k ≡ Some t → slice_get y.history.txns m ≡ Some u
      → alike every (logged_by x k) (logged_by y m) ≡ shows_same every t u
  alike-at k m t u from to at_x at_y =
      ap (λ o. alike every o (logged_by y m)) (entry-kept x k from ∙ at_x) ∙ ap (alike every (Some t)) (entry-kept y m to ∙ at_y)

  without : (o : Option Txn) → alike every o None ≡ false
  without None = refl
  without (Some t) = refl

  pub alike-short : (k m : ℕ) → kept_from y ≤ m → length y.history.txns ≤ m → alike every (logged_by x k) (logged_by y m) ≡ false
  alike-short k m to past = ap (alike every (logged_by x k)) (entry-kept y m to ∙ slice_get_past y.history.txns m past) ∙ without (logged_by x k)

-- ---- what was found

-- an entry that is read
pub record IsKept (s : Server) (k : ℕ) (t : Txn) : Type 0 where
  pub kept : kept_from s ≤ k
  pub below : k < length s.history.txns
  pub is : slice_get s.history.txns k ≡ Some t

pub kept-is : (s : Server) (k : ℕ) (t : Txn) → logged_by s k ≡ Some t → IsKept s k t
kept-is s k t h =
    let e = entry-is s k t h in
    record {
      kept = subst (λ b. cond b (purged_len s) (length s.history.txns) ≤ k) (sym e.logs) e.kept;
      below = slice_get_within s.history.txns k t e.is;
      is = e.is;
    }

pub server-there : (w : World) (n : ℕ) → n < length w.servers → (s : Server) × (server_at w n ≡ Some s)
server-there w n h = nth-there w.servers n h

-- a server of which no log is given doesn't log
log-none : (s : Server) → log_of s ≡ None → s.settings.logs ≡ false
log-none s h = go s.settings.logs h
  where
    go : (b : Bool) → cond b (Some s.log) None ≡ None → b ≡ false
    go true h = cc
    go false h = refl

pub told-none : (w : World) (n : ℕ) (s : Server) → server_at w n ≡ Some s → option_map log_of (server_at w n) ≡ Some None → s.settings.logs ≡ false
told-none w n s at h = log-none s (same_Some (log_of s) None (sym (ap (option_map log_of) at) ∙ h))
