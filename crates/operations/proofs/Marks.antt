-- What is found in logs that are matched.
use Rattle.std.proofs.Common.{◌≡◌, ℕ, zero, suc, ◌+◌, ◌<◌, ◌≤◌, Bool, true, false, cond, not, length, refl, sym, ◌∙◌, ap, inl, inr, Option, Some, None, Err, arith, nat_lt, slice_get}
use Rattle.operations.proofs.Prelude.{Server, ServerNo, Txn, World, can_reach, cases_eq, false≢true, first_not, first_unlike, is_mark, is_mark_there}
use Rattle.operations.proofs.Prelude.{is_same_there, last_below, last_mark, le-ltb, logged_by, ltb-false, match_between, match_logs, match_of}
use Rattle.operations.proofs.Prelude.{matched_at, matched_behind, matched_from, place_of_mark, purged_len, same_Some, same_txn, server_at}
use Rattle.operations.proofs.Prelude.fault

-- ---- the last of the numbers below one

-- it passes, and those after it don't
pub record IsLast (p : ℕ → Bool) (n k : ℕ) : Type 0 where
  pub below : k < n
  pub passes : p k ≡ true
  pub behind : (m : ℕ) → k < m → m < n → p m ≡ false

module _ (p : ℕ → Bool) where
  pub last-is : (n k : ℕ) → last_below p n ≡ Some k → IsLast p n k
  last-is zero k h = cc
  last-is (suc n) k h = go (p n) refl h (last-is n k)
    where
      go : (b : Bool) → p n ≡ b → cond b (Some n) (last_below p n) ≡ Some k → (last_below p n ≡ Some k → IsLast p n k) → IsLast p (suc n) k
      go true e h before =
          let same : n ≡ k = same_Some n k h in
          record { below = omega (arith, same); passes = ap p (sym same) ∙ e; behind = λ m lt le. absurd (omega (arith, same, lt, le)) }
      go false e h before =
          let rest = before h in
          record {
            below = omega (arith, rest.below);
            passes = rest.passes;
            behind = λ m lt le. elim (cases_eq m n) [
              | inl here ↦ ap p here ∙ e
              | inr apart ↦ rest.behind m lt (omega (arith, le, apart))
            ];
          }

  pub last-none : (n : ℕ) → ((k : ℕ) → k < n → p k ≡ false) → last_below p n ≡ None
  last-none zero f = refl
  last-none (suc n) f = ap (λ b. cond b (Some n) (last_below p n)) (f n (omega arith)) ∙ last-none n (λ k lt. f k (omega (arith, lt)))

  pub is-last : (n k : ℕ) → IsLast p n k → last_below p n ≡ Some k
  is-last zero k l = absurd (omega (arith, l.below))
  is-last (suc n) k l = elim (cases_eq k n) [
    | inl here ↦ ap (λ b. cond b (Some n) (last_below p n)) (ap p (sym here) ∙ l.passes) ∙ ap Some (sym here)
    | inr apart ↦
        let below : k < n = omega (arith, l.below, apart) in
        ap (λ b. cond b (Some n) (last_below p n)) (l.behind n below (omega arith))
        ∙ is-last n k (record { below = below; passes = l.passes; behind = λ m lt le. l.behind m lt (omega (arith, le)) })
  ]

  -- ---- the first that doesn't pass

  pub first-none : (k n : ℕ) → first_not p k n ≡ None → (m : ℕ) → k ≤ m → m < k + n → p m ≡ true
  first-none k zero h m from to = absurd (omega (arith, from, to))
  first-none k (suc n) h m from to = go (p k) refl h (first-none (suc k) n)
    where
      go : (b : Bool) → p k ≡ b → cond b (first_not p (suc k) n) (Some k) ≡ None
          → (first_not p (suc k) n ≡ None → (l : ℕ) → suc k ≤ l → l < suc k + n → p l ≡ true) → p m ≡ true
      go true e h after = elim (cases_eq m k) [
        | inl here ↦ ap p here ∙ e
        | inr apart ↦ after h m (omega (arith, from, apart)) (omega (arith, to))
      ]
      go false e h after = cc

  pub none-first : (k n : ℕ) → ((m : ℕ) → k ≤ m → m < k + n → p m ≡ true) → first_not p k n ≡ None
  none-first k zero f = refl
  none-first k (suc n) f =
      ap (λ b. cond b (first_not p (suc k) n) (Some k)) (f k (omega arith) (omega arith))
      ∙ none-first (suc k) n (λ m from to. f m (omega (arith, from)) (omega (arith, to)))

-- ---- entries

-- an entry that is read is one of those that the log keeps
pub record IsEntry (s : Server) (k : ℕ) (t : Txn) : Type 0 where
  pub logs : s.settings.logs ≡ true
  pub kept : purged_len s ≤ k
  pub is : slice_get s.history.txns k ≡ Some t

pub entry-is : (s : Server) (k : ℕ) (t : Txn) → logged_by s k ≡ Some t → IsEntry s k t
entry-is s k t h = go s.settings.logs (nat_lt k (purged_len s)) refl refl h
  where
    go : (a b : Bool) → s.settings.logs ≡ a → nat_lt k (purged_len s) ≡ b → cond (not a) None (cond b None (slice_get s.history.txns k)) ≡ Some t → IsEntry s k t
    go false b e f h = cc
    go true true e f h = cc
    go true false e f h = record { logs = e; kept = ltb-false k (purged_len s) f; is = h }

pub is-entry : (s : Server) (k : ℕ) (t : Txn) → IsEntry s k t → logged_by s k ≡ Some t
is-entry s k t e =
    ap (λ b. cond (not b) None (cond (nat_lt k (purged_len s)) None (slice_get s.history.txns k))) e.logs
    ∙ ap (λ b. cond b None (slice_get s.history.txns k)) (le-ltb k (purged_len s) e.kept) ∙ e.is

pub mark-there : (every : ℕ) (o : Option Txn) → is_mark_there every o ≡ true → (t : Txn) × (o ≡ Some t) × (is_mark every t ≡ true)
mark-there every None h = absurd (false≢true h)
mark-there every (Some t) h = (t, refl, h)

pub same-there : (t : Txn) (o : Option Txn) → is_same_there t o ≡ true → (x : Txn) × (o ≡ Some x) × (same_txn x t ≡ true)
same-there t None h = absurd (false≢true h)
same-there t (Some x) h = (x, refl, h)

-- a server that doesn't log keeps nothing
pub unlogged-none : (d : Server) (o : Option Txn) → d.settings.logs ≡ false → place_of_mark d o ≡ None
unlogged-none d None logs = refl
unlogged-none d (Some t) logs =
    last-none (λ k. is_same_there t (logged_by d k)) (length d.history.txns)
    (λ k lt. ap (λ b. is_same_there t (cond (not b) None (cond (nat_lt k (purged_len d)) None (slice_get d.history.txns k)))) logs)

-- ---- two servers

module _ (w : World) (r d : ServerNo) (every : ℕ) (x y : Server) (at_r : server_at w r.0 ≡ Some x) (at_d : server_at w d.0 ≡ Some y) where
  pub match-of-both : can_reach (server_at w r.0) ≡ true → can_reach (server_at w d.0) ≡ true → match_logs w r d every ≡ match_of every x y
  match-of-both here there =
      ap (λ b. cond (not b) (Err (fault.Unreachable r)) (cond (not (can_reach (server_at w d.0))) (Err (fault.Unreachable d)) (match_between every (server_at w r.0) (server_at w d.0)))) here
      ∙ ap (λ b. cond (not b) (Err (fault.Unreachable d)) (match_between every (server_at w r.0) (server_at w d.0))) there
      ∙ ap (λ o. match_between every o (server_at w d.0)) at_r ∙ ap (match_between every (Some x)) at_d

module _ (every : ℕ) (x y : Server) where
  pub match-behind : (i : ℕ) (t : Txn) (j : ℕ) → last_mark every x ≡ Some i → logged_by x i ≡ Some t → place_of_mark y (Some t) ≡ Some j → match_of every x y ≡ matched_at x y i j (first_unlike every x y i j)
  match-behind i t j mark is place =
      ap (matched_from every x y) mark ∙ ap (λ o. matched_behind every x y i (place_of_mark y o)) is ∙ ap (matched_behind every x y i) place

  pub match-unlogged : y.settings.logs ≡ false → match_of every x y ≡ Err fault.NoMark
  match-unlogged logs = go (last_mark every x)
    where
      go : (o : Option ℕ) → matched_from every x y o ≡ Err fault.NoMark
      go None = refl
      go (Some i) = ap (matched_behind every x y i) (unlogged-none y (logged_by x i) logs)
