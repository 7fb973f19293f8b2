use Rattle.std.proofs.Common.{◌≡◌, ℕ, ◌+◌, ◌<◌, ◌≤◌, Bool, true, false, cond, List, [], ◌∷◌, ◌++◌, length, refl, sym, ◌∙◌, ap, subst, inl, inr, ◌⊎◌, Some, arith, length-append, suc, ◌||◌, take, slice_get, ◌==◌}
use Rattle.replication_laws.proofs.Prelude.{IsKin, Txn, cases_eq, count_own, count_own-push, eq-eqb, length-take-le, nat_tests, own_txn, same_txn}
use Rattle.replication_laws.proofs.Prelude.{slice_get-snoc_cases, slice_get_within, sum_by-take-le, take-append-le, take-append_seam, take-length}
use Rattle.replication_laws.proofs.Prelude.{take-more}
use Rattle.replication_laws.proofs.Prelude.Histories.{holds}
pub use Rattle.server_words.proofs.OrchBase.Lists.{slice_get-snoc_old}

-- one or nothing
abbrev pub tick : Bool → ℕ
tick b = cond b 1 0

pub slice_get-snoc_new : {X : Type 0} (xs : List X) (y : X) → slice_get (xs ++ y ∷ []) (length xs) ≡ Some y
slice_get-snoc_new [] y = refl
slice_get-snoc_new (z ∷ xs) y = slice_get-snoc_new xs y

-- a history with one more transaction, and the others as they were
pub record Extends (h h' : ℕ → List Txn) (n : ℕ) (t : Txn) : Type 0 where
  pub here : h' n ≡ h n ++ t ∷ []
  pub others : (m : ℕ) → (m ≡ n → ⊥) → h' m ≡ h m

module _ (h h' : ℕ → List Txn) (n : ℕ) (t : Txn) (ext : Extends h h' n t) where
  old_or_new : (a i : ℕ) (x : Txn) → slice_get (h' a) i ≡ Some x → (slice_get (h a) i ≡ Some x) ⊎ ((a ≡ n) × (i ≡ length (h n)) × (x ≡ t))
  old_or_new a i x g =
      elim (cases_eq a n) [
        | inr apart ↦ inl (subst (λ (xs : List Txn). slice_get xs i ≡ Some x) (ext.others a apart) g)
        | inl here ↦
            elim (slice_get-snoc_cases (h n) t x i (subst (λ (xs : List Txn). slice_get xs i ≡ Some x) (ap h' here ∙ ext.here) g)) [
              | inl old ↦ inl (subst (λ (m : ℕ). slice_get (h m) i ≡ Some x) (sym here) old)
              | inr new ↦ inr (here, new.0, new.1)
            ]
      ]

  get_old : (a i : ℕ) (x : Txn) → slice_get (h a) i ≡ Some x → slice_get (h' a) i ≡ Some x
  get_old a i x g =
      elim (cases_eq a n) [
        | inr apart ↦ subst (λ (xs : List Txn). slice_get xs i ≡ Some x) (sym (ext.others a apart)) g
        | inl here ↦
            subst (λ (m : ℕ). slice_get (h' m) i ≡ Some x) (sym here)
            (subst (λ (xs : List Txn). slice_get xs i ≡ Some x) (sym ext.here)
            (slice_get-snoc_old (h n) t x i (subst (λ (m : ℕ). slice_get (h m) i ≡ Some x) here g)))
      ]

  take_old : (a k : ℕ) → k ≤ length (h a) → take k (h' a) ≡ take k (h a)
  take_old a k le =
      elim (cases_eq a n) [
        | inr apart ↦ ap (take k) (ext.others a apart)
        | inl here ↦
            ap (take k) (ap h' here ∙ ext.here) ∙ take-append-le k (h n) (t ∷ []) (subst (λ (m : ℕ). k ≤ length (h m)) here le) ∙ ap (λ m. take k (h m)) (sym here)
      ]

  -- the whole of the longer history
  take_new : take (length (h n) + 1) (h' n) ≡ h n ++ t ∷ []
  take_new = rw ext.here (ap (λ k. take k (h n ++ t ∷ [])) (sym (length-append (h n) (t ∷ []))) ∙ take-length (h n ++ t ∷ []))

  take_to : (a i : ℕ) (x : Txn) → slice_get (h a) i ≡ Some x → take (i + 1) (h' a) ≡ take (i + 1) (h a)
  take_to a i x g = let within : i < length (h a) = slice_get_within (h a) i x g in take_old a (i + 1) (omega arith)

  -- The histories still agree (`IsKin`) if the new transaction is nowhere else except after the same prefix, has its
  -- number, and is in its origin's history.
  pub IsKin-extended : IsKin h
      → ((b j : ℕ) (y : Txn) → slice_get (h b) j ≡ Some y → same_txn t y ≡ true → take (j + 1) (h b) ≡ h n ++ t ∷ [])
      → t.seq ≡ count_own t.origin.0 (h n) + 1
      → (t.origin.0 ≡ n) ⊎ ((j : ℕ) × (slice_get (h t.origin.0) j ≡ Some t))
      → IsKin h'
  IsKin-extended kin alone number at_home = record {
    alike = λ a b i j x y g k same.
        elim (old_or_new a i x g) [
          | inl old_x ↦ elim (old_or_new b j y k) [
            | inl old_y ↦ take_to a i x old_x ∙ kin.alike a b i j x y old_x old_y same ∙ sym (take_to b j y old_y)
            | inr new_y ↦ take_to a i x old_x ∙ meets a i x old_x (swapped x y same new_y.2) ∙ sym (at_new b j new_y.0 new_y.1)
          ]
          | inr new_x ↦ elim (old_or_new b j y k) [
            | inl old_y ↦ at_new a i new_x.0 new_x.1 ∙ sym (take_to b j y old_y ∙ meets b j y old_y (subst (λ (z : Txn). same_txn z y ≡ true) new_x.2 same))
            | inr new_y ↦ at_new a i new_x.0 new_x.1 ∙ sym (at_new b j new_y.0 new_y.1)
          ]
        ];
    numbered = λ a i x g.
        elim (old_or_new a i x g) [
          | inl old ↦
              let within : i < length (h a) = slice_get_within (h a) i x old in
              rw (take_old a i (omega arith)) (kin.numbered a i x old)
          | inr new ↦ numbered_new a i x new.0 new.1 new.2
        ];
    home = λ a i x g.
        elim (old_or_new a i x g) [
          | inl old ↦ let k = kin.home a i x old in (k.0, get_old x.origin.0 k.0 x k.1)
          | inr new ↦ rw new.2 (at_home_new at_home)
        ];
  }
    where
      meets : (b j : ℕ) (y : Txn) → slice_get (h b) j ≡ Some y → same_txn t y ≡ true → take (j + 1) (h b) ≡ h n ++ t ∷ []
      meets = alone

      swapped : (x y : Txn) → same_txn x y ≡ true → y ≡ t → same_txn t x ≡ true
      swapped x y same e = let s : same_txn y x ≡ true = grind (arith, nat_tests) in subst (λ (z : Txn). same_txn z x ≡ true) e s

      at_new : (a i : ℕ) → a ≡ n → i ≡ length (h n) → take (i + 1) (h' a) ≡ h n ++ t ∷ []
      at_new a i here last = ap (λ m. take (i + 1) (h' m)) here ∙ ap (λ k. take (k + 1) (h' n)) last ∙ take_new

      numbered_new : (a i : ℕ) (x : Txn) → a ≡ n → i ≡ length (h n) → x ≡ t → x.seq ≡ count_own x.origin.0 (take i (h' a)) + 1
      numbered_new a i x here last is =
          let e : take i (h' a) ≡ h n = ap (λ m. take i (h' m)) here ∙ ap (take i) ext.here ∙ ap (λ k. take k (h n ++ t ∷ [])) last ∙ take-append_seam (h n) (t ∷ []) in
          rw (is, e) number

      at_home_new : (t.origin.0 ≡ n) ⊎ ((j : ℕ) × (slice_get (h t.origin.0) j ≡ Some t)) → (j : ℕ) × (slice_get (h' t.origin.0) j ≡ Some t)
      at_home_new (inl own) =
          (length (h n), ap (λ m. slice_get (h' m) (length (h n))) own ∙ ap (λ xs. slice_get xs (length (h n))) ext.here ∙ slice_get-snoc_new (h n) t)
      at_home_new (inr old) = (old.0, get_old t.origin.0 old.0 t old.1)

-- no history holds a transaction twice
pub IsKin-once : (h : ℕ → List Txn) → IsKin h → (a i j : ℕ) (x y : Txn) → slice_get (h a) i ≡ Some x → slice_get (h a) j ≡ Some y → same_txn x y ≡ true → i ≡ j
IsKin-once h kin a i j x y g k same =
    let within_i : i < length (h a) = slice_get_within (h a) i x g in
    let within_j : j < length (h a) = slice_get_within (h a) j y k in
    let lengths : length (take (i + 1) (h a)) ≡ length (take (j + 1) (h a)) = ap length (kin.alike a a i j x y g k same) in
    omega (arith, lengths, length-take-le (i + 1) (h a), length-take-le (j + 1) (h a))

-- a prefix has no more of an origin's transactions
pub count_own-take-le : (p : ℕ) (xs : List Txn) (k : ℕ) → count_own p (take k xs) ≤ count_own p xs
count_own-take-le p xs k = sum_by-take-le (λ y. cond (y.origin.0 == p) 1 0) xs k

-- a server's next number is on no transaction yet
pub IsKin-fresh : (h : ℕ → List Txn) → IsKin h → (n size b j : ℕ) (y : Txn) → slice_get (h b) j ≡ Some y
    → same_txn (own_txn n (count_own n (h n) + 1) size) y ≡ true → ⊥
IsKin-fresh h kin n size b j y g same =
    let origin : y.origin.0 ≡ n = grind (arith, nat_tests) in
    let seq : y.seq ≡ count_own n (h n) + 1 = grind (arith, nat_tests) in
    let home = kin.home b j y g in
    let there : slice_get (h n) home.0 ≡ Some y = subst (λ (m : ℕ). slice_get (h m) home.0 ≡ Some y) origin home.1 in
    let number : y.seq ≡ count_own n (take home.0 (h n)) + 1 = subst (λ (m : ℕ). y.seq ≡ count_own m (take home.0 (h n)) + 1) origin (kin.numbered n home.0 y there) in
    let own : tick (y.origin.0 == n) ≡ 1 = ap tick (eq-eqb y.origin.0 n origin) in
    omega (arith, number, seq, own, count_own-push n (take home.0 (h n)) y, ap (count_own n) (take-more (h n) home.0 y there), count_own-take-le n (h n) (home.0 + 1))

-- what a history has is at some index of it
pub holds-at : (t : Txn) (xs : List Txn) → holds t xs ≡ true → (j : ℕ) × (y : Txn) × (slice_get xs j ≡ Some y) × (same_txn y t ≡ true)
holds-at t [] h = cc
holds-at t (x ∷ xs) h = go (same_txn x t) refl h (λ k. holds-at t xs k)
  where
    go : (b : Bool) → same_txn x t ≡ b → (b || holds t xs) ≡ true → (holds t xs ≡ true → (j : ℕ) × (y : Txn) × (slice_get xs j ≡ Some y) × (same_txn y t ≡ true))
        → (j : ℕ) × (y : Txn) × (slice_get (x ∷ xs) j ≡ Some y) × (same_txn y t ≡ true)
    go true e h more = (0, x, refl, e)
    go false e h more = let rest = more h in (suc rest.0, rest.1, rest.2, rest.3)
