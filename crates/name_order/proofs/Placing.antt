-- The place of each server in an order.
use Rattle.std.proofs.Common.{◌≡◌, ℕ, ◌+◌, ◌<◌, false, List, map, length, get_or, set, refl, sym, ap, ◌∙◌, subst, eq-eqb, inl, inr, arith, All, AllPairs, Contains, ◌≢◌, ◌⊎◌, nat_eq}
use Rattle.name_order.proofs.Prelude.{All-permutation, AllPairs-from_IsDistinct, Contains-permutation, Decides, IsDistinct-from_AllPairs}
use Rattle.name_order.proofs.Prelude.{IsDistinct-IsPermutation, IsOrder, ServerNo, cases_lt, eqb-true, eqb_tells, fill_by_all, get_or-map}
use Rattle.name_order.proofs.Prelude.{get_or-range_with_len, get_or-set_other, get_or-set_same, get_or_default, length-map, length-range_with_len}
use Rattle.name_order.proofs.Prelude.{nat_eq_equiv, position_or_len_is, range_with_len, rank_of, ranks_of}

number : ServerNo → ℕ
number server = server.0

decides : (x y : ℕ) → Decides (nat_eq x y) (x ≡ y)
decides x y = (eqb-true x y, eq-eqb x y)

unequal : (x y : ℕ) → x ≢ y → nat_eq x y ≡ false
unequal x y apart = elim (eqb_tells x y) [ inl same ↦ absurd (apart same.1) | inr other ↦ other.0 ]

range_below : (n : ℕ) → All (λ k. k < n) (range_with_len 0 n)
range_below n k d within =
    let short : k < n = omega (arith, within, length-range_with_len 0 n) in
    subst (λ (j : ℕ). j < n) (sym (get_or-range_with_len 0 n k d short)) (omega (arith, short))

range_apart : (n : ℕ) → AllPairs (λ x y. x ≢ y) (range_with_len 0 n)
range_apart n i j d below within =
    let short : j < n = omega (arith, within, length-range_with_len 0 n) in
    let one = get_or-range_with_len 0 n i d (omega (arith, below, short)) in
    let other = get_or-range_with_len 0 n j d short in
    λ e. absurd (omega (arith, one, other, e, below))

module _ (order : List ServerNo) (each : IsOrder order) where
  pub number_below : (k : ℕ) (d : ServerNo) → k < length order → (get_or order k d).0 < length order
  number_below k d within =
      let all = All-permutation (λ n. n < length order) (range_with_len 0 (length order)) (map (λ server. server.0) order) each (range_below (length order)) in
      subst (λ (n : ℕ). n < length order) (get_or-map (λ (server : ServerNo). server.0) order k d 0 within) (all k 0 (omega (arith, within, length-map order (λ (server : ServerNo). server.0))))

  pub numbers_apart : (i j : ℕ) (d : ServerNo) → i < j → j < length order → (get_or order i d).0 ≢ (get_or order j d).0
  numbers_apart i j d below within =
      let distinct = IsDistinct-IsPermutation nat_eq nat_eq_equiv.symm (range_with_len 0 (length order)) (map (λ server. server.0) order) each (IsDistinct-from_AllPairs decides (range_with_len 0 (length order)) (range_apart (length order))) in
      let apart = AllPairs-from_IsDistinct decides (map (λ server. server.0) order) distinct i j 0 below (omega (arith, within, length-map order (λ (server : ServerNo). server.0))) in
      λ e. apart (get_or-map (λ (server : ServerNo). server.0) order i d 0 (omega (arith, below, within)) ∙ e ∙ sym (get_or-map (λ (server : ServerNo). server.0) order j d 0 within))

  pub rank-of_place : (k : ℕ) (d : ServerNo) → k < length order → rank_of order (get_or order k d).0 ≡ k
  rank-of_place k d within =
      position_or_len_is (λ (other : ServerNo). nat_eq other.0 (get_or order k d).0) order k d (omega (arith, within))
      (λ j below. unequal (get_or order j d).0 (get_or order k d).0 (numbers_apart j k d below within))
      (λ short. eq-eqb (get_or order k d).0 (get_or order k d).0 refl)

  -- each number has its place
  pub place-of_number : (n : ℕ) → n < length order → (k : ℕ) × (k < length order) × ((d : ServerNo) → (get_or order k d).0 ≡ n)
  place-of_number n within =
      let range : get_or (range_with_len 0 (length order)) n n ≡ n = get_or-range_with_len 0 (length order) n n within ∙ omega arith in
      let has : Contains (map (λ server. server.0) order) n = Contains-permutation (range_with_len 0 (length order)) (map (λ server. server.0) order) n each (n, omega (arith, within, length-range_with_len 0 (length order)), range) in
      let short : has.0 < length order = omega (arith, has.1, length-map order (λ (server : ServerNo). server.0)) in
      (has.0, short, λ d. sym (get_or-map (λ (server : ServerNo). server.0) order has.0 d n short) ∙ has.2)

  pub all_placed : (ranks : List ℕ) → length ranks ≡ length order → ((k : ℕ) (d : ServerNo) → k < length order → get_or ranks (get_or order k d).0 0 ≡ k) → ranks ≡ ranks_of order
  all_placed ranks long placed = fill_by_all (rank_of order) ranks (length order) 0 long
      (λ n within. let at = place-of_number n within in
      let d : ServerNo = record { 0 = 0 } in
      let same : (get_or order at.0 d).0 ≡ n = at.2 d in
      subst (λ (m : ℕ). get_or ranks m 0 ≡ rank_of order m) same (placed at.0 d at.1 ∙ sym (rank-of_place at.0 d at.1)))

  pub one_placed : (ranks : List ℕ) (i : ℕ) (e : ServerNo) → length ranks ≡ length order → i < length order
      → ((k : ℕ) (d : ServerNo) → k < i → get_or ranks (get_or order k d).0 0 ≡ k)
      → (k : ℕ) (d : ServerNo) → k < i + 1 → get_or (set ranks (get_or order i e).0 i) (get_or order k d).0 0 ≡ k
  one_placed ranks i e long within placed k d below = elim (below_or_last k i below) [ inl less ↦ earlier less | inr same ↦ here same ]
    where
      below_or_last : (k i : ℕ) → k < i + 1 → (k < i) ⊎ (k ≡ i)
      below_or_last k i h = elim (cases_lt k i) [ inl less ↦ inl less | inr more ↦ inr (omega (arith, more, h)) ]

      earlier : k < i → get_or (set ranks (get_or order i e).0 i) (get_or order k d).0 0 ≡ k
      earlier less =
          get_or-set_other ranks (get_or order i e).0 (get_or order k d).0 i 0
          (λ same. numbers_apart k i d less within (same ∙ ap (λ (server : ServerNo). server.0) (get_or_default order i e d within)))
          ∙ placed k d less

      here : k ≡ i → get_or (set ranks (get_or order i e).0 i) (get_or order k d).0 0 ≡ k
      here same =
          ap (λ (j : ℕ). get_or (set ranks (get_or order i e).0 i) (get_or order j d).0 0) same
          ∙ ap (λ (server : ServerNo). get_or (set ranks (get_or order i e).0 i) server.0 0) (get_or_default order i d e within)
          ∙ get_or-set_same ranks (get_or order i e).0 i 0 (omega (arith, long, number_below i e within))
          ∙ sym same
