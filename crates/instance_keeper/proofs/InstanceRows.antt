-- The row of a server in a table of a book.
use Rattle.std.proofs.Common.{◌≡◌, ℕ, suc, zero, ◌+◌, ◌*◌, ◌^◌, ◌<◌, ◌≤◌, true, false, List, [], ◌∷◌, ◌++◌, length, get_or, All, Option, None, Some, refl, ap, ◌∙◌, subst, arith, ◌==◌, filter_map, option_map}
use Rattle.instance_keeper.proofs.Prelude.{All-append, All-head, All-tail, All-weaker, BookState, IsBook, IsNumbered, Row, ServerNo, book_rows}
use Rattle.instance_keeper.proofs.Prelude.{instance_at, row_at, row_in, sort_key_of}
use Rattle.instance_keeper.proofs.Prelude.key
use Rattle.instance_keeper.proofs.Prelude.row
use Rattle.instance_keeper.proofs.Prelude.table
use Rattle.instance_keeper.proofs.BookRows.{rows_low}
use Rattle.instance_keeper.proofs.BookLaws.{behind_first, in_first, second, third, last}

is_there : (p q : ℕ) → q ≡ p → (q == p) ≡ true
is_there p q h = grind arith

is_not : (p q : ℕ) → (q ≡ p → ⊥) → (q == p) ≡ false
is_not p q h = grind arith

-- no row is at a sort key before all rows
none_above : (p : ℕ) (rows : List Row) → All (λ r. p < sort_key_of r) rows → row_in rows p ≡ None
none_above p [] all = refl
none_above p (r ∷ rows) all =
    let here = All-head (λ x. p < sort_key_of x) r rows all in
    let miss = is_not p (sort_key_of r) (λ e. omega (arith, here, e)) in
    rw miss (none_above p rows (All-tail (λ x. p < sort_key_of x) r rows all))

module _ {A : Type 0} (wrap : A → Row) (no_of : A → ServerNo) (base : ℕ) (placed : (a : A) → sort_key_of (wrap a) ≡ base + (no_of a).0) where
  abbrev rows_in : List (Option A) → List Row
  rows_in xs = filter_map (option_map wrap) xs

  found : (from n : ℕ) (xs : List (Option A)) (last : List Row) → IsNumbered no_of from xs → n < length xs → All (λ r. base + (from + n) < sort_key_of r) last
      → row_in (rows_in xs ++ last) (base + (from + n)) ≡ option_map wrap (get_or xs n None)
  found from n [] last numbered within high = absurd (omega (arith, within))
  found from zero (None ∷ xs) last numbered within high =
      none_above (base + (from + 0)) (rows_in xs ++ last)
      (All-append (λ r. base + (from + 0) < sort_key_of r) (rows_in xs) last
      (All-weaker (λ r. base + (from + 1) ≤ sort_key_of r) (λ r. base + (from + 0) < sort_key_of r) (λ r e. omega (arith, e)) (rows_in xs) (rows_low wrap no_of base placed (from + 1) xs numbered.1))
      high)
  found from zero (Some a ∷ xs) last numbered within high =
      let p = placed a in
      let own = numbered.0 in
      let here = is_there (base + (from + 0)) (sort_key_of (wrap a)) (omega (arith, p, own)) in
      rw here refl
  found from (suc n) (None ∷ xs) last numbered within high =
      let shift : from + suc n ≡ from + 1 + n = omega arith in
      ap (λ (k : ℕ). row_in (rows_in xs ++ last) (base + k)) shift
      ∙ found (from + 1) n xs last numbered.1 (omega (arith, within)) (subst (λ (k : ℕ). All (λ r. base + k < sort_key_of r) last) shift high)
  found from (suc n) (Some a ∷ xs) last numbered within high =
      let p = placed a in
      let own = numbered.0 in
      let miss = is_not (base + (from + suc n)) (sort_key_of (wrap a)) (λ e. omega (arith, p, own, e)) in
      let shift : from + suc n ≡ from + 1 + n = omega arith in
      rw miss (ap (λ (k : ℕ). row_in (rows_in xs ++ last) (base + k)) shift
      ∙ found (from + 1) n xs last numbered.1 (omega (arith, within)) (subst (λ (k : ℕ). All (λ r. base + k < sort_key_of r) last) shift high))

-- the row of an instance
pub instance_row : (b : BookState) (n : ServerNo) → IsBook b → n.0 < length b.names → row_at (book_rows b) table.Instance (key.Server n) ≡ option_map row.Instance (instance_at b n)
instance_row b n is known =
    let behind = second b is ++ (third b is ++ last b is) in
    let shift : n.0 ≡ 0 + n.0 = omega arith in
    ap (λ (k : ℕ). row_in (book_rows b) (1 * 2 ^ 65 + k)) shift
    ∙ found row.Instance (λ i. i.no) (1 * 2 ^ 65) (λ a. refl) 0 n.0 b.instances behind is.instance_numbers (in_first b is n.0 known)
    (subst (λ (k : ℕ). All (λ r. 1 * 2 ^ 65 + k < sort_key_of r) behind) shift (behind_first b is n.0 known))
