-- Rows by their sort keys: what is put, removed and looked up.
use Rattle.std.proofs.Common.{◌≡◌, ℕ, suc, ◌+◌, ◌<◌, ◌≤◌, true, false, List, [], ◌∷◌, ◌++◌, length, get_or, take, drop, All, refl, sym, ap, ◌∙◌, subst, append-nil, arith, inl, inr, nat_lt, ◌⊎◌}
use Rattle.kept_rows.proofs.Prelude.{All-append, All-cons, All-nil, All-weaker, AllPairs-cons, AllPairs-filter, AllWithin, HoldsAt, Instance}
use Rattle.kept_rows.proofs.Prelude.{IsFirstFrom, IsRising, Key, Row, SortKey, Table, at, cases_lt, drop-cons, filter-append, filter_passes, key_of}
use Rattle.kept_rows.proofs.Prelude.{put, remove, rows_before, rows_behind, slice_set, sort_key, sort_key_of, table_of}
use Rattle.kept_rows.proofs.Prelude.{take-append-drop}
use Rattle.kept_rows.proofs.Prelude.key
use Rattle.kept_rows.proofs.Prelude.row
use Rattle.kept_rows.proofs.Prelude.table
use Rattle.kept_rows.proofs.Lists.{filter_all, filter_none, All_take, All_drop, set_parts, pairs_append}
use Rattle.std.proofs.lemmas.Bool.{le-ltb as less_false, lt-ltb as less_true, ltb-true as lt_from}

le_cases : (a b : ℕ) → a ≤ b → (a < b) ⊎ (a ≡ b)
le_cases a b h = elim (cases_lt a b) [ inl less ↦ inl less | inr more ↦ inr (omega arith) ]

before_all : (rows : List Row) (p : ℕ) → All (λ x. sort_key_of x < p) rows → rows_before rows p ≡ rows
before_all rows p h = filter_all _ rows (All-weaker (λ x. sort_key_of x < p) (λ x. nat_lt (sort_key_of x) p ≡ true) (λ x. less_true (sort_key_of x) p) rows h)

before_none : (rows : List Row) (p : ℕ) → All (λ x. p ≤ sort_key_of x) rows → rows_before rows p ≡ []
before_none rows p h = filter_none _ rows (All-weaker (λ x. p ≤ sort_key_of x) (λ x. nat_lt (sort_key_of x) p ≡ false) (λ x. less_false (sort_key_of x) p) rows h)

behind_all : (rows : List Row) (p : ℕ) → All (λ x. p < sort_key_of x) rows → rows_behind rows p ≡ rows
behind_all rows p h = filter_all _ rows (All-weaker (λ x. p < sort_key_of x) (λ x. nat_lt p (sort_key_of x) ≡ true) (λ x. less_true p (sort_key_of x)) rows h)

behind_none : (rows : List Row) (p : ℕ) → All (λ x. sort_key_of x ≤ p) rows → rows_behind rows p ≡ []
behind_none rows p h = filter_none _ rows (All-weaker (λ x. sort_key_of x ≤ p) (λ x. nat_lt p (sort_key_of x) ≡ false) (λ x. less_false p (sort_key_of x)) rows h)

weak_below : (rows : List Row) (p : ℕ) → All (λ x. sort_key_of x < p) rows → All (λ x. sort_key_of x ≤ p) rows
weak_below rows p h = All-weaker (λ x. sort_key_of x < p) (λ x. sort_key_of x ≤ p) (λ x e. omega (arith, e)) rows h

weak_above : (rows : List Row) (p : ℕ) → All (λ x. p < sort_key_of x) rows → All (λ x. p ≤ sort_key_of x) rows
weak_above rows p h = All-weaker (λ x. p < sort_key_of x) (λ x. p ≤ sort_key_of x) (λ x e. omega (arith, e)) rows h

pub before_parts : (front back : List Row) (p : ℕ) → All (λ x. sort_key_of x < p) front → All (λ x. p ≤ sort_key_of x) back → rows_before (front ++ back) p ≡ front
before_parts front back p below above =
    filter-append _ front back ∙ (ap (λ l. l ++ rows_before back p) (before_all front p below) ∙ (ap (λ l. front ++ l) (before_none back p above) ∙ append-nil front))

pub behind_parts : (front back : List Row) (p : ℕ) → All (λ x. sort_key_of x ≤ p) front → All (λ x. p < sort_key_of x) back → rows_behind (front ++ back) p ≡ back
behind_parts front back p below above =
    filter-append _ front back ∙ (ap (λ l. l ++ rows_behind back p) (behind_none front p below) ∙ behind_all back p above)

-- of three parts, what is before and after the middle one
pub before_middle : (front middle back : List Row) (p : ℕ) → All (λ x. sort_key_of x < p) front → All (λ x. sort_key_of x ≡ p) middle → All (λ x. p < sort_key_of x) back → rows_before (front ++ (middle ++ back)) p ≡ front
before_middle front middle back p below at above =
    before_parts front (middle ++ back) p below
    (All-append (λ x. p ≤ sort_key_of x) middle back (All-weaker (λ x. sort_key_of x ≡ p) (λ x. p ≤ sort_key_of x) (λ x e. omega (arith, e)) middle at) (weak_above back p above))

pub behind_middle : (front middle back : List Row) (p : ℕ) → All (λ x. sort_key_of x < p) front → All (λ x. sort_key_of x ≡ p) middle → All (λ x. p < sort_key_of x) back → rows_behind (front ++ (middle ++ back)) p ≡ back
behind_middle front middle back p below at above =
    filter-append _ front (middle ++ back)
    ∙ (ap (λ l. l ++ rows_behind (middle ++ back) p) (behind_none front p (weak_below front p below))
    ∙ behind_parts middle back p (All-weaker (λ x. sort_key_of x ≡ p) (λ x. sort_key_of x ≤ p) (λ x e. omega (arith, e)) middle at) above)

module _ (front middle back : List Row) (p : ℕ) (below : All (λ x. sort_key_of x < p) front) (at : All (λ x. sort_key_of x ≡ p) middle) (above : All (λ x. p < sort_key_of x) back) where
  pub put_middle : (r : Row) → sort_key_of r ≡ p → put (front ++ (middle ++ back)) r ≡ front ++ r ∷ back
  unfolding put
  put_middle r here =
      let e : rows_before (front ++ (middle ++ back)) (sort_key_of r) ≡ front = ap (rows_before (front ++ (middle ++ back))) here ∙ before_middle front middle back p below at above in
      let f : rows_behind (front ++ (middle ++ back)) (sort_key_of r) ≡ back = ap (rows_behind (front ++ (middle ++ back))) here ∙ behind_middle front middle back p below at above in
      ap (λ l. l ++ r ∷ rows_behind (front ++ (middle ++ back)) (sort_key_of r)) e ∙ ap (λ l. front ++ r ∷ l) f

  pub remove_middle : (t : Table) (k : Key) → sort_key t k ≡ p → remove (front ++ (middle ++ back)) t k ≡ front ++ back
  unfolding remove
  remove_middle t k here =
      let e : rows_before (front ++ (middle ++ back)) (sort_key t k) ≡ front = ap (rows_before (front ++ (middle ++ back))) here ∙ before_middle front middle back p below at above in
      let f : rows_behind (front ++ (middle ++ back)) (sort_key t k) ≡ back = ap (rows_behind (front ++ (middle ++ back))) here ∙ behind_middle front middle back p below at above in
      ap (λ l. l ++ rows_behind (front ++ (middle ++ back)) (sort_key t k)) e ∙ ap (λ l. front ++ l) f

-- a row that is after all others
pub put_last : (rows : List Row) (r : Row) → All (λ x. sort_key_of x < sort_key_of r) rows → put rows r ≡ rows ++ r ∷ []
unfolding put
put_last rows r below =
    ap (λ l. l ++ r ∷ rows_behind rows (sort_key_of r)) (before_all rows (sort_key_of r) below)
    ∙ ap (λ l. rows ++ r ∷ l) (behind_none rows (sort_key_of r) (weak_below rows (sort_key_of r) below))

-- what a search by halves learns at a row
pub rises_below : (rows : List Row) (p i : ℕ) → IsRising rows → i < length rows → HoldsAt (λ x. sort_key_of x < p) rows i → AllWithin (λ x. sort_key_of x < p) rows 0 (i + 1)
rises_below rows p i rising within here = λ k d low h.
    let at = here d in
    let before : (k < i → sort_key_of (get_or rows k d) < sort_key_of (get_or rows i d)) = λ less. rising.apart k i d less within in
    let same : (k ≡ i → sort_key_of (get_or rows k d) ≡ sort_key_of (get_or rows i d)) = λ e. ap (λ n. sort_key_of (get_or rows n d)) e in
    let goal : sort_key_of (get_or rows k d) < p = below_or_at k i _ _ p before same at (omega (arith, h)) in goal
  where
    below_or_at : (k i a b p : ℕ) → (k < i → a < b) → (k ≡ i → a ≡ b) → b < p → k ≤ i → a < p
    below_or_at k i a b p before same at h = elim (le_cases k i h) [ inl less ↦ omega (arith, before less) | inr e ↦ omega (arith, same e) ]

pub rises_above : (rows : List Row) (p i : ℕ) → IsRising rows → i < length rows → HoldsAt (λ x. p ≤ sort_key_of x) rows i → AllWithin (λ x. p ≤ sort_key_of x) rows i (length rows)
rises_above rows p i rising within here = λ k d low h.
    let at = here d in
    let behind : (i < k → sort_key_of (get_or rows i d) < sort_key_of (get_or rows k d)) = λ less. rising.apart i k d less h in
    let same : (k ≡ i → sort_key_of (get_or rows k d) ≡ sort_key_of (get_or rows i d)) = λ e. ap (λ n. sort_key_of (get_or rows n d)) e in
    let goal : p ≤ sort_key_of (get_or rows k d) = above_or_at k i _ _ p behind same at low in goal
  where
    above_or_at : (k i a b p : ℕ) → (i < k → b < a) → (k ≡ i → a ≡ b) → p ≤ b → i ≤ k → p ≤ a
    above_or_at k i a b p behind same at h = elim (le_cases i k h) [ inl less ↦ omega (arith, behind less) | inr e ↦ omega (arith, same (sym e)) ]

-- the row at a sort key is the first that isn't before it
pub first_at : (rows : List Row) (p i : ℕ) → IsRising rows → i < length rows → HoldsAt (λ x. sort_key_of x ≡ p) rows i → IsFirstFrom rows p i
first_at rows p i rising within here = record {
  within = omega (arith, within);
  below = λ k d low h.
      let at = here d in
      let less = rising.apart k i d h within in
      let goal : sort_key_of (get_or rows k d) < p = omega (arith, at, less) in goal;
  above = rises_above rows p i rising within (λ d. let at = here d in let goal : p ≤ sort_key_of (get_or rows i d) = omega (arith, at) in goal);
}

-- after a row at or after a sort key all rows are after it
pub past_first : (rows : List Row) (p i : ℕ) → IsRising rows → i < length rows → HoldsAt (λ x. p ≤ sort_key_of x) rows i → All (λ x. p < sort_key_of x) (drop (suc i) rows)
past_first rows p i rising within here = All_drop (λ x. p < sort_key_of x) rows (suc i) (λ k d low h.
    let at = here d in
    let behind = rising.apart i k d (omega (arith, low)) h in
    let goal : p < sort_key_of (get_or rows k d) = omega (arith, at, behind) in goal)

pub from_first : (rows : List Row) (p i : ℕ) → IsRising rows → (i < length rows → HoldsAt (λ x. p < sort_key_of x) rows i) → All (λ x. p < sort_key_of x) (drop i rows)
from_first rows p i rising here = All_drop (λ x. p < sort_key_of x) rows i (λ k d low h.
    let within : i < length rows = omega (arith, low, h) in
    let at = here within d in
    let behind : (i < k → sort_key_of (get_or rows i d) < sort_key_of (get_or rows k d)) = λ less. rising.apart i k d less h in
    let same : (k ≡ i → sort_key_of (get_or rows k d) ≡ sort_key_of (get_or rows i d)) = λ e. ap (λ n. sort_key_of (get_or rows n d)) e in
    let goal : p < sort_key_of (get_or rows k d) = above k i _ _ p behind same at low in goal)
  where
    above : (k i a b p : ℕ) → (i < k → b < a) → (k ≡ i → a ≡ b) → p < b → i ≤ k → p < a
    above k i a b p behind same at h = elim (le_cases i k h) [ inl less ↦ omega (arith, behind less) | inr e ↦ omega (arith, same (sym e)) ]

split_row : (rows : List Row) (i : ℕ) (d : Row) → i < length rows → rows ≡ take i rows ++ get_or rows i d ∷ drop (suc i) rows
split_row rows i d within = sym (take-append-drop i rows) ∙ ap (λ l. take i rows ++ l) (drop-cons rows i d within)

module _ (rows : List Row) (p i : ℕ) (rising : IsRising rows) (first : IsFirstFrom rows p i) where
  front_below : All (λ x. sort_key_of x < p) (take i rows)
  front_below = All_take (λ x. sort_key_of x < p) rows i first.within first.below

  back_above : i < length rows → All (λ x. p < sort_key_of x) (drop (suc i) rows)
  back_above within = past_first rows p i rising within (λ d. first.above i d (omega arith) within)

  middle_at : (d : Row) → i < length rows → HoldsAt (λ x. sort_key_of x ≤ p) rows i → All (λ x. sort_key_of x ≡ p) (get_or rows i d ∷ [])
  middle_at d within here =
      let low = here d in
      let high = first.above i d (omega arith) within in
      All-cons (λ x. sort_key_of x ≡ p) (get_or rows i d) [] (omega (arith, low, high)) (All-nil (λ x. sort_key_of x ≡ p))

  pub put_there : (r : Row) → sort_key_of r ≡ p → i < length rows → HoldsAt (λ x. sort_key_of x ≤ p) rows i → slice_set rows i r ≡ put rows r
  put_there r is within here =
      let e = put_middle (take i rows) (get_or rows i r ∷ []) (drop (suc i) rows) p front_below (middle_at r within here) (back_above within) r is in
      set_parts rows i r within ∙ sym (ap (λ l. put l r) (split_row rows i r within) ∙ e)

  pub put_new : (r : Row) → sort_key_of r ≡ p → (i < length rows → HoldsAt (λ x. p < sort_key_of x) rows i) → take i rows ++ r ∷ drop i rows ≡ put rows r
  put_new r is here =
      let e = put_middle (take i rows) [] (drop i rows) p front_below (All-nil (λ x. sort_key_of x ≡ p)) (from_first rows p i rising here) r is in
      sym (ap (λ l. put l r) (sym (take-append-drop i rows)) ∙ e)

  pub remove_there : (t : Table) (k : Key) → sort_key t k ≡ p → i < length rows → HoldsAt (λ x. sort_key_of x ≤ p) rows i → take i rows ++ drop (suc i) rows ≡ remove rows t k
  remove_there t k is within here =
      let d = row.Switch true in
      let e = remove_middle (take i rows) (get_or rows i d ∷ []) (drop (suc i) rows) p front_below (middle_at d within here) (back_above within) t k is in
      sym (ap (λ l. remove l t k) (split_row rows i d within) ∙ e)

  pub remove_none : (t : Table) (k : Key) → sort_key t k ≡ p → (i < length rows → HoldsAt (λ x. p < sort_key_of x) rows i) → rows ≡ remove rows t k
  remove_none t k is here =
      let e = remove_middle (take i rows) [] (drop i rows) p front_below (All-nil (λ x. sort_key_of x ≡ p)) (from_first rows p i rising here) t k is in
      sym (ap (λ l. remove l t k) (sym (take-append-drop i rows)) ∙ (e ∙ take-append-drop i rows))

rows_below : (rows : List Row) (p : ℕ) → All (λ x. sort_key_of x < p) (rows_before rows p)
rows_below rows p = All-weaker (λ x. nat_lt (sort_key_of x) p ≡ true) (λ x. sort_key_of x < p) (λ x. lt_from (sort_key_of x) p) (rows_before rows p) (filter_passes (λ x. nat_lt (sort_key_of x) p) rows)

rows_above : (rows : List Row) (p : ℕ) → All (λ x. p < sort_key_of x) (rows_behind rows p)
rows_above rows p = All-weaker (λ x. nat_lt p (sort_key_of x) ≡ true) (λ x. p < sort_key_of x) (λ x. lt_from p (sort_key_of x)) (rows_behind rows p) (filter_passes (λ x. nat_lt p (sort_key_of x)) rows)

abbrev Before : Row → Row → Type 0
Before a b = sort_key_of a < sort_key_of b

pub put_rising : (rows : List Row) (r : Row) → IsRising rows → IsRising (put rows r)
unfolding put
put_rising rows r rising =
    let p = sort_key_of r in
    let above = rows_above rows p in
    let back = AllPairs-cons Before r (rows_behind rows p) above (AllPairs-filter Before (λ x. nat_lt p (sort_key_of x)) rows rising.apart) in
    record {
      apart = pairs_append Before (rows_before rows p) (r ∷ rows_behind rows p)
          (AllPairs-filter Before (λ x. nat_lt (sort_key_of x) p) rows rising.apart) back
          (All-weaker (λ x. sort_key_of x < p) (λ x. All (Before x) (r ∷ rows_behind rows p))
          (λ x less. All-cons (Before x) r (rows_behind rows p) less
          (All-weaker (λ y. p < sort_key_of y) (Before x) (λ y more. omega (arith, less, more)) (rows_behind rows p) above))
          (rows_before rows p) (rows_below rows p));
    }

pub remove_rising : (rows : List Row) (t : Table) (k : Key) → IsRising rows → IsRising (remove rows t k)
unfolding remove
remove_rising rows t k rising =
    let p = sort_key t k in
    let above = rows_above rows p in
    record {
      apart = pairs_append Before (rows_before rows p) (rows_behind rows p)
          (AllPairs-filter Before (λ x. nat_lt (sort_key_of x) p) rows rising.apart)
          (AllPairs-filter Before (λ x. nat_lt p (sort_key_of x)) rows rising.apart)
          (All-weaker (λ x. sort_key_of x < p) (λ x. All (Before x) (rows_behind rows p))
          (λ x less. All-weaker (λ y. p < sort_key_of y) (Before x) (λ y more. omega (arith, less, more)) (rows_behind rows p) above)
          (rows_before rows p) (rows_below rows p));
    }

-- the same from what the code has found
module _ (rows now then : List Row) (sort_key : SortKey) (i : ℕ) (is_now : now ≡ rows) (is_then : then ≡ rows) (rising : IsRising rows) (first : IsFirstFrom now (at sort_key) i) where
  first_here : IsFirstFrom rows (at sort_key) i
  first_here = subst (λ l. IsFirstFrom l (at sort_key) i) is_now first

  there_here : i < length then → i < length rows
  there_here h = subst (λ l. i < length l) is_then h

  low_here : HoldsAt (λ x. sort_key_of x ≤ at sort_key) then i → HoldsAt (λ x. sort_key_of x ≤ at sort_key) rows i
  low_here h = subst (λ l. HoldsAt (λ x. sort_key_of x ≤ at sort_key) l i) is_then h

  high_here : (i < length then → HoldsAt (λ x. at sort_key < sort_key_of x) then i) → i < length rows → HoldsAt (λ x. at sort_key < sort_key_of x) rows i
  high_here h = subst (λ l. i < length l → HoldsAt (λ x. at sort_key < sort_key_of x) l i) is_then h

  pub puts_there : (r : Row) → sort_key ≡ record { table = table_of r; key = key_of r } → i < length then → HoldsAt (λ x. sort_key_of x ≤ at sort_key) then i → slice_set rows i r ≡ put rows r
  puts_there r own there low = put_there rows (at sort_key) i rising first_here r (sym (ap at own)) (there_here there) (low_here low)

  pub puts_new : (r : Row) → sort_key ≡ record { table = table_of r; key = key_of r } → (i < length then → HoldsAt (λ x. at sort_key < sort_key_of x) then i) → take i rows ++ r ∷ drop i rows ≡ put rows r
  puts_new r own high = put_new rows (at sort_key) i rising first_here r (sym (ap at own)) (high_here high)

  pub removes_there : i < length then → HoldsAt (λ x. sort_key_of x ≤ at sort_key) then i → take i rows ++ drop (suc i) rows ≡ remove rows sort_key.table sort_key.key
  removes_there there low = remove_there rows (at sort_key) i rising first_here sort_key.table sort_key.key refl (there_here there) (low_here low)

  pub removes_none : (i < length then → HoldsAt (λ x. at sort_key < sort_key_of x) then i) → rows ≡ remove rows sort_key.table sort_key.key
  removes_none high = remove_none rows (at sort_key) i rising first_here sort_key.table sort_key.key refl (high_here high)

pub rising_as_put : (rows now : List Row) (r : Row) → now ≡ put rows r → IsRising rows → IsRising now
rising_as_put rows now r e rising = subst IsRising (sym e) (put_rising rows r rising)

pub rising_as_removed : (rows now : List Row) (t : Table) (k : Key) → now ≡ remove rows t k → IsRising rows → IsRising now
rising_as_removed rows now t k e rising = subst IsRising (sym e) (remove_rising rows t k rising)

-- an instance's row in place of one of its server
pub puts_instance : (rows found : List Row) (i : Instance) (n : ℕ) (r now : Row) → found ≡ rows → IsRising rows → r ≡ row.Instance i → now ≡ r → n < length found
    → HoldsAt (λ x. sort_key_of x ≡ sort_key table.Instance (key.Server i.no)) found n → slice_set rows n now ≡ put rows r
puts_instance rows found i n r now same rising is e within here =
    let p = sort_key table.Instance (key.Server i.no) in
    let own : sort_key_of r ≡ p = ap sort_key_of is in
    let there : n < length rows = subst (λ l. n < length l) same within in
    let at : HoldsAt (λ x. sort_key_of x ≡ p) rows n = subst (λ l. HoldsAt (λ x. sort_key_of x ≡ p) l n) same here in
    ap (slice_set rows n) e ∙ put_there rows p n rising (first_at rows p n rising there at) r own there (λ d. let h = at d in let goal : sort_key_of (get_or rows n d) ≤ p = omega (arith, h) in goal)
