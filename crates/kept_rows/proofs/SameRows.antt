-- Rising lists of rows with the same look-ups are equal, and different tables or keys have different sort keys.
use Rattle.kept_rows.proofs.LookUps.{eq_is as hit}
use Rattle.std.proofs.Common.{◌≡◌, ℕ, ◌^◌, ◌<◌, ◌≤◌, false, cond, List, [], ◌∷◌, None, Some, refl, sym, ap, ◌∙◌, inl, inr, All, arith, ◌==◌}
use Rattle.kept_rows.proofs.Prelude.{All-cons, All-head, All-tail, All-weaker, AllPairs, IsKeyInRange, Key, Row, Table, cases_lt, key_number, key_of}
use Rattle.kept_rows.proofs.Prelude.{nat_tests, row_at, row_in, sort_key, sort_key_of, table_number, table_of}
use Rattle.kept_rows.proofs.Prelude.key
use Rattle.kept_rows.proofs.Prelude.table
use Rattle.kept_rows.proofs.Lists.{pairs_head, pairs_tail}

abbrev Before : Row → Row → Type 0
Before a b = sort_key_of a < sort_key_of b

miss : (a b : ℕ) → b < a → (a == b) ≡ false
miss a b h = grind (arith, nat_tests)

-- a sort key before all rows has none
none_below : (rows : List Row) (p : ℕ) → All (λ r. p < sort_key_of r) rows → row_in rows p ≡ None
none_below [] p h = refl
none_below (r ∷ rs) p h =
    let here = miss (sort_key_of r) p (All-head (λ r. p < sort_key_of r) r rs h) in
    ap (λ b. cond b (Some r) (row_in rs p)) here ∙ none_below rs p (All-tail (λ r. p < sort_key_of r) r rs h)

head_row : (r : Row) (rs : List Row) → row_in (r ∷ rs) (sort_key_of r) ≡ Some r
head_row r rs = ap (λ b. cond b (Some r) (row_in rs (sort_key_of r))) (hit (sort_key_of r) (sort_key_of r) refl)

all_above : (r : Row) (rs : List Row) (p : ℕ) → p < sort_key_of r → AllPairs Before (r ∷ rs) → All (λ x. p < sort_key_of x) (r ∷ rs)
all_above r rs p less h =
    All-cons (λ x. p < sort_key_of x) r rs less
    (All-weaker (Before r) (λ x. p < sort_key_of x) (λ x more. omega (arith, less, more)) rs (pairs_head Before r rs h))

rest_none : (r : Row) (rs : List Row) (p : ℕ) → p ≤ sort_key_of r → AllPairs Before (r ∷ rs) → row_in rs p ≡ None
rest_none r rs p less h =
    none_below rs p (All-weaker (Before r) (λ x. p < sort_key_of x) (λ x more. omega (arith, less, more)) rs (pairs_head Before r rs h))

rest_in : (r : Row) (rs : List Row) (p : ℕ) → sort_key_of r < p → row_in (r ∷ rs) p ≡ row_in rs p
rest_in r rs p less = ap (λ b. cond b (Some r) (row_in rs p)) (passed (sort_key_of r) p less)
  where
    passed : (a b : ℕ) → a < b → (a == b) ≡ false
    passed a b h = grind (arith, nat_tests)

some_same : (x y : Row) → Some x ≡ Some y → x ≡ y
some_same x y e = cc

none_some : (y : Row) → None ≡ Some y → ⊥
none_some y e = cc

same_heads : (x y : Row) (xs ys : List Row) → AllPairs Before (x ∷ xs) → AllPairs Before (y ∷ ys) → row_in (x ∷ xs) (sort_key_of x) ≡ row_in (y ∷ ys) (sort_key_of x) → sort_key_of x < sort_key_of y → ⊥
same_heads x y xs ys hx hy same less = none_some x (sym (sym (head_row x xs) ∙ (same ∙ none_below (y ∷ ys) (sort_key_of x) (all_above y ys (sort_key_of x) less hy))))

rest_same : (x y : Row) (xs ys : List Row) (p : ℕ) → AllPairs Before (x ∷ xs) → AllPairs Before (y ∷ ys) → sort_key_of x ≡ sort_key_of y → row_in (x ∷ xs) p ≡ row_in (y ∷ ys) p → row_in xs p ≡ row_in ys p
rest_same x y xs ys p hx hy at same = elim (cases_lt (sort_key_of x) p) [
  | inl less ↦ sym (rest_in x xs p less) ∙ (same ∙ rest_in y ys p (omega (arith, less, at)))
  | inr more ↦ rest_none x xs p more hx ∙ sym (rest_none y ys p (omega (arith, more, at)) hy)
]

pub same_rows : (xs ys : List Row) → AllPairs Before xs → AllPairs Before ys → ((t : Table) (k : Key) → row_at xs t k ≡ row_at ys t k) → xs ≡ ys
same_rows [] [] hx hy same = refl
same_rows [] (y ∷ ys) hx hy same = absurd (none_some y (same (table_of y) (key_of y) ∙ head_row y ys))
same_rows (x ∷ xs) [] hx hy same = absurd (none_some x (sym (same (table_of x) (key_of x)) ∙ head_row x xs))
same_rows (x ∷ xs) (y ∷ ys) hx hy same =
    let first = same (table_of x) (key_of x) in
    let second = same (table_of y) (key_of y) in
    let at : sort_key_of x ≡ sort_key_of y = elim (cases_lt (sort_key_of x) (sort_key_of y)) [
      | inl less ↦ absurd (same_heads x y xs ys hx hy first less)
      | inr more ↦ elim (cases_lt (sort_key_of y) (sort_key_of x)) [
        | inl less ↦ absurd (same_heads y x ys xs hy hx (sym second) less)
        | inr less ↦ omega (arith, more, less)
      ]
    ] in
    let here : Some x ≡ Some y = sym (head_row x xs) ∙ (first ∙ (ap (row_in (y ∷ ys)) at ∙ head_row y ys)) in
    let rest = same_rows xs ys (pairs_tail Before x xs hx) (pairs_tail Before y ys hy) (λ t k. rest_same x y xs ys (sort_key t k) hx hy at (same t k)) in
    ap (λ r. r ∷ xs) (some_same x y here) ∙ ap (λ l. y ∷ l) rest

abbrev from_number : ℕ → Table
from_number n = cond (n == 1) table.Instance (cond (n == 2) table.Downtime (cond (n == 3) table.Candidate (cond (n == 4) table.Recovery (cond (n == 5) table.Switch table.Active))))

from_own : (t : Table) → from_number (table_number t) ≡ t
from_own table.Instance = refl
from_own _ = refl

key_small : (k : Key) → IsKeyInRange k → key_number k < 2 ^ 65
key_small (key.Server n) h = omega (arith, h)
key_small (key.Id id) h = omega (arith, h)
key_small key.Global h = omega arith
key_small key.Active h = omega arith

same_key : (k l : Key) → IsKeyInRange k → IsKeyInRange l → key_number k ≡ key_number l → k ≡ l
same_key (key.Server n) (key.Server m) g h e = ap (λ (x : ℕ). key.Server (record { 0 = x })) e
same_key (key.Id id) (key.Server m) g h e = absurd (omega (arith, h, e))
same_key (key.Id id) (key.Id other) g h e = ap key.Id (omega (arith, e))
same_key key.Global (key.Server m) g h e = absurd (omega (arith, h, e))
same_key key.Global (key.Id id) g h e = absurd (omega (arith, h, e))
same_key key.Global key.Global g h e = refl
same_key key.Global key.Active g h e = absurd (omega (arith, e))
same_key key.Active (key.Server m) g h e = absurd (omega (arith, h, e))
same_key key.Active (key.Id id) g h e = absurd (omega (arith, h, e))
same_key key.Active key.Global g h e = absurd (omega (arith, e))
same_key key.Active key.Active g h e = refl
same_key _ _ g h e = absurd (omega (arith, g, e))

pub same_sort_key : (t u : Table) (k l : Key) → IsKeyInRange k → IsKeyInRange l → sort_key t k ≡ sort_key u l → (t ≡ u) × (k ≡ l)
same_sort_key t u k l g h e =
    let a = key_small k g in
    let b = key_small l h in
    let tables : table_number t ≡ table_number u = omega (arith, a, b, e) in
    let keys : key_number k ≡ key_number l = omega (arith, e, tables) in
    (sym (from_own t) ∙ (ap from_number tables ∙ from_own u), same_key k l g h keys)
