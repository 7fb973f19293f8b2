-- Look-ups after changes.
use Rattle.kept_rows.proofs.Same.{eq_is as is_eq}
use Rattle.std.proofs.Common.{◌≡◌, ℕ, ◌<◌, ◌≤◌, Bool, true, false, cond, List, [], ◌∷◌, ◌++◌, filter, Option, None, Some, refl, sym, ap, ◌∙◌, inl, inr, arith, ◌==◌, ◌⊎◌, nat_lt, find, fold, if◌then◌else◌}
use Rattle.kept_rows.proofs.Prelude.{Change, IsRising, Key, Row, Table, cases_lt, changed, changed_by, false≢true, find-append, last_at, map_of}
use Rattle.kept_rows.proofs.Prelude.{nat_tests, option_or, put, remove, row_after, row_in, rows_before, rows_behind, sort_key, sort_key_of}
use Rattle.kept_rows.proofs.Prelude.change
use Rattle.kept_rows.proofs.SortKeys.{put_rising, remove_rising}

pub find_kept : {X : Type 0} (test keep : X → Bool) → ((x : X) → test x ≡ true → keep x ≡ true) → (xs : List X) → find test (filter keep xs) ≡ find test xs
find_kept test keep h [] = refl
find_kept test keep h (x ∷ xs) = step test x (filter keep xs) xs (keep x) (test x) refl (h x) (find_kept test keep h xs)
  where
    step : {X : Type 0} (test : X → Bool) (x : X) (ys xs : List X) (k t : Bool) → test x ≡ t → (test x ≡ true → k ≡ true) → find test ys ≡ find test xs → find test (cond k (x ∷ ys) ys) ≡ cond (test x) (Some x) (find test xs)
    step test x ys xs true t e h ih = ap (cond (test x) (Some x)) ih
    step test x ys xs false true e h ih = absurd (false≢true (h e))
    step test x ys xs false false e h ih = ih ∙ sym (ap (λ b. cond b (Some x) (find test xs)) e)

pub find_lost : {X : Type 0} (test keep : X → Bool) → ((x : X) → test x ≡ true → keep x ≡ false) → (xs : List X) → find test (filter keep xs) ≡ None
find_lost test keep h [] = refl
find_lost test keep h (x ∷ xs) = step test x (filter keep xs) (keep x) refl (test x) refl (h x) (find_lost test keep h xs)
  where
    step : {X : Type 0} (test : X → Bool) (x : X) (ys : List X) (k : Bool) → k ≡ k → (t : Bool) → test x ≡ t → (test x ≡ true → k ≡ false) → find test ys ≡ None → find test (cond k (x ∷ ys) ys) ≡ None
    step test x ys true r true e h ih = absurd (false≢true (sym (h e)))
    step test x ys true r false e h ih = ap (λ b. cond b (Some x) (find test ys)) e ∙ ih
    step test x ys false r t e h ih = ih

pub eq_is : (a b : ℕ) → a ≡ b → (a == b) ≡ true
eq_is a b e = grind (arith, nat_tests)

not_eq : (a b : ℕ) → (a < b) ⊎ (b < a) → (a == b) ≡ false
not_eq a b h = elim h [ inl less ↦ grind (arith, nat_tests) | inr more ↦ grind (arith, nat_tests) ]

less_is : (a b c : ℕ) → a ≡ b → b < c → nat_lt a c ≡ true
less_is a b c e h = grind (arith, nat_tests)

less_not : (a b c : ℕ) → a ≡ b → c ≤ b → nat_lt a c ≡ false
less_not a b c e h = grind (arith, nat_tests)

more_is : (a b c : ℕ) → a ≡ b → c < b → nat_lt c a ≡ true
more_is a b c e h = grind (arith, nat_tests)

more_not : (a b c : ℕ) → a ≡ b → b ≤ c → nat_lt c a ≡ false
more_not a b c e h = grind (arith, nat_tests)

or_none : {X : Type 0} (x : Option X) → option_or x None ≡ x
or_none None = refl
or_none (Some x) = refl

module _ (rows : List Row) (q p : ℕ) where
  before_in : p < q → row_in (rows_before rows q) p ≡ row_in rows p
  before_in h = find_kept (λ r. sort_key_of r == p) (λ r. nat_lt (sort_key_of r) q) (λ x e. less_is (sort_key_of x) p q (is_eq (sort_key_of x) p e) h) rows

  before_not : q ≤ p → row_in (rows_before rows q) p ≡ None
  before_not h = find_lost (λ r. sort_key_of r == p) (λ r. nat_lt (sort_key_of r) q) (λ x e. less_not (sort_key_of x) p q (is_eq (sort_key_of x) p e) h) rows

  behind_in : q < p → row_in (rows_behind rows q) p ≡ row_in rows p
  behind_in h = find_kept (λ r. sort_key_of r == p) (λ r. nat_lt q (sort_key_of r)) (λ x e. more_is (sort_key_of x) p q (is_eq (sort_key_of x) p e) h) rows

  behind_not : p ≤ q → row_in (rows_behind rows q) p ≡ None
  behind_not h = find_lost (λ r. sort_key_of r == p) (λ r. nat_lt q (sort_key_of r)) (λ x e. more_not (sort_key_of x) p q (is_eq (sort_key_of x) p e) h) rows

  -- what is before and after a sort key, with something at it
  around : (middle : List Row) → row_in (rows_before rows q ++ (middle ++ rows_behind rows q)) p ≡ option_or (row_in (rows_before rows q) p) (option_or (row_in middle p) (row_in (rows_behind rows q) p))
  around middle = find-append _ (rows_before rows q) (middle ++ rows_behind rows q) ∙ ap (option_or (row_in (rows_before rows q) p)) (find-append _ middle (rows_behind rows q))

  around_less : (middle : List Row) → p < q → row_in middle p ≡ None → row_in (rows_before rows q ++ (middle ++ rows_behind rows q)) p ≡ row_in rows p
  around_less middle h m =
      around middle ∙ (ap (λ x. option_or x (option_or (row_in middle p) (row_in (rows_behind rows q) p))) (before_in h)
      ∙ (ap (λ x. option_or (row_in rows p) (option_or x (row_in (rows_behind rows q) p))) m
      ∙ (ap (λ x. option_or (row_in rows p) x) (behind_not (omega (arith, h))) ∙ or_none (row_in rows p))))

  around_more : (middle : List Row) → q < p → row_in middle p ≡ None → row_in (rows_before rows q ++ (middle ++ rows_behind rows q)) p ≡ row_in rows p
  around_more middle h m =
      around middle ∙ (ap (λ x. option_or x (option_or (row_in middle p) (row_in (rows_behind rows q) p))) (before_not (omega (arith, h)))
      ∙ (ap (λ x. option_or x (row_in (rows_behind rows q) p)) m ∙ behind_in h))

  around_at : (middle : List Row) → q ≡ p → row_in (rows_before rows q ++ (middle ++ rows_behind rows q)) p ≡ row_in middle p
  around_at middle h =
      around middle ∙ (ap (λ x. option_or x (option_or (row_in middle p) (row_in (rows_behind rows q) p))) (before_not (omega (arith, h)))
      ∙ (ap (λ x. option_or (row_in middle p) x) (behind_not (omega (arith, h))) ∙ or_none (row_in middle p)))

-- the new row is at its sort key, and all others as before
pub row_in-put : (rows : List Row) (r : Row) (p : ℕ) → row_in (put rows r) p ≡ row_after p (row_in rows p) (change.Put r)
unfolding put
row_in-put rows r p = elim (cases_lt p (sort_key_of r)) [
  | inl less ↦
      let miss = not_eq (sort_key_of r) p (inr less) in
      rw miss (around_less rows (sort_key_of r) p (r ∷ []) less (ap (λ b. cond b (Some r) None) miss))
  | inr more ↦ elim (cases_lt (sort_key_of r) p) [
    | inl less ↦
        let miss = not_eq (sort_key_of r) p (inl less) in
        rw miss (around_more rows (sort_key_of r) p (r ∷ []) less (ap (λ b. cond b (Some r) None) miss))
    | inr same ↦
        let e : sort_key_of r ≡ p = omega (arith, more, same) in
        let hit = eq_is (sort_key_of r) p e in
        rw hit (around_at rows (sort_key_of r) p (r ∷ []) e ∙ ap (λ b. cond b (Some r) None) hit)
  ]
]

pub row_in-remove : (rows : List Row) (t : Table) (k : Key) (p : ℕ) → row_in (remove rows t k) p ≡ row_after p (row_in rows p) (change.Remove t k)
unfolding remove
row_in-remove rows t k p = elim (cases_lt p (sort_key t k)) [
  | inl less ↦
      let miss = not_eq (sort_key t k) p (inr less) in
      rw miss (around_less rows (sort_key t k) p [] less refl)
  | inr more ↦ elim (cases_lt (sort_key t k) p) [
    | inl less ↦
        let miss = not_eq (sort_key t k) p (inl less) in
        rw miss (around_more rows (sort_key t k) p [] less refl)
    | inr same ↦
        let e : sort_key t k ≡ p = omega (arith, more, same) in
        let hit = eq_is (sort_key t k) p e in
        rw hit (around_at rows (sort_key t k) p [] e)
  ]
]

pub row_in-changed_by : (rows : List Row) (c : Change) (p : ℕ) → row_in (changed_by rows c) p ≡ row_after p (row_in rows p) c
row_in-changed_by rows (change.Put r) p = row_in-put rows r p
row_in-changed_by rows (change.Remove t k) p = row_in-remove rows t k p

pub row_in-changed : (rows : List Row) (changes : List Change) (p : ℕ) → row_in (changed rows changes) p ≡ fold (row_after p) (row_in rows p) changes
row_in-changed rows [] p = refl
row_in-changed rows (c ∷ cs) p = row_in-changed (changed_by rows c) cs p ∙ ap (λ x. fold (row_after p) x cs) (row_in-changed_by rows c p)

row_in-puts : (rows more : List Row) (p : ℕ) → row_in (fold put rows more) p ≡ fold (λ kept r. if sort_key_of r == p then Some r else kept) (row_in rows p) more
row_in-puts rows [] p = refl
row_in-puts rows (r ∷ rs) p = row_in-puts (put rows r) rs p ∙ ap (λ x. fold (λ kept r. if sort_key_of r == p then Some r else kept) x rs) (row_in-put rows r p)

pub row_in-map_of : (rows : List Row) (p : ℕ) → row_in (map_of rows) p ≡ last_at p rows
row_in-map_of rows p = row_in-puts [] rows p

pub changed_by_rising : (rows : List Row) (c : Change) → IsRising rows → IsRising (changed_by rows c)
changed_by_rising rows (change.Put r) h = put_rising rows r h
changed_by_rising rows (change.Remove t k) h = remove_rising rows t k h

pub changed_rising : (rows : List Row) (changes : List Change) → IsRising rows → IsRising (changed rows changes)
changed_rising rows [] h = h
changed_rising rows (c ∷ cs) h = changed_rising (changed_by rows c) cs (changed_by_rising rows c h)

puts_rising : (rows more : List Row) → IsRising rows → IsRising (fold put rows more)
puts_rising rows [] h = h
puts_rising rows (r ∷ rs) h = puts_rising (put rows r) rs (put_rising rows r h)

pub map_of_rising : (rows : List Row) → IsRising (map_of rows)
map_of_rising rows = puts_rising [] rows (record { apart = λ i j d less within. absurd (omega (arith, within)) })

pub map_rises : (rows map : List Row) → map ≡ map_of rows → IsRising map
map_rises rows map e = rw e (map_of_rising rows)
