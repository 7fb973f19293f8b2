-- The kept rows of a book: they rise, and they change with the book.
use Rattle.std.proofs.Common.{◌≡◌, ℕ, suc, zero, ◌+◌, ◌<◌, ◌≤◌, List, [], ◌∷◌, ◌++◌, length, get_or, take, drop, All, Option, None, Some, refl, sym, ap, ◌∙◌, subst, append_assoc, add-zero, arith, filter_map, option_map, IfSome, slice_set}
use Rattle.instance_keeper.proofs.Prelude.{All-append, All-cons, All-nil, All-weaker, AllPairs, AllPairs-cons, IsNumbered, Key, Row, ServerNo, Table}
use Rattle.instance_keeper.proofs.Prelude.{drop-cons, filter_map-append, length-take-le, option_to_list, put, put_middle, remove, remove_middle}
use Rattle.instance_keeper.proofs.Prelude.{set_parts, sort_key, sort_key_of, take-append-drop}
use Rattle.instance_keeper.proofs.Books.{numbered_at}

-- the rows of one table
module _ {A : Type 0} (wrap : A → Row) (no_of : A → ServerNo) (base : ℕ) (placed : (a : A) → sort_key_of (wrap a) ≡ base + (no_of a).0) where
  abbrev rows_in : List (Option A) → List Row
  rows_in xs = filter_map (option_map wrap) xs

  abbrev one : Option A → List Row
  one x = option_to_list (option_map wrap x)

  rows_cons : (x : Option A) (xs : List (Option A)) → rows_in (x ∷ xs) ≡ one x ++ rows_in xs
  rows_cons None xs = refl
  rows_cons (Some a) xs = refl

  pub rows_low : (from : ℕ) (xs : List (Option A)) → IsNumbered no_of from xs → All (λ r. base + from ≤ sort_key_of r) (rows_in xs)
  rows_low from [] h = All-nil (λ r. base + from ≤ sort_key_of r)
  rows_low from (None ∷ xs) h = All-weaker (λ r. base + (from + 1) ≤ sort_key_of r) (λ r. base + from ≤ sort_key_of r) (λ r e. omega (arith, e)) (rows_in xs) (rows_low (from + 1) xs h.1)
  rows_low from (Some a ∷ xs) h =
      All-cons (λ r. base + from ≤ sort_key_of r) (wrap a) (rows_in xs) (low_at from a h.0)
      (All-weaker (λ r. base + (from + 1) ≤ sort_key_of r) (λ r. base + from ≤ sort_key_of r) (λ r e. omega (arith, e)) (rows_in xs) (rows_low (from + 1) xs h.1))
    where
      low_at : (from : ℕ) (a : A) → (no_of a).0 ≡ from → base + from ≤ sort_key_of (wrap a)
      low_at from a e = let p = placed a in omega (arith, p, e)

  pub rows_high : (from : ℕ) (xs : List (Option A)) → IsNumbered no_of from xs → All (λ r. sort_key_of r < base + (from + length xs)) (rows_in xs)
  rows_high from [] h = All-nil (λ r. sort_key_of r < base + (from + 0))
  rows_high from (None ∷ xs) h = All-weaker (λ r. sort_key_of r < base + (from + 1 + length xs)) (λ r. sort_key_of r < base + (from + length (None ∷ xs))) (λ r e. omega (arith, e)) (rows_in xs) (rows_high (from + 1) xs h.1)
  rows_high from (Some a ∷ xs) h =
      All-cons (λ r. sort_key_of r < base + (from + length (Some a ∷ xs))) (wrap a) (rows_in xs) (high_at from (length xs) a h.0)
      (All-weaker (λ r. sort_key_of r < base + (from + 1 + length xs)) (λ r. sort_key_of r < base + (from + length (Some a ∷ xs))) (λ r e. omega (arith, e)) (rows_in xs) (rows_high (from + 1) xs h.1))
    where
      high_at : (from n : ℕ) (a : A) → (no_of a).0 ≡ from → sort_key_of (wrap a) < base + (from + suc n)
      high_at from n a e = let p = placed a in omega (arith, p, e)

  pub rows_rise : (from : ℕ) (xs : List (Option A)) → IsNumbered no_of from xs → AllPairs (λ a b. sort_key_of a < sort_key_of b) (rows_in xs)
  rows_rise from [] h = λ i j d less within. absurd (omega (arith, within))
  rows_rise from (None ∷ xs) h = rows_rise (from + 1) xs h.1
  rows_rise from (Some a ∷ xs) h =
      AllPairs-cons (λ a b. sort_key_of a < sort_key_of b) (wrap a) (rows_in xs)
      (All-weaker (λ r. base + (from + 1) ≤ sort_key_of r) (λ r. sort_key_of (wrap a) < sort_key_of r) (λ r e. behind from a (sort_key_of r) h.0 e) (rows_in xs) (rows_low (from + 1) xs h.1))
      (rows_rise (from + 1) xs h.1)
    where
      behind : (from : ℕ) (a : A) (p : ℕ) → (no_of a).0 ≡ from → base + (from + 1) ≤ p → sort_key_of (wrap a) < p
      behind from a p e h = let q = placed a in omega (arith, q, e, h)

  numbered_take : (from n : ℕ) (xs : List (Option A)) → IsNumbered no_of from xs → IsNumbered no_of from (take n xs)
  numbered_take from zero xs h = tt
  numbered_take from (suc n) [] h = tt
  numbered_take from (suc n) (x ∷ xs) h = (h.0, numbered_take (from + 1) n xs h.1)

  numbered_drop : (from n : ℕ) (xs : List (Option A)) → IsNumbered no_of from xs → IsNumbered no_of (from + n) (drop n xs)
  numbered_drop from zero xs h = subst (λ k. IsNumbered no_of k xs) (sym (add-zero from)) h
  numbered_drop from (suc n) [] h = tt
  numbered_drop from (suc n) (x ∷ xs) h =
      let shift : from + 1 + n ≡ from + suc n = omega arith in
      subst (λ k. IsNumbered no_of k (drop n xs)) shift (numbered_drop (from + 1) n xs h.1)

  rows_parts : (front : List (Option A)) (x : Option A) (back : List (Option A)) → rows_in (front ++ x ∷ back) ≡ rows_in front ++ (one x ++ rows_in back)
  rows_parts front x back = filter_map-append (option_map wrap) front (x ∷ back) ∙ ap (λ l. rows_in front ++ l) (rows_cons x back)

  module _ (xs : List (Option A)) (n : ℕ) (numbered : IsNumbered no_of 0 xs) (within : n < length xs) (first last : List Row)
      (low : All (λ r. sort_key_of r < base + n) first) (high : All (λ r. base + n < sort_key_of r) last) where
    front_low : All (λ r. sort_key_of r < base + n) (first ++ rows_in (take n xs))
    front_low =
        let len = length-take-le n xs (omega (arith, within)) in
        All-append (λ r. sort_key_of r < base + n) first (rows_in (take n xs)) low
        (All-weaker (λ r. sort_key_of r < base + (0 + length (take n xs))) (λ r. sort_key_of r < base + n) (λ r e. omega (arith, e, len)) (rows_in (take n xs))
        (rows_high 0 (take n xs) (numbered_take 0 n xs numbered)))

    back_high : All (λ r. base + n < sort_key_of r) (rows_in (drop (suc n) xs) ++ last)
    back_high =
        All-append (λ r. base + n < sort_key_of r) (rows_in (drop (suc n) xs)) last
        (All-weaker (λ r. base + (0 + suc n) ≤ sort_key_of r) (λ r. base + n < sort_key_of r) (λ r e. omega (arith, e)) (rows_in (drop (suc n) xs))
        (rows_low (0 + suc n) (drop (suc n) xs) (numbered_drop 0 (suc n) xs numbered)))
        high

    own_at : All (λ r. sort_key_of r ≡ base + n) (one (get_or xs n None))
    own_at = at_one (get_or xs n None) (numbered_at no_of 0 n xs numbered)
      where
        at_one : (x : Option A) → IfSome x (λ a. (no_of a).0 ≡ 0 + n) → All (λ r. sort_key_of r ≡ base + n) (one x)
        at_one None h = All-nil (λ r. sort_key_of r ≡ base + n)
        at_one (Some a) h =
            let p = placed a in
            All-cons (λ r. sort_key_of r ≡ base + n) (wrap a) [] (omega (arith, p, h)) (All-nil (λ r. sort_key_of r ≡ base + n))

    -- the rows of all tables, by what is before and after the sort key
    regroup : (x : Option A) → first ++ (rows_in (take n xs ++ x ∷ drop (suc n) xs) ++ last) ≡ (first ++ rows_in (take n xs)) ++ (one x ++ (rows_in (drop (suc n) xs) ++ last))
    regroup x =
        ap (λ l. first ++ (l ++ last)) (rows_parts (take n xs) x (drop (suc n) xs)) ∙ joined first (rows_in (take n xs)) (one x) (rows_in (drop (suc n) xs)) last
      where
        joined : (a b c d e : List Row) → a ++ ((b ++ (c ++ d)) ++ e) ≡ (a ++ b) ++ (c ++ (d ++ e))
        joined a b c d e = simp append_assoc

    split : first ++ (rows_in xs ++ last) ≡ (first ++ rows_in (take n xs)) ++ (one (get_or xs n None) ++ (rows_in (drop (suc n) xs) ++ last))
    split = ap (λ l. first ++ (rows_in l ++ last)) (sym (take-append-drop n xs) ∙ ap (λ l. take n xs ++ l) (drop-cons xs n None within)) ∙ regroup (get_or xs n None)

    pub table_put : (a : A) → (no_of a).0 ≡ n → first ++ (rows_in (slice_set xs n (Some a)) ++ last) ≡ put (first ++ (rows_in xs ++ last)) (wrap a)
    table_put a e =
        let p = placed a in
        let at : sort_key_of (wrap a) ≡ base + n = omega (arith, p, e) in
        ap (λ l. first ++ (rows_in l ++ last)) (set_parts xs n (Some a) within)
        ∙ (regroup (Some a)
        ∙ sym (ap (λ l. put l (wrap a)) split ∙ put_middle (first ++ rows_in (take n xs)) (one (get_or xs n None)) (rows_in (drop (suc n) xs) ++ last) (base + n) front_low own_at back_high (wrap a) at))

    pub table_remove : (t : Table) (k : Key) → sort_key t k ≡ base + n → first ++ (rows_in (slice_set xs n None) ++ last) ≡ remove (first ++ (rows_in xs ++ last)) t k
    table_remove t k at =
        ap (λ l. first ++ (rows_in l ++ last)) (set_parts xs n None within)
        ∙ (regroup None
        ∙ sym (ap (λ l. remove l t k) split ∙ remove_middle (first ++ rows_in (take n xs)) (one (get_or xs n None)) (rows_in (drop (suc n) xs) ++ last) (base + n) front_low own_at back_high t k at))
