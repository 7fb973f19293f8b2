-- The set of what is missing.
use Rattle.std.proofs.Common.{◌≡◌, ℕ, zero, suc, ◌<◌, ◌≤◌, ◌+◌, ◌-◌, ◌^◌, Bool, true, false, cond, eqb, leb, List, [], ◌∷◌, refl, sym, ◌∙◌, ap, ◌||◌, ◌&&◌, not, arith, ◌==◌, filter, fold, All}
use Rattle.permission.proofs.Prelude.{All-append, All-cons, All-filter, All-head, All-tail, Interval, IsInterval, IsSet, IsSet-with_pair, Rises-set}
use Rattle.permission.proofs.Prelude.{any-filter_same, eqb-true, flat_map, holds, holds-with_pair, largest, list_any, list_any-append, nat_tests}
use Rattle.permission.proofs.Prelude.{numbers, numbers_missing, numbers_of, own_missing, range_with_len, same_sets_lem, set_with, with_pair}

-- the numbers of GTIDs
abbrev Fits : ℕ → Type 0
Fits n = 1 ≤ n × (n ≤ largest)

run-fits : (a n : ℕ) → 1 ≤ a → a + n ≤ largest + 1 → All Fits (range_with_len a n)
run-fits a zero low high = λ k d within. absurd (omega (arith, within))
run-fits a (suc n) low high = All-cons Fits a (range_with_len (a + 1) n) (low, omega arith) (run-fits (a + 1) n (omega arith) (omega arith))

numbers-fit : (s : Interval) → IsInterval s → All Fits (numbers s)
numbers-fit s is = let r = is.rises in let l = is.in_range in run-fits s.first (s.last + 1 - s.first) is.above_zero (omega (arith, r, l))

of-fit : (uuid : ℕ) (xs : List Interval) → All IsInterval xs → All Fits (numbers_of uuid xs)
of-fit uuid [] all = λ k d within. absurd (omega (arith, within))
of-fit uuid (s ∷ xs) all = go (of-fit uuid xs (All-tail IsInterval s xs all)) (s.uuid == uuid)
  where
    go : All Fits (numbers_of uuid xs) → (b : Bool) → All Fits (flat_map numbers (cond b (s ∷ filter (λ t. t.uuid == uuid) xs) (filter (λ t. t.uuid == uuid) xs)))
    go rest true = All-append Fits (numbers s) (numbers_of uuid xs) (numbers-fit s (All-head IsInterval s xs all)) rest
    go rest false = rest

-- whether a run has a number
none-has : (a m h : ℕ) → a ≡ h + 1 → false ≡ (leb a m && leb m h)
none-has a m h e = grind (arith, nat_tests)

one-more : (a m h : ℕ) → a ≤ h → (eqb a m || (leb (a + 1) m && leb m h)) ≡ (leb a m && leb m h)
one-more a m h l = grind (arith, nat_tests)

run-has : (a n m h : ℕ) → a + n ≡ h + 1 → list_any (λ k. k == m) (range_with_len a n) ≡ (leb a m && leb m h)
run-has a zero m h e = none-has a m h (omega arith)
run-has a (suc n) m h e = rw (run-has (a + 1) n m h (omega arith)) (one-more a m h (omega arith))

numbers-have : (s : Interval) (m : ℕ) → IsInterval s → list_any (λ k. k == m) (numbers s) ≡ (leb s.first m && leb m s.last)
numbers-have s m is = let r = is.rises in run-has s.first (s.last + 1 - s.first) m s.last (omega (arith, r))

-- the numbers are those that the set has
of-have : (uuid : ℕ) (xs : List Interval) (m : ℕ) → All IsInterval xs → list_any (λ k. k == m) (numbers_of uuid xs) ≡ holds xs uuid m
of-have uuid [] m all = refl
of-have uuid (s ∷ xs) m all = go (of-have uuid xs m (All-tail IsInterval s xs all)) (s.uuid == uuid)
  where
    go : list_any (λ k. k == m) (numbers_of uuid xs) ≡ holds xs uuid m → (b : Bool) → list_any (λ k. k == m) (flat_map numbers (cond b (s ∷ filter (λ t. t.uuid == uuid) xs) (filter (λ t. t.uuid == uuid) xs)))
        ≡ ((b && leb s.first m && leb m s.last) || holds xs uuid m)
    go rest true =
        list_any-append (λ k. k == m) (numbers s) (numbers_of uuid xs)
        ∙ ap (λ b. b || list_any (λ k. k == m) (numbers_of uuid xs)) (numbers-have s m (All-head IsInterval s xs all))
        ∙ ap (λ b. (leb s.first m && leb m s.last) || b) rest
    go rest false = rest

-- a set with more numbers of one UUID
fold-holds : (uuid : ℕ) (ns : List ℕ) (set : List Interval) (u m : ℕ) → uuid < 2 ^ 128 → IsSet set → All Fits ns
    → holds (fold (λ s n. with_pair uuid n s) set ns) u m ≡ (holds set u m || (eqb u uuid && list_any (λ k. k == m) ns))
fold-holds uuid [] set u m fits is all = none (holds set u m) (eqb u uuid)
  where
    none : (b c : Bool) → b ≡ (b || (c && false))
    none true c = refl
    none false true = refl
    none false false = refl
fold-holds uuid (n ∷ ns) set u m fits is all =
    let here = All-head Fits n ns all in
    fold-holds uuid ns (with_pair uuid n set) u m fits (IsSet-with_pair set uuid n is fits here.0 here.1) (All-tail Fits n ns all)
    ∙ ap (λ b. b || (eqb u uuid && list_any (λ k. k == m) ns)) (holds-with_pair set uuid n u m (Rises-set set is))
    ∙ join (holds set u m) (eqb u uuid) (list_any (λ k. k == m) ns) (eqb m n) (eqb n m) (grind (arith, nat_tests))
  where
    join : (a c l b d : Bool) → b ≡ d → ((a || (c && b)) || (c && l)) ≡ (a || (c && (d || l)))
    join true c l b d e = refl
    join false true l b d e = ap (λ x. x || l) e
    join false false l b d e = refl

fold-set : (uuid : ℕ) (ns : List ℕ) (set : List Interval) → uuid < 2 ^ 128 → IsSet set → All Fits ns → IsSet (fold (λ s n. with_pair uuid n s) set ns)
fold-set uuid [] set fits is all = is
fold-set uuid (n ∷ ns) set fits is all =
    let here = All-head Fits n ns all in
    fold-set uuid ns (with_pair uuid n set) fits (IsSet-with_pair set uuid n is fits here.0 here.1) (All-tail Fits n ns all)

none-set : IsSet []
none-set = record { each = λ k d within. absurd (omega (arith, within)); apart = λ i j d less within. absurd (omega (arith, within)) }

-- the set that has what is missing is what is missing
pub missing-is : (uuid : ℕ) (xs own ys zs : List Interval) → uuid < 2 ^ 128 → IsSet xs → IsSet zs
    → ((u n : ℕ) → holds own u n ≡ ((u == uuid) && holds xs u n)) → ((u n : ℕ) → holds zs u n ≡ (holds own u n && not (holds ys u n)))
    → zs ≡ own_missing uuid xs ys
unfolding own_missing
missing-is uuid xs own ys zs fits is_xs is_zs part rest =
    same_sets_lem zs (set_with uuid (numbers_missing uuid xs ys)) is_zs (fold-set uuid (numbers_missing uuid xs ys) [] fits none-set all) same
  where
    all : All Fits (numbers_missing uuid xs ys)
    all = All-filter (λ n. not (holds ys uuid n)) Fits (numbers_of uuid xs) (of-fit uuid xs is_xs.each)

    missing-has : (m : ℕ) → list_any (λ k. k == m) (numbers_missing uuid xs ys) ≡ (not (holds ys uuid m) && holds xs uuid m)
    missing-has m =
        any-filter_same (λ k. k == m) (λ n. not (holds ys uuid n)) (not (holds ys uuid m)) (λ k e. ap (λ n. not (holds ys uuid n)) (eqb-true k m e)) (numbers_of uuid xs)
        ∙ ap (λ b. not (holds ys uuid m) && b) (of-have uuid xs m is_xs.each)

    flip : (a b : Bool) → (a && not b) ≡ (not b && a)
    flip true true = refl
    flip true false = refl
    flip false true = refl
    flip false false = refl

    by_uuid : (u m : ℕ) (b : Bool) → eqb u uuid ≡ b → ((b && holds xs u m) && not (holds ys u m)) ≡ (b && (not (holds ys uuid m) && holds xs uuid m))
    by_uuid u m true e = flip (holds xs u m) (holds ys u m) ∙ ap (λ v. not (holds ys v m) && holds xs v m) (eqb-true u uuid e)
    by_uuid u m false e = refl

    same : (u m : ℕ) → holds zs u m ≡ holds (set_with uuid (numbers_missing uuid xs ys)) u m
    same u m =
        rest u m ∙ ap (λ b. b && not (holds ys u m)) (part u m) ∙ by_uuid u m (eqb u uuid) refl
        ∙ ap (λ b. eqb u uuid && b) (sym (missing-has m)) ∙ sym (fold-holds uuid (numbers_missing uuid xs ys) [] u m fits none-set all)
