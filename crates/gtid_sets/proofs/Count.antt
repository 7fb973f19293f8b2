-- The count is the number of pairs.
use Rattle.std.proofs.Common.{◌≡◌, ℕ, zero, suc, ◌+◌, ◌-◌, ◌^◌, ◌<◌, ◌≤◌, false, eqb, ltb, leb, List, [], ◌∷◌, ◌++◌, length, length-append, refl, sym, ap, ◌∙◌, subst, arith, ◌&&◌, ◌||◌, ◌==◌, map}
use Rattle.gtid_sets.proofs.Prelude.{All, All-append, All-cons, All-head, All-tail, AllPairs, AllPairs-cons, Interval, IsInterval, IsSet, high, holds}
use Rattle.gtid_sets.proofs.Prelude.{length-range_with_len, list_any, list_any-append, low, nat_tests, on_line, pairs, point, range_with_len, size}
use Rattle.gtid_sets.proofs.Prelude.{sum_by-cons}
use Rattle.gtid_sets.proofs.Line.{point_behind}
use Rattle.gtid_sets.proofs.Points.{holds_line}

-- consecutive numbers have consecutive points
points_run : (u a n : ℕ) → map (point u) (range_with_len a n) ≡ range_with_len (point u a) n
points_run u a zero = refl
points_run u a (suc n) =
    ap (λ (ps : List ℕ). point u a ∷ ps) (points_run u (a + 1) n ∙ ap (λ (p : ℕ). range_with_len p n) (point_behind u a))

pairs_cons : (s : Interval) (xs : List Interval) → pairs (s ∷ xs) ≡ range_with_len (low s) (s.last + 1 - s.first) ++ pairs xs
pairs_cons s xs = ap (λ (ps : List ℕ). ps ++ pairs xs) (points_run s.uuid s.first (s.last + 1 - s.first))

pub pairs_length : (xs : List Interval) → length (pairs xs) ≡ size xs
pairs_length [] = refl
pairs_length (s ∷ xs) =
    ap length (pairs_cons s xs) ∙ length-append (range_with_len (low s) (s.last + 1 - s.first)) (pairs xs)
    ∙ rw (length-range_with_len (low s) (s.last + 1 - s.first), pairs_length xs) (sym (sum_by-cons (λ t. t.last + 1 - t.first) s xs))

-- a run's numbers, and that they rise
run_within : (a n l h : ℕ) → l ≤ a → a + n ≤ h → All (λ (b : ℕ). l ≤ b × (b < h)) (range_with_len a n)
run_within a zero l h low high = λ k d within. absurd (omega (arith, within))
run_within a (suc n) l h low high =
    All-cons (λ (b : ℕ). l ≤ b × (b < h)) a (range_with_len (a + 1) n) (low, omega arith) (run_within (a + 1) n l h (omega arith) (omega arith))

run_rises : (a n : ℕ) → AllPairs (λ (x y : ℕ). x < y) (range_with_len a n)
run_rises a zero = λ i j d less within. absurd (omega (arith, within))
run_rises a (suc n) =
    let behind = run_within (a + 1) n (a + 1) (a + 1 + n) (omega arith) (omega arith) in
    AllPairs-cons (λ (x y : ℕ). x < y) a (range_with_len (a + 1) n) (λ k d within. let b = (behind k d within).0 in omega arith) (run_rises (a + 1) n)

-- one rising list after another
rise_both : (xs ys : List ℕ) (m : ℕ) → AllPairs (λ (x y : ℕ). x < y) xs → All (λ (x : ℕ). x < m) xs → AllPairs (λ (x y : ℕ). x < y) ys → All (λ (y : ℕ). m ≤ y) ys
    → AllPairs (λ (x y : ℕ). x < y) (xs ++ ys)
rise_both [] ys m up below more above = more
rise_both (x ∷ xs) ys m up below more above =
    let first : All (λ (y : ℕ). x < y) xs = λ k d within. up zero (suc k) d (omega arith) (omega (arith, within)) in
    let here : x < m = All-head (λ (z : ℕ). z < m) x xs below in
    let second : All (λ (y : ℕ). x < y) ys = λ k d within. let b = above k d within in omega arith in
    AllPairs-cons (λ (a b : ℕ). a < b) x (xs ++ ys) (All-append (λ (y : ℕ). x < y) xs ys first second)
    (rise_both xs ys m (λ i j d less within. up (suc i) (suc j) d (omega arith) (omega (arith, within))) (All-tail (λ (z : ℕ). z < m) x xs below) more above)

pairs_above : (xs : List Interval) (m : ℕ) → All (λ t. m ≤ low t) xs → All (λ (p : ℕ). m ≤ p) (pairs xs)
pairs_above [] m all = λ k d within. absurd (omega (arith, within))
pairs_above (s ∷ xs) m all =
    let first = All-head (λ t. m ≤ low t) s xs all in
    let run = run_within (low s) (s.last + 1 - s.first) m (low s + (s.last + 1 - s.first)) first (omega arith) in
    subst (All (λ (p : ℕ). m ≤ p)) (sym (pairs_cons s xs))
    (All-append (λ (p : ℕ). m ≤ p) (range_with_len (low s) (s.last + 1 - s.first)) (pairs xs) (λ k d within. (run k d within).0) (pairs_above xs m (All-tail (λ t. m ≤ low t) s xs all)))

run_end : (s : Interval) → IsInterval s → low s + (s.last + 1 - s.first) ≡ high s + 1
unfolding point
run_end s is = let a = is.rises in omega arith

pub set_tail : (s : Interval) (xs : List Interval) → IsSet (s ∷ xs) → IsSet xs
set_tail s xs set = record {
  each = All-tail IsInterval s xs set.each;
  apart = λ i j d less within. set.apart (suc i) (suc j) d (omega arith) (omega (arith, within));
}

pub pairs_rise : (xs : List Interval) → IsSet xs → AllPairs (λ (a b : ℕ). a < b) (pairs xs)
pairs_rise [] set = λ i j d less within. absurd (omega (arith, within))
pairs_rise (s ∷ xs) set =
    let is = All-head IsInterval s xs set.each in
    let run = run_within (low s) (s.last + 1 - s.first) (low s) (high s + 1) (omega arith) (omega (arith, run_end s is)) in
    let above : All (λ t. high s + 1 ≤ low t) xs = λ k d within. let gap = set.apart zero (suc k) d (omega arith) (omega (arith, within)) in omega arith in
    subst (AllPairs (λ (a b : ℕ). a < b)) (sym (pairs_cons s xs))
    (rise_both (range_with_len (low s) (s.last + 1 - s.first)) (pairs xs) (high s + 1) (run_rises (low s) (s.last + 1 - s.first)) (λ k d within. (run k d within).1)
    (pairs_rise xs (set_tail s xs set)) (pairs_above xs (high s + 1) above))

-- whether a run has a number
none_of : (a at h : ℕ) → h ≡ a → false ≡ (leb a at && ltb at h)
none_of a at h e = grind (arith, nat_tests)

one_more : (a at h : ℕ) → a < h → (eqb a at || (leb (a + 1) at && ltb at h)) ≡ (leb a at && ltb at h)
one_more a at h l = grind (arith, nat_tests)

run_has : (a n at h : ℕ) → a + n ≡ h → list_any (λ p. p == at) (range_with_len a n) ≡ (leb a at && ltb at h)
run_has a zero at h e = none_of a at h (omega arith)
run_has a (suc n) at h e = rw (run_has (a + 1) n at h (omega arith)) (one_more a at h (omega arith))

up_to : (a at h : ℕ) → (leb a at && ltb at (h + 1)) ≡ (leb a at && leb at h)
up_to a at h = grind (arith, nat_tests)

pub pairs_line : (xs : List Interval) (at : ℕ) → All IsInterval xs → list_any (λ p. p == at) (pairs xs) ≡ on_line xs at
pairs_line [] at all = refl
pairs_line (s ∷ xs) at all =
    let is = All-head IsInterval s xs all in
    ap (list_any (λ p. p == at)) (pairs_cons s xs) ∙ list_any-append (λ p. p == at) (range_with_len (low s) (s.last + 1 - s.first)) (pairs xs)
    ∙ rw (run_has (low s) (s.last + 1 - s.first) at (high s + 1) (run_end s is), up_to (low s) at (high s), pairs_line xs at (All-tail IsInterval s xs all)) refl

pub pairs_held : (xs : List Interval) (u n : ℕ) → IsSet xs → n < 2 ^ 64 → list_any (λ p. p == point u n) (pairs xs) ≡ holds xs u n
pairs_held xs u n set fits = pairs_line xs (point u n) set.each ∙ sym (holds_line xs u n set.each fits)
