-- An interval among those of a set.
pub use Rattle.gtid_sets.proofs.Count.{set_tail as set_rest}
use Rattle.std.proofs.Common.{◌≡◌, ℕ, ◌+◌, ◌^◌, ◌<◌, ◌≤◌, Bool, true, false, cond, eqb, leb, min, max, List, [], ◌∷◌, ◌++◌, length, get_or, take, drop, refl, sym, ap, ◌∙◌, subst, arith, zero, suc, inl, inr, ◌&&◌, ◌||◌, ◌-◌}
use Rattle.gtid_sets.proofs.Prelude.{All, All-head, All-tail, AllPairs, AllWithin, Interval, IsInterval, IsSet, and_parts, cases_lt, eqb-true}
use Rattle.gtid_sets.proofs.Prelude.{false≢true, get_or-drop, get_or-remove_above, get_or-remove_below, high, holds, inserted, is_before, largest}
use Rattle.gtid_sets.proofs.Prelude.{length-drop, length-remove, low, merged, nat_tests, point, remove, single, spans, touches, touches_first}
use Rattle.gtid_sets.proofs.Prelude.{with_pair}
use Rattle.gtid_sets.proofs.Line.{low_high}

abbrev pub Rises : Interval → Type 0
Rises s = s.first ≤ s.last

pub same_uuid : (s t : Interval) → touches s t ≡ true → s.uuid ≡ t.uuid
same_uuid s t e = eqb-true s.uuid t.uuid (and_parts (eqb s.uuid t.uuid) (leb t.first (s.last + 1) && leb s.first (t.last + 1)) e).0

touch_parts : (s t : Interval) → touches s t ≡ true → (t.first ≤ s.last + 1) × (s.first ≤ t.last + 1)
touch_parts s t e = (grind (arith, nat_tests), grind (arith, nat_tests))

Rises-merged : (s t : Interval) → Rises s → Rises t → Rises (merged s t)
Rises-merged s t a b = omega arith

within_both : (a b c d n : ℕ) → a ≤ b → c ≤ d → c ≤ b + 1 → a ≤ d + 1 → (leb (min a c) n && leb n (max b d)) ≡ ((leb a n && leb n b) || (leb c n && leb n d))
within_both a b c d n p q r s = grind (arith, nat_tests)

and_split : (u p q x y : Bool) → (p && q) ≡ (x || y) → ((u && p) && q) ≡ ((u && x) || (u && y))
and_split true p q x y e = e
and_split false p q x y e = refl

and_assoc : (u p q : Bool) → ((u && p) && q) ≡ (u && (p && q))
and_assoc true p q = refl
and_assoc false p q = refl

spans-merged : (u n : ℕ) (s t : Interval) → Rises s → Rises t → touches s t ≡ true → spans u n (merged s t) ≡ (spans u n s || spans u n t)
spans-merged u n s t a b e =
    let same : s.uuid ≡ t.uuid = same_uuid s t e in
    let parts = touch_parts s t e in
    let both = within_both s.first s.last t.first t.last n a b parts.0 parts.1 in
    and_split (eqb s.uuid u) (leb (min s.first t.first) n) (leb n (max s.last t.last)) (leb s.first n && leb n s.last) (leb t.first n && leb n t.last) both
    ∙ ap (λ x. x || (eqb s.uuid u && (leb t.first n && leb n t.last))) (sym (and_assoc (eqb s.uuid u) (leb s.first n) (leb n s.last)))
    ∙ ap (λ x. spans u n s || x) (ap (λ v. eqb v u && (leb t.first n && leb n t.last)) same ∙ sym (and_assoc (eqb t.uuid u) (leb t.first n) (leb n t.last)))

pub or_assoc : (a b c : Bool) → ((a || b) || c) ≡ (a || (b || c))
or_assoc true b c = refl
or_assoc false b c = refl

or_swap : (a b c : Bool) → (b || (a || c)) ≡ (a || (b || c))
or_swap true true c = refl
or_swap true false c = refl
or_swap false b c = refl

-- a list goes by the two tests of an insertion
module _ (s t : Interval) (xs : List Interval) where
  pub by_tests : (P : List Interval → Type 0) → (touches s t ≡ true → P (inserted (merged s t) xs)) → (touches s t ≡ false → is_before s t ≡ true → P (s ∷ t ∷ xs))
      → (touches s t ≡ false → is_before s t ≡ false → P (t ∷ inserted s xs)) → P (inserted s (t ∷ xs))
  by_tests P one two three = go (touches s t) (is_before s t) refl refl
    where
      go : (a b : Bool) → touches s t ≡ a → is_before s t ≡ b → P (cond a (inserted (merged s t) xs) (cond b (s ∷ t ∷ xs) (t ∷ inserted s xs)))
      go true b e f = one e
      go false true e f = two e f
      go false false e f = three e f

pub holds-inserted : (xs : List Interval) (s : Interval) (u n : ℕ) → Rises s → All Rises xs → holds (inserted s xs) u n ≡ (spans u n s || holds xs u n)
holds-inserted [] s u n r all = refl
holds-inserted (t ∷ xs) s u n r all =
    let head = All-head Rises t xs all in
    let tail = All-tail Rises t xs all in
    by_tests s t xs (λ ys. holds ys u n ≡ (spans u n s || (spans u n t || holds xs u n)))
    (λ e. holds-inserted xs (merged s t) u n (Rises-merged s t r head) tail
    ∙ ap (λ x. x || holds xs u n) (spans-merged u n s t r head e) ∙ or_assoc (spans u n s) (spans u n t) (holds xs u n))
    (λ e f. refl)
    (λ e f. ap (λ x. spans u n t || x) (holds-inserted xs s u n r tail) ∙ or_swap (spans u n s) (spans u n t) (holds xs u n))

pub Rises-inserted : (xs : List Interval) (s : Interval) → Rises s → All Rises xs → All Rises (inserted s xs)
Rises-inserted [] s r all = All-cons s [] r all
  where
    All-cons : (x : Interval) (ys : List Interval) → Rises x → All Rises ys → All Rises (x ∷ ys)
    All-cons x ys a b zero d h = a
    All-cons x ys a b (suc k) d h = b k d (omega arith)
Rises-inserted (t ∷ xs) s r all =
    let head = All-head Rises t xs all in
    let tail = All-tail Rises t xs all in
    by_tests s t xs (All Rises)
    (λ e. Rises-inserted xs (merged s t) (Rises-merged s t r head) tail)
    (λ e f. All-cons s (t ∷ xs) r all)
    (λ e f. All-cons t (inserted s xs) head (Rises-inserted xs s r tail))
  where
    All-cons : (x : Interval) (ys : List Interval) → Rises x → All Rises ys → All Rises (x ∷ ys)
    All-cons x ys a b zero d h = a
    All-cons x ys a b (suc k) d h = b k d (omega arith)

pub length-inserted : (xs : List Interval) (s : Interval) → length (inserted s xs) ≤ length xs + 1
length-inserted [] s = omega arith
length-inserted (t ∷ xs) s =
    by_tests s t xs (λ ys. length ys ≤ length (t ∷ xs) + 1)
    (λ e. let more = length-inserted xs (merged s t) in omega arith)
    (λ e f. omega arith)
    (λ e f. let more = length-inserted xs s in omega arith)

pub holds-with_pair : (xs : List Interval) (uuid n u m : ℕ) → All Rises xs → holds (with_pair uuid n xs) u m ≡ (holds xs u m || (eqb u uuid && eqb m n))
holds-with_pair xs uuid n u m all = holds-inserted xs (single uuid n) u m (omega arith) all ∙ last (holds xs u m)
  where
    one : (eqb uuid u && leb n m && leb m n) ≡ (eqb u uuid && eqb m n)
    one = grind (arith, nat_tests)

    swap : (a b : Bool) → (a || b) ≡ (b || a)
    swap true true = refl
    swap true false = refl
    swap false true = refl
    swap false false = refl

    last : (h : Bool) → (spans u m (single uuid n) || h) ≡ (h || (eqb u uuid && eqb m n))
    last h = swap (spans u m (single uuid n)) h ∙ ap (λ x. h || x) one

-- sets

pub IsInterval-merged : (s t : Interval) → IsInterval s → IsInterval t → IsInterval (merged s t)
IsInterval-merged s t a b =
    let af = a.above_zero in let ar = a.rises in let ai = a.in_range in
    let bf = b.above_zero in let br = b.rises in let bi = b.in_range in
    record { uuid_fits = a.uuid_fits; above_zero = omega arith; rises = omega arith; in_range = omega arith }

pub IsInterval-single : (uuid n : ℕ) → uuid < 2 ^ 128 → 1 ≤ n → n ≤ largest → IsInterval (single uuid n)
IsInterval-single uuid n fits some few = record { uuid_fits = fits; above_zero = some; rises = omega arith; in_range = few }

pub low-merged : (s t : Interval) → s.uuid ≡ t.uuid → low (merged s t) ≡ min (low s) (low t)
unfolding point
low-merged s t e = omega arith

All-cons : (P : Interval → Type 0) (x : Interval) (ys : List Interval) → P x → All P ys → All P (x ∷ ys)
All-cons P x ys a b zero d h = a
All-cons P x ys a b (suc k) d h = b k d (omega arith)

lows-inserted : (xs : List Interval) (m : ℕ) (s : Interval) → m < low s → All (λ t. m < low t) xs → All (λ t. m < low t) (inserted s xs)
lows-inserted [] m s less all = All-cons (λ t. m < low t) s [] less all
lows-inserted (t ∷ xs) m s less all =
    let P : Interval → Type 0 = λ t. m < low t in
    let head : m < low t = All-head P t xs all in
    let tail = All-tail P t xs all in
    by_tests s t xs (All P)
    (λ e. lows-inserted xs m (merged s t) (let l = low-merged s t (same_uuid s t e) in omega arith) tail)
    (λ e f. All-cons P s (t ∷ xs) less all)
    (λ e f. All-cons P t (inserted s xs) head (lows-inserted xs m s less tail))

-- a set below an interval that ends well before it
IsSet-cons : (s : Interval) (xs : List Interval) → IsInterval s → IsSet xs → All (λ t. high s + 1 < low t) xs → IsSet (s ∷ xs)
IsSet-cons s xs one rest above = record { each = All-cons IsInterval s xs one rest.each; apart = pairs }
  where
    pairs : AllPairs (λ s t. high s + 1 < low t) (s ∷ xs)
    pairs i zero d less h = absurd (omega arith)
    pairs zero (suc j) d less h = above j d (omega arith)
    pairs (suc i) (suc j) d less h = rest.apart i j d (omega arith) (omega arith)

pub set_head : (s : Interval) (xs : List Interval) → IsSet (s ∷ xs) → IsInterval s
set_head s xs is = is.each 0 s (omega arith)

pub set_above : (s : Interval) (xs : List Interval) → IsSet (s ∷ xs) → All (λ t. high s + 1 < low t) xs
set_above s xs is = λ k d h. is.apart 0 (suc k) d (omega arith) (omega (arith, h))

before-gap : (s t : Interval) → IsInterval s → IsInterval t → touches s t ≡ false → is_before s t ≡ true → high s + 1 < low t
unfolding point
before-gap s t a b e f =
    let ar = a.rises in let ai = a.in_range in let br = b.rises in let bi = b.in_range in let bz = b.above_zero in grind (arith, nat_tests)

behind-gap : (s t : Interval) → IsInterval s → IsInterval t → touches s t ≡ false → is_before s t ≡ false → high t + 1 < low s
unfolding point
behind-gap s t a b e f =
    let ar = a.rises in let ai = a.in_range in let br = b.rises in let bi = b.in_range in let az = a.above_zero in grind (arith, nat_tests)

pub IsSet-inserted : (xs : List Interval) (s : Interval) → IsSet xs → IsInterval s → IsSet (inserted s xs)
IsSet-inserted [] s is one = IsSet-cons s [] one is (λ k d h. absurd (omega arith))
IsSet-inserted (t ∷ xs) s is one =
    let head = set_head t xs is in
    let rest = set_rest t xs is in
    let above = set_above t xs is in
    by_tests s t xs IsSet
    (λ e. IsSet-inserted xs (merged s t) rest (IsInterval-merged s t one head))
    (λ e f.
    let gap : high s + 1 < low t = before-gap s t one head e f in
    let up : low t ≤ high t = low_high t head in
    IsSet-cons s (t ∷ xs) one is (All-cons (λ v. high s + 1 < low v) t xs gap (λ k d h. let a = above k d h in omega arith)))
    (λ e f. IsSet-cons t (inserted s xs) head (IsSet-inserted xs s rest one) (lows-inserted xs (high t + 1) s (behind-gap s t one head e f) above))

pub IsSet-with_pair : (xs : List Interval) (uuid n : ℕ) → IsSet xs → uuid < 2 ^ 128 → 1 ≤ n → n ≤ largest → IsSet (with_pair uuid n xs)
IsSet-with_pair xs uuid n is fits some few = IsSet-inserted xs (single uuid n) is (IsInterval-single uuid n fits some few)

pub Rises-set : (xs : List Interval) → IsSet xs → All Rises xs
Rises-set xs is = λ k d h. (is.each k d h).rises

-- what the code finds

past-tests : (s t : Interval) → IsInterval s → IsInterval t → high t + 1 < low s → (touches s t ≡ false) × (is_before s t ≡ false)
unfolding point
past-tests s t a b gap =
    let ar = a.rises in let ai = a.in_range in let br = b.rises in let bi = b.in_range in (grind (arith, nat_tests), grind (arith, nat_tests))

pub inserted-past : (xs : List Interval) (i : ℕ) (s : Interval) → IsSet xs → IsInterval s → i ≤ length xs → AllWithin (λ t. high t + 1 < low s) xs 0 i
    → inserted s xs ≡ take i xs ++ inserted s (drop i xs)
inserted-past xs zero s is one le past = refl
inserted-past [] (suc i) s is one le past = absurd (omega arith)
inserted-past (t ∷ xs) (suc i) s is one le past =
    let tests = past-tests s t one (set_head t xs is) (past 0 t (omega arith) (omega arith)) in
    ap (λ b. cond b (inserted (merged s t) xs) (cond (is_before s t) (s ∷ t ∷ xs) (t ∷ inserted s xs))) tests.0
    ∙ ap (λ b. cond b (s ∷ t ∷ xs) (t ∷ inserted s xs)) tests.1
    ∙ ap (λ ys. t ∷ ys) (inserted-past xs i s (set_rest t xs is) one (omega arith) (λ k d l r. past (suc k) d (omega arith) (omega arith)))

-- An interval that touches the first is merged with it. One that touches none, and comes after none of the others,
-- comes first.
pub inserted-touching : (s t : Interval) (xs : List Interval) → touches s t ≡ true → inserted s (t ∷ xs) ≡ inserted (merged s t) xs
inserted-touching s t xs e = ap (λ b. cond b (inserted (merged s t) xs) (cond (is_before s t) (s ∷ t ∷ xs) (t ∷ inserted s xs))) e

pub inserted-alone : (s : Interval) (xs : List Interval) → IsInterval s → All IsInterval xs → All (λ t. low s ≤ high t + 1) xs → touches_first s xs ≡ false → inserted s xs ≡ s ∷ xs
inserted-alone s [] one each reach e = refl
inserted-alone s (t ∷ xs) one each reach e =
    ap (λ b. cond b (inserted (merged s t) xs) (cond (is_before s t) (s ∷ t ∷ xs) (t ∷ inserted s xs))) e
    ∙ ap (λ b. cond b (s ∷ t ∷ xs) (t ∷ inserted s xs)) (before (is_before s t) refl)
  where
    before : (b : Bool) → is_before s t ≡ b → b ≡ true
    before true f = refl
    before false f =
        let gap = behind-gap s t one (All-head IsInterval t xs each) e f in
        let r : low s ≤ high t + 1 = All-head (λ t. low s ≤ high t + 1) t xs reach in
        absurd (omega arith)

-- if an interval touches the one at a point, that point is there
pub touches-there : (xs : List Interval) (i : ℕ) (s : Interval) → touches_first s (drop i xs) ≡ true → i < length xs
touches-there [] zero s e = absurd (false≢true e)
touches-there [] (suc i) s e = absurd (false≢true e)
touches-there (t ∷ xs) zero s e = omega arith
touches-there (t ∷ xs) (suc i) s e = let more = touches-there xs i s e in omega arith

pub touches-at : (xs : List Interval) (i : ℕ) (s d : Interval) → touches_first s (drop i xs) ≡ true → touches s (get_or xs i d) ≡ true
touches-at [] zero s d e = absurd (false≢true e)
touches-at [] (suc i) s d e = absurd (false≢true e)
touches-at (t ∷ xs) zero s d e = e
touches-at (t ∷ xs) (suc i) s d e = touches-at xs i s d e

-- what is from a point on, once the interval there is taken out
pub drop-remove : (xs : List Interval) (i : ℕ) → i < length xs → drop i (remove xs i) ≡ drop (i + 1) xs
drop-remove [] i h = absurd (omega arith)
drop-remove (x ∷ xs) zero h = refl
drop-remove (x ∷ xs) (suc i) h = let e : suc i + 1 ≡ suc (i + 1) = omega arith in rw e (drop-remove xs i (omega arith))

take-front : (xs ys : List Interval) (i : ℕ) → i ≤ length xs → take i (take i xs ++ ys) ≡ take i xs
take-front xs ys zero h = refl
take-front [] ys (suc i) h = absurd (omega arith)
take-front (x ∷ xs) ys (suc i) h = ap (λ zs. x ∷ zs) (take-front xs ys i (omega arith))

pub take-remove : (xs : List Interval) (i : ℕ) → i < length xs → take i (remove xs i) ≡ take i xs
take-remove xs i h = take-front xs (drop (suc i) xs) i (omega arith)

pub drop-at : (xs : List Interval) (i : ℕ) (d : Interval) → i < length xs → drop i xs ≡ get_or xs i d ∷ drop (i + 1) xs
drop-at [] i d h = absurd (omega arith)
drop-at (x ∷ xs) zero d h = refl
drop-at (x ∷ xs) (suc i) d h = let e : suc i + 1 ≡ suc (i + 1) = omega arith in rw e (drop-at xs i d (omega arith))

-- how far an insertion has come: the interval, what it gives, and what it has still to meet
pub record IsOnTheWay (uuid n at : ℕ) (old xs : List Interval) (whole : Interval) : Type 0 where
  pub within : at ≤ length xs
  pub gives : with_pair uuid n old ≡ take at xs ++ inserted whole (drop at xs)
  pub one : IsInterval whole
  pub each : All IsInterval xs
  pub reach : AllWithin (λ t. low whole ≤ high t + 1) xs at (length xs)
  pub long : length xs ≤ length old

pub IsOnTheWay-first : (uuid n at : ℕ) (xs : List Interval) → IsSet xs → IsInterval (single uuid n) → at ≤ length xs → AllWithin (λ s. high s < point uuid (n - 1)) xs 0 at
    → AllWithin (λ s. point uuid (n - 1) ≤ high s) xs at (length xs) → IsOnTheWay uuid n at xs xs (single uuid n)
unfolding point
IsOnTheWay-first uuid n at xs is one le below above =
    let some = one.above_zero in record {
      within = le;
      gives = inserted-past xs at (single uuid n) is one le (λ k d l r. let b = below k d l r in omega arith);
      one = one;
      each = is.each;
      reach = λ k d l r. let a = above k d l r in omega arith;
      long = omega arith;
    }

pub IsOnTheWay-next : (uuid n at : ℕ) (old xs : List Interval) (whole next : Interval) → IsOnTheWay uuid n at old xs whole → touches_first whole (drop at xs) ≡ true
    → next ≡ get_or xs at next → IsOnTheWay uuid n at old (remove xs at) (merged whole next)
IsOnTheWay-next uuid n at old xs whole next way e is =
    let there = touches-there xs at whole e in
    let touch : touches whole next ≡ true = ap (touches whole) is ∙ touches-at xs at whole next e in
    let lower = low-merged whole next (same_uuid whole next touch) in
    let shorter = length-remove xs at there in
    let long = way.long in
    let each : All IsInterval (remove xs at) = λ k d h. elim (cases_lt k at) [
      | inl less ↦ subst IsInterval (sym (get_or-remove_below xs at d k less there)) (way.each k d (omega arith))
      | inr more ↦ subst IsInterval (sym (get_or-remove_above xs at d k more there)) (way.each (k + 1) d (omega arith))
    ] in
    record {
      within = omega arith;
      gives =
          way.gives
          ∙ ap (λ ys. take at xs ++ inserted whole ys) (drop-at xs at next there)
          ∙ ap (λ (t : Interval). take at xs ++ inserted whole (t ∷ drop (at + 1) xs)) (sym is)
          ∙ ap (λ ys. take at xs ++ ys) (inserted-touching whole next (drop (at + 1) xs) touch)
          ∙ ap (λ ys. take at xs ++ inserted (merged whole next) ys) (sym (drop-remove xs at there))
          ∙ ap (λ ys. ys ++ inserted (merged whole next) (drop at (remove xs at))) (sym (take-remove xs at there));
      one = IsInterval-merged whole next way.one (subst IsInterval (sym is) (way.each at next there));
      each = each;
      reach = λ k d l r.
          let there_too = way.reach (k + 1) d (omega arith) (omega arith) in
          subst (λ (t : Interval). low (merged whole next) ≤ high t + 1) (sym (get_or-remove_above xs at d k l there)) (omega arith);
      long = omega arith;
    }

pub IsOnTheWay-last : (uuid n at : ℕ) (old xs : List Interval) (whole : Interval) → IsOnTheWay uuid n at old xs whole → touches_first whole (drop at xs) ≡ false
    → take at xs ++ whole ∷ drop at xs ≡ with_pair uuid n old
IsOnTheWay-last uuid n at old xs whole way e =
    ap (λ ys. take at xs ++ ys)
    (sym (inserted-alone whole (drop at xs) way.one
    (λ k d h. subst IsInterval (sym (get_or-drop at xs k d)) (way.each (at + k) d (let l = length-drop at xs in let w = way.within in omega (arith, h))))
    (λ k d h. subst (λ (t : Interval). low whole ≤ high t + 1) (sym (get_or-drop at xs k d)) (way.reach (at + k) d (omega arith) (let l = length-drop at xs in let w = way.within in omega (arith, h))))
    e))
    ∙ sym way.gives
