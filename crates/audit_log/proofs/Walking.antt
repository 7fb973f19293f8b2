-- The recoveries of a cluster, from the last one on.
use Rattle.std.proofs.Common.{◌≡◌, ℕ, ◌+◌, ◌-◌, ◌<◌, ◌≤◌, Bool, true, false, cond, not, ◌&&◌, List, [], ◌∷◌, length, get_or, set, map, drop, zero, suc, refl, sym, ◌∙◌, ap, subst, Option, Some, None, arith, zero-add, count_by, filter, find, reverse}
use Rattle.audit_log.proofs.Prelude.{AllWithin, DoneOf, HoldsAt, IsLastBut, Recovery, acknowledged_for, add-one, count_by-le-length, drop-cons}
use Rattle.audit_log.proofs.Prelude.{drop_all, false≢true, find-append, is_new, is_of, length-drop, option_or, sum_by-cons}
use mathlib.Core.List.{reverse-cons}
use Rattle.audit_log.proofs.Finding.{All-reverse, none-found}
use Rattle.audit_log.proofs.Indexing.{acked-of}
use Rattle.audit_log.proofs.Parting.{of-cluster}
use Rattle.audit_log.proofs.Within.{within-join, within-one}

-- ---- the walk

-- the place after this one, or the first place if there is none
abbrev pub end_of : Option ℕ → ℕ
end_of None = 0
end_of (Some i) = i + 1

-- a place of a recovery of the cluster
abbrev pub IsPlace : List ℕ → List Recovery → Option ℕ → Type 0
IsPlace cluster xs None = Unit {0}
IsPlace cluster xs (Some i) = (i < length xs) × HoldsAt (λ (r : Recovery). r.cluster ≡ cluster) xs i

pub place-within : (cluster : List ℕ) (xs : List Recovery) (i : ℕ) (o : Option ℕ) → o ≡ Some i → IsPlace cluster xs o → i < length xs
place-within cluster xs i o e is = (subst (IsPlace cluster xs) e is).0

pub place-of : (cluster : List ℕ) (xs : List Recovery) (i : ℕ) (o : Option ℕ) → o ≡ Some i → IsPlace cluster xs o → HoldsAt (λ (r : Recovery). r.cluster ≡ cluster) xs i
place-of cluster xs i o e is = (subst (IsPlace cluster xs) e is).1

module _ (So : Recovery → Type 0) (cluster : List ℕ) (xs : List Recovery) where
  pub but-place : (end : ℕ) (o : Option ℕ) → end ≤ length xs → IsLastBut So cluster xs end o → IsPlace cluster xs o
  but-place end None short is = tt
  but-place end (Some i) short is = let before = is.0 in (omega (arith, short, before), is.1)

  pub but-rest : (end : ℕ) (o : Option ℕ) → IsLastBut So cluster xs end o → AllWithin So xs (end_of o) end
  but-rest end None is = is
  but-rest end (Some i) is = is.2

  pub but-falls : (end : ℕ) (o : Option ℕ) → IsLastBut So cluster xs end o → end_of o ≤ end
  but-falls end None is = omega arith
  but-falls end (Some i) is = let before = is.0 in omega (arith, before)

-- ---- the first and the last one that passes a test

module _ (p : Recovery → Bool) where
  abbrev pub Fails : Recovery → Type 0
  Fails r = p r ≡ false

  abbrev pub Passes : Recovery → Type 0
  Passes r = p r ≡ true

  abbrev pub FirstFrom : List Recovery → ℕ → Option ℕ → Type 0
  FirstFrom xs end None = AllWithin Fails xs end (length xs)
  FirstFrom xs end (Some i) = (end ≤ i) × (i < length xs) × HoldsAt Passes xs i × AllWithin Fails xs end i

  pub fails-more : (xs : List Recovery) (low i high : ℕ) → HoldsAt Fails xs i → AllWithin Fails xs low i → AllWithin Fails xs (i + 1) high → AllWithin Fails xs low high
  fails-more xs low i high here rest so = within-join Fails xs low i high rest (within-join Fails xs i (i + 1) high (within-one Fails xs i here) so)

  pub first-passed : (xs : List Recovery) (low i : ℕ) (o : Option ℕ) → low ≤ i → HoldsAt Fails xs i → AllWithin Fails xs low i → FirstFrom xs (i + 1) o → FirstFrom xs low o
  first-passed xs low i None le here rest so = fails-more xs low i (length xs) here rest so
  first-passed xs low i (Some k) le here rest so =
      let later = so.0 in
      (omega (arith, le, later), so.1, so.2, fails-more xs low i k here rest so.3)

  pub find-none : (xs : List Recovery) → AllWithin Fails xs 0 (length xs) → find p xs ≡ None
  find-none xs none = none-found p xs (λ k d within. none k d (omega arith) within)

  pub find-first : (xs : List Recovery) (i : ℕ) (d : Recovery) → i < length xs → p (get_or xs i d) ≡ true → AllWithin Fails xs 0 i → find p xs ≡ Some (get_or xs i d)
  find-first [] i d within passes none = absurd (omega (arith, within))
  find-first (x ∷ xs) zero d within passes none = ap (λ b. cond b (Some x) (find p xs)) passes
  find-first (x ∷ xs) (suc i) d within passes none =
      ap (λ b. cond b (Some x) (find p xs)) (none 0 d (omega arith) (omega arith))
      ∙ find-first xs i d (omega (arith, within)) passes (λ k e from below. none (suc k) e (omega arith) (omega (arith, below)))

  find-back : (x : Recovery) (xs : List Recovery) → find p (reverse (x ∷ xs)) ≡ option_or (find p (reverse xs)) (cond (p x) (Some x) None)
  find-back x xs = ap (find p) (reverse-cons x xs) ∙ find-append p (reverse xs) (x ∷ [])

  pub find-last_none : (xs : List Recovery) → AllWithin Fails xs 0 (length xs) → find p (reverse xs) ≡ None
  find-last_none xs none = none-found p (reverse xs) (All-reverse Fails xs (λ k d within. none k d (omega arith) within))

  pub find-last : (xs : List Recovery) (i : ℕ) (d : Recovery) → i < length xs → p (get_or xs i d) ≡ true → AllWithin Fails xs (i + 1) (length xs) → find p (reverse xs) ≡ Some (get_or xs i d)
  find-last [] i d within passes none = absurd (omega (arith, within))
  find-last (x ∷ xs) zero d within passes none =
      find-back x xs
      ∙ ap (λ o. option_or o (cond (p x) (Some x) None)) (find-last_none xs (λ k e from below. none (suc k) e (omega arith) (omega (arith, below))))
      ∙ ap (λ b. cond b (Some x) None) passes
  find-last (x ∷ xs) (suc i) d within passes none =
      find-back x xs
      ∙ ap (λ o. option_or o (cond (p x) (Some x) None))
      (find-last xs i d (omega (arith, within)) passes (λ k e from below. none (suc k) e (omega (arith, from)) (omega (arith, below))))

-- ---- from a place on

steady : {A : Type 0} (F : ℕ → A) (n low high : ℕ) → low + n ≡ high → ((k : ℕ) → low ≤ k → k < high → F k ≡ F (k + 1)) → F low ≡ F high
steady F zero low high e step = ap F (omega (arith, e))
steady F (suc n) low high e step =
    step low (omega arith) (omega (arith, e)) ∙ steady F n (low + 1) high (omega (arith, e)) (λ k from below. step k (omega (arith, from)) below)

pub some-of : (xs : List Recovery) → 0 < length xs → Recovery
some-of [] within = absurd (omega (arith, within))
some-of (x ∷ xs) within = x

module _ (p : Recovery → Bool) (xs : List Recovery) where
  pub filter-there : (k : ℕ) (d : Recovery) → k < length xs →
      filter p (drop k xs) ≡ cond (p (get_or xs k d)) (get_or xs k d ∷ filter p (drop (k + 1) xs)) (filter p (drop (k + 1) xs))
  filter-there k d within =
      ap (filter p) (drop-cons xs k d within)
      ∙ ap (λ n. cond (p (get_or xs k d)) (get_or xs k d ∷ filter p (drop n xs)) (filter p (drop n xs))) (sym (add-one k))

  pub count-there : (k : ℕ) (d : Recovery) → k < length xs → count_by p (drop k xs) ≡ cond (p (get_or xs k d)) 1 0 + count_by p (drop (k + 1) xs)
  count-there k d within =
      ap (count_by p) (drop-cons xs k d within)
      ∙ sum_by-cons (λ x. cond (p x) 1 0) (get_or xs k d) (drop (suc k) xs)
      ∙ ap (λ n. cond (p (get_or xs k d)) 1 0 + count_by p (drop n xs)) (sym (add-one k))

  pub filter-passed : (low high : ℕ) → low ≤ high → high ≤ length xs → AllWithin (Fails p) xs low high → filter p (drop low xs) ≡ filter p (drop high xs)
  filter-passed low high le short none =
      steady (λ k. filter p (drop k xs)) (high - low) low high (omega (arith, le)) (λ k from below.
      let d = some-of xs (omega (arith, short, below)) in
      filter-there k d (omega (arith, short, below))
      ∙ ap (λ b. cond b (get_or xs k d ∷ filter p (drop (k + 1) xs)) (filter p (drop (k + 1) xs))) (none k d from below))

  pub count-passed : (low high : ℕ) → low ≤ high → high ≤ length xs → AllWithin (Fails p) xs low high → count_by p (drop low xs) ≡ count_by p (drop high xs)
  count-passed low high le short none =
      steady (λ k. count_by p (drop k xs)) (high - low) low high (omega (arith, le)) (λ k from below.
      let d = some-of xs (omega (arith, short, below)) in
      count-there k d (omega (arith, short, below))
      ∙ ap (λ b. cond b 1 0 + count_by p (drop (k + 1) xs)) (none k d from below)
      ∙ zero-add (count_by p (drop (k + 1) xs)))

  pub filter-end : (low : ℕ) → low ≤ length xs → AllWithin (Fails p) xs low (length xs) → filter p (drop low xs) ≡ []
  filter-end low le none = filter-passed low (length xs) le (omega arith) none ∙ ap (filter p) (drop_all (length xs) xs (omega arith))

  pub count-end : (low : ℕ) → low ≤ length xs → AllWithin (Fails p) xs low (length xs) → count_by p (drop low xs) ≡ 0
  count-end low le none = count-passed low (length xs) le (omega arith) none ∙ ap (count_by p) (drop_all (length xs) xs (omega arith))

  pub count-few : (k : ℕ) → count_by p (drop k xs) ≤ length xs
  count-few k = let most = count_by-le-length p (drop k xs) in let part = length-drop k xs in omega (arith, most, part)

-- ---- a list that is mapped from a place on

abbrev pub changed : (Recovery → Recovery) → ℕ → List Recovery → List Recovery
changed f zero xs = map f xs
changed f (suc k) [] = []
changed f (suc k) (x ∷ xs) = x ∷ changed f k xs

module _ (f : Recovery → Recovery) where
  pub changed-length : (k : ℕ) (xs : List Recovery) → length (changed f k xs) ≡ length xs
  changed-length zero [] = refl
  changed-length zero (x ∷ xs) = ap suc (changed-length zero xs)
  changed-length (suc k) [] = refl
  changed-length (suc k) (x ∷ xs) = ap suc (changed-length k xs)

  pub changed-end : (k : ℕ) (xs : List Recovery) → length xs ≤ k → changed f k xs ≡ xs
  changed-end zero [] past = refl
  changed-end zero (x ∷ xs) past = absurd (omega (arith, past))
  changed-end (suc k) [] past = refl
  changed-end (suc k) (x ∷ xs) past = ap (λ ys. x ∷ ys) (changed-end k xs (omega (arith, past)))

  pub changed-below : (k j : ℕ) (xs : List Recovery) (d : Recovery) → j < k → get_or (changed f k xs) j d ≡ get_or xs j d
  changed-below zero j xs d below = absurd (omega (arith, below))
  changed-below (suc k) j [] d below = refl
  changed-below (suc k) zero (x ∷ xs) d below = refl
  changed-below (suc k) (suc j) (x ∷ xs) d below = changed-below k j xs d (omega (arith, below))

  changed-set : (k : ℕ) (xs : List Recovery) (d : Recovery) → k < length xs → set (changed f (suc k) xs) k (f (get_or xs k d)) ≡ changed f k xs
  changed-set k [] d within = absurd (omega (arith, within))
  changed-set zero (x ∷ xs) d within = refl
  changed-set (suc k) (x ∷ xs) d within = ap (λ ys. x ∷ ys) (changed-set k xs d (omega (arith, within)))

  changed-skip : (k : ℕ) (xs : List Recovery) (d : Recovery) → k < length xs → f (get_or xs k d) ≡ get_or xs k d → changed f k xs ≡ changed f (suc k) xs
  changed-skip k [] d within same = absurd (omega (arith, within))
  changed-skip zero (x ∷ xs) d within same = ap (λ y. y ∷ map f xs) same
  changed-skip (suc k) (x ∷ xs) d within same = ap (λ ys. x ∷ ys) (changed-skip k xs d (omega (arith, within)) same)

  pub changed-passed : (xs : List Recovery) (low high : ℕ) → low ≤ high → high ≤ length xs → AllWithin (λ r. f r ≡ r) xs low high → changed f low xs ≡ changed f high xs
  changed-passed xs low high le short same =
      steady (λ k. changed f k xs) (high - low) low high (omega (arith, le)) (λ k from below.
      let d = some-of xs (omega (arith, short, below)) in
      changed-skip k xs d (omega (arith, short, below)) (same k d from below) ∙ ap (λ n. changed f n xs) (sym (add-one k)))

  -- a step that changes the one before a place
  pub changed-step : (xs ys : List Recovery) (k : ℕ) (now d : Recovery) → ys ≡ changed f (k + 1) xs → k < length xs → now ≡ f (get_or ys k d) → set ys k now ≡ changed f k xs
  changed-step xs ys k now d so_far within is =
      let at : get_or ys k d ≡ get_or xs k d = ap (λ zs. get_or zs k d) so_far ∙ changed-below (k + 1) k xs d (omega arith) in
      (λ i. set ((so_far ∙ ap (λ n. changed f n xs) (add-one k)) i) k ((is ∙ ap f at) i))
      ∙ changed-set k xs d within

-- ---- acknowledgements

-- one that is done stays as it is
pub done-same : (cluster : List ℕ) (r : Recovery) → DoneOf cluster r → acknowledged_for cluster r ≡ r
done-same cluster r done = go (is_of cluster r) refl
  where
    go : (b : Bool) → is_of cluster r ≡ b → cond b (record r { acked = true }) r ≡ r
    go true e = λ i. record r { acked = sym (acked-of r (done (of-cluster cluster r e))) i }
    go false e = refl

pub done-old : (cluster : List ℕ) (r : Recovery) → DoneOf cluster r → is_new cluster r ≡ false
done-old cluster r done = go (is_of cluster r) refl
  where
    by : (b : Bool) → r.acked ≡ b → b ≡ true → not b ≡ false
    by true f e = refl
    by false f e = absurd (false≢true e)

    go : (b : Bool) → is_of cluster r ≡ b → (b && not r.acked) ≡ false
    go true e = let acked = acked-of r (done (of-cluster cluster r e)) in by r.acked refl acked
    go false e = refl
