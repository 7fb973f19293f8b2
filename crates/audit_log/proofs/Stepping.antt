-- The steps of walks over the recoveries of a cluster.
use Rattle.std.proofs.Common.{◌≡◌, ℕ, ◌+◌, ◌<◌, ◌≤◌, Bool, true, false, cond, List, [], ◌∷◌, ◌++◌, length, get_or, set, map, drop, refl, sym, ◌∙◌, ap, subst, Option, Some, None, arith, ◌&&◌, count_by, filter, reverse}
use Rattle.audit_log.proofs.Prelude.{AllWithin, DoneOf, Index, IsClear, IsIndex, IsLastBut, Recovery, acknowledged_for, append-nil, at_read}
use Rattle.audit_log.proofs.Prelude.{get_or_from_slice_get, is_blocking, is_new, is_of, is_unended, length-set, slice_get-get_or}
use mathlib.Core.List.{reverse-cons}
use Rattle.audit_log.proofs.Indexing.{acknowledged-stays, index-stays, set-stays, Stays}
use Rattle.audit_log.proofs.Parting.{clear-closed, clear-free, cluster-of}
use Rattle.audit_log.proofs.Walking.{but-falls, but-place, but-rest, changed, changed-below, changed-end, changed-length, changed-passed, changed-step, count-end, count-few, count-passed, count-there, done-old, done-same, end_of, Fails, fails-more, filter-end, filter-passed, filter-there, FirstFrom, first-passed, IsPlace}
use Rattle.audit_log.proofs.Within.{within-weaker}

module _ (cluster : List ℕ) (now : ℕ) where
  abbrev pub Open : Recovery → Bool
  Open r = is_of cluster r && is_unended r

  abbrev pub Blocks : Recovery → Bool
  Blocks r = is_of cluster r && is_blocking now r

  open-fails : (xs : List Recovery) (low high : ℕ) → AllWithin (IsClear cluster now) xs low high → AllWithin (Fails Open) xs low high
  open-fails xs low high = within-weaker (IsClear cluster now) (Fails Open) xs low high (clear-closed cluster now)

  blocks-fails : (xs : List Recovery) (low high : ℕ) → AllWithin (IsClear cluster now) xs low high → AllWithin (Fails Blocks) xs low high
  blocks-fails xs low high = within-weaker (IsClear cluster now) (Fails Blocks) xs low high (clear-free cluster now)

  pub first-init : (xs : List Recovery) (o : Option ℕ) → IsLastBut (IsClear cluster now) cluster xs (length xs) o → FirstFrom Open xs (end_of o) None
  first-init xs o last = open-fails xs (end_of o) (length xs) (but-rest (IsClear cluster now) cluster xs (length xs) o last)

  pub first-step : (xs : List Recovery) (i : ℕ) (x : Recovery) (o first next : Option ℕ) → i < length xs → x ≡ get_or xs i x → x.cluster ≡ cluster
      → IsLastBut (IsClear cluster now) cluster xs i o → FirstFrom Open xs (i + 1) first → next ≡ cond (is_unended x) (Some i) first → FirstFrom Open xs (end_of o) next
  first-step xs i x o first next within at of last so is = subst (FirstFrom Open xs (end_of o)) (sym is) (go (is_unended x) refl)
    where
      falls : end_of o ≤ i
      falls = but-falls (IsClear cluster now) cluster xs i o last

      rest : AllWithin (Fails Open) xs (end_of o) i
      rest = open-fails xs (end_of o) i (but-rest (IsClear cluster now) cluster xs i o last)

      here : (b : Bool) → is_unended x ≡ b → Open x ≡ b
      here b e = ap (λ t. t && is_unended x) (cluster-of cluster x of) ∙ e

      go : (b : Bool) → is_unended x ≡ b → FirstFrom Open xs (end_of o) (cond b (Some i) first)
      go true e = (falls, within, at_read xs (λ r. Open r ≡ true) i x within at (here true e), rest)
      go false e = first-passed Open xs (end_of o) i first falls (at_read xs (λ r. Open r ≡ false) i x within at (here false e)) rest so

  pub blocks-init : (xs : List Recovery) (o : Option ℕ) → IsLastBut (IsClear cluster now) cluster xs (length xs) o → AllWithin (Fails Blocks) xs (end_of o) (length xs)
  blocks-init xs o last = blocks-fails xs (end_of o) (length xs) (but-rest (IsClear cluster now) cluster xs (length xs) o last)

  pub blocks-step : (xs : List Recovery) (i : ℕ) (x : Recovery) (o : Option ℕ) → i < length xs → x ≡ get_or xs i x → x.cluster ≡ cluster → is_blocking now x ≡ false
      → IsLastBut (IsClear cluster now) cluster xs i o → AllWithin (Fails Blocks) xs (i + 1) (length xs) → AllWithin (Fails Blocks) xs (end_of o) (length xs)
  blocks-step xs i x o within at of e last so =
      fails-more Blocks xs (end_of o) i (length xs)
      (at_read xs (λ r. Blocks r ≡ false) i x within at (ap (λ t. t && is_blocking now x) (cluster-of cluster x of) ∙ e))
      (blocks-fails xs (end_of o) i (but-rest (IsClear cluster now) cluster xs i o last)) so

module _ (cluster : List ℕ) (xs : List Recovery) where
  abbrev pub New : Recovery → Bool
  New r = is_new cluster r

  old : (low high : ℕ) → AllWithin (DoneOf cluster) xs low high → AllWithin (Fails New) xs low high
  old low high = within-weaker (DoneOf cluster) (Fails New) xs low high (done-old cluster)

  pub count-init : (o : Option ℕ) → IsLastBut (DoneOf cluster) cluster xs (length xs) o → 0 ≡ count_by New (drop (end_of o) xs)
  count-init o last =
      sym (count-end New xs (end_of o) (but-falls (DoneOf cluster) cluster xs (length xs) o last)
      (old (end_of o) (length xs) (but-rest (DoneOf cluster) cluster xs (length xs) o last)))

  pub count-step : (i n m : ℕ) (x : Recovery) (o : Option ℕ) → i < length xs → x ≡ get_or xs i x → IsLastBut (DoneOf cluster) cluster xs i o
      → n ≡ count_by New (drop (i + 1) xs) → m ≡ cond (is_new cluster x) 1 0 → n + m ≡ count_by New (drop (end_of o) xs)
  count-step i n m x o within at last so one =
      let passed = count-passed New xs (end_of o) i (but-falls (DoneOf cluster) cluster xs i o last) (omega (arith, within)) (old (end_of o) i (but-rest (DoneOf cluster) cluster xs i o last)) in
      let there = count-there New xs i x within in
      let here : m ≡ cond (is_new cluster (get_or xs i x)) 1 0 = one ∙ ap (λ r. cond (is_new cluster r) 1 0) at in
      omega (arith, passed, there, here, so)

  pub count-fits : (i n m : ℕ) (x : Recovery) → i < length xs → x ≡ get_or xs i x → n ≡ count_by New (drop (i + 1) xs) → m ≡ cond (is_new cluster x) 1 0 → n + m ≤ length xs
  count-fits i n m x within at so one =
      let there = count-there New xs i x within in
      let here : m ≡ cond (is_new cluster (get_or xs i x)) 1 0 = one ∙ ap (λ r. cond (is_new cluster r) 1 0) at in
      let few = count-few New xs i in
      omega (arith, there, here, so, few)

  abbrev pub acking_from : ℕ → List Recovery
  acking_from k = map (acknowledged_for cluster) (filter New (drop k xs))

  pub acking-init : (o : Option ℕ) → IsLastBut (DoneOf cluster) cluster xs (length xs) o → [] ≡ reverse (acking_from (end_of o))
  acking-init o last =
      ap (λ ys. reverse (map (acknowledged_for cluster) ys))
      (sym (filter-end New xs (end_of o) (but-falls (DoneOf cluster) cluster xs (length xs) o last)
      (old (end_of o) (length xs) (but-rest (DoneOf cluster) cluster xs (length xs) o last))))

  pub acking-step : (i : ℕ) (x : Recovery) (o : Option ℕ) (list next : List Recovery) → i < length xs → x ≡ get_or xs i x → IsLastBut (DoneOf cluster) cluster xs i o
      → list ≡ reverse (acking_from (i + 1)) → next ≡ list ++ cond (is_new cluster x) (acknowledged_for cluster x ∷ []) [] → next ≡ reverse (acking_from (end_of o))
  acking-step i x o list next within at last so is =
      is ∙ go (is_new cluster x) refl
      ∙ ap (λ ys. reverse (map (acknowledged_for cluster) ys))
      (sym (filter-passed New xs (end_of o) i (but-falls (DoneOf cluster) cluster xs i o last) (omega (arith, within)) (old (end_of o) i (but-rest (DoneOf cluster) cluster xs i o last))))
    where
      there : (b : Bool) → is_new cluster x ≡ b → filter New (drop i xs) ≡ cond b (x ∷ filter New (drop (i + 1) xs)) (filter New (drop (i + 1) xs))
      there b e =
          filter-there New xs i x within
          ∙ ap (λ r. cond (is_new cluster r) (r ∷ filter New (drop (i + 1) xs)) (filter New (drop (i + 1) xs))) (sym at)
          ∙ ap (λ t. cond t (x ∷ filter New (drop (i + 1) xs)) (filter New (drop (i + 1) xs))) e

      go : (b : Bool) → is_new cluster x ≡ b → list ++ cond b (acknowledged_for cluster x ∷ []) [] ≡ reverse (acking_from i)
      go true e =
          ap (λ ys. ys ++ acknowledged_for cluster x ∷ []) so
          ∙ sym (reverse-cons (acknowledged_for cluster x) (acking_from (i + 1)))
          ∙ ap (λ ys. reverse (map (acknowledged_for cluster) ys)) (sym (there true e))
      go false e =
          append-nil list ∙ so ∙ ap (λ ys. reverse (map (acknowledged_for cluster) ys)) (sym (there false e))

  -- a list in which those from a place on are acknowledged
  pub acked-init : (o : Option ℕ) → IsLastBut (DoneOf cluster) cluster xs (length xs) o → xs ≡ changed (acknowledged_for cluster) (end_of o) xs
  acked-init o last =
      let f = acknowledged_for cluster in
      sym (changed-passed f xs (end_of o) (length xs) (but-falls (DoneOf cluster) cluster xs (length xs) o last) (omega arith)
      (within-weaker (DoneOf cluster) (λ r. f r ≡ r) xs (end_of o) (length xs) (done-same cluster) (but-rest (DoneOf cluster) cluster xs (length xs) o last))
      ∙ changed-end f (length xs) xs (omega arith))

  pub acked-step : (i : ℕ) (ys : List Recovery) (x x' : Recovery) (o : Option ℕ) → i < length xs → x ≡ get_or ys i x → x' ≡ acknowledged_for cluster x
      → ys ≡ changed (acknowledged_for cluster) (i + 1) xs → IsLastBut (DoneOf cluster) cluster (set ys i x') i o → set ys i x' ≡ changed (acknowledged_for cluster) (end_of o) xs
  acked-step i ys x x' o within at is so last =
      let f = acknowledged_for cluster in
      let step : set ys i x' ≡ changed f i xs = changed-step f xs ys i x' x so within (is ∙ ap f at) in
      let falls = but-falls (DoneOf cluster) cluster (set ys i x') i o last in
      let rest = but-rest (DoneOf cluster) cluster (set ys i x') i o last in
      step ∙ sym (changed-passed f xs (end_of o) i falls (omega (arith, within)) (λ k d from below.
      done-same cluster (get_or xs k d) (subst (DoneOf cluster) (ap (λ zs. get_or zs k d) step ∙ changed-below f i k xs d below) (rest k d from below))))

  -- the count goes by the list as it was
  pub acked-read : (i : ℕ) (ys : List Recovery) (x : Recovery) → x ≡ get_or ys i x → ys ≡ changed (acknowledged_for cluster) (i + 1) xs → x ≡ get_or xs i x
  acked-read i ys x at so = at ∙ ap (λ zs. get_or zs i x) so ∙ changed-below (acknowledged_for cluster) (i + 1) i xs x (omega arith)

-- an acknowledgement in its place leaves the index right
pub index-acked : (cluster : List ℕ) (ys : List Recovery) (i : ℕ) (x x' : Recovery) (index : Index) → x ≡ get_or ys i x → x' ≡ acknowledged_for cluster x → IsIndex ys index → IsIndex (set ys i x') index
index-acked cluster ys i x x' index at is so =
    index-stays ys (set ys i x') (length-set ys i x')
    (set-stays ys i x' (λ d within. at_read ys (λ r. Stays r x') i x within at (subst (λ r. Stays x r) (sym is) (acknowledged-stays cluster x)) d)) index so

-- ---- a step of acknowledgements

read-itself : (xs : List Recovery) (i : ℕ) (d : Recovery) → i < length xs → get_or xs i d ≡ get_or xs i (get_or xs i d)
read-itself xs i d within = sym (get_or_from_slice_get xs i (get_or xs i d) (get_or xs i d) (slice_get-get_or xs i d within))

-- what is last by a list is last by another one that is the same up to there
but-same : (So : Recovery → Type 0) (cluster : List ℕ) (xs zs : List Recovery) (i : ℕ) (o : Option ℕ) → ((k : ℕ) (d : Recovery) → k < i → get_or zs k d ≡ get_or xs k d)
    → IsLastBut So cluster zs i o → IsLastBut So cluster xs i o
but-same So cluster xs zs i None same is = λ k d from below. subst So (same k d below) (is k d from below)
but-same So cluster xs zs i (Some j) same is =
    (is.0, (λ d. subst (λ (r : Recovery). r.cluster ≡ cluster) (same j d is.0) (is.1 d)), λ k d from below. subst So (same k d below) (is.2 k d from below))

module _ (cluster : List ℕ) (xs ys : List Recovery) (i : ℕ) (d new : Recovery) (o : Option ℕ) (within : i < length xs)
    (so : ys ≡ changed (acknowledged_for cluster) (i + 1) xs) (is : new ≡ acknowledged_for cluster (get_or ys i d)) where
  here : get_or ys i d ≡ get_or ys i (get_or ys i d)
  here = read-itself ys i d (let long = ap length so ∙ changed-length (acknowledged_for cluster) (i + 1) xs in omega (arith, within, long))

  pub acked-index : (index : Index) → IsIndex ys index → IsIndex (set ys i new) index
  acked-index index indexed = index-acked cluster ys i (get_or ys i d) new index here is indexed

  module _ (last : IsLastBut (DoneOf cluster) cluster (set ys i new) i o) where
    last-before : IsLastBut (DoneOf cluster) cluster xs i o
    last-before =
        let f = acknowledged_for cluster in
        let step : set ys i new ≡ changed f i xs = changed-step f xs ys i new (get_or ys i d) so within (is ∙ ap f here) in
        but-same (DoneOf cluster) cluster xs (set ys i new) i o (λ k e below. ap (λ zs. get_or zs k e) step ∙ changed-below f i k xs e below) last

    pub acked-place : IsPlace cluster xs o
    acked-place = but-place (DoneOf cluster) cluster xs i o (omega (arith, within)) last-before

    pub acked-so_far : set ys i new ≡ changed (acknowledged_for cluster) (end_of o) xs
    acked-so_far = acked-step cluster xs i ys (get_or ys i d) new o within here is so last

    pub acked-count : (n m : ℕ) → n ≡ count_by (New cluster xs) (drop (i + 1) xs) → m ≡ cond (is_new cluster (get_or ys i d)) 1 0 → n + m ≡ count_by (New cluster xs) (drop (end_of o) xs)
    acked-count n m count one =
        count-step cluster xs i n m (get_or ys i d) o within (acked-read cluster xs i ys (get_or ys i d) here so) last-before count one

    pub acked-falls : end_of o ≤ i
    acked-falls = but-falls (DoneOf cluster) cluster (set ys i new) i o last
