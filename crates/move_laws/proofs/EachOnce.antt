-- The labels of a book's clusters, each once.
use Rattle.std.proofs.Common.{◌≡◌, ◌∙◌, ℕ, ◌+◌, ◌<◌, Bool, true, false, cond, List, [], ◌∷◌, map, length, refl, sym, ap, subst, arith, All, AllPairs, Contains, filter, nat_eq}
use Rattle.move_laws.proofs.Prelude.{All-cons, All-get_or, All-head, All-map, All-nil, All-permutation, All-tail, All-weaker, AllPairs-cons, BookState}
use Rattle.move_laws.proofs.Prelude.{Contains-append_right, Contains-get_or, Equal, Greater, IsBefore, IsLabelled, IsOrder-by_name, IsPermutation-sym}
use Rattle.move_laws.proofs.Prelude.{IsSortedBy, IsTotalOrder, Less, ListsEachOnce, Ordering, ServerNo, by_name, by_name-within, clusters_of, each_once}
use Rattle.move_laws.proofs.Prelude.{false≢true, first_of_sorted, get_or-range_with_len, is_again, is_eq, is_instance, is_lt, label_at, labels_of}
use Rattle.move_laws.proofs.Prelude.{length-by_name, length-range_with_len, nat_cmp, on_texts, ordering_reverse, pointwise, range_with_len, rest_of_sorted}
use Rattle.move_laws.proofs.Prelude.{same_text, slice_cmp, sort_by, sorted_is_sorted, sorted_permutes, texts_ties}

-- ---- labels in order

abbrev order : List ℕ → List ℕ → Ordering
order = slice_cmp nat_cmp

total : IsTotalOrder order
total = on_texts (λ (label : List ℕ). label)

abbrev IsUp : List (List ℕ) → Type 0
IsUp labels = IsSortedBy (λ x y. is_lt (order x y)) labels

is_same : (x y : List ℕ) → order x y ≡ Equal → x ≡ y
is_same x y e = same_text x y (sym (texts_ties x y ∙ ap is_eq e))

-- of two that are in order and not the same
apart : (x y : List ℕ) → is_lt (order y x) ≡ false → pointwise nat_eq x y ≡ false → IsBefore x y
apart x y notless other = go (order x y) refl
  where
    go : (o : Ordering) → order x y ≡ o → order x y ≡ Less
    go Less e = e
    go Equal e = absurd (false≢true (sym other ∙ (texts_ties x y ∙ ap is_eq e)))
    go Greater e = absurd (false≢true (sym notless ∙ ap is_lt (total.antisymm y x ∙ ap ordering_reverse e)))

-- one is before whatever isn't before one after it
further : (x y z : List ℕ) → IsBefore x y → is_lt (order z y) ≡ false → IsBefore x z
further x y z before notless = go (order z y) refl
  where
    go : (o : Ordering) → order z y ≡ o → order x z ≡ Less
    go Less e = absurd (false≢true (sym notless ∙ ap is_lt e))
    go Equal e = subst (λ (v : List ℕ). order x v ≡ Less) (sym (is_same z y e)) before
    go Greater e = total.trans x y z before (total.antisymm y z ∙ ap ordering_reverse e)

-- ---- each once

kept : (P : List ℕ → Type 0) (xs : List (List ℕ)) → All P xs → All P (each_once xs)
kept P [] all = all
kept P (x ∷ xs) all = go (is_again x xs) (kept P xs (All-tail P x xs all))
  where
    go : (b : Bool) → All P (each_once xs) → All P (cond b (each_once xs) (x ∷ each_once xs))
    go true rest = rest
    go false rest = All-cons P x (each_once xs) (All-head P x xs all) rest

ahead : (x : List ℕ) (xs : List (List ℕ)) → is_again x xs ≡ false → IsUp (x ∷ xs) → All (IsBefore x) xs
ahead x [] other up = All-nil (IsBefore x)
ahead x (y ∷ ys) other up =
    let before : IsBefore x y = apart x y (up 0 [] (omega arith) (omega arith)) other in
    All-weaker (λ z. is_lt (order z y) ≡ false) (IsBefore x) (λ z notless. further x y z before notless) (y ∷ ys)
    (first_of_sorted order total y ys (rest_of_sorted order total x (y ∷ ys) up))

rises : (xs : List (List ℕ)) → IsUp xs → AllPairs IsBefore (each_once xs)
rises [] up = λ i j d lt within. absurd (omega (arith, within))
rises (x ∷ xs) up = go (is_again x xs) refl (rises xs (rest_of_sorted order total x xs up))
  where
    go : (b : Bool) → is_again x xs ≡ b → AllPairs IsBefore (each_once xs) → AllPairs IsBefore (cond b (each_once xs) (x ∷ each_once xs))
    go true e rest = rest
    go false e rest = AllPairs-cons IsBefore x (each_once xs) (kept (IsBefore x) xs (ahead x xs e up)) rest

-- none is lost
again_has : (x : List ℕ) (xs labels : List (List ℕ)) → is_again x xs ≡ true → All (Contains labels) xs → Contains labels x
again_has x [] labels e all = absurd (false≢true e)
again_has x (y ∷ ys) labels e all = subst (Contains labels) (sym (same_text x y (sym e))) (All-head (Contains labels) y ys all)

has_all : (xs : List (List ℕ)) → All (Contains (each_once xs)) xs
has_all [] = All-nil (Contains [])
has_all (x ∷ xs) = go (is_again x xs) refl (has_all xs)
  where
    go : (b : Bool) → is_again x xs ≡ b → All (Contains (each_once xs)) xs → All (Contains (cond b (each_once xs) (x ∷ each_once xs))) (x ∷ xs)
    go true e rest = All-cons (Contains (each_once xs)) x xs (again_has x xs (each_once xs) e rest) rest
    go false e rest =
        All-cons (Contains (x ∷ each_once xs)) x xs (Contains-get_or (x ∷ each_once xs) 0 x (omega arith))
        (All-weaker (Contains (each_once xs)) (Contains (x ∷ each_once xs)) (λ y h. Contains-append_right (x ∷ []) (each_once xs) y h) xs rest)

-- ---- the labels of a book

module _ (b : BookState) where
  abbrev sorted : List (List ℕ)
  sorted = sort_by order (labels_of b)

  abbrev found : List (List ℕ)
  found = each_once sorted

  -- what holds of the labels of instances holds of each label
  labelled : (P : List ℕ → Type 0) (xs : List ServerNo) → All (λ server. is_instance b server ≡ true → P (label_at b server)) xs → All P (map (label_at b) (filter (is_instance b) xs))
  labelled P [] all = All-nil P
  labelled P (x ∷ xs) all = go (is_instance b x) refl (labelled P xs (All-tail (λ server. is_instance b server ≡ true → P (label_at b server)) x xs all))
    where
      go : (c : Bool) → is_instance b x ≡ c → All P (map (label_at b) (filter (is_instance b) xs)) → All P (map (label_at b) (cond c (x ∷ filter (is_instance b) xs) (filter (is_instance b) xs)))
      go true e rest = All-cons P (label_at b x) (map (label_at b) (filter (is_instance b) xs)) (All-head (λ server. is_instance b server ≡ true → P (label_at b server)) x xs all e) rest
      go false e rest = rest

  -- and the other way round
  of_each : (P : List ℕ → Type 0) (xs : List ServerNo) → All P (map (label_at b) (filter (is_instance b) xs)) → All (λ server. is_instance b server ≡ true → P (label_at b server)) xs
  of_each P [] all = All-nil (λ (server : ServerNo). is_instance b server ≡ true → P (label_at b server))
  of_each P (x ∷ xs) all = go (is_instance b x) refl all (λ h. of_each P xs h)
    where
      go : (c : Bool) → is_instance b x ≡ c → All P (map (label_at b) (cond c (x ∷ filter (is_instance b) xs) (filter (is_instance b) xs)))
          → (All P (map (label_at b) (filter (is_instance b) xs)) → All (λ server. is_instance b server ≡ true → P (label_at b server)) xs)
          → All (λ server. is_instance b server ≡ true → P (label_at b server)) (x ∷ xs)
      go true e h rest =
          All-cons (λ server. is_instance b server ≡ true → P (label_at b server)) x xs (λ is. All-head P (label_at b x) (map (label_at b) (filter (is_instance b) xs)) h)
          (rest (All-tail P (label_at b x) (map (label_at b) (filter (is_instance b) xs)) h))
      go false e h rest = All-cons (λ server. is_instance b server ≡ true → P (label_at b server)) x xs (λ is. absurd (false≢true (sym e ∙ is))) (rest h)

  abbrev numbered : ℕ → ServerNo
  numbered n = record { 0 = n }

  -- each number below the names' count is in name order
  at_each : (Q : ServerNo → Type 0) → All Q (by_name b.names) → (server : ServerNo) → server.0 < length b.names → Q server
  at_each Q all server within =
      let order_of_all = by_name b.names in
      let numbers : All (λ (n : ℕ). Q (numbered n)) (map (λ (s : ServerNo). s.0) order_of_all) = All-map (λ (n : ℕ). Q (numbered n)) (λ (s : ServerNo). s.0) order_of_all all in
      let range = range_with_len 0 (length order_of_all) in
      let ranged : All (λ (n : ℕ). Q (numbered n)) range =
      All-permutation (λ (n : ℕ). Q (numbered n)) (map (λ (s : ServerNo). s.0) order_of_all) range (IsPermutation-sym range (map (λ (s : ServerNo). s.0) order_of_all) (IsOrder-by_name b.names)) numbers in
      let count : length order_of_all ≡ length b.names = length-by_name b.names in
      let here = All-get_or (λ (n : ℕ). Q (numbered n)) range server.0 0 (omega (arith, within, count, length-range_with_len 0 (length order_of_all))) ranged in
      let first : 0 + server.0 ≡ server.0 = omega arith in
      subst (λ (n : ℕ). Q (numbered n)) (get_or-range_with_len 0 (length order_of_all) server.0 0 (omega (arith, within, count)) ∙ first) here

  all_found : (label : List ℕ) → IsLabelled b label → Contains found label
  all_found label x =
      let of_labels : All (Contains found) (labels_of b) = All-permutation (Contains found) sorted (labels_of b) (IsPermutation-sym (labels_of b) sorted (sorted_permutes order (labels_of b))) (has_all sorted) in
      subst (Contains found) x.has (at_each (λ server. is_instance b server ≡ true → Contains found (label_at b server)) (of_each (Contains found) (by_name b.names) of_labels) x.server x.within x.is)

  only_found : All (IsLabelled b) found
  only_found =
      let here : All (λ server. is_instance b server ≡ true → IsLabelled b (label_at b server)) (by_name b.names) =
      All-weaker (λ (server : ServerNo). server.0 < length b.names) (λ server. is_instance b server ≡ true → IsLabelled b (label_at b server))
      (λ server within is. record { server = server; within = within; is = is; has = refl }) (by_name b.names) (by_name-within b.names) in
      kept (IsLabelled b) sorted (All-permutation (IsLabelled b) (labels_of b) sorted (sorted_permutes order (labels_of b)) (labelled (IsLabelled b) (by_name b.names) here))

  pub each-once : ListsEachOnce b (clusters_of b)
  unfolding clusters_of
  each-once = record { labels = found; told = refl; once = rises sorted (sorted_is_sorted order total (labels_of b)); all = all_found; only = only_found }
