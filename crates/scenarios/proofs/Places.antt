-- Lists by the labels of clusters.
use Rattle.std.proofs.Common.{◌≡◌, ◌∙◌, ℕ, zero, suc, ◌+◌, ◌<◌, ◌≤◌, Bool, true, false, cond, ltb, List, [], ◌∷◌, length, get_or, Option, None, Some, refl, sym, ap, subst, arith, inl, inr, ◌⊎◌, All, find, nat_eq, not, position, slice_get}
use Rattle.scenarios.proofs.Prelude.{Alias, All-head, All-tail, ArePlaces, AreRising, Block, Equal, Greater, IsNonDecreasingBy, IsPartitionedBy}
use Rattle.scenarios.proofs.Prelude.{IsPartitionedBy-ltb, IsPoint, Less, Ordering, ServerPlace, alias_label, alias_of, block_label, cases_lt}
use Rattle.scenarios.proofs.Prelude.{entry_at, false≢true, find_at, get_or_default, is_eq, is_eq-slice_cmp, is_lt, lt-ltb, ltb-false, nat_cmp}
use Rattle.scenarios.proofs.Prelude.{nat_list_cmp_total, nat_tests, ordering_index, period_in, place_in, pointwise, position_or_len, same_Some}
use Rattle.scenarios.proofs.Prelude.{same_text, searchable_from_sorted, seconds_of, slice_cmp, slice_get_past, text_of}

-- ---- the entry at the first place

found : {X : Type 0} (p : X → Bool) (xs : List X) → entry_at xs (position p xs) ≡ find p xs
found {X} p xs = go (ltb (position_or_len p xs) (length xs)) refl
  where
    go : (b : Bool) → ltb (position_or_len p xs) (length xs) ≡ b → entry_at xs (cond b (Some (position_or_len p xs)) None) ≡ find p xs
    go true is = sym (find_at p xs)
    go false is = sym (find_at p xs ∙ slice_get_past xs (position_or_len p xs) (ltb-false (position_or_len p xs) (length xs) is))

period_first : (bs : List Block) (block : ℕ) (cluster : List ℕ) → seconds_of block (find (λ b. pointwise nat_eq (block_label b) cluster) bs) ≡ period_in bs block cluster
period_first [] block cluster = refl
period_first (b ∷ bs) block cluster = go (pointwise nat_eq b.cluster cluster) (find (λ x. pointwise nat_eq (block_label x) cluster) bs) (period_first bs block cluster)
  where
    go : (t : Bool) (rest : Option Block) → seconds_of block rest ≡ period_in bs block cluster → seconds_of block (cond t (Some b) rest) ≡ cond t b.seconds (period_in bs block cluster)
    go true rest later = refl
    go false rest later = later

-- the block period of the first entry with the label
pub period_found : (bs : List Block) (block : ℕ) (cluster : List ℕ) → seconds_of block (entry_at bs (place_in block_label bs cluster)) ≡ period_in bs block cluster
period_found bs block cluster = ap (seconds_of block) (found (λ b. pointwise nat_eq (block_label b) cluster) bs) ∙ period_first bs block cluster

alias_first : (xs : List Alias) (cluster : List ℕ) → text_of (find (λ a. pointwise nat_eq (alias_label a) cluster) xs) ≡ alias_of xs cluster
alias_first [] cluster = refl
alias_first (a ∷ xs) cluster = go (pointwise nat_eq a.cluster cluster) (find (λ x. pointwise nat_eq (alias_label x) cluster) xs) (alias_first xs cluster)
  where
    go : (t : Bool) (rest : Option Alias) → text_of rest ≡ alias_of xs cluster → text_of (cond t (Some a) rest) ≡ cond t a.alias (alias_of xs cluster)
    go true rest later = refl
    go false rest later = later

-- the alias of the first entry with the label
pub alias_found : (xs : List Alias) (cluster : List ℕ) → text_of (entry_at xs (place_in alias_label xs cluster)) ≡ alias_of xs cluster
alias_found xs cluster = ap text_of (found (λ a. pointwise nat_eq (alias_label a) cluster) xs) ∙ alias_first xs cluster

-- ---- known places

held : {X : Type 0} (P : X → Type 0) (xs : List X) (n : ℕ) (x : X) → All P xs → slice_get xs n ≡ Some x → P x
held P [] n x all e = absurd cc
held P (y ∷ xs) zero x all e = subst P (same_Some y x e) (All-head P y xs all)
held P (y ∷ xs) (suc n) x all e = held P xs n x (All-tail P y xs all) e

-- a server's place is that of its label, and so of any that is equal
pub placed : {X : Type 0} (label_of : X → List ℕ) (xs : List X) (places : List ServerPlace) (n : ℕ) (p : ServerPlace) (label : List ℕ) → ArePlaces label_of xs places → slice_get places n ≡ Some p
    → pointwise nat_eq p.label label ≡ true → p.at ≡ place_in label_of xs label
placed label_of xs places n p label are at same =
    held (λ (q : ServerPlace). q.at ≡ place_in label_of xs q.label) places n p are at ∙ ap (place_in label_of xs) (same_text p.label label (sym same))

-- ---- by halves

pub lt_index : (o : Ordering) → is_lt o ≡ ltb (ordering_index o) 1
lt_index Less = refl
lt_index Equal = refl
lt_index Greater = refl

module _ {X : Type 0} (label_of : X → List ℕ) (label : List ℕ) where
  abbrev pub order : X → Ordering
  order x = slice_cmp nat_cmp (label_of x) label

  abbrev rank : X → ℕ
  rank x = ordering_index (order x)

  abbrev has : X → Bool
  has x = pointwise nat_eq (label_of x) label

  ranked : (xs : List X) → AreRising label_of xs → IsNonDecreasingBy rank xs
  ranked xs rising = searchable_from_sorted nat_list_cmp_total label_of xs label rising

  pub parted : (xs : List X) → AreRising label_of xs → IsPartitionedBy (λ x. is_lt (order x)) xs
  parted xs rising i j d le less h =
      lt_index (order (get_or xs i d)) ∙ IsPartitionedBy-ltb rank xs 1 (ranked xs rising) i j d le less (sym (lt_index (order (get_or xs j d))) ∙ h)

  below : (x : X) → is_lt (order x) ≡ true → has x ≡ false
  below x is = go (order x) (sym (is_eq-slice_cmp (label_of x) label)) is
    where
      go : (o : Ordering) → has x ≡ is_eq o → is_lt o ≡ true → has x ≡ false
      go Less e l = e
      go Equal e l = absurd (false≢true l)
      go Greater e l = e

  above : (x : X) → 1 < rank x → has x ≡ false
  above x h = go (order x) (sym (is_eq-slice_cmp (label_of x) label)) h
    where
      go : (o : Ordering) → has x ≡ is_eq o → 1 < ordering_index o → has x ≡ false
      go Less e l = e
      go Equal e l = absurd (omega (arith, l))
      go Greater e l = e

  first_at : (xs : List X) (i : ℕ) (d : X) → i < length xs → ((k : ℕ) → k < i → has (get_or xs k d) ≡ false) → has (get_or xs i d) ≡ true → position_or_len has xs ≡ i
  first_at [] i d h before here = absurd (omega (arith, h))
  first_at (x ∷ xs) zero d h before here = ap (λ b. cond (not b) (1 + position_or_len has xs) 0) here
  first_at (x ∷ xs) (suc i) d h before here =
      let later = first_at xs i d (omega (arith, h)) (λ k less. before (suc k) (omega (arith, less))) here in
      let one : 1 + position_or_len has xs ≡ suc i = omega (arith, later) in
      ap (λ b. cond (not b) (1 + position_or_len has xs) 0) (before 0 (omega arith)) ∙ one

  none_at : (xs : List X) → ((k : ℕ) (d : X) → k < length xs → has (get_or xs k d) ≡ false) → position_or_len has xs ≡ length xs
  none_at [] none = refl
  none_at (x ∷ xs) none =
      let later = none_at xs (λ k d h. none (suc k) d (omega (arith, h))) in
      let one : 1 + position_or_len has xs ≡ length (x ∷ xs) = omega (arith, later) in
      ap (λ b. cond (not b) (1 + position_or_len has xs) 0) (none 0 x (omega arith)) ∙ one

  abbrev Point : List X → ℕ → Type 0
  Point xs i = IsPoint label_of label xs i

  -- the entry at the point has the label
  pub place_there : (xs : List X) (i : ℕ) (x : X) → Point xs i → i < length xs → x ≡ get_or xs i x → has x ≡ true → Some i ≡ place_in label_of xs label
  place_there xs i x point h is here =
      let first = first_at xs i x h (λ k less. below (get_or xs k x) (point.0 k x (omega arith) less)) (ap has (sym is) ∙ here) in
      sym (ap (λ n. cond (ltb n (length xs)) (Some n) None) first ∙ ap (λ b. cond b (Some i) None) (lt-ltb i (length xs) h))

  nothing : (xs : List X) → ((k : ℕ) (d : X) → k < length xs → has (get_or xs k d) ≡ false) → None ≡ place_in label_of xs label
  nothing xs none =
      let all = none_at xs none in
      let over : ltb (length xs) (length xs) ≡ false = grind (arith, nat_tests) in
      sym (ap (λ n. cond (ltb n (length xs)) (Some n) None) all ∙ ap (λ b. cond b (Some (length xs)) None) over)

  -- all are below it
  pub place_past : (xs : List X) (i : ℕ) → Point xs i → i ≡ length xs → None ≡ place_in label_of xs label
  place_past xs i point end = nothing xs (λ k d h. below (get_or xs k d) (point.0 k d (omega arith) (omega (arith, h, end))))

  -- the entry at the point is above it, and so are those after it
  pub place_none : (xs : List X) (i : ℕ) (x : X) → AreRising label_of xs → Point xs i → i < length xs → x ≡ get_or xs i x → has x ≡ false → None ≡ place_in label_of xs label
  place_none xs i x rising point h is other = nothing xs (λ k d less. each k d less (cases_lt k i))
    where
      here : 1 < rank x
      here = go (order x) (is_eq-slice_cmp (label_of x) label ∙ other) (ap (λ y. is_lt (order y)) is ∙ point.1 i x (omega arith) h)
        where
          go : (o : Ordering) → is_eq o ≡ false → is_lt o ≡ false → 1 < ordering_index o
          go Less q l = absurd (false≢true (sym l))
          go Equal q l = absurd (false≢true (sym q))
          go Greater q l = omega arith

      each : (k : ℕ) (d : X) → k < length xs → (k < i) ⊎ (i ≤ k) → has (get_or xs k d) ≡ false
      each k d less (inl before) = below (get_or xs k d) (point.0 k d (omega arith) before)
      each k d less (inr behind) =
          let up = ranked xs rising i k d behind less in
          let same : rank x ≡ rank (get_or xs i d) = ap rank (is ∙ get_or_default xs i x d h) in
          above (get_or xs k d) (omega (arith, here, up, same))
