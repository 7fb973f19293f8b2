-- A choice is the first of those that pass.
pub use Rattle.instance_keeper.proofs.KeptRows.Lists.{filter_none as filtered-none}
use Rattle.std.proofs.Common.{◌≡◌, Bool, true, false, cond, List, [], ◌∷◌, refl, sym, ◌∙◌, ap, Option, Some, None, ◌↔◌, ◌==◌, ◌&&◌, ◌||◌, All, Contains, filter, nat_lt, option_map}
use Rattle.promotion_rules.proofs.Prelude.{All-cons, All-contains_itself, All-filter, All-head, All-nil, All-tail, All-weaker, Coord, Drained, Equal}
use Rattle.promotion_rules.proofs.Prelude.{Greater, HasExecutedMost, HostPort, IsChoice, IsTotalOrder, Less, Ordering, ServerNo, advance_order}
use Rattle.promotion_rules.proofs.Prelude.{coord_order, false≢true, filter_passes, first_by, is_before, is_lt, nat_cmp, nearer_order, ordering_then}
use Rattle.promotion_rules.proofs.Prelude.{same_Some}
use Rattle.promotion_rules.proofs.Firsts.{All-first, first_is_least, no_first}

-- what is filtered is empty exactly if nothing passes
pub none-filtered : {X : Type 0} (p : X → Bool) (xs : List X) → filter p xs ≡ [] → All (λ x. p x ≡ false) xs
none-filtered p [] e = All-nil (λ x. p x ≡ false)
none-filtered {X} p (x ∷ xs) e = go (p x) refl e (none-filtered p xs)
  where
    go : (b : Bool) → p x ≡ b → cond b (x ∷ filter p xs) (filter p xs) ≡ [] → (filter p xs ≡ [] → All (λ y. p y ≡ false) xs) → All (λ y. p y ≡ false) (x ∷ xs)
    go true f g rest = cc
    go false f g rest = All-cons (λ y. p y ≡ false) x xs f (rest g)

-- what holds of those that are filtered holds of those that pass
passing : {X : Type 0} (p : X → Bool) (P : X → Type 0) (xs : List X) → All P (filter p xs) → All (λ x. p x ≡ true → P x) xs
passing p P [] all = All-nil (λ x. p x ≡ true → P x)
passing {X} p P (x ∷ xs) all = go (p x) refl all (passing p P xs)
  where
    go : (b : Bool) → p x ≡ b → All P (cond b (x ∷ filter p xs) (filter p xs)) → (All P (filter p xs) → All (λ y. p y ≡ true → P y) xs) → All (λ y. p y ≡ true → P y) (x ∷ xs)
    go true f g rest = All-cons (λ y. p y ≡ true → P y) x xs (λ h. All-head P x (filter p xs) g) (rest (All-tail P x (filter p xs) g))
    go false f g rest = All-cons (λ y. p y ≡ true → P y) x xs (λ h. absurd (false≢true (sym f ∙ h))) (rest g)

module _ (R : Drained → Drained → Ordering) (p : Drained → Bool) (list : List Drained) where
  pub chosen-first : (n : ServerNo) → option_map (λ d. d.no) (first_by R (filter p list)) ≡ Some n → IsChoice R p list n
  chosen-first n e = go (first_by R (filter p list)) refl e
    where
      is-choice : (d : Drained) → first_by R (filter p list) ≡ Some d → d.no ≡ n → Contains list d → IsChoice R p list n
      is-choice d f named (k, within, at) = (
        k,
        d,
        within,
        at,
        record {
          named = named;
          passes = All-first R (λ x. p x ≡ true) (filter p list) d (filter_passes p list) f;
          first = passing p (λ x. is_lt (R x d) ≡ false) list (first_is_least R (filter p list) d f);
        },
      )

      go : (f : Option Drained) → first_by R (filter p list) ≡ f → option_map (λ d. d.no) f ≡ Some n → IsChoice R p list n
      go None f h = cc
      go (Some d) f h = is-choice d f (same_Some d.no n h) (All-first R (Contains list) (filter p list) d (All-filter p (Contains list) list (All-contains_itself list)) f)

  pub none-chosen : IsTotalOrder R → (option_map (λ d. d.no) (first_by R (filter p list)) ≡ None) ↔ All (λ d. p d ≡ false) list
  none-chosen o = (
    λ e. none-filtered p list (no_first R o (filter p list) (none-mapped (first_by R (filter p list)) e)),
    λ all. ap (λ xs. option_map (λ (d : Drained). d.no) (first_by R xs)) (filtered-none p list all),
  )
    where
      none-mapped : (f : Option Drained) → option_map (λ d. d.no) f ≡ None → f ≡ None
      none-mapped None e = refl
      none-mapped (Some d) e = cc

-- the order by coordinates is that of coordinates
before-order : (c d : Coord) → is_before c d ≡ is_lt (coord_order c d)
before-order c d = by-file (nat_lt c.file d.file) (c.file == d.file)
  where
    by-pos : (a b : Bool) → a ≡ is_lt (cond a Less (cond b Equal Greater))
    by-pos true b = refl
    by-pos false true = refl
    by-pos false false = refl

    by-file : (a b : Bool) → (a || (b && nat_lt c.pos d.pos)) ≡ is_lt (ordering_then (cond a Less (cond b Equal Greater)) (nat_cmp c.pos d.pos))
    by-file true b = refl
    by-file false true = by-pos (nat_lt c.pos d.pos) (c.pos == d.pos)
    by-file false false = refl

not-less : (r s : Ordering) → is_lt (ordering_then r s) ≡ false → is_lt r ≡ false
not-less Less s e = e
not-less Equal s e = refl
not-less Greater s e = refl

-- who comes first has executed most
pub first-furthest : (names : List HostPort) (p : Drained → Bool) (list : List Drained) (n : ServerNo) → IsChoice (advance_order names) p list n → HasExecutedMost p list n
first-furthest names p list n (k, d, within, at, is) = (
  k,
  d,
  within,
  at,
  record {
    named = is.named;
    passes = is.passes;
    most = All-weaker (λ (x : Drained). p x ≡ true → is_lt (advance_order names x d) ≡ false) (λ x. p x ≡ true → is_before d.exec x.exec ≡ false)
        (λ x h passes. before-order d.exec x.exec ∙ not-less (coord_order d.exec x.exec) (nearer_order names x d) (h passes)) list is.first;
  },
)
