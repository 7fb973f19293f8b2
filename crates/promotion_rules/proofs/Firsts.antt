-- The first of a list by an order.
use Rattle.promotion_rules.proofs.Prelude.{All-cons, All-contains, All-head, All-nil, All-push, All-tail, All-weaker, IsStrictWeakOrder, IsTotalOrder}
use Rattle.promotion_rules.proofs.Prelude.{Ordering, and_left as both-false, and_parts, append-nil, comes_first, false≢true, filter_more, find-append}
use Rattle.promotion_rules.proofs.Prelude.{first_by, is_lt, list_all, list_all-append, not-true as not-false, option_or, ranks_by, same_Some}
use Rattle.promotion_rules.proofs.Prelude.{tied_itself}
use Rattle.std.proofs.Common.{◌≡◌, ℕ, ◌+◌, ◌<◌, Bool, true, false, cond, not, suc, ◌&&◌, List, [], ◌∷◌, ◌++◌, length, get_or, take, refl, sym, ◌∙◌, ap, Option, Some, None, arith, All, filter, find, Contains}
pub use Rattle.instance_keeper.proofs.OrchBase.Found.{All-found, found-passes as found_passes, none-found as none_found, none-passes as none_passes}

module _ {X : Type 0} (p : X → Bool) where
  all_pass : (xs : List X) → list_all p xs ≡ true → All (λ x. p x ≡ true) xs
  all_pass [] e = All-nil (λ x. p x ≡ true)
  all_pass (x ∷ xs) e =
      let parts = and_parts (p x) (list_all p xs) e in
      All-cons (λ y. p y ≡ true) x xs parts.0 (all_pass xs parts.1)

  pass_all : (xs : List X) → All (λ x. p x ≡ true) xs → list_all p xs ≡ true
  pass_all [] all = refl
  pass_all (x ∷ xs) all =
      ap (λ b. b && list_all p xs) (All-head (λ y. p y ≡ true) x xs all) ∙ pass_all xs (All-tail (λ y. p y ≡ true) x xs all)

  -- a stricter test finds the same if what was found passes it too
  still_found : (q : X → Bool) → ((x : X) → p x ≡ false → q x ≡ false) → (xs : List X) (y : X) → find p xs ≡ Some y → q y ≡ true → find q xs ≡ Some y
  still_found q stricter [] y e h = cc
  still_found q stricter (x ∷ xs) y e h = go (p x) refl e (λ g. still_found q stricter xs y g h)
    where
      go : (b : Bool) → p x ≡ b → cond b (Some x) (find p xs) ≡ Some y → (find p xs ≡ Some y → find q xs ≡ Some y) → cond (q x) (Some x) (find q xs) ≡ Some y
      go true f g rest = ap (λ b. cond b (Some x) (find q xs)) (ap q (same_Some x y g) ∙ h) ∙ g
      go false f g rest = ap (λ b. cond b (Some x) (find q xs)) (stricter x f) ∙ rest g

Contains-there : {X : Type 0} (x : X) (xs : List X) (y : X) → Contains xs y → Contains (x ∷ xs) y
Contains-there x xs y (k, within, at) = (suc k, omega (arith, within), at)

module _ {X : Type 0} (R : X → X → Ordering) where
  -- none of a list is before it
  abbrev pub IsLeast : List X → X → Type 0
  IsLeast xs x = All (λ y. is_lt (R y x) ≡ false) xs

  abbrev stays : List X → X → Bool
  stays xs x = list_all (λ y. not (is_lt (R y x))) xs

  least_stays : (xs : List X) (x : X) → IsLeast xs x → stays xs x ≡ true
  least_stays xs x least =
      pass_all (λ y. not (is_lt (R y x))) xs (All-weaker (λ y. is_lt (R y x) ≡ false) (λ y. not (is_lt (R y x)) ≡ true) (λ y e. ap not e) xs least)

  stays_least : (xs : List X) (x : X) → stays xs x ≡ true → IsLeast xs x
  stays_least xs x e =
      All-weaker (λ y. not (is_lt (R y x)) ≡ true) (λ y. is_lt (R y x) ≡ false) (λ y. not-false (is_lt (R y x))) xs (all_pass (λ y. not (is_lt (R y x))) xs e)

  -- the first is one of the list, and none of the list is before it
  pub All-first : (P : X → Type 0) (xs : List X) (x : X) → All P xs → first_by R xs ≡ Some x → P x
  All-first P xs x all e = All-found (stays xs) P xs x all e

  pub first_is_least : (xs : List X) (x : X) → first_by R xs ≡ Some x → IsLeast xs x
  first_is_least xs x e = stays_least xs x (found_passes (stays xs) xs x e)

  module _ (o : IsTotalOrder R) where
    abbrev weak : IsStrictWeakOrder (λ x y. is_lt (R x y))
    weak = ranks_by o (λ x. x)

    irreflexive : (x : X) → is_lt (R x x) ≡ false
    irreflexive x = ap is_lt (tied_itself o x)

    -- each list that isn't empty has a least one
    least_of : (x : X) (xs : List X) → (y : X) × Contains (x ∷ xs) y × IsLeast (x ∷ xs) y
    least_of x [] = (x, (0, omega arith, refl), All-cons (λ y. is_lt (R y x) ≡ false) x [] (irreflexive x) (All-nil (λ y. is_lt (R y x) ≡ false)))
    least_of x (z ∷ zs) = go (least_of z zs)
      where
        go : (y : X) × Contains (z ∷ zs) y × IsLeast (z ∷ zs) y → (y : X) × Contains (x ∷ z ∷ zs) y × IsLeast (x ∷ z ∷ zs) y
        go (y, among, least) = at (is_lt (R x y)) refl
          where
            at : (b : Bool) → is_lt (R x y) ≡ b → (w : X) × Contains (x ∷ z ∷ zs) w × IsLeast (x ∷ z ∷ zs) w
            at true e = (
              x,
              (0, omega arith, refl),
              All-cons (λ w. is_lt (R w x) ≡ false) x (z ∷ zs) (irreflexive x)
                  (All-weaker (λ w. is_lt (R w y) ≡ false) (λ w. is_lt (R w x) ≡ false) (λ w h. weak.chain w y x h (weak.one_way x y e)) (z ∷ zs) least),
            )
            at false e = (y, Contains-there x (z ∷ zs) y among, All-cons (λ w. is_lt (R w y) ≡ false) x (z ∷ zs) e least)

    -- only an empty list has no first
    pub no_first : (xs : List X) → first_by R xs ≡ None → xs ≡ []
    no_first [] e = refl
    no_first (x ∷ xs) e = go (least_of x xs)
      where
        go : (y : X) × Contains (x ∷ xs) y × IsLeast (x ∷ xs) y → x ∷ xs ≡ []
        go (y, among, least) =
            let none = All-contains (λ z. stays (x ∷ xs) z ≡ false) (x ∷ xs) y (none_passes (stays (x ∷ xs)) (x ∷ xs) e) among in
            absurd (false≢true (sym none ∙ least_stays (x ∷ xs) y least))

    stays_push : (xs : List X) (x y : X) → stays (xs ++ x ∷ []) y ≡ (stays xs y && (not (is_lt (R x y)) && true))
    stays_push xs x y = list_all-append (λ z. not (is_lt (R z y))) xs (x ∷ [])

    -- one more: it is the first if it is before the first so far
    pub first_by-push : (xs : List X) (x : X) → first_by R (xs ++ x ∷ []) ≡ cond (comes_first R x (first_by R xs)) (Some x) (first_by R xs)
    first_by-push xs x = go (first_by R xs) refl
      where
        all : List X
        all = xs ++ x ∷ []

        go : (f : Option X) → first_by R xs ≡ f → first_by R (xs ++ x ∷ []) ≡ cond (comes_first R x f) (Some x) f
        go None e =
            ap (λ ys. first_by R (ys ++ x ∷ [])) (no_first xs e)
            ∙ ap (λ b. cond (not b && true) (Some x) None) (irreflexive x)
        go (Some b) e = at (is_lt (R x b)) refl
          where
            least : IsLeast xs b
            least = first_is_least xs b e

            at : (c : Bool) → is_lt (R x b) ≡ c → first_by R (xs ++ x ∷ []) ≡ cond c (Some x) (Some b)
            at true f =
                let behind = All-weaker (λ y. is_lt (R y b) ≡ false) (λ y. stays (xs ++ x ∷ []) y ≡ false) (λ y h. passed y h) xs least in
                let stands : stays (xs ++ x ∷ []) x ≡ true = least_stays (xs ++ x ∷ []) x
                (All-push (λ y. is_lt (R y x) ≡ false) xs x
                (All-weaker (λ y. is_lt (R y b) ≡ false) (λ y. is_lt (R y x) ≡ false) (λ y h. weak.chain y b x h (weak.one_way x b f)) xs least) (irreflexive x)) in
                find-append (stays (xs ++ x ∷ [])) xs (x ∷ [])
                ∙ ap (λ z. option_or z (find (stays (xs ++ x ∷ [])) (x ∷ []))) (none_found (stays (xs ++ x ∷ [])) xs behind)
                ∙ ap (λ z. cond z (Some x) None) stands
              where
                before : (y : X) (c : Bool) → is_lt (R x y) ≡ c → is_lt (R y b) ≡ false → c ≡ true
                before y true g h = refl
                before y false g h = absurd (false≢true (sym (weak.chain x y b g h) ∙ f))

                passed : (y : X) → is_lt (R y b) ≡ false → stays (xs ++ x ∷ []) y ≡ false
                passed y h = stays_push xs x y ∙ ap (λ c. stays xs y && (not c && true)) (before y (is_lt (R x y)) refl h) ∙ last-false (stays xs y)
                  where
                    last-false : (c : Bool) → (c && false) ≡ false
                    last-false true = refl
                    last-false false = refl
            at false f =
                let stands : stays (xs ++ x ∷ []) b ≡ true = least_stays (xs ++ x ∷ []) b (All-push (λ y. is_lt (R y b) ≡ false) xs x least f) in
                find-append (stays (xs ++ x ∷ [])) xs (x ∷ [])
                ∙ ap (λ z. option_or z (find (stays (xs ++ x ∷ [])) (x ∷ [])))
                (still_found (stays xs) (stays (xs ++ x ∷ [])) (λ y h. stays_push xs x y ∙ both-false (stays xs y) (not (is_lt (R x y)) && true) h) xs b e stands)

    -- one more element of the list that is filtered
    first_more : (p : X → Bool) (xs : List X) (i : ℕ) (d : X) → i < length xs
        → first_by R (filter p (take (i + 1) xs))
        ≡ cond (p (get_or xs i d) && comes_first R (get_or xs i d) (first_by R (filter p (take i xs)))) (Some (get_or xs i d)) (first_by R (filter p (take i xs)))
    first_more p xs i d within = ap (first_by R) (filter_more p xs i d within) ∙ go (p (get_or xs i d))
      where
        x : X
        x = get_or xs i d

        go : (b : Bool) → first_by R (filter p (take i xs) ++ cond b (x ∷ []) []) ≡ cond (b && comes_first R x (first_by R (filter p (take i xs)))) (Some x) (first_by R (filter p (take i xs)))
        go true = first_by-push (filter p (take i xs)) x
        go false = ap (first_by R) (append-nil (filter p (take i xs)))

    -- the loop's step: the next element is tested against the first so far
    pub first_step : (p : X → Bool) (xs : List X) (i : ℕ) (d : X) (f : Option X) (b : Bool) → i < length xs → f ≡ first_by R (filter p (take i xs))
        → b ≡ (p (get_or xs i d) && comes_first R (get_or xs i d) f) → cond b (Some (get_or xs i d)) f ≡ first_by R (filter p (take (i + 1) xs))
    first_step p xs i d f b within so_far test =
        ap (λ c. cond c (Some (get_or xs i d)) f) test
        ∙ ap (λ g. cond (p (get_or xs i d) && comes_first R (get_or xs i d) g) (Some (get_or xs i d)) g) so_far
        ∙ sym (first_more p xs i d within)
