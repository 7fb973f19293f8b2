-- What is found in a list.
use Rattle.std.proofs.Common.{◌≡◌, Bool, true, false, cond, List, [], ◌∷◌, None, Some, refl, sym, ◌∙◌, ap, subst, All, find}
use Rattle.std.proofs.lemmas.List.Elements.{All-cons, All-head, All-nil, All-tail}
use Rattle.std.proofs.lemmas.Option.{same_Some}

module _ {X : Type 0} (p : X → Bool) where
  -- what is found is one of the list
  pub All-found : (P : X → Type 0) (xs : List X) (y : X) → All P xs → find p xs ≡ Some y → P y
  All-found P [] y all e = cc
  All-found P (x ∷ xs) y all e = go (p x) e (All-found P xs y (All-tail P x xs all))
    where
      go : (b : Bool) → cond b (Some x) (find p xs) ≡ Some y → (find p xs ≡ Some y → P y) → P y
      go true g rest = subst P (same_Some x y g) (All-head P x xs all)
      go false g rest = rest g

  pub found-passes : (xs : List X) (y : X) → find p xs ≡ Some y → p y ≡ true
  found-passes [] y e = cc
  found-passes (x ∷ xs) y e = go (p x) refl e (found-passes xs y)
    where
      go : (b : Bool) → p x ≡ b → cond b (Some x) (find p xs) ≡ Some y → (find p xs ≡ Some y → p y ≡ true) → p y ≡ true
      go true f g rest = ap p (sym (same_Some x y g)) ∙ f
      go false f g rest = rest g

  pub none-passes : (xs : List X) → find p xs ≡ None → All (λ x. p x ≡ false) xs
  none-passes [] e = All-nil (λ x. p x ≡ false)
  none-passes (x ∷ xs) e = go (p x) refl e (none-passes xs)
    where
      go : (b : Bool) → p x ≡ b → cond b (Some x) (find p xs) ≡ None → (find p xs ≡ None → All (λ y. p y ≡ false) xs) → All (λ y. p y ≡ false) (x ∷ xs)
      go true f g rest = cc
      go false f g rest = All-cons (λ y. p y ≡ false) x xs f (rest g)

  pub none-found : (xs : List X) → All (λ x. p x ≡ false) xs → find p xs ≡ None
  none-found [] all = refl
  none-found (x ∷ xs) all =
      ap (λ b. cond b (Some x) (find p xs)) (All-head (λ y. p y ≡ false) x xs all) ∙ none-found xs (All-tail (λ y. p y ≡ false) x xs all)
