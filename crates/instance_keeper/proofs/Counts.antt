-- Maps whose keys count up: a key is its value's place.
use Rattle.std.proofs.Common.{◌≡◌, ℕ, suc, zero, ◌+◌, ◌<◌, true, false, nat_eq, List, [], ◌∷◌, ◌++◌, length, map, get_or, add-one, zero-add, Option, None, Some, refl, sym, ap, subst, ◌∙◌, arith, replicate, slice_get}
use Rattle.instance_keeper.proofs.Prelude.{CountsUp, insert_entry, nat_tests, option_flatten, set_value_at, slice_get-get_or, slice_set}
use Rattle.std.specs.Map.{lookup, set_value}

eq_false : (a b : ℕ) → b < a → nat_eq a b ≡ false
eq_false a b less = grind (arith, nat_tests)

eq_true : (a b : ℕ) → a ≡ b → nat_eq a b ≡ true
eq_true a b same = grind (arith, nat_tests)

module _ {X : Type 0} where
  abbrev values_in : List (ℕ × X) → List X
  values_in es = map (λ e. e.1) es

  -- the key of a place is found there, and what is written through it is written there
  pub found_here : (es : List (ℕ × X)) (from j k : ℕ) → CountsUp from es → k ≡ from + j → lookup (nat_eq k) es ≡ slice_get (values_in es) j
  found_here [] from j k up at = refl
  found_here (e ∷ es) from zero k up at = rw (eq_true k e.0 (omega (arith, at, up.0))) refl
  found_here (e ∷ es) from (suc j) k up at = rw (eq_false k e.0 (omega (arith, at, up.0))) (found_here es (from + 1) j k up.1 (omega (arith, at)))

  pub written_here : (es : List (ℕ × X)) (from j k : ℕ) (v : X) → CountsUp from es → k ≡ from + j → set_value (nat_eq k) es v ≡ set_value_at es j v
  written_here [] from j k v up at = refl
  written_here (e ∷ es) from zero k v up at = rw (eq_true k e.0 (omega (arith, at, up.0))) refl
  written_here (e ∷ es) from (suc j) k v up at = rw (eq_false k e.0 (omega (arith, at, up.0))) (ap (λ l. e ∷ l) (written_here es (from + 1) j k v up.1 (omega (arith, at))))

  pub set_counts : (es : List (ℕ × X)) (from j : ℕ) (v : X) → CountsUp from es → CountsUp from (set_value_at es j v)
  set_counts [] from j v up = up
  set_counts (e ∷ es) from zero v up = (up.0, up.1)
  set_counts (e ∷ es) from (suc j) v up = (up.0, set_counts es (from + 1) j v up.1)

  pub set_values : (es : List (ℕ × X)) (j : ℕ) (v : X) → values_in (set_value_at es j v) ≡ slice_set (values_in es) j v
  set_values [] j v = refl
  set_values (e ∷ es) zero v = refl
  set_values (e ∷ es) (suc j) v = ap (λ l. e.1 ∷ l) (set_values es j v)

  -- a place that takes what it has
  pub set_same : (xs : List X) (n : ℕ) (v : X) → slice_get xs n ≡ Some v → slice_set xs n v ≡ xs
  set_same [] n v is = refl
  set_same (x ∷ xs) zero v is = let same : v ≡ x = cc in ap (λ y. y ∷ xs) same
  set_same (x ∷ xs) (suc n) v is = ap (λ l. x ∷ l) (set_same xs n v is)

  -- so a place that is written by its key
  pub put_counts : (es now : List (ℕ × X)) (k : ℕ) (v : X) → CountsUp 0 es → now ≡ set_value (nat_eq k) es v → CountsUp 0 now
  put_counts es now k v up e = subst (CountsUp 0) (sym (e ∙ written_here es 0 k k v up (sym (zero-add k)))) (set_counts es 0 k v up)

  pub put_values : (es now : List (ℕ × X)) (k : ℕ) (v : X) → CountsUp 0 es → now ≡ set_value (nat_eq k) es v → values_in now ≡ slice_set (values_in es) k v
  put_values es now k v up e = ap values_in (e ∙ written_here es 0 k k v up (sym (zero-add k))) ∙ set_values es k v

  pub put_next : (es : List (ℕ × X)) (from k : ℕ) (v : X) → CountsUp from es → k ≡ from + length es → insert_entry nat_eq es k v ≡ es ++ (k, v) ∷ []
  put_next [] from k v up at = refl
  put_next (e ∷ es) from k v up at =
      let miss = eq_false k e.0 (omega (arith, at, up.0)) in
      let rest = put_next es (from + 1) k v up.1 (omega (arith, at)) in
      rw miss (ap (λ l. e ∷ l) rest)

  pub push_counts : (es : List (ℕ × X)) (from k : ℕ) (v : X) → CountsUp from es → k ≡ from + length es → CountsUp from (es ++ (k, v) ∷ [])
  push_counts [] from k v up at = (omega (arith, at), tt)
  push_counts (e ∷ es) from k v up at = (up.0, push_counts es (from + 1) k v up.1 (omega (arith, at)))

-- the value of a place, by its key
pub found_at : {A : Type 0} (es : List (ℕ × Option A)) (k : ℕ) → CountsUp 0 es → k < length (map (λ e. e.1) es) → lookup (nat_eq k) es ≡ Some (get_or (map (λ e. e.1) es) k None)
found_at es k up within = found_here es 0 k k up (sym (zero-add k)) ∙ slice_get-get_or (map (λ e. e.1) es) k None within

pub found_there : {A : Type 0} (es : List (ℕ × Option A)) (k : ℕ) → CountsUp 0 es → k < length (map (λ e. e.1) es) → lookup (nat_eq k) es ≡ None → ⊥
found_there {A} es k up within none =
    let both : ◌≡◌ {A = Option (Option A)} None (Some (get_or (map (λ e. e.1) es) k None)) = sym none ∙ found_at es k up within in
    absurd cc

pub place_is : {A : Type 0} (es : List (ℕ × Option A)) (k : ℕ) (x : Option A) → CountsUp 0 es → k < length (map (λ e. e.1) es) → Some x ≡ lookup (nat_eq k) es → x ≡ get_or (map (λ e. e.1) es) k None
place_is {A} es k x up within at =
    let both : ◌≡◌ {A = Option (Option A)} (Some x) (Some (get_or (map (λ e. e.1) es) k None)) = at ∙ found_at es k up within in
    cc

pub found_in : {X : Type 0} (found : Option (Option X)) (look : Option (Option X)) (x : Option X) → look ≡ Some x → found ≡ look → option_flatten found ≡ x
found_in found look x e f = ap option_flatten (f ∙ e)

pub values_push : {X : Type 0} (es now : List (ℕ × Option X)) (k : ℕ) → now ≡ es ++ (k, None) ∷ [] → map (λ e. e.1) es ≡ replicate k None → map (λ e. e.1) now ≡ replicate (k + 1) None
values_push es now k put h = ap (map (λ e. e.1)) put ∙ (map_append (λ e. e.1) es _ ∙ (ap (λ l. l ++ None ∷ []) h ∙ replicate_more None k))
  where
    map_append : {A B : Type 0} (f : A → B) (xs ys : List A) → map f (xs ++ ys) ≡ map f xs ++ map f ys
    map_append f [] ys = refl
    map_append f (x ∷ xs) ys = ap (λ l. f x ∷ l) (map_append f xs ys)

    replicate_push : {A : Type 0} (x : A) (k : ℕ) → replicate k x ++ x ∷ [] ≡ replicate (suc k) x
    replicate_push x zero = refl
    replicate_push x (suc k) = ap (λ l. x ∷ l) (replicate_push x k)

    replicate_more : {A : Type 0} (x : A) (k : ℕ) → replicate k x ++ x ∷ [] ≡ replicate (k + 1) x
    replicate_more x k = replicate_push x k ∙ ap (λ n. replicate n x) (sym (add-one k))
