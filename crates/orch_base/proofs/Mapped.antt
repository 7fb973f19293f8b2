-- A list that is mapped from its first element on.
use Rattle.std.proofs.Common.{◌≡◌, ◌∙◌, ℕ, zero, suc, ◌+◌, ◌<◌, ◌≤◌, List, [], ◌∷◌, length, map, get_or, set, refl, sym, ap, arith}
use Rattle.std.proofs.Math.Numerals.{add-one}

abbrev pub mapped : {A : Type 0} → (A → A) → ℕ → List A → List A
mapped f zero xs = xs
mapped f (suc k) [] = []
mapped f (suc k) (x ∷ xs) = f x ∷ mapped f k xs

pub mapped_next : {A : Type 0} (f : A → A) (k : ℕ) (xs : List A) (d : A) → k < length xs → set (mapped f k xs) k (f (get_or xs k d)) ≡ mapped f (suc k) xs
mapped_next f k [] d within = absurd (omega (arith, within))
mapped_next f zero (x ∷ xs) d within = refl
mapped_next f (suc k) (x ∷ xs) d within = ap (λ ys. f x ∷ ys) (mapped_next f k xs d (omega (arith, within)))

-- what is mapped already is as it was
pub mapped_at : {A : Type 0} (f : A → A) (k : ℕ) (xs : List A) (d : A) → get_or (mapped f k xs) k d ≡ get_or xs k d
mapped_at f zero xs d = refl
mapped_at f (suc k) [] d = refl
mapped_at f (suc k) (x ∷ xs) d = mapped_at f k xs d

pub mapped_all : {A : Type 0} (f : A → A) (k : ℕ) (xs : List A) → length xs ≤ k → mapped f k xs ≡ map f xs
mapped_all f zero [] past = refl
mapped_all f zero (x ∷ xs) past = absurd (omega (arith, past))
mapped_all f (suc k) [] past = refl
mapped_all f (suc k) (x ∷ xs) past = ap (λ ys. f x ∷ ys) (mapped_all f k xs (omega (arith, past)))

-- a loop's step that changes the element there
pub mapped_step : {A : Type 0} (f : A → A) (xs ys : List A) (k : ℕ) (now d : A) → ys ≡ mapped f k xs → k < length xs → now ≡ f (get_or ys k d) → set ys k now ≡ mapped f (k + 1) xs
mapped_step f xs ys k now d so_far within is =
    (λ i. set (so_far i) k ((is ∙ ap (λ zs. f (get_or zs k d)) so_far ∙ ap f (mapped_at f k xs d)) i))
    ∙ mapped_next f k xs d within
    ∙ ap (λ n. mapped f n xs) (sym (add-one k))
