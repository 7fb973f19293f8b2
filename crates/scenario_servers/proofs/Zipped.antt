-- The servers with their labels, one by one.
use Rattle.std.proofs.Common.{◌≡◌, ℕ, ◌+◌, List, [], ◌∷◌, map, refl, ap}
use Rattle.scenario_servers.proofs.Prelude.{Given, init_of, init_under, inits_from, labels_from, zip}

pub inits-zipped : (gs : List Given) (n : ℕ) (xs : List Given) → map (λ (p : Given × List ℕ). init_under p.1 p.0) (zip xs (labels_from gs n xs)) ≡ inits_from gs n xs
inits-zipped gs n [] = refl
inits-zipped gs n (x ∷ xs) = ap (λ is. init_of gs n x ∷ is) (inits-zipped gs (n + 1) xs)

pub map-pairs : (xs : List (Given × List ℕ)) → map (λ (p : Given × List ℕ). (p.0, p.1)) xs ≡ xs
map-pairs [] = refl
map-pairs (x ∷ xs) = ap (λ ys. x ∷ ys) (map-pairs xs)
