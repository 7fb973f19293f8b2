-- Beginnings of lists, and lists with one more element.
use Rattle.std.proofs.Common.{◌≡◌, ℕ, ◌<◌, List, [], ◌∷◌, Some, arith, zero, suc, take, slice_get}
pub use Rattle.binlog_coords.proofs.OrchBase.Lists.{slice_get-front, slice_get-snoc_cases, slice_get-take, take-more}

-- an element of a prefix is within it
pub slice_get-take_within : {X : Type 0} (xs : List X) (n i : ℕ) (x : X) → slice_get (take n xs) i ≡ Some x → i < n
slice_get-take_within xs zero i x h = cc
slice_get-take_within [] (suc n) i x h = cc
slice_get-take_within (z ∷ xs) (suc n) zero x h = omega arith
slice_get-take_within (z ∷ xs) (suc n) (suc i) x h = let within : i < n = slice_get-take_within xs n i x h in omega arith
