-- The latest bridge that passes, one bridge after another.
use Rattle.std.proofs.Common.{◌≡◌, ℕ, ◌<◌, Bool, List, [], ◌∷◌, length, take, Option, None, Some, zero, suc, refl, arith, fold, slice_get, if◌then◌else◌}
use Rattle.instance_keeper.proofs.Prelude.{Bridge, latest_that, over}

abbrev found_from : (Bridge → Bool) → Option Bridge → List Bridge → Option Bridge
found_from passes found ring = fold (λ before b. if passes b then Some b else before) found ring

more_from : (passes : Bridge → Bool) (found : Option Bridge) (ring : List Bridge) (k : ℕ) → k < length ring → over passes (found_from passes found (take k ring)) (slice_get ring k) ≡ found_from passes found (take (suc k) ring)
more_from passes found [] k within = absurd (omega (arith, within))
more_from passes found (b ∷ ring) zero within = refl
more_from passes found (b ∷ ring) (suc k) within = more_from passes (if passes b then Some b else found) ring k (omega (arith, within))

pub latest_more : (passes : Bridge → Bool) (ring : List Bridge) (k : ℕ) → k < length ring → over passes (latest_that passes (take k ring)) (slice_get ring k) ≡ latest_that passes (take (suc k) ring)
latest_more passes ring k within = more_from passes None ring k within
