-- The room of a scenario's histories and logs is small.
use Rattle.std.proofs.Common.{◌≡◌, ℕ, ◌*◌, ◌<◌, ◌≤◌, List, [], ◌∷◌, ◌++◌, length, refl, ap, arith, zero, suc, Some, slice_get, max}
use Rattle.scenarios.proofs.Prelude.{IsScenario, Scenario, ServerInit, count_by-le-length, flushes_of, is_rotate, longest_flushes, room_of, same_Some}

-- what one server takes is no more than what all take
le-times : (m n : ℕ) → 0 < m → n ≤ m * n
le-times zero n some = absurd (omega arith)
le-times (suc m) n some = grind arith

pub room_of-few : (s : Scenario) → IsScenario s → room_of s ≤ 4000000
room_of-few s is = let some = is.checked.listed.some in omega (arith, is.room, le-times (length s.opening.servers) (room_of s) some)

-- no list of flush points is longer than the longest
pub longest-at : (is : List ServerInit) (n : ℕ) (i : ServerInit) → slice_get is n ≡ Some i → length i.flushes ≤ longest_flushes is
longest-at [] n i h = cc
longest-at (x ∷ is) zero i h = let same : length x.flushes ≡ length i.flushes = ap (λ (y : ServerInit). length y.flushes) (same_Some x i h) in omega arith
longest-at (x ∷ is) (suc n) i h = let more = longest-at is n i h in omega arith

longest-bound : (is : List ServerInit) (bound : ℕ) → ((n : ℕ) (i : ServerInit) → slice_get is n ≡ Some i → length i.flushes ≤ bound) → longest_flushes is ≤ bound
longest-bound [] bound each = omega arith
longest-bound (x ∷ is) bound each = let first = each 0 x refl in let rest = longest-bound is bound (λ n i h. each (suc n) i h) in omega arith

pub flushes_of-few : (s : Scenario) → IsScenario s → flushes_of s ≤ 4000000
flushes_of-few s is =
    let points = longest-bound s.opening.servers 1000000 (λ n i at. (is.checked.listed.each n i at).flushes) in
    let turns = is.few in
    omega (arith, points, turns, count_by-le-length is_rotate s.turns)

pub longest-push : (is : List ServerInit) (i : ServerInit) → longest_flushes (is ++ i ∷ []) ≡ max (length i.flushes) (longest_flushes is)
longest-push [] i = refl
longest-push (x ∷ is) i = let more = longest-push is i in omega arith
