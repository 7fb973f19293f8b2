-- Who takes a single command is one of the orchestrators.
use Rattle.std.proofs.Common.{◌≡◌, ℕ, zero, suc, ◌<◌, ◌≤◌, Bool, true, false, cond, List, [], ◌∷◌, length, refl, Option, Some, None, arith, IfSome, slice_index_or}
use Rattle.tasks.proofs.Prelude.{ClaimState, IsNumberOf, Moment, State, active, active_by, active_in, is_later, is_of, may_act, nodes_of, taker}
use Rattle.tasks.proofs.Prelude.{taker_by}

remembers : (xs : List (Option Moment)) (place now : ℕ) → is_later now (slice_index_or xs place None) ≡ true → place < length xs
remembers [] place now later = absurd cc
remembers (x ∷ xs) zero now later = omega arith
remembers (x ∷ xs) (suc place) now later = let less = remembers xs place now later in omega (arith, less)

one_that_acts : (s : ClaimState) (node now : ℕ) → may_act s node now ≡ true → IsNumberOf (length s.remembered) node
one_that_acts s zero now acts = absurd cc
one_that_acts s (suc place) now acts = let less = remembers s.remembered place now acts in (omega arith, omega (arith, less))

pub active_is : (s : ClaimState) (now : ℕ) → IfSome (active s now) (IsNumberOf (length s.remembered))
active_is s now = by s.kept
  where
    at : (node : ℕ) (b : Bool) → may_act s node now ≡ b → IfSome (cond b (Some node) None) (IsNumberOf (length s.remembered))
    at node true acts = one_that_acts s node now acts
    at node false acts = tt

    by : (kept : Option (ℕ × Moment)) → IfSome (active_by s now kept) (IsNumberOf (length s.remembered))
    by None = tt
    by (Some kept) = at kept.0 (may_act s kept.0 now) refl

pub taker_is : (s : State) → 1 ≤ nodes_of s → IfSome (taker s) (IsNumberOf (nodes_of s))
taker_is s some = by (active_in s) (is_of 1 s.claims.kept) (active_is s.claims s.moment)
  where
    by : (o : Option ℕ) (first : Bool) → IfSome o (IsNumberOf (nodes_of s)) → IfSome (taker_by o first) (IsNumberOf (nodes_of s))
    by (Some node) first is = is
    by None true is = (omega arith, some)
    by None false is = tt
