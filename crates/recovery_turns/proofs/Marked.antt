-- A list that is mapped from its first element on.
use Rattle.std.proofs.Common.{◌≡◌, ℕ, ◌+◌, ◌≤◌, List, ◌++◌, take, length, map, sym, ◌∙◌, ap}
use Rattle.recovery_turns.proofs.Prelude.{length-map, take-append_seam}
pub use Rattle.recovery_plans.proofs.OrchBase.Mapped.{mapped, mapped_all, mapped_step}

-- the list of a vector that was mapped
pub mapped_vec : {A : Type 0} (f : A → A) (n k : ℕ) (now first items rest : List A) → now ≡ mapped f k first → first ≡ items → length items ≤ k → n ≡ length items → take n (now ++ rest) ≡ map f items
mapped_vec f n k now first items rest is same past all =
    let each = is ∙ (ap (mapped f k) same ∙ mapped_all f k items past) in
    let len = ap length each ∙ length-map items f in
    ap (λ (m : ℕ). take m (now ++ rest)) (all ∙ sym len) ∙ (take-append_seam now rest ∙ each)
