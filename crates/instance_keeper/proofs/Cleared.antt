-- Places that take one value, one after another.
use Rattle.std.proofs.Common.{◌≡◌, ◌∙◌, ℕ, ◌<◌, ◌≤◌, List, [], ◌∷◌, ◌++◌, length, replicate, take, zero, suc, refl, sym, ap, arith, slice_set}
use Rattle.instance_keeper.proofs.Prelude.{length-replicate, take-append_seam}

-- the value at the first places
abbrev pub cleared : {A : Type 0} → A → ℕ → List A → List A
cleared x zero places = places
cleared x (suc k) [] = []
cleared x (suc k) (place ∷ places) = x ∷ cleared x k places

pub cleared_next : {A : Type 0} (x : A) (k : ℕ) (places : List A) → k < length places → slice_set (cleared x k places) k x ≡ cleared x (suc k) places
cleared_next x k [] within = absurd (omega (arith, within))
cleared_next x zero (place ∷ places) within = refl
cleared_next x (suc k) (place ∷ places) within = ap (λ ps. x ∷ ps) (cleared_next x k places (omega (arith, within)))

pub cleared_all : {A : Type 0} (x : A) (k : ℕ) (places : List A) → length places ≤ k → cleared x k places ≡ replicate (length places) x
cleared_all x zero [] past = refl
cleared_all x zero (place ∷ places) past = absurd (omega (arith, past))
cleared_all x (suc k) [] past = refl
cleared_all x (suc k) (place ∷ places) past = ap (λ ps. x ∷ ps) (cleared_all x k places (omega (arith, past)))

-- the list of a vector of which all places were cleared
pub cleared_vec : {A : Type 0} (x : A) (n k : ℕ) (now first items rest : List A) → now ≡ cleared x k first → first ≡ items → length items ≤ k → n ≡ length items → take n (now ++ rest) ≡ replicate (length items) x
cleared_vec x n k now first items rest is same past all =
    let each = is ∙ (ap (cleared x k) same ∙ cleared_all x k items past) in
    let len = ap length each ∙ length-replicate (length items) x in
    ap (λ (m : ℕ). take m (now ++ rest)) (all ∙ sym len) ∙ (take-append_seam now rest ∙ each)
