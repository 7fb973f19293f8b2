-- Places in a list of turns.
use Rattle.std.proofs.Common.{◌≡◌, ◌∙◌, ℕ, zero, suc, ◌+◌, ◌<◌, ◌≤◌, Bool, true, cond, List, [], ◌∷◌, length, get_or, drop, refl, sym, ap, subst, Option, Some, None, add-one, arith, IfSome, slice_get}
use Rattle.live_desk.proofs.Prelude.{IsAt, IsNext, Turn, drop-cons, is_of, left_from, slice_get-get_or, those_in}

by-first : (c : Bool) (ts : List Turn) (at : ℕ) (d : Turn) → at < length ts → left_from c ts at ≡ cond (is_of c (get_or ts at d)) (get_or ts at d ∷ left_from c ts (at + 1)) (left_from c ts (at + 1))
by-first c ts at d within = ap (those_in c) (drop-cons ts at d within ∙ ap (λ k. get_or ts at d ∷ drop k ts) (sym (add-one at)))

past : (ts : List Turn) (at : ℕ) → length ts ≤ at → slice_get ts at ≡ None
past [] at h = refl
past (t ∷ ts) zero h = absurd (omega (arith, h))
past (t ∷ ts) (suc at) h = past ts at (omega (arith, h))

this-at : (c : Bool) (ts : List Turn) (at : ℕ) (d : Turn) → IsAt c ts at → at < length ts → is_of c (get_or ts at d) ≡ true
this-at c ts at d is within = subst (λ (o : Option Turn). IfSome o (λ t. is_of c t ≡ true)) (slice_get-get_or ts at d within) is.here

left-here : (c : Bool) (ts : List Turn) (at : ℕ) (d : Turn) → IsAt c ts at → at < length ts → left_from c ts at ≡ get_or ts at d ∷ left_from c ts (at + 1)
left-here c ts at d is within = by-first c ts at d within ∙ ap (λ b. cond b (get_or ts at d ∷ left_from c ts (at + 1)) (left_from c ts (at + 1))) (this-at c ts at d is within)

-- the next one is taken
pub left-next : (c : Bool) (ts : List Turn) (at : ℕ) → IsAt c ts at → at < length ts → left_from c ts (at + 1) ≡ drop 1 (left_from c ts at)
left-next c ts at is within = go (slice_get ts at) refl
  where
    go : (o : Option Turn) → slice_get ts at ≡ o → left_from c ts (at + 1) ≡ drop 1 (left_from c ts at)
    go None e = absurd (some ts at within e)
      where
        some : (us : List Turn) (k : ℕ) → k < length us → slice_get us k ≡ None → ⊥
        some [] k h e = omega (arith, h)
        some (u ∷ us) zero h e = cc
        some (u ∷ us) (suc k) h e = some us k (omega (arith, h)) e
    go (Some d) e = sym (ap (drop 1) (left-here c ts at d is within))

pub next-here : (c : Bool) (ts : List Turn) (at : ℕ) (d : Turn) → IsAt c ts at → at < length ts → IsNext (get_or ts at d) (left_from c ts at)
next-here c ts at d is within = subst (IsNext (get_or ts at d)) (sym (left-here c ts at d is within)) refl
