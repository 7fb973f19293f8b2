-- Whether each GTID of a set is in another.
use Rattle.std.proofs.Common.{◌≡◌, ℕ, ◌+◌, ◌-◌, ◌<◌, ◌≤◌, Bool, true, false, List, [], ◌∷◌, refl, sym, ◌∙◌, ap, subst, ◌&&◌, ◌||◌, zero, suc, arith, ◌==◌, nat_le, IsTrue}
use Rattle.operations.proofs.Prelude.{Interval, and_parts, eq-eqb, eqb-true, false≢true, has_all, has_from, holds, is_within, le-leb, leb-true}
use Rattle.operations.proofs.Prelude.{or_left, spans}
use Rattle.operations.proofs.Tests.{both, or-right}

from-read : (ys : List Interval) (u from k n : ℕ) → has_from ys u from k ≡ true → from ≤ n → n < from + k → holds ys u n ≡ true
from-read ys u from zero n h low high = absurd (omega arith)
from-read ys u from (suc k) n h low high = go (from == n) refl (from-read ys u (from + 1) k n parts.1)
  where
    parts : (holds ys u from ≡ true) × (has_from ys u (from + 1) k ≡ true)
    parts = and_parts (holds ys u from) (has_from ys u (from + 1) k) h

    go : (b : Bool) → (from == n) ≡ b → (from + 1 ≤ n → n < (from + 1) + k → holds ys u n ≡ true) → holds ys u n ≡ true
    go true e rest = ap (holds ys u) (sym (eqb-true from n e)) ∙ parts.0
    go false e rest =
        let apart : from ≡ n → ⊥ = λ same. false≢true (sym e ∙ eq-eqb from n same) in
        rest (omega (arith, apart, low)) (omega (arith, high))

from-made : (ys : List Interval) (u from k : ℕ) → ((n : ℕ) → from ≤ n → n < from + k → holds ys u n ≡ true) → has_from ys u from k ≡ true
from-made ys u from zero f = refl
from-made ys u from (suc k) f =
    both (holds ys u from) (has_from ys u (from + 1) k) (f from (omega arith) (omega arith))
    (from-made ys u (from + 1) k (λ n low high. f n (omega (arith, low)) (omega (arith, high))))

-- an interval spans its own numbers
spans-made : (s : Interval) (n : ℕ) → s.first ≤ n → n ≤ s.last → spans s.uuid n s ≡ true
spans-made s n low high =
    both ((s.uuid == s.uuid) && nat_le s.first n) (nat_le n s.last) (both (s.uuid == s.uuid) (nat_le s.first n) (eq-eqb s.uuid s.uuid refl) (le-leb s.first n low)) (le-leb n s.last high)

spans-parts : (u n : ℕ) (s : Interval) → spans u n s ≡ true → (s.uuid ≡ u) × (s.first ≤ n) × (n ≤ s.last)
spans-parts u n s h =
    let p = and_parts ((s.uuid == u) && nat_le s.first n) (nat_le n s.last) h in
    let q = and_parts (s.uuid == u) (nat_le s.first n) p.0 in
    (eqb-true s.uuid u q.0, leb-true s.first n q.1, leb-true n s.last p.1)

pub within-holds : (xs ys : List Interval) → is_within xs ys ≡ true → (u n : ℕ) → holds xs u n ≡ true → holds ys u n ≡ true
within-holds [] ys h u n has = absurd (false≢true has)
within-holds (s ∷ xs) ys h u n has = go (spans u n s) refl has (within-holds xs ys parts.1 u n)
  where
    parts : (has_all ys s ≡ true) × (is_within xs ys ≡ true)
    parts = and_parts (has_all ys s) (is_within xs ys) h

    go : (b : Bool) → spans u n s ≡ b → (b || holds xs u n) ≡ true → (holds xs u n ≡ true → holds ys u n ≡ true) → holds ys u n ≡ true
    go true e has rest =
        let p = spans-parts u n s e in
        let first : s.first ≤ n = p.1 in
        let last : n ≤ s.last = p.2 in
        subst (λ (v : ℕ). holds ys v n ≡ true) p.0 (from-read ys s.uuid s.first ((s.last + 1) - s.first) n parts.0 first (omega (arith, first, last)))
    go false e has rest = rest has

pub holds-within : (xs ys : List Interval) → ((u n : ℕ) → holds xs u n ≡ true → holds ys u n ≡ true) → is_within xs ys ≡ true
holds-within [] ys f = refl
holds-within (s ∷ xs) ys f =
    both (has_all ys s) (is_within xs ys)
    (from-made ys s.uuid s.first ((s.last + 1) - s.first)
    (λ n low high. f s.uuid n (or_left (spans s.uuid n s) (holds xs s.uuid n) (spans-made s n low (omega (arith, low, high))))))
    (holds-within xs ys (λ u n has. f u n (or-right (spans u n s) (holds xs u n) has)))

pub decided : (r b : Bool) (P : Type 0) → (IsTrue r → P) → (P → IsTrue r) → (b ≡ true → P) → (P → b ≡ true) → r ≡ b
decided true true P f g h k = refl
decided false false P f g h k = refl
decided true false P f g h k = absurd (false≢true (k (f refl)))
decided false true P f g h k = absurd (false≢true (g (h refl)))
