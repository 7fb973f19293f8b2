-- The ranks of drained replicas.
use Rattle.std.proofs.Common.{◌≡◌, ℕ, ◌<◌, ◌+◌, Bool, true, false, cond, ap, arith, ◌↔◌, ◌*◌}
use Rattle.promotion_rules.proofs.Prelude.{Drained, precedence, rank}

by-rule : (m n : ℕ) (a b : Bool) → m < n → 2 * m + cond a 0 1 < 2 * n + cond b 0 1
by-rule m n true true h = omega (arith, h)
by-rule m n true false h = omega (arith, h)
by-rule m n false true h = omega (arith, h)
by-rule m n false false h = omega (arith, h)

pub rule-first : (a b : Drained) → precedence a.rule < precedence b.rule → rank a < rank b
rule-first a b h = by-rule (precedence a.rule) (precedence b.rule) a.near b.near h

pub near-first : (a b : Drained) → a.rule ≡ b.rule → a.near ≡ true → b.near ≡ false → rank a < rank b
near-first a b same here there = go (precedence a.rule) (precedence b.rule) a.near b.near (ap precedence same) here there
  where
    go : (m n : ℕ) (x y : Bool) → m ≡ n → x ≡ true → y ≡ false → 2 * m + cond x 0 1 < 2 * n + cond y 0 1
    go m n true false e f g = omega (arith, e)
    go m n true true e f g = cc
    go m n false y e f g = cc

pub same-place : (a b : Drained) → a.near ≡ b.near → (rank a < rank b) ↔ (precedence a.rule < precedence b.rule)
same-place a b e = go (precedence a.rule) (precedence b.rule) a.near b.near e
  where
    go : (m n : ℕ) (x y : Bool) → x ≡ y → (2 * m + cond x 0 1 < 2 * n + cond y 0 1) ↔ (m < n)
    go m n true true e = (λ h. omega (arith, h), λ h. omega (arith, h))
    go m n false false e = (λ h. omega (arith, h), λ h. omega (arith, h))
    go m n true false e = cc
    go m n false true e = cc
