-- Orders of coordinates.
use Rattle.std.proofs.Common.{◌≡◌, ◌≤◌, Bool, true, false, refl, sym, ◌∙◌, ap, ◌&&◌, ◌||◌, arith, ◌==◌, nat_lt}
use Rattle.recovery_reasons.proofs.Prelude.{Coord, eq-eqb, eqb-true, false≢true, is_before, ltb-false, same_coord}

lower : (a b : Bool) → (a ≡ false → b ≡ true) → (a || b) ≡ true
lower true b f = refl
lower false b f = f refl

-- of two that differ one is before the other
pub before-other : (c d : Coord) → is_before d c ≡ false → same_coord c d ≡ false → is_before c d ≡ true
before-other c d later other =
    lower (nat_lt c.file d.file) (c.file == d.file && nat_lt c.pos d.pos) (λ e. go e (nat_lt d.file c.file) refl (d.file == c.file) refl later)
  where
    go : nat_lt c.file d.file ≡ false → (b : Bool) → nat_lt d.file c.file ≡ b → (e : Bool) → (d.file == c.file) ≡ e → (b || (e && nat_lt d.pos c.pos)) ≡ false → (c.file == d.file && nat_lt c.pos d.pos) ≡ true
    go x true y e f h = absurd (false≢true (sym h))
    go x false y false f h =
        let a : d.file ≤ c.file = ltb-false c.file d.file x in
        let b : c.file ≤ d.file = ltb-false d.file c.file y in
        absurd (false≢true (sym f ∙ eq-eqb d.file c.file (omega (arith, a, b))))
    go x false y true f h =
        let file : (c.file == d.file) ≡ true = eq-eqb c.file d.file (sym (eqb-true d.file c.file f)) in
        ap (λ a. a && nat_lt c.pos d.pos) file ∙ less file (nat_lt c.pos d.pos) refl
      where
        less : (c.file == d.file) ≡ true → (b : Bool) → nat_lt c.pos d.pos ≡ b → nat_lt c.pos d.pos ≡ true
        less file true g = g
        less file false g =
            let low : d.pos ≤ c.pos = ltb-false c.pos d.pos g in
            let high : c.pos ≤ d.pos = ltb-false d.pos c.pos h in
            absurd (false≢true (sym other ∙ ap (λ a. a && c.pos == d.pos) file ∙ eq-eqb c.pos d.pos (omega (arith, low, high))))
