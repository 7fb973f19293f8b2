-- Ways up, a step at a time, and what holds of all ways holds of what a path passes.
use Rattle.std.proofs.Common.{◌≡◌, ℕ, ◌+◌, Bool, true, false, List, [], ◌∷◌, ◌++◌, refl, sym, ◌∙◌, ap, append_assoc, Option, Some, None, arith, zero, suc, ◌==◌, option_map, if◌then◌else◌}
use Rattle.regroup.proofs.Prelude.{BookState, Path, ServerNo, attached_of, eq-eqb, eqb-true, option_or, passed_in, path_beside, path_by, path_of}
use Rattle.regroup.proofs.Prelude.{path_to, way_in, way_on, way_up}

-- with these before it
abbrev pub Behind : List ServerNo → Option (List ServerNo) → Option (List ServerNo)
Behind passed way = option_map (λ rest. passed ++ rest) way

append-nothing : (xs : List ServerNo) → xs ++ [] ≡ xs
append-nothing [] = refl
append-nothing (x ∷ xs) = ap (λ l. x ∷ l) (append-nothing xs)

behind-one : (passed : List ServerNo) (p : ServerNo) (way : Option (List ServerNo)) → Behind (passed ++ p ∷ []) way ≡ Behind passed (option_map (λ rest. p ∷ rest) way)
behind-one passed p None = refl
behind-one passed p (Some xs) = ap (λ (l : List ServerNo). Some l) (append_assoc passed (p ∷ []) xs)

module _ (up : ServerNo → Option ServerNo) (to : ServerNo) where
  pub way-step : (n k : ℕ) (at : ServerNo) → n ≡ k + 1 → way_in up to n at ≡ way_on (way_in up to k) to (up at)
  way-step zero k at e = absurd (omega (arith, e))
  way-step (suc m) k at e = let same : m ≡ k = omega (arith, e) in ap (λ (j : ℕ). way_on (way_in up to j) to (up at)) same

  stepped : (n k : ℕ) (at : ServerNo) (o : Option ServerNo) → n ≡ k + 1 → up at ≡ o → way_in up to n at ≡ way_on (way_in up to k) to o
  stepped n k at o e at_o = way-step n k at e ∙ ap (way_on (way_in up to k) to) at_o

  come : (passed : List ServerNo) (p : ServerNo) (way : Option (List ServerNo)) (t : Bool) → t ≡ true
      → Behind passed (if t then Some [] else option_map (λ rest. p ∷ rest) way) ≡ Some passed
  come passed p way true e = ap (λ (l : List ServerNo). Some l) (append-nothing passed)
  come passed p way false e = cc

  pub way-comes : (n k : ℕ) (at p : ServerNo) (passed : List ServerNo) → n ≡ k + 1 → up at ≡ Some p → p.0 ≡ to.0 → Behind passed (way_in up to n at) ≡ Some passed
  way-comes n k at p passed e at_p here =
      ap (Behind passed) (stepped n k at (Some p) e at_p) ∙ come passed p (way_in up to k p) (p.0 == to.0) (eq-eqb p.0 to.0 here)

  on : (passed : List ServerNo) (p : ServerNo) (way : Option (List ServerNo)) (t : Bool) → (t ≡ true → ⊥)
      → Behind (passed ++ p ∷ []) way ≡ Behind passed (if t then Some [] else option_map (λ rest. p ∷ rest) way)
  on passed p way true other = absurd (other refl)
  on passed p way false other = behind-one passed p way

  pub way-goes : (n k : ℕ) (at p : ServerNo) (passed : List ServerNo) → n ≡ k + 1 → up at ≡ Some p → (p.0 ≡ to.0 → ⊥)
      → Behind (passed ++ p ∷ []) (way_in up to k p) ≡ Behind passed (way_in up to n at)
  way-goes n k at p passed e at_p other =
      on passed p (way_in up to k p) (p.0 == to.0) (λ h. other (eqb-true p.0 to.0 h)) ∙ sym (ap (Behind passed) (stepped n k at (Some p) e at_p))

-- ---- what a path passes

module _ (P : List ServerNo → Type 0) (b : BookState) (n : ServerNo) (none : P []) (ways : (to : ServerNo) (xs : List ServerNo) → way_up b n to ≡ Some xs → P xs) where
  by-way : (under : Option ServerNo) (to : ServerNo) → P (passed_in (path_by under (way_up b n to)))
  by-way under to = go (way_up b n to) refl
    where
      go : (o : Option (List ServerNo)) → way_up b n to ≡ o → P (passed_in (path_by under o))
      go None e = none
      go (Some xs) e = ways to xs e

  either : (x y : Option Path) → P (passed_in x) → P (passed_in y) → P (passed_in (option_or x y))
  either None y at_x at_y = at_y
  either (Some x) y at_x at_y = at_x

  beside : (o : Option ServerNo) → P (passed_in (path_beside b n o))
  beside None = none
  beside (Some s) = by-way (Some s) s

  pub passed-of : (d : ServerNo) → P (passed_in (path_of b n d))
  passed-of d = either (path_by None (way_up b n d)) (path_beside b n (attached_of b d)) (by-way None d) (beside (attached_of b d))

  pub passed-to : (d : Option ServerNo) → P (passed_in (path_to b d n))
  passed-to None = none
  passed-to (Some d) = passed-of d
