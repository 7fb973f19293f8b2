-- Look-ups of the latest bridge.
use Rattle.std.proofs.Common.{◌≡◌, ◌-◌, Bool, true, false, cond, List, [], ◌∷◌, ◌++◌, drop, length, refl, sym, ◌∙◌, ap, subst, Option, Some, None, arith, fold, All}
use Rattle.move_laws.proofs.Prelude.{All-cons, All-head, All-nil, All-tail, Bridge, IsLatest, drop-append-le, fold-append, is_same, keep_last, last_item}
use Rattle.move_laws.proofs.Prelude.{latest_that, length-append, ring_size, same_Some, with_bridge}

module _ (passes : Bridge → Bool) where
  abbrev over : Option Bridge → List Bridge → Option Bridge
  over found ring = fold (λ found b. cond (passes b) (Some b) found) found ring

  abbrev Fails : Bridge → Type 0
  Fails x = passes x ≡ false

  -- what was found before stays if none passes
  none-over : (found : Option Bridge) (ring : List Bridge) → All Fails ring → over found ring ≡ found
  none-over found [] all = refl
  none-over found (b ∷ ring) all =
      ap (λ c. over (cond c (Some b) found) ring) (All-head Fails b ring all) ∙ none-over found ring (All-tail Fails b ring all)

  -- none of the ring passes and what was found before is answered, or the latest is
  data Over (found : Option Bridge) (ring : List Bridge) : Type 0 where
    Kept : All Fails ring → Over found ring
    Later : (b : Bridge) → IsLatest passes ring b → over found ring ≡ Some b → Over found ring

  over-cases : (found : Option Bridge) (ring : List Bridge) → Over found ring
  over-cases found [] = Kept (All-nil Fails)
  over-cases found (x ∷ ring) = later (passes x) refl (over-cases (cond (passes x) (Some x) found) ring)
    where
      later : (c : Bool) → passes x ≡ c → Over (cond c (Some x) found) ring → Over found (x ∷ ring)
      later c is (Later b h e) = Later b
          (record { before = x ∷ h.before; behind = h.behind; split = ap (λ xs. x ∷ xs) h.split; passed = h.passed; none = h.none })
          (ap (λ c. over (cond c (Some x) found) ring) is ∙ e)
      later true is (Kept all) = Later x (record { before = []; behind = ring; split = refl; passed = is; none = all })
          (ap (λ c. over (cond c (Some x) found) ring) is ∙ none-over (Some x) ring all)
      later false is (Kept all) = Kept (All-cons Fails x ring is all)

  pub latest-found : (ring : List Bridge) (b : Bridge) → latest_that passes ring ≡ Some b → IsLatest passes ring b
  latest-found ring b e = go (over-cases None ring)
    where
      go : Over None ring → IsLatest passes ring b
      go (Kept all) = let none = none-over None ring all in cc
      go (Later x h is) = subst (IsLatest passes ring) (same_Some x b (sym is ∙ e)) h

  pub found-latest : (ring : List Bridge) (b : Bridge) → IsLatest passes ring b → latest_that passes ring ≡ Some b
  found-latest ring b h =
      ap (over None) h.split
      ∙ (fold-append (λ found x. cond (passes x) (Some x) found) None h.before (b ∷ h.behind)
      ∙ (ap (λ c. over (cond c (Some b) (over None h.before)) h.behind) h.passed ∙ none-over (Some b) h.behind h.none))

  pub none-found : (ring : List Bridge) → latest_that passes ring ≡ None → All Fails ring
  none-found ring e = go (over-cases None ring)
    where
      go : Over None ring → All Fails ring
      go (Kept all) = all
      go (Later x h is) = cc

  pub nothing-found : (ring : List Bridge) → All Fails ring → latest_that passes ring ≡ None
  nothing-found ring all = none-over None ring all

  -- a ring ends with the bridge that was added
  pub kept-latest : (ring : List Bridge) (b : Bridge) → passes b ≡ true → is_same (last_item ring) b ≡ false → latest_that passes (with_bridge ring b) ≡ Some b
  kept-latest ring b passed other =
      ap (λ c. latest_that passes (cond c ring (keep_last ring_size (ring ++ b ∷ [])))) other
      ∙ found-latest (keep_last ring_size (ring ++ b ∷ [])) b
      (record { before = drop (length (ring ++ b ∷ []) - ring_size) ring; behind = []; split = split; passed = passed; none = All-nil Fails })
    where
      split : drop (length (ring ++ b ∷ []) - ring_size) (ring ++ b ∷ []) ≡ drop (length (ring ++ b ∷ []) - ring_size) ring ++ b ∷ []
      split = drop-append-le (length (ring ++ b ∷ []) - ring_size) ring (b ∷ []) (let e = length-append ring (b ∷ []) in omega (arith, e))
