-- The operations of plans are of servers that are there, if those of their parts are.
use Rattle.std.proofs.Common.{◌≡◌, ℕ, ◌<◌, true, List, [], ◌∷◌, ◌++◌, refl, ◌∙◌, ap, arith, All, ◌&&◌, nat_lt}
use Rattle.std.specs.List.{flat_map}
use Rattle.std.proofs.lemmas.Bool.Decides.{nat_tests}
use Rattle.std.proofs.lemmas.List.Elements.{All-head, All-tail}
use Rattle.std.proofs.lemmas.List.Folds.{list_all-append}
use Rattle.operations.specs.OrchBase.declared.server.ServerNo.{ServerNo}
use Rattle.operations.specs.Commands.declared.line.Line.{Line}
use Rattle.operations.specs.Deeds.{deed_of}
use Rattle.operations.specs.Named.{are_named, is_named}
use Rattle.operations.specs.Plans.{again, auto, finished, swap, under, up}
use Rattle.operations.specs.declared.op.Op.{Op}
use Rattle.operations.specs.declared.op.Op.TheVariants.{Finish}
use Rattle.plan_parts.specs.Parts.{again_auto, autos, matching, matchings, unders, ups}

pub below-test : (n count : ℕ) → n < count → nat_lt n count ≡ true
below-test n count h = grind (arith, nat_tests)

module _ (count : ℕ) where
  abbrev Below : ServerNo → Type 0
  Below n = n.0 < count

  -- operations one after another
  pub joined-named : (ps qs : List Op) → are_named count ps ≡ true → are_named count qs ≡ true → are_named count (ps ++ qs) ≡ true
  joined-named ps qs first last =
      list_all-append (λ op. is_named count (deed_of op)) ps qs ∙ ap (λ b. b && are_named count qs) first ∙ last

  pub finished-named : (ops : List Op) (lines : List Line) → are_named count ops ≡ true → are_named count (finished ops lines) ≡ true
  finished-named ops lines named = joined-named ops (Finish lines ∷ []) named refl

  -- a part for each of several servers
  each-named : (part : ServerNo → List Op) → ((r : ServerNo) → Below r → are_named count (part r) ≡ true) → (rs : List ServerNo) → All Below rs
      → are_named count (flat_map part rs) ≡ true
  each-named part named [] below = refl
  each-named part named (r ∷ rs) below =
      joined-named (part r) (flat_map part rs) (named r (All-head Below r rs below)) (each-named part named rs (All-tail Below r rs below))

  pub up-named : (i x g : ServerNo) → Below i → Below x → are_named count (up i x g) ≡ true
  up-named i x g at_i at_x = let hi = below-test i.0 count at_i in let hx = below-test x.0 count at_x in simp (hi, hx) refl

  pub under-named : (i d s : ServerNo) → Below i → Below d → are_named count (under i d s) ≡ true
  under-named i d s at_i at_d = let hi = below-test i.0 count at_i in let hd = below-test d.0 count at_d in simp (hi, hd) refl

  pub auto-named : (r d : ServerNo) → Below r → Below d → are_named count (auto r d) ≡ true
  auto-named r d at_r at_d = let hr = below-test r.0 count at_r in let hd = below-test d.0 count at_d in simp (hr, hd) refl

  pub swap-named : (i x g : ServerNo) → Below i → Below x → are_named count (swap i x g) ≡ true
  swap-named i x g at_i at_x = let hi = below-test i.0 count at_i in let hx = below-test x.0 count at_x in simp (hi, hx) refl

  pub again-named : (i x : ServerNo) → Below i → are_named count (again i x) ≡ true
  again-named i x at_i = let hi = below-test i.0 count at_i in simp (hi) refl

  pub again_auto-named : (i x : ServerNo) → Below i → Below x → are_named count (again_auto i x) ≡ true
  again_auto-named i x at_i at_x = let hi = below-test i.0 count at_i in let hx = below-test x.0 count at_x in simp (hi, hx) refl

  pub ups-named : (rs : List ServerNo) (i x : ServerNo) → All Below rs → Below i → are_named count (ups rs i x) ≡ true
  ups-named rs i x below at_i = each-named (λ r. up r i x) (λ r at_r. up-named r i x at_r at_i) rs below

  pub unders-named : (rs : List ServerNo) (d s : ServerNo) → All Below rs → Below d → are_named count (unders rs d s) ≡ true
  unders-named rs d s below at_d = each-named (λ r. under r d s) (λ r at_r. under-named r d s at_r at_d) rs below

  pub autos-named : (rs : List ServerNo) (d : ServerNo) → All Below rs → Below d → are_named count (autos rs d) ≡ true
  autos-named rs d below at_d = each-named (λ r. auto r d) (λ r at_r. auto-named r d at_r at_d) rs below

  pub matching-named : (r d : ServerNo) (every : ℕ) → Below r → are_named count (matching r d every) ≡ true
  matching-named r d every at_r = let hr = below-test r.0 count at_r in simp (hr) refl

  pub matchings-named : (rs : List ServerNo) (d : ServerNo) (every : ℕ) → All Below rs → are_named count (matchings rs d every) ≡ true
  matchings-named rs d every below = each-named (λ r. matching r d every) (λ r at_r. matching-named r d every at_r) rs below
