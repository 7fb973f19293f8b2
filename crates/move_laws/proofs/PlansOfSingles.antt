-- The plans of permitted repoints without a destination.
use Rattle.std.proofs.Common.{◌≡◌, Bool, true, false, [], ◌∷◌, sym, ◌∙◌, ap, Some, None, map}
use Rattle.move_laws.proofs.Prelude.{BookState, Follows, ServerNo, World, again, auto, by_gtids, finished, first_refusal, given, refusal_by, repointed}
use Rattle.move_laws.proofs.Prelude.{repointed_auto, repointed_by, source_of, unknown_in}
use Rattle.moves_coords.specs.Permits.{case_of, refusal_about, refusal_of, row_of}
use Rattle.move_laws.proofs.Firsts.{each-none, given-by, neither}
use Rattle.moves_coords.specs.Plans.{plan_of}
use Rattle.move_laws.proofs.Prelude.command
use Rattle.move_laws.proofs.Prelude.name
use Rattle.move_laws.proofs.Prelude.refusal

module _ (w : World) (b : BookState) (i : ServerNo) where
  its-row : (way : Bool) → by_gtids w b i ≡ way → refusal_of w b (given name.Repoint i None) ≡ None
      → first_refusal w b (case_of b command.Repoint i None) (row_of way command.Repoint) ≡ None
  its-row way e h =
      ap (λ g. first_refusal w b (case_of b command.Repoint i None) (row_of g command.Repoint)) (sym e)
      ∙ (neither (unknown_in b (given name.Repoint i None)) (refusal_about w b command.Repoint i None) h).1

  pub plan-again : by_gtids w b i ≡ false → refusal_of w b (given name.Repoint i None) ≡ None
      → (x : ServerNo) × (source_of b i ≡ Some x) × (plan_of w b (given name.Repoint i None) ≡ finished (again i x) (Follows i x ∷ []))
  plan-again e h =
      let t = each-none (map (refusal_by w b (case_of b command.Repoint i None)) (row_of false command.Repoint)) (its-row false e h) in
      let x = given-by (source_of b i) refusal.NoSource t.1.1.1.0 in
      let plan : repointed_by (by_gtids w b i) i None (source_of b i) ≡ finished (again i x.0) (Follows i x.0 ∷ []) =
      ap (λ g. repointed_by g i None (source_of b i)) e ∙ ap (repointed i) x.1
      in
      (x.0, x.1, plan)

  pub plan-auto : by_gtids w b i ≡ true → refusal_of w b (given name.Repoint i None) ≡ None
      → (x : ServerNo) × (source_of b i ≡ Some x) × (plan_of w b (given name.Repoint i None) ≡ finished (auto i x) (Follows i x ∷ []))
  plan-auto e h =
      let t = each-none (map (refusal_by w b (case_of b command.Repoint i None)) (row_of true command.Repoint)) (its-row true e h) in
      let x = given-by (source_of b i) refusal.NoSource t.1.1.1.0 in
      let plan : repointed_by (by_gtids w b i) i None (source_of b i) ≡ finished (auto i x.0) (Follows i x.0 ∷ []) =
      ap (λ g. repointed_by g i None (source_of b i)) e ∙ ap (repointed_auto i) x.1
      in
      (x.0, x.1, plan)
