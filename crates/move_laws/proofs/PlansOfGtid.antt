-- The plans of permitted commands by GTIDs.
use Rattle.std.proofs.Common.{◌≡◌, [], ◌∷◌, ap, Some, None, map}
use Rattle.move_laws.proofs.Prelude.{BookState, Server, ServerNo, World, again, again_auto, case_of, disabled, enabled, finished, given, plan_of}
use Rattle.move_laws.proofs.Prelude.{refusal_about, refusal_by, refusal_of, row_of, source_of, unknown_in}
use Rattle.move_laws.proofs.Prelude.gtids as command
use Rattle.move_laws.proofs.Prelude.name
use Rattle.move_laws.proofs.Prelude.refusal
use Rattle.move_laws.proofs.Firsts.{each-none, given-by, neither}

pub plan-enabled : (w : World) (b : BookState) (i : ServerNo) → refusal_of w b (given name.EnableGtid i None) ≡ None
    → (x : ServerNo) × (source_of b i ≡ Some x) × (plan_of b (given name.EnableGtid i None) ≡ finished (again_auto i x) (Server i ∷ []))
plan-enabled w b i h =
    let row = (neither (unknown_in b (given name.EnableGtid i None)) (refusal_about w b command.EnableGtid i None) h).1 in
    let t = each-none (map (refusal_by w b (case_of b command.EnableGtid i None)) (row_of command.EnableGtid)) row in
    let x = given-by (source_of b i) refusal.NoSource t.1.1.0 in
    let plan : enabled i (source_of b i) ≡ finished (again_auto i x.0) (Server i ∷ []) = ap (enabled i) x.1 in
    (x.0, x.1, plan)

pub plan-disabled : (w : World) (b : BookState) (i : ServerNo) → refusal_of w b (given name.DisableGtid i None) ≡ None
    → (x : ServerNo) × (source_of b i ≡ Some x) × (plan_of b (given name.DisableGtid i None) ≡ finished (again i x) (Server i ∷ []))
plan-disabled w b i h =
    let row = (neither (unknown_in b (given name.DisableGtid i None)) (refusal_about w b command.DisableGtid i None) h).1 in
    let t = each-none (map (refusal_by w b (case_of b command.DisableGtid i None)) (row_of command.DisableGtid)) row in
    let x = given-by (source_of b i) refusal.NoSource t.1.1.0 in
    let plan : disabled i (source_of b i) ≡ finished (again i x.0) (Server i ∷ []) = ap (disabled i) x.1 in
    (x.0, x.1, plan)
