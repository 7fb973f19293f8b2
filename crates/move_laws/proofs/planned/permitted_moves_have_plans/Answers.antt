-- The plans of permitted commands.
use Rattle.std.proofs.Common.{◌≡◌, ℕ, Bool, true, false, not, [], ◌∷◌, sym, ◌∙◌, ap, Option, Some, None, map}
use Rattle.move_laws.proofs.Prelude.{BookState, Follows, ServerNo, World, again, are_one, attached_of, auto, by_gtids, eqb-true, false≢true, finished}
use Rattle.move_laws.proofs.Prelude.{first_refusal, following, given, is_given, master_taken, moved_below, moved_up, option_and_then, refusal_by}
use Rattle.move_laws.proofs.Prelude.{replicas_moved_up, replicas_of, repointed, repointed_by, siblings_of, siblings_taken, source_above, source_of}
use Rattle.move_laws.proofs.Prelude.{swap, under, unders, unknown_in, up, ups}
use Rattle.move_laws.proofs.Prelude.coords_permits.{case_of, refusal_about, refusal_of, row_of}
use Rattle.move_laws.proofs.Prelude.coords_plans.{plan_of}
use Rattle.move_laws.proofs.Prelude.command
use Rattle.move_laws.proofs.Prelude.name
use Rattle.move_laws.proofs.Prelude.refusal
use Rattle.move_laws.proofs.Beginning.{above-by}
use Rattle.move_laws.proofs.Firsts.{each-none, given-by, neither, not-false, test-false}
use Rattle.move_laws.proofs.planned.permitted_moves_have_plans.Goals as goal

-- servers with one number are one
same-server : (a c : ServerNo) → a.0 ≡ c.0 → a ≡ c
same-server a c e = ap (λ (n : ℕ). let s : ServerNo = record { 0 = n } in s) e

given-is : (a : ServerNo) (o : Option ServerNo) → is_given a o ≡ true → o ≡ Some a
given-is a None h = absurd (false≢true h)
given-is a (Some c) h = ap Some (same-server c a (eqb-true c.0 a.0 h))

are-one : (x : ServerNo) (o p : Option ServerNo) → o ≡ Some x → are_one o p ≡ true → p ≡ Some x
are-one x o p e h = given-is x p (sym (ap (λ q. are_one q p) e) ∙ h)

plan-up : (w : World) (b : BookState) (i : ServerNo) → refusal_of w b (given name.MoveUp i None) ≡ None
    → (x : ServerNo) × (g : ServerNo) × (source_of b i ≡ Some x) × (attached_of b x ≡ Some g)
    × (plan_of w b (given name.MoveUp i None) ≡ finished (up i x g) (Follows i g ∷ []))
plan-up w b i h =
    let row = (neither (unknown_in b (given name.MoveUp i None)) (refusal_about w b command.MoveUp i None) h).1 in
    let t = each-none (map (refusal_by w b (case_of b command.MoveUp i None)) (row_of (by_gtids w b i) command.MoveUp)) row in
    let x = given-by (source_of b i) refusal.NoSource t.1.1.0 in
    let g = given-by (option_and_then (attached_of b) (source_of b i)) refusal.SourceHasNoSource t.1.1.1.1.0 in
    let here : attached_of b x.0 ≡ Some g.0 = sym (ap (option_and_then (attached_of b)) x.1) ∙ g.1 in
    let plan : moved_up i (source_of b i) (source_above b i) ≡ finished (up i x.0 g.0) (Follows i g.0 ∷ []) =
    ap (λ o. moved_up i o (source_above b i)) x.1 ∙ ap (moved_up i (Some x.0)) (above-by b i x.0 g.0 x.1 g.1)
    in
    (x.0, g.0, x.1, here, plan)

plan-under : (w : World) (b : BookState) (i d : ServerNo) → refusal_of w b (given name.MoveBelow i (Some d)) ≡ None
    → (x : ServerNo) × (source_of b i ≡ Some x) × (attached_of b d ≡ Some x) × (plan_of w b (given name.MoveBelow i (Some d)) ≡ finished (under i d x) (Follows i d ∷ []))
plan-under w b i d h =
    let row = (neither (unknown_in b (given name.MoveBelow i (Some d))) (refusal_about w b command.MoveBelow i (Some d)) h).1 in
    let t = each-none (map (refusal_by w b (case_of b command.MoveBelow i (Some d))) (row_of (by_gtids w b i) command.MoveBelow)) row in
    let x = given-by (source_of b i) refusal.NoSource t.1.1.1.0 in
    let one = not-false (are_one (source_of b i) (attached_of b d)) (test-false (not (are_one (source_of b i) (attached_of b d))) refusal.NotSibling t.1.1.1.1.1.1.1.0) in
    let plan : moved_below i (Some d) (source_of b i) ≡ finished (under i d x.0) (Follows i d ∷ []) = ap (moved_below i (Some d)) x.1 in
    (x.0, x.1, are-one x.0 (source_of b i) (attached_of b d) x.1 one, plan)

repoint-row : (w : World) (b : BookState) (i d : ServerNo) (way : Bool) → by_gtids w b i ≡ way → refusal_of w b (given name.Repoint i (Some d)) ≡ None
    → first_refusal w b (case_of b command.Repoint i (Some d)) (row_of way command.Repoint) ≡ None
repoint-row w b i d way e h =
    ap (λ g. first_refusal w b (case_of b command.Repoint i (Some d)) (row_of g command.Repoint)) (sym e)
    ∙ (neither (unknown_in b (given name.Repoint i (Some d))) (refusal_about w b command.Repoint i (Some d)) h).1

plan-again : (w : World) (b : BookState) (i d : ServerNo) → by_gtids w b i ≡ false → refusal_of w b (given name.Repoint i (Some d)) ≡ None
    → (source_of b i ≡ Some d) × (plan_of w b (given name.Repoint i (Some d)) ≡ finished (again i d) (Follows i d ∷ []))
plan-again w b i d e h =
    let t = each-none (map (refusal_by w b (case_of b command.Repoint i (Some d))) (row_of false command.Repoint)) (repoint-row w b i d false e h) in
    let x = given-by (source_of b i) refusal.NoSource t.1.1.1.0 in
    let one = not-false (are_one (source_of b i) (Some d)) (test-false (not (are_one (source_of b i) (Some d))) refusal.NotSameLog t.1.1.1.1.1.0) in
    let is : Some d ≡ Some x.0 = are-one x.0 (source_of b i) (Some d) x.1 one in
    let at : source_of b i ≡ Some d = x.1 ∙ sym is in
    let plan : repointed_by (by_gtids w b i) i (Some d) (source_of b i) ≡ finished (again i d) (Follows i d ∷ []) =
    ap (λ g. repointed_by g i (Some d) (source_of b i)) e ∙ ap (repointed i) at
    in
    (at, plan)

plan-auto : (w : World) (b : BookState) (i d : ServerNo) → by_gtids w b i ≡ true → refusal_of w b (given name.Repoint i (Some d)) ≡ None
    → plan_of w b (given name.Repoint i (Some d)) ≡ finished (auto i d) (Follows i d ∷ [])
plan-auto w b i d e h = ap (λ g. repointed_by g i (Some d) (source_of b i)) e

plan-ups : (w : World) (b : BookState) (i : ServerNo) → refusal_of w b (given name.MoveUpReplicas i None) ≡ None
    → (x : ServerNo) × (source_of b i ≡ Some x) × (plan_of w b (given name.MoveUpReplicas i None) ≡ finished (ups (replicas_of b i) i x) (following (replicas_of b i) x))
plan-ups w b i h =
    let row = (neither (unknown_in b (given name.MoveUpReplicas i None)) (refusal_about w b command.MoveUpReplicas i None) h).1 in
    let t = each-none (map (refusal_by w b (case_of b command.MoveUpReplicas i None)) (row_of (by_gtids w b i) command.MoveUpReplicas)) row in
    let x = given-by (source_of b i) refusal.NoSource t.1.1.0 in
    let plan : replicas_moved_up (replicas_of b i) i (source_of b i) ≡ finished (ups (replicas_of b i) i x.0) (following (replicas_of b i) x.0) =
    ap (replicas_moved_up (replicas_of b i) i) x.1
    in
    (x.0, x.1, plan)

plan-unders : (w : World) (b : BookState) (i : ServerNo) → refusal_of w b (given name.TakeSiblings i None) ≡ None
    → (x : ServerNo) × (source_of b i ≡ Some x) × (plan_of w b (given name.TakeSiblings i None) ≡ finished (unders (siblings_of b i) i x) (following (siblings_of b i) i))
plan-unders w b i h =
    let row = (neither (unknown_in b (given name.TakeSiblings i None)) (refusal_about w b command.TakeSiblings i None) h).1 in
    let t = each-none (map (refusal_by w b (case_of b command.TakeSiblings i None)) (row_of (by_gtids w b i) command.TakeSiblings)) row in
    let x = given-by (source_of b i) refusal.NoSource t.1.1.0 in
    let plan : siblings_taken (siblings_of b i) i (source_of b i) ≡ finished (unders (siblings_of b i) i x.0) (following (siblings_of b i) i) =
    ap (siblings_taken (siblings_of b i) i) x.1
    in
    (x.0, x.1, plan)

plan-swap : (w : World) (b : BookState) (i : ServerNo) → refusal_of w b (given name.TakeMaster i None) ≡ None
    → (x : ServerNo) × (g : ServerNo) × (source_of b i ≡ Some x) × (attached_of b x ≡ Some g)
    × (plan_of w b (given name.TakeMaster i None) ≡ finished (swap i x g) (Follows i g ∷ Follows x i ∷ []))
plan-swap w b i h =
    let row = (neither (unknown_in b (given name.TakeMaster i None)) (refusal_about w b command.TakeMaster i None) h).1 in
    let t = each-none (map (refusal_by w b (case_of b command.TakeMaster i None)) (row_of (by_gtids w b i) command.TakeMaster)) row in
    let x = given-by (source_of b i) refusal.NoSource t.1.1.0 in
    let g = given-by (option_and_then (attached_of b) (source_of b i)) refusal.SourceHasNoSource t.1.1.1.1.0 in
    let here : attached_of b x.0 ≡ Some g.0 = sym (ap (option_and_then (attached_of b)) x.1) ∙ g.1 in
    let plan : master_taken i (source_of b i) (source_above b i) ≡ finished (swap i x.0 g.0) (Follows i g.0 ∷ Follows x.0 i ∷ []) =
    ap (λ o. master_taken i o (source_above b i)) x.1 ∙ ap (master_taken i (Some x.0)) (above-by b i x.0 g.0 x.1 g.1)
    in
    (x.0, g.0, x.1, here, plan)

-- ---- the clauses

pub returns : goal.returns
returns c = record {
  up = plan-up;
  under = plan-under;
  again = plan-again;
  auto = plan-auto;
  ups = plan-ups;
  unders = plan-unders;
  swap = plan-swap;
}
