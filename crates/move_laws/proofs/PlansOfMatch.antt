-- The plans of permitted commands by matches.
use Rattle.std.proofs.Common.{◌≡◌, ℕ, [], ◌∷◌, sym, ◌∙◌, ap, Some, None, map}
use Rattle.move_laws.proofs.Prelude.{BookState, Follows, Moment, ServerNo, World, attached_of, finished, given, matching, moved, option_and_then}
use Rattle.move_laws.proofs.Prelude.{refusal_by, rest_refusal, row_refusal, source_above, source_of, unknown_in}
use Rattle.move_laws.proofs.Prelude.Permits.{case_of, refusal_about, refusal_of, row_of}
use Rattle.move_laws.proofs.Prelude.Plans.{plan_of}
use Rattle.move_laws.proofs.Prelude.name
use Rattle.move_laws.proofs.Prelude.pseudocommand as command
use Rattle.move_laws.proofs.Prelude.refusal
use Rattle.move_laws.proofs.Beginning.{above-by}
use Rattle.move_laws.proofs.Firsts.{each-none, given-by, neither}

pub plan-up : (w : World) (b : BookState) (now : Moment) (every : ℕ) (i : ServerNo) → refusal_of w b now every (given name.MatchUp i None) ≡ None
    → (x : ServerNo) × (g : ServerNo) × (source_of b i ≡ Some x) × (attached_of b x ≡ Some g)
    × (plan_of b every (given name.MatchUp i None) ≡ finished (matching i g every) (Follows i g ∷ []))
plan-up w b now every i h =
    let all = (neither (unknown_in b (given name.MatchUp i None)) (refusal_about w b now every command.MatchUp i None) h).1 in
    let row = (neither (row_refusal w b command.MatchUp i None) (rest_refusal w b now every command.MatchUp i None) all).0 in
    let t = each-none (map (refusal_by w b (case_of b command.MatchUp i None)) (row_of command.MatchUp)) row in
    let x = given-by (source_of b i) refusal.NoSource t.1.1.0 in
    let g = given-by (option_and_then (attached_of b) (source_of b i)) refusal.SourceHasNoSource t.1.1.1.1.0 in
    let here : attached_of b x.0 ≡ Some g.0 = sym (ap (option_and_then (attached_of b)) x.1) ∙ g.1 in
    let plan : moved i every (source_above b i) ≡ finished (matching i g.0 every) (Follows i g.0 ∷ []) = ap (moved i every) (above-by b i x.0 g.0 x.1 g.1) in
    (x.0, g.0, x.1, here, plan)
