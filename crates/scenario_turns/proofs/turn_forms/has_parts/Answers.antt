use Rattle.std.proofs.Common.{◌≡◌, ℕ, List, [], ◌∷◌, length, refl, subst, arith, nat_eq}
use Rattle.scenario_turns.proofs.Prelude.{BadTurn, Gives, Value, fault_of, holds, item_count, items_view, parts_after}
use Rattle.scenario_turns.proofs.turn_forms.has_parts.Goals as goal

count : (vs : List Value) → length vs ≡ item_count (items_view vs)
count [] = refl
count (v ∷ vs) = let more = count vs in omega arith

pub returns : goal.returns
returns c =
    subst (λ (n : ℕ). Gives (λ x. tt) fault_of c.holds.result (holds BadTurn (nat_eq n (parts_after c.args.word)))) (count c.args.rest.now)
    (subst (λ (n : ℕ). Gives (λ x. tt) fault_of c.holds.result (holds BadTurn (nat_eq (length c.args.rest.now) n))) c.parts_after.ensures c.holds.ensures)
