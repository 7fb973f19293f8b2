use Rattle.std.proofs.Common.{◌≡◌, List, [], ◌∷◌, length, refl, rules}
use Rattle.scenario_turns.proofs.Prelude.{BadTurn, ListedTurn, Value, alone, fails, items_view}
use Rattle.scenario_turns.proofs.turn_forms.alone.Goals as goal

-- something follows
other : (turn : ListedTurn) (vs : List Value) → (length vs ≡ 0 → ⊥) → alone turn (items_view vs) ≡ fails BadTurn
other turn [] h = absurd (h refl)
other turn (v ∷ vs) h = refl

pub returns-else-is_empty : goal.returns-else-is_empty
returns-else-is_empty c = rw c.fails.ensures (other c.args.turn c.args.rest.now (search rules))
