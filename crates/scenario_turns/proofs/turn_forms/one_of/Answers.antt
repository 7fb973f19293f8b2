use Rattle.std.proofs.Common.{◌≡◌, List, [], ◌∷◌, length, refl}
use Rattle.scenario_turns.proofs.Prelude.{BadTurn, Value, fails, items_view, one_of}
use Rattle.scenario_turns.proofs.turn_forms.one_of.Goals as goal

-- a list of another length
other : (vs : List Value) → (length vs ≡ 1 → ⊥) → one_of (items_view vs) ≡ fails BadTurn
other [] h = refl
other (a ∷ []) h = absurd (h refl)
other (a ∷ b ∷ vs) h = refl

pub returns-then-rest-ne1 : goal.returns-then-rest-ne1
returns-then-rest-ne1 c = rw c.fails.ensures (other c.args.rest.now c.if-rest-ne1.true)
