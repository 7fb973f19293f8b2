use Rattle.std.proofs.Common.{◌≡◌, List, [], ◌∷◌, length, refl}
use Rattle.scenario_turns.proofs.Prelude.{BadTurn, Value, fails, items_view, parts_of}
use Rattle.scenario_turns.proofs.command.parts_of.Goals as goal

-- a list of another length
other : (vs : List Value) → (length vs ≡ 2 → ⊥) → parts_of (items_view vs) ≡ fails BadTurn
other [] h = refl
other (a ∷ []) h = refl
other (a ∷ b ∷ []) h = absurd (h refl)
other (a ∷ b ∷ c ∷ vs) h = refl

pub returns-then-rest-ne2 : goal.returns-then-rest-ne2
returns-then-rest-ne2 c = rw c.fails.ensures (other c.args.rest.now c.if-rest-ne2.true)
