use Rattle.std.proofs.Common.{◌≡◌, List, [], ◌∷◌, length, refl}
use Rattle.scenario_reader.proofs.Prelude.{BadNumber, Value, fails, items_view, two_of}
use Rattle.scenario_reader.proofs.hooks.two_of.Goals as goal

-- a list of another length
other : (vs : List Value) → (length vs ≡ 2 → ⊥) → two_of (items_view vs) ≡ fails BadNumber
other [] h = refl
other (a ∷ []) h = refl
other (a ∷ b ∷ []) h = absurd (h refl)
other (a ∷ b ∷ c ∷ vs) h = refl

pub returns-then-items-ne2 : goal.returns-then-items-ne2
returns-then-items-ne2 c = rw c.fails.ensures (other c.args.items.now c.if-items-ne2.true)
