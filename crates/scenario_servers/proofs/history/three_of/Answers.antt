use Rattle.std.proofs.Common.{◌≡◌, List, [], ◌∷◌, length, refl}
use Rattle.scenario_servers.proofs.Prelude.{BadNumber, Value, fails, items_view, three_of}
use Rattle.scenario_servers.proofs.history.three_of.Goals as goal

-- a list of another length
other : (vs : List Value) → (length vs ≡ 3 → ⊥) → three_of (items_view vs) ≡ fails BadNumber
other [] h = refl
other (a ∷ []) h = refl
other (a ∷ b ∷ []) h = refl
other (a ∷ b ∷ c ∷ []) h = absurd (h refl)
other (a ∷ b ∷ c ∷ d ∷ vs) h = refl

pub returns-then-items-ne3 : goal.returns-then-items-ne3
returns-then-items-ne3 c = rw c.fails.ensures (other c.args.items.now c.if-items-ne3.true)
