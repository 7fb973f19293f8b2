use Rattle.scenario_turns.proofs.Prelude.{IsReadTo, turn_in}
use Rattle.scenario_turns.proofs.turn_forms.each_turn.Given as goal

abbrev pub invariant-loop-number : goal.invariant-loop-number
invariant-loop-number l = IsReadTo (λ n d. turn_in l.names l.patterns l.nodes d) l.items l.number l.turns.items
