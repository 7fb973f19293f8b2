use Rattle.scenario_reader.proofs.Prelude.{IsReadTo, hook_in}
use Rattle.scenario_reader.proofs.hooks.each_hook.Given as goal

abbrev pub invariant-loop-number : goal.invariant-loop-number
invariant-loop-number l = IsReadTo (λ n d. hook_in d) l.items l.number l.hooks.items
