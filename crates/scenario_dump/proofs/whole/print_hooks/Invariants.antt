use Rattle.std.proofs.Common.{◌≡◌, ◌++◌, drop, nat_lt}
use Rattle.scenario_dump.proofs.Prelude.{compact_text, hook_data, items_of, items_text, list_data}
use Rattle.scenario_dump.proofs.whole.print_hooks.Given as goal

abbrev pub invariant-loop-n : goal.invariant-loop-n
invariant-loop-n l = l.out.items ++ items_text (nat_lt 0 l.n) (items_of hook_data (drop l.n l.fn.hooks)) ≡ l.fn.out.items ++ compact_text (list_data hook_data l.fn.hooks)
