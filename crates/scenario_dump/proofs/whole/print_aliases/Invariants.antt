use Rattle.std.proofs.Common.{◌≡◌, ◌++◌, drop, nat_lt}
use Rattle.scenario_dump.proofs.Prelude.{aliases_data, compact_text, members_text, object}
use Rattle.scenario_dump.proofs.whole.print_aliases.Given as goal

abbrev pub invariant-loop-n : goal.invariant-loop-n
invariant-loop-n l = l.out.items ++ members_text (nat_lt 0 l.n) (aliases_data (drop l.n l.fn.aliases)) ≡ l.fn.out.items ++ compact_text (object (aliases_data l.fn.aliases))
