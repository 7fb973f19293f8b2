use Rattle.std.proofs.Common.{◌≡◌, ◌++◌, drop, nat_lt}
use Rattle.scenario_dump.proofs.Prelude.{blocks_data, compact_text, members_text, object}
use Rattle.scenario_dump.proofs.whole.print_blocks.Given as goal

abbrev pub invariant-loop-n : goal.invariant-loop-n
invariant-loop-n l = l.out.items ++ members_text (nat_lt 0 l.n) (blocks_data (drop l.n l.fn.blocks)) ≡ l.fn.out.items ++ compact_text (object (blocks_data l.fn.blocks))
