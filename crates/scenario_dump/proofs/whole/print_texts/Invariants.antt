use Rattle.std.proofs.Common.{◌≡◌, ◌++◌, drop, map, nat_lt, string_bytes}
use Rattle.scenario_dump.proofs.Prelude.{compact_text, items_of, items_text, list_data, string}
use Rattle.scenario_dump.proofs.whole.print_texts.Given as goal

abbrev pub invariant-loop-n : goal.invariant-loop-n
invariant-loop-n l = l.out.items ++ items_text (nat_lt 0 l.n) (items_of string (drop l.n (map string_bytes l.fn.texts))) ≡ l.fn.out.items ++ compact_text (list_data string (map string_bytes l.fn.texts))
