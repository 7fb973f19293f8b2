use Rattle.std.proofs.Common.{◌≡◌, ◌++◌, ◌-◌, ◌||◌, ℕ, List, nat_lt, replicate}
use Rattle.scenario_dump.proofs.Prelude.{count_data, items_of, items_text}
use Rattle.scenario_dump.proofs.files.print_repeated.Given as goal

abbrev pub invariant-loop-n : goal.invariant-loop-n
invariant-loop-n l =
    (rest : List ℕ) → l.out.items ++ items_text (l.fn.later || nat_lt 0 l.n) (items_of count_data (replicate (l.fn.times - l.n) l.fn.count ++ rest)) ≡ l.fn.out.items ++ items_text l.fn.later (items_of count_data (replicate l.fn.times l.fn.count ++ rest))
