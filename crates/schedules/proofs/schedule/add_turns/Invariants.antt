use Rattle.std.proofs.Common.{◌≡◌, ◌++◌, drop, map, nat_lt}
use Rattle.serde_json.specs.Written.{compact_text, items_text}
use Rattle.scenario_dump.specs.Texts.{items_of, list_data}
use Rattle.schedules.specs.Turns.{turn_data}
use Rattle.schedules.proofs.schedule.add_turns.Given as goal

abbrev pub invariant-loop-n : goal.invariant-loop-n
invariant-loop-n l = l.line.items ++ items_text (nat_lt 0 l.n) (items_of (turn_data l.names) (drop l.n (map (λ e. e.1) l.entries))) ≡ l.fn.line.items ++ compact_text (list_data (turn_data l.names) (map (λ e. e.1) l.entries))
