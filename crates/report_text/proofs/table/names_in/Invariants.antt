use Rattle.std.proofs.Common.{◌≡◌, map, take}
use Rattle.report_text.proofs.table.names_in.Given as goal

abbrev pub invariant-loop-no : goal.invariant-loop-no
invariant-loop-no l = map (λ n. n.now) l.names.items ≡ map (λ s. s.settings.name) (take l.no l.world.servers)
