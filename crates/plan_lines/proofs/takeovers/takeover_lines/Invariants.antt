use Rattle.std.proofs.Common.{◌≡◌, ◌++◌, take}
use Rattle.plan_lines.proofs.Prelude.{but, flat_map, lines_below, shut}
use Rattle.plan_lines.proofs.takeovers.takeover_lines.Given as goal

abbrev pub invariant-loop-no : goal.invariant-loop-no
invariant-loop-no l = l.lines.items ≡ shut l.m l.d ++ flat_map (λ n. lines_below l.m l.d n) (but (take l.no-index l.replicas) l.d)
