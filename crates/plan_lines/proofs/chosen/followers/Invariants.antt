use Rattle.std.proofs.Common.{◌≡◌, take, filter_map}
use Rattle.plan_lines.proofs.Prelude.{follower_in, ground_by, lot_for}
use Rattle.plan_lines.proofs.chosen.followers.Given as goal

abbrev pub invariant-loop-other : goal.invariant-loop-other
invariant-loop-other l =
    l.list.items ≡ filter_map (λ s. follower_in l.p.no s (lot_for l.means (ground_by l.by) l.failed l.p s)) (take l.other-index l.others)
