use Rattle.std.proofs.Common.{◌≡◌, ◌∙◌, ◌||◌, ◌-◌, [], ◌∷◌, ap, arith, nat_lt}
use Rattle.scenario_dump.proofs.Prelude.{file_behind}
use Rattle.scenario_dump.proofs.Points.{at_below, behind_full, behind_within, coord_behind, either_first, either_last, points_begin, points_end, points_go_on}
use Rattle.scenario_dump.proofs.Printed.{appended, map_ok}
use Rattle.scenario_dump.proofs.files.print_points.Goals.{then-later, else-later, then-limit-end, else-limit-end}
use Rattle.scenario_dump.proofs.files.print_points.Goals as goal

pub loop-count-init : goal.loop-count-init
loop-count-init c = points_begin c.args.limit c.args.log.now.log c.args.out.now.items c.extend_from_slice.new.self.items c.in_ok-extend_from_slice.ensures.items

pub loop-count-preserved : goal.loop-count-preserved
loop-count-preserved c =
    let log = c.args.log.now.log in
    let e = at_below log.entries c.loop-count.count (omega (arith, c.loop-count-test.true, c.len-count-end.ensures.entries)) in
    let ends = c.coord_after-end.ensures ∙ coord_behind log c.loop-count.count e.0 e.1 in
    let file = c.from-ends.ensures ∙ ap (λ v. v.file) ends in
    let stops = ap (λ v. v.pos) ends in
    let some : c.if-later.later ≡ (c.loop-count.later || nat_lt 0 c.saturating_sub-flushes.result) = elim c.if-later.branch [ then-later w ↦ either_first _ _ _ w.if-later.true w.later-is | else-later w ↦ either_last _ _ _ w.if-later.false w.later-is ] in
    let next : c.if-limit-end.file ≡ file_behind c.args.limit e.0 = elim c.if-limit-end.branch [ then-limit-end w ↦ behind_full c.args.limit c.coord_after-end.result.pos _ _ e.0 stops w.if-limit-end.true file w.file-is | else-limit-end w ↦ behind_within c.args.limit c.coord_after-end.result.pos _ _ e.0 stops w.if-limit-end.false file w.file-is ] in
    points_go_on c.args.limit log.files c.loop-count.count c.loop-count.file c.saturating_sub-flushes.result c.if-limit-end.file log.entries e.0 c.loop-count.later c.if-later.later c.loop-count.out.items c.print_repeated.new.out.items _ e.1
    (c.saturating_sub-flushes.ensures ∙ ap (λ n. n - c.loop-count.file) file) next some c.in_ok-print_repeated.ensures c.loop-count.invariant

pub returns : goal.returns
returns c =
    let log = c.args.log.now.log in
    map_ok c.extend_from_slice-2.result
    (points_end c.args.limit log.files c.loop-count.count c.len.result c.loop-count.file c.saturating_sub.result log.entries c.loop-count.later c.loop-count.out.items c.print_repeated-2.new.out.items c.extend_from_slice-2.new.self.items _
    (omega (arith, c.loop-count-test.false, c.len-count-end.ensures.entries)) (omega (arith, c.loop-count-test.false, c.len-count-end.ensures.entries, c.len.ensures.entries)) (c.saturating_sub.ensures ∙ ap (λ n. n - c.loop-count.file) (c.from.ensures ∙ c.files.ensures))
    c.in_ok-print_repeated-2.ensures c.loop-count.invariant)
    (appended c.extend_from_slice-2.result c.extend_from_slice-2.new.self.items c.print_repeated-2.new.out.items (93 ∷ []) c.extend_from_slice-2.ensures.items)
