use Rattle.std.proofs.Common.{◌+◌, ap₂, drop, ◌∙◌, ◌++◌, [], ◌∷◌, ap, arith, length, sym}
use Rattle.scenario_dump.proofs.Prelude.{history_of, items_of, items_text, opening_of, part_data, parts_of, server_at}
use Rattle.scenario_dump.proofs.Printed.{appended, map_ok}
use Rattle.scenario_dump.proofs.Runs.{merged, history_begins, history_ends, history_joins, history_none, history_turns}
use Rattle.scenario_dump.proofs.Worlds.{history_there, there_is, told, txn_there}
use Rattle.scenario_dump.proofs.histories.print_history.Goals.{then-is_like, else-is_like+in_ok-print_part}
use Rattle.scenario_dump.proofs.histories.print_history.Goals as goal

pub loop-k-init : goal.loop-k-init
loop-k-init c =
    let w = c.args.world.now in
    let s = there_is w c.args.no.0 c.requires in
    let first = txn_there w c.args.no.0 0 s.0 c.transaction.result s.1 c.transaction.ensures in
    record {
      few = omega (arith, ap (λ p. p.count) c.part_of-part.ensures);
      text = history_begins (part_data (opening_of w).servers) (history_of (server_at w c.args.no.0)) c.transaction.result c.part_of-part.result c.args.out.now.items c.extend_from_slice-2.new.self.items first c.part_of-part.ensures c.in_ok-extend_from_slice.ensures.items;
    }

pub loop-k-preserved : goal.loop-k-preserved
loop-k-preserved c =
    let w = c.args.world.now in
    let f = part_data (opening_of w).servers in
    let history = history_of (server_at w c.args.no.0) in
    let s = there_is w c.args.no.0 c.requires in
    let t = c.transaction-t.result in
    let there = txn_there w c.args.no.0 c.loop-k.k s.0 t s.1 c.transaction-t.ensures in
    elim c.if-is_like.branch [
      | then-is_like w' ↦ record {
        few = omega (arith, ap (λ p. p.count) w'.part-is, c.loop-k.invariant.few);
        text = ap₂ (λ o b. o.items ++ items_text b (items_of f (merged c.if-is_like.part (parts_of (drop (c.loop-k.k + 1) history))))) w'.out-is w'.later-is ∙ history_joins f history c.loop-k.k t c.loop-k.part c.if-is_like.part c.loop-k.later c.loop-k.out.items _ there (sym c.is_like.ensures ∙ w'.if-is_like.true) w'.part-is c.loop-k.invariant.text;
      }
      | else-is_like+in_ok-print_part w' ↦ record {
        few = omega (arith, ap (λ p. p.count) (w'.part-is ∙ w'.part_of-part-else-is_like.ensures));
        text = ap₂ (λ o b. o.items ++ items_text b (items_of f (merged c.if-is_like.part (parts_of (drop (c.loop-k.k + 1) history))))) w'.out-is w'.later-is ∙ history_turns f history c.loop-k.k t c.loop-k.part c.if-is_like.part c.loop-k.later c.loop-k.out.items w'.print_part.new.out.items _ there (sym c.is_like.ensures ∙ w'.if-is_like.false) (w'.part-is ∙ w'.part_of-part-else-is_like.ensures) w'.in_ok-print_part.ensures c.loop-k.invariant.text;
      }
    ]

pub returns : goal.returns
returns c =
    let w = c.args.world.now in
    let history = history_of (server_at w c.args.no.0) in
    let s = there_is w c.args.no.0 c.requires in
    let all = told w c.args.no.0 s.0 (λ s. length s.history.txns) c.executed-executed.result s.1 c.executed-executed.ensures ∙ ap length (sym (history_there w c.args.no.0 s.0 s.1)) in
    map_ok c.extend_from_slice-3.result
    (λ last. history_ends (part_data (opening_of w).servers) history c.loop-k.k c.loop-k.part c.loop-k.later c.loop-k.out.items c.print_part-2.new.out.items c.extend_from_slice-3.new.self.items _ (omega (arith, all, c.loop-k-test.false)) c.in_ok-print_part-2.ensures last c.loop-k.invariant.text)
    (appended c.extend_from_slice-3.result c.extend_from_slice-3.new.self.items c.print_part-2.new.out.items (93 ∷ []) c.extend_from_slice-3.ensures.items)

pub returns-then-executed-eq0 : goal.returns-then-executed-eq0
returns-then-executed-eq0 c =
    let w = c.args.world.now in
    let s = there_is w c.args.no.0 c.requires in
    let all = told w c.args.no.0 s.0 (λ s. length s.history.txns) c.executed-executed.result s.1 c.executed-executed.ensures ∙ ap length (sym (history_there w c.args.no.0 s.0 s.1)) in
    map_ok c.extend_from_slice.result (λ last. last ∙ ap (λ v. c.args.out.now.items ++ v) (sym (history_none (part_data (opening_of w).servers) (history_of (server_at w c.args.no.0)) (omega (arith, all, c.if-executed-eq0.true)))))
    (appended c.extend_from_slice.result c.extend_from_slice.new.self.items c.args.out.now.items (91 ∷ 93 ∷ []) c.extend_from_slice.ensures.items)
