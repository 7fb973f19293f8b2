use Rattle.std.proofs.Common.{◌∙◌, ◌++◌, [], ap, sym, codes}
use Rattle.scenario_dump.proofs.Prelude.{aliases_data, blocks_data, compact_text, flag_text, hook_data, list_data, object, string}
use Rattle.scenario_dump.proofs.Printed.{First, Once, grew_by, number_as}
use Rattle.scenario_dump.proofs.Wholes.{whole_parts, whole_text}
use Rattle.scenario_dump.proofs.whole.dump.Goals as goal

pub returns : goal.returns
returns c =
    let w = c.args.world.now in
    let s = c.args.scenario.now in
    grew_by [] c.extend_from_slice-8.new.self.items (whole_parts w s c.args.now.0)
    (First _ _ _ _ _ _ c.in_ok-out.ensures.items
    (First _ _ _ _ _ _ (c.in_ok-print_aliases.ensures ∙ ap (λ v. c.in_ok-out.out.items ++ compact_text (object (aliases_data v))) c.as_slice.ensures)
    (First _ _ _ _ _ _ c.in_ok-print_number.ensures
    (First _ _ _ _ _ _ c.in_ok-extend_from_slice.ensures.items
    (First _ _ _ _ _ _ (c.in_ok-print_blocks.ensures ∙ ap (λ v. c.extend_from_slice.new.self.items ++ compact_text (object (blocks_data v))) c.as_slice-2.ensures)
    (First _ _ _ _ _ _ c.in_ok-extend_from_slice-2.ensures.items
    (First _ _ _ _ _ _ (c.in_ok-print_texts.ensures ∙ ap (λ v. c.extend_from_slice-2.new.self.items ++ compact_text (list_data string v)) c.as_slice-3.ensures)
    (First _ _ _ _ _ _ c.in_ok-extend_from_slice-3.ensures.items
    (First _ _ _ _ _ _ (c.in_ok-print_texts-2.ensures ∙ ap (λ v. c.extend_from_slice-3.new.self.items ++ compact_text (list_data string v)) c.as_slice-4.ensures)
    (First _ _ _ _ _ _ (c.in_ok-print_flag.ensures ∙ ap (λ b. c.print_texts-2.new.out.items ++ (codes "},\"gtid\":" ++ flag_text b)) c.gtid.ensures)
    (First _ _ _ _ _ _ c.in_ok-extend_from_slice-4.ensures.items
    (First _ _ _ _ _ _ (c.in_ok-print_hooks.ensures ∙ ap (λ v. c.extend_from_slice-4.new.self.items ++ compact_text (list_data hook_data v)) (c.as_slice-5.ensures ∙ ap (λ h. h.post_failover) c.all-hooks.ensures))
    (First _ _ _ _ _ _ c.in_ok-extend_from_slice-5.ensures.items
    (First _ _ _ _ _ _ (c.in_ok-print_hooks-2.ensures ∙ ap (λ v. c.extend_from_slice-5.new.self.items ++ compact_text (list_data hook_data v)) (c.as_slice-6.ensures ∙ ap (λ h. h.post_unsuccessful) c.all-hooks.ensures))
    (First _ _ _ _ _ _ c.in_ok-extend_from_slice-6.ensures.items
    (First _ _ _ _ _ _ (c.in_ok-print_hooks-3.ensures ∙ ap (λ v. c.extend_from_slice-6.new.self.items ++ compact_text (list_data hook_data v)) (c.as_slice-7.ensures ∙ ap (λ h. h.pre_failover) c.all-hooks.ensures))
    (First _ _ _ _ _ _ (number_as _ c.print_hooks-3.new.out.items (codes "},\"nodes\":") _ _ c.in_ok-print_number-2.ensures c.from.ensures)
    (First _ _ _ _ _ _ c.in_ok-print_number-3.ensures
    (First _ _ _ _ _ _ c.in_ok-print_number-4.ensures
    (First _ _ _ _ _ _ c.in_ok-extend_from_slice-7.ensures.items
    (First _ _ _ _ _ _ c.in_ok-print_servers.ensures
    (Once _ _ _ c.in_ok-extend_from_slice-8.ensures.items))))))))))))))))))))))
    ∙ sym (whole_text w s c.args.now.0)
