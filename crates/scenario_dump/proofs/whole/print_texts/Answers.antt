use Rattle.std.proofs.Common.{◌∙◌, ap, length, refl, map, option_map, string_bytes}
use Rattle.scenario_dump.proofs.Prelude.{quoted, slice_get-map, slice_get_read, string}
use Rattle.scenario_dump.proofs.Lists.{list_goes_on}
use Rattle.scenario_dump.proofs.Printed.{quoted_behind}
use Rattle.scenario_dump.proofs.whole.print_texts.Goals as goal

pub loop-n-preserved : goal.loop-n-preserved
loop-n-preserved c =
    list_goes_on string (map string_bytes c.args.texts.now) c.loop-n.n (string_bytes c.index-texts-n.result) c.loop-n.out.items c.print_text.new.out.items (quoted (string_bytes c.index-texts-n.result)) _
    (slice_get-map string_bytes c.args.texts.now c.loop-n.n ∙ ap (option_map string_bytes) (slice_get_read c.args.texts.now (length c.args.texts.now) c.loop-n.n c.index-texts-n.result refl c.loop-n-test.true c.index-texts-n.is)) refl
    (quoted_behind _ _ _ _ _ _ c.in_ok-print_text.ensures c.comma.ensures c.as_str.ensures.value) c.loop-n.invariant
