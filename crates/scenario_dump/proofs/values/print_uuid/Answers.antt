use Rattle.std.proofs.Common.{[], ◌∷◌, ◌∙◌, ◌++◌, ap}
use Rattle.scenario_dump.proofs.Prelude.{uuid_text}
use Rattle.scenario_dump.proofs.Printed.{appended, in_quotes, map_ok}
use Rattle.scenario_dump.proofs.Quotes.{escape-uuid_text}
use Rattle.scenario_dump.proofs.values.print_uuid.Goals as goal

pub returns : goal.returns
returns c =
    map_ok c.extend_from_slice-4.result
    (in_quotes c.args.out.now.items _ _ c.extend_from_slice-3.new.self.items _ c.args.before.now (uuid_text c.args.uuid) (escape-uuid_text c.args.uuid) c.in_ok-extend_from_slice.ensures.items c.in_ok-extend_from_slice-2.ensures.items (c.in_ok-extend_from_slice-3.ensures.items ∙ ap (λ v. c.extend_from_slice-2.new.self.items ++ v) (rw (c.as_bytes.ensures.value, c.encode_lower-digits.ensures.text, c.hyphenated.ensures, c.from_u128.ensures))))
    (appended c.extend_from_slice-4.result c.extend_from_slice-4.new.self.items c.extend_from_slice-3.new.self.items (34 ∷ []) c.extend_from_slice-4.ensures.items)
