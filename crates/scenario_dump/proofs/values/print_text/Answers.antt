use Rattle.std.proofs.Common.{◌∙◌, ◌++◌, ap, append_assoc}
use Rattle.scenario_dump.proofs.Prelude.{quoted}
use Rattle.scenario_dump.proofs.Printed.{text_written}
use Rattle.scenario_dump.proofs.values.print_text.Goals as goal

pub returns : goal.returns
returns c =
    text_written c.extend_from_slice.new.self.items c.string.new.self.before c.into_inner.result.items c.args.text.now c.new-writer.result.tokens c.string.new.self.tokens c.new-writer.ensures.tokens c.in_ok-string.ensures.ok
    (c.in_ok-string.ensures.room.0 ∙ (c.new-writer.ensures.before ∙ ap (λ v. v.items) c.replace.ensures.value)) c.into_inner.ensures.items
    ∙ (ap (λ v. v ++ quoted c.args.text.now) c.in_ok-extend_from_slice.ensures.items ∙ append_assoc c.args.out.now.items c.args.before.now (quoted c.args.text.now))
