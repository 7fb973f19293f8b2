use Rattle.std.proofs.Common.{◌∙◌}
use Rattle.recovery_core.proofs.Entries.{asked_entries}
use Rattle.recovery_core.proofs.codes.actionable_entries.Goals as goal

pub returns-clause-entries : goal.returns-clause-entries
returns-clause-entries c = asked_entries c.args.book.now c.asked.result c.deref.result.now (c.deref.ensures.value ∙ c.in_ok-entries.ensures) c.asked.ensures
