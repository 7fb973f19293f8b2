use Rattle.command_outcomes.specs.Outcomes.{Outcome}
use Rattle.command_outcomes.specs.declared.command.Outcome.{Outcome as Inside}

-- what contracts see of an outcome
abbrev pub outcome : Inside → Outcome
outcome o = record { reply = o.reply; book = o.book; rows = o.rows.items; reads = o.reads }
