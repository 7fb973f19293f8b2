-- Commands that are given an instance.
use Rattle.std.specs.Prelude.{Option, Some}
use Rattle.move_laws.specs.Prelude.{Command, CommandName, ServerNo}

-- a command about an instance, and the destination that is given
abbrev pub given : CommandName → ServerNo → Option ServerNo → Command
given name i d = record { name = name; i = Some i; d = d }
