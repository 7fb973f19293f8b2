-- The names of commands.
use Rattle.std.specs.Prelude.{ℕ, List, ◌++◌, codes}
use Rattle.server_words.specs.OrchBase.Names.{HostPort}
use Rattle.commands.specs.declared.turn.Command.{Command}
use Rattle.commands.specs.Names.{word_of}
use Rattle.report_text.specs.Names.{given_text}

-- command COMMAND, then the instance and the destination if they are given
abbrev pub command_text : List HostPort → Command → List ℕ
command_text names c = codes "command " ++ word_of c.name ++ given_text names c.i ++ given_text names c.d
