-- Commands with what they are given.
use Rattle.std.specs.Prelude.{ℕ, Bool, true, ◌&&◌, ◌||◌, not, nat_lt, Option, Some, None, is_some}
use Rattle.server_words.specs.OrchBase.declared.server.ServerNo.{ServerNo}
use Rattle.commands.specs.declared.turn.CommandTurn.{CommandTurn}
use Rattle.commands.specs.Names.{needs_of}

-- what is needed is there
abbrev pub is_there : {A : Type 0} → Bool → Option A → Bool
is_there needed x = is_some x || not needed

-- each key that the command needs is there
abbrev pub has_needed : CommandTurn → Bool
has_needed t =
    is_there (needs_of t.command.name).i t.command.i && is_there (needs_of t.command.name).d t.command.d
    && is_there (needs_of t.command.name).rule t.keys.rule && is_there (needs_of t.command.name).pattern t.keys.pattern

-- a server that is given is one of so many
abbrev pub is_within : ℕ → Option ServerNo → Bool
is_within servers None = true
is_within servers (Some server) = nat_lt server.0 servers

-- the needed keys are there, and the instances are of so many servers
abbrev pub fits : ℕ → CommandTurn → Bool
fits servers t = has_needed t && is_within servers t.command.i && is_within servers t.command.d
