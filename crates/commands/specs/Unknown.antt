-- The lowest refusal: an instance that a command uses isn't known.
use Rattle.std.specs.Prelude.{Bool, ◌&&◌, ◌||◌, not, Option, Some, None, if◌then◌else◌}
use Rattle.server_words.specs.OrchBase.declared.server.ServerNo.{ServerNo}
use Rattle.commands.specs.declared.name.CommandName.{CommandName}
use Rattle.commands.specs.declared.refusal.Refusal.{Refusal}
use Rattle.commands.specs.declared.refusal.Refusal.TheVariants.{UnknownInstance}
use Rattle.commands.specs.declared.turn.Command.{Command}
use Rattle.commands.specs.Names.{needs_of, uses_of}
use Rattle.commands.specs.Table.{is_any, row}

-- discover takes a server that is no instance yet
abbrev pub takes_any : CommandName → Bool
takes_any name = is_any (row name).arguments

-- an instance that must be there isn't given, or one that is given and tested isn't known
abbrev pub is_missing : Bool → Bool → Option ServerNo → Bool → Bool
is_missing needed tested None known = needed
is_missing needed tested (Some n) known = tested && not known

-- an instance that the command uses isn't known, by whether the given ones are
abbrev pub is_unknown : Command → Bool → Bool → Bool
is_unknown c i_known d_known =
    is_missing (needs_of c.name).i ((uses_of c.name).i && not (takes_any c.name)) c.i i_known
    || is_missing (needs_of c.name).d (uses_of c.name).d c.d d_known

abbrev pub unknown_of : Command → Bool → Bool → Option Refusal
unknown_of c i_known d_known = if is_unknown c i_known d_known then Some UnknownInstance else None
