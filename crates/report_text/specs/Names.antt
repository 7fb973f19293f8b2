-- Servers' names by their numbers.
use Rattle.std.specs.Prelude.{ℕ, List, [], ◌++◌, codes, slice_get, Option, Some, None}
use Rattle.server_words.specs.OrchBase.Names.{HostPort, printed_at}
use Rattle.server_words.specs.OrchBase.declared.server.ServerNo.{ServerNo}

-- the name of the server of this number
abbrev pub name_text : List HostPort → ServerNo → List ℕ
name_text names n = printed_at (slice_get names n.0)

-- a space and the name, if one is given
abbrev pub given_text : List HostPort → Option ServerNo → List ℕ
given_text names None = []
given_text names (Some n) = codes " " ++ name_text names n
