-- What is printed of one server, for the texts of its parts.
use Rattle.std.specs.Prelude.{ℕ, ◌++◌, List, [], codes, decimal, Bool, option_map, Option, Some, None, unwrap_or}
use Rattle.scenario_dump.specs.Prelude.{Coord, Part, Server, Settings, World, compact_text, coord_text, history_of, printed, quoted, server_at}
use Rattle.scenario_dump.specs.Prelude.{token_text, uuid_text, version_text}
use Rattle.scenario_dump.specs.Prelude.token
use Rattle.scenario_dump.specs.Histories.{parts_of}
use Rattle.scenario_dump.specs.Servers.{init_of, opening_of, points_of}
use Rattle.scenario_dump.specs.Texts.{count_data, list_data, part_data, server_data}

abbrev pub flag_text : Bool → List ℕ
flag_text on = token_text (token.boolean on)

-- the counts after which a server's log was flushed
abbrev pub flushes_of : Option Server → List ℕ
flushes_of None = []
flushes_of (Some s) = points_of s

abbrev pub flushes_text : World → ℕ → List ℕ
flushes_text w n = compact_text (list_data count_data (flushes_of (server_at w n)))

-- what it has executed
abbrev pub part_text : World → Part → List ℕ
part_text w p = compact_text (part_data (opening_of w).servers p)

abbrev pub history_text : World → ℕ → List ℕ
history_text w n = compact_text (list_data (part_data (opening_of w).servers) (parts_of (history_of (server_at w n))))

-- how far its applier is to go, with its key, if that is given
abbrev pub until_text : Option Coord → List ℕ
until_text None = []
until_text (Some c) = codes ",\"until\":" ++ quoted (coord_text c)

-- the members that never change, from `limit` to `purged`, and those from `up` on
abbrev pub fixed_text : Settings → ℕ → List ℕ
fixed_text s first =
    codes ",\"limit\":" ++ (decimal s.limit ++ (codes ",\"logs\":" ++ (flag_text s.logs ++ (codes ",\"name\":" ++ (quoted (printed s.name) ++ (codes ",\"purged\":" ++ decimal first))))))

abbrev pub end_text : Settings → Bool → List ℕ
end_text s up =
    codes ",\"up\":" ++ (flag_text up ++ (codes ",\"uuid\":" ++ (quoted (uuid_text s.uuid) ++ (codes ",\"version\":" ++ (quoted (version_text s.version) ++ codes "}")))))

-- the whole of it
unfoldable pub server_text : World → ℕ → List ℕ
server_text w n = unwrap_or (option_map (λ s. compact_text (server_data (opening_of w).servers (init_of s))) (server_at w n)) []

-- all servers
abbrev pub servers_text : World → List ℕ
servers_text w = compact_text (list_data (server_data (opening_of w).servers) (opening_of w).servers)
