-- The tables: a line for each server, each recovery and each unended job, and how many writes servers with a source
-- accepted.
use Rattle.std.specs.Prelude.{ℕ, Bool, List, [], ◌∷◌, ◌++◌, length, map, codes, decimal, Option, Some, None, nat_lt, if◌then◌else◌}
use Rattle.server_words.specs.OrchBase.Names.{HostPort, printed}
use Rattle.server_words.specs.OrchBase.declared.server.SourceState.{SourceState}
use Rattle.server_words.specs.OrchBase.declared.server.SourceState.TheVariants.{Without, Attached, Detached}
use Rattle.server_words.specs.BinlogCoords.declared.Coord.{Coord}
use Rattle.server_words.specs.BinlogCoords.Index.{Index}
use Rattle.server_words.specs.BinlogCoords.Log.{end_of}
use Rattle.server_words.specs.BinlogCoords.Text.{coord_text}
use Rattle.server_words.specs.declared.plain.Plain.{Plain}
use Rattle.commands.specs.declared.line.Line.{Line}
use Rattle.server_model.specs.declared.server.Server.{Server}
use Rattle.server_model.specs.Plains.{plain_of, log_of}
use Rattle.server_model.specs.Worlds.{World, server_at}
use Rattle.report_text.specs.Told.{told_lines}
use Rattle.report_text.specs.Words.{mode_text}

abbrev pub up_text : Bool → List ℕ
up_text up = if up then codes "up" else codes "down"

abbrev pub on_text : Bool → List ℕ
on_text on = if on then codes "on" else codes "off"

-- the end of a log
abbrev pub end_text : Option Index → List ℕ
end_text None = codes "none"
end_text (Some index) = coord_text (end_of index.log)

abbrev pub until_text : Option Coord → List ℕ
until_text None = []
until_text (Some c) = codes " until " ++ coord_text c

abbrev pub auto_text : Bool → List ℕ
auto_text auto = if auto then codes " auto" else []

-- at C read C
abbrev pub places_text : Plain → List ℕ
places_text p = codes " at " ++ coord_text p.exec ++ codes " read " ++ coord_text p.read

-- io on|off sql on|off[ until C][ auto]
abbrev pub threads_text : Plain → List ℕ
threads_text p = codes " io " ++ on_text p.receiver ++ codes " sql " ++ on_text p.applier ++ until_text p.until ++ auto_text p.auto

-- the position of a replica in its source's log
abbrev pub standing_text : Plain → List ℕ
standing_text p = places_text p ++ threads_text p

abbrev pub name_text : Option Server → List ℕ
name_text None = []
name_text (Some s) = printed s.settings.name

-- none, or the source's name and the replica's position in its log
abbrev pub source_text : World → Plain → SourceState → List ℕ
source_text w p Without = codes "none"
source_text w p (Attached m) = name_text (server_at w m.0) ++ standing_text p
source_text w p (Detached m) = name_text (server_at w m.0) ++ codes " detached" ++ standing_text p

-- server NAME up|down rw|ro
abbrev pub state_text : HostPort → Plain → List ℕ
state_text name p = codes "server " ++ printed name ++ codes " " ++ up_text p.up ++ codes " " ++ mode_text p.read_only

-- executed N end C|none
abbrev pub log_text : ℕ → Option Index → List ℕ
log_text executed log = codes " executed " ++ decimal executed ++ codes " end " ++ end_text log

-- the first kept file, if earlier ones are purged
abbrev pub purged_text : ℕ → List ℕ
purged_text first = if nat_lt 1 first then codes " purged " ++ decimal first else []

-- server NAME up|down rw|ro executed N end C|none source ..[ purged FILE]
abbrev pub told_text : World → HostPort → Plain → ℕ → Option Index → List ℕ
told_text w name p executed log =
    state_text name p ++ log_text executed log ++ codes " source " ++ source_text w p p.source
    ++ purged_text p.first ++ codes "\n"

-- the line of a server
abbrev pub server_text : World → Server → List ℕ
server_text w s = told_text w s.settings.name (plain_of s) (length s.history.txns) (log_of s)

abbrev pub line_at : World → Option Server → List ℕ
line_at w None = []
line_at w (Some s) = server_text w s

-- a line for each of these servers
abbrev pub servers_text : World → List Server → List ℕ
servers_text w [] = []
servers_text w (s ∷ rest) = server_text w s ++ servers_text w rest

-- job N open
abbrev pub job_text : ℕ → List ℕ
job_text job = codes "job " ++ decimal job ++ codes " open\n"

-- a line for each of these unended jobs
abbrev pub jobs_text : List ℕ → List ℕ
jobs_text [] = []
jobs_text (job ∷ rest) = job_text job ++ jobs_text rest

-- the servers' names, in order
abbrev pub names_in : World → List HostPort
names_in w = map (λ s. s.settings.name) w.servers

-- so many writes were accepted by servers with a source
abbrev pub errant_text : World → List ℕ
errant_text w = codes "errant " ++ decimal w.errant ++ codes "\n"

-- a line for each server in order, then one for each recovery, then one for each unended job, then the count of errant
-- writes
abbrev pub tables_text : World → List Line → List ℕ → List ℕ
tables_text w recoveries jobs = servers_text w w.servers ++ told_lines [] (names_in w) recoveries ++ jobs_text jobs ++ errant_text w
