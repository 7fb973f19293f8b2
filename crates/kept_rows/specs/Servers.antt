-- The servers that rows name, and the rows that a book takes.
use Rattle.std.specs.Prelude.{ℕ, ◌&&◌, nat_lt, Bool, true, false, List, [], ◌∷◌, Option, None, Some}
use Rattle.std.specs.List.{list_all}
use Rattle.server_words.specs.OrchBase.declared.recovery.Ending.{Ending}
use Rattle.server_words.specs.OrchBase.declared.recovery.Ending.TheVariants as ending
use Rattle.server_words.specs.OrchBase.declared.server.SourceState.{SourceState}
use Rattle.server_words.specs.OrchBase.declared.server.SourceState.TheVariants as source
use Rattle.server_words.specs.declared.status.Status.{Status as Seen}
use Rattle.kept_rows.specs.declared.observation.Observation.{Observation}
use Rattle.kept_rows.specs.declared.row.Row.{Row}
use Rattle.kept_rows.specs.declared.row.Row.TheVariants as row
use Rattle.kept_rows.specs.declared.row.Table.{Table}
use Rattle.kept_rows.specs.declared.row.Table.TheVariants as table
use Rattle.kept_rows.specs.declared.row.Key.{Key}
use Rattle.kept_rows.specs.declared.row.Key.TheVariants as key
use Rattle.kept_rows.specs.declared.row.Change.{Change}
use Rattle.kept_rows.specs.declared.row.Change.TheVariants as change
use Rattle.kept_rows.specs.Rows.{table_of}

-- the numbers of the servers that a value names
abbrev pub source_servers : SourceState → List ℕ
source_servers source.Without = []
source_servers (source.Attached n) = n.0 ∷ []
source_servers (source.Detached n) = n.0 ∷ []

abbrev pub seen_servers : Option Seen → List ℕ
seen_servers None = []
seen_servers (Some s) = source_servers s.source

abbrev pub observed_servers : Observation → List ℕ
observed_servers o = o.no.0 ∷ seen_servers o.seen

abbrev pub ending_servers : Ending → List ℕ
ending_servers ending.Unended = []
ending_servers (ending.Promoted n) = n.0 ∷ []
ending_servers (ending.Failed cause) = []
ending_servers ending.Interrupted = []

abbrev pub servers_of : Row → List ℕ
servers_of (row.Instance i) = i.no.0 ∷ source_servers i.seen.source
servers_of (row.Downtime d) = d.no.0 ∷ []
servers_of (row.Candidate c) = c.no.0 ∷ []
servers_of (row.Recovery r) = r.failed.0 ∷ ending_servers r.outcome
servers_of (row.Switch enabled) = []
servers_of (row.Active node until) = []

abbrev pub key_servers : Key → List ℕ
key_servers (key.Server n) = n.0 ∷ []
key_servers (key.Id id) = []
key_servers key.Global = []
key_servers key.Active = []

abbrev pub are_known : ℕ → List ℕ → Bool
are_known count servers = list_all (λ n. nat_lt n count) servers

-- the recoveries are in the audit, and the claim beside both
abbrev pub is_of_book : Table → Bool
is_of_book table.Instance = true
is_of_book table.Downtime = true
is_of_book table.Candidate = true
is_of_book table.Recovery = false
is_of_book table.Switch = true
is_of_book table.Active = false

-- a row of the book whose servers are known
abbrev pub row_fits : ℕ → Row → Bool
row_fits count r = is_of_book (table_of r) && are_known count (servers_of r)

abbrev pub fits : ℕ → Change → Bool
fits count (change.Put r) = row_fits count r
fits count (change.Remove t k) = is_of_book t && are_known count (key_servers k)
