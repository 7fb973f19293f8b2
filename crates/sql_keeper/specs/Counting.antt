-- Which faults of a database are failures of the row store, and which rows of it are passed over.
use Rattle.std.specs.Prelude.{◌≡◌, ◌<◌, ◌^◌, ℕ, false, Option, None, Some, Result, Ok, Err}
use Rattle.kept_rows.specs.declared.keeper.KeeperFault.{KeeperFault}
use Rattle.kept_rows.specs.declared.keeper.KeeperFault.TheVariants as keeper
use Rattle.kept_rows.specs.declared.row.Row.{Row}
use Rattle.kept_rows.specs.Servers.{are_known, servers_of}
use Rattle.row_texts.specs.declared.fault.RowFault.{RowFault}
use Rattle.row_texts.specs.declared.fault.RowFault.TheVariants as row
use Rattle.sql_keeper.specs.declared.fault.SqlFault.{SqlFault}
use Rattle.sql_keeper.specs.declared.fault.SqlFault.TheVariants as sql

-- all except out of memory are failures of the row store
abbrev pub kind : SqlFault → KeeperFault
kind (sql.Sql e) = keeper.Failed
kind sql.Table = keeper.Failed
kind (sql.Row f) = keeper.Failed
kind sql.Unwritten = keeper.Failed
kind sql.Memory = keeper.Memory

-- a row that reads except for a server that isn't known is passed over
abbrev pub unless_unknown : Result Row RowFault → Result (Option Row) RowFault
unless_unknown (Ok r) = Ok (Some r)
unless_unknown (Err row.NotJson) = Err row.NotJson
unless_unknown (Err row.BadVersion) = Err row.BadVersion
unless_unknown (Err (row.BadField n)) = Err (row.BadField n)
unless_unknown (Err row.BadKey) = Err row.BadKey
unless_unknown (Err row.UnknownServer) = Ok None
unless_unknown (Err row.Memory) = Err row.Memory

-- the row names a server that there isn't, however many there are
abbrev pub IsOfNoServer : Row → Type 0
IsOfNoServer r = (count : ℕ) → count < 2 ^ 32 → are_known count (servers_of r) ≡ false
