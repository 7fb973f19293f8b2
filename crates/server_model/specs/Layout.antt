-- How a log lays out a history (MySQL 8.0 Reference Manual, "The Binary Log").
use Rattle.std.specs.Prelude.{ℕ, ◌<◌, List, [], ◌∷◌, ◌++◌}
use Rattle.server_model.specs.Prelude.{Log, Txn, flush, opened, push}

-- the log lays out the history: it grew by these transactions, in order
pub data LaysOut : List Txn → Log → Type 0 where
  Opened : (limit : ℕ) → LaysOut [] (opened limit)
  Took : (history : List Txn) (log : Log) (t : Txn) → 0 < t.size → LaysOut history log → LaysOut (history ++ t ∷ []) (push log t.size)
  Flushed : (history : List Txn) (log : Log) → LaysOut history log → LaysOut history (flush log)
