-- How a history lies in a log that was flushed now and then (MySQL 8.0 Reference Manual, "The Binary Log",
-- "FLUSH BINARY LOGS").
use Rattle.std.specs.Prelude.{ℕ, ◌+◌, ◌==◌, List, [], ◌∷◌, count_by, zero, suc}
use Rattle.openings.specs.Prelude.{Log, Txn, flush, opened, push}

-- so many new files
abbrev pub flushed_times : ℕ → Log → Log
flushed_times zero log = log
flushed_times (suc n) log = flush (flushed_times n log)

-- the log of so many transactions, once it was flushed as often as this count is listed
abbrev pub flushed_at : List ℕ → ℕ → Log → Log
flushed_at flushes count log = flushed_times (count_by (λ k. k == count) flushes) log

-- the log of so many transactions, once these joined it, with a flush after each count that is listed
abbrev pub laid_after : List ℕ → ℕ → Log → List Txn → Log
laid_after flushes count log [] = flushed_at flushes count log
laid_after flushes count log (t ∷ ts) = laid_after flushes (count + 1) (push (flushed_at flushes count log) t.size) ts

-- the log of a history
abbrev pub laid : ℕ → List ℕ → List Txn → Log
laid limit flushes history = laid_after flushes 0 (opened limit) history
