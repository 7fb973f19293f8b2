-- How a log grows with a transaction.
use Rattle.std.proofs.Common.{◌≡◌, ℕ, ◌+◌, ◌≤◌, Bool, true, false, cond, [], ◌∷◌, length, length-append, arith, nat_le}
use Rattle.server_model.proofs.Prelude.{Log, appended, entry_at_end, flush, push}

pub length-push : (log : Log) (size : ℕ) → length (push log size).entries ≡ length log.entries + 1
length-push log size = go (nat_le log.limit (log.pos + size)) (length-append log.entries (entry_at_end log size ∷ []))
  where
    go : (b : Bool) → length (appended log size).entries ≡ length log.entries + 1 → length (cond b (flush (appended log size)) (appended log size)).entries ≡ length log.entries + 1
    go true e = e
    go false e = e

pub files-rise : (log : Log) (size : ℕ) → log.files ≤ (push log size).files
files-rise log size = go (nat_le log.limit (log.pos + size))
  where
    go : (b : Bool) → log.files ≤ (cond b (flush (appended log size)) (appended log size)).files
    go true = omega arith
    go false = omega arith

pub files-push : (log : Log) (size : ℕ) → (push log size).files ≤ log.files + 1
files-push log size = go (nat_le log.limit (log.pos + size))
  where
    go : (b : Bool) → (cond b (flush (appended log size)) (appended log size)).files ≤ log.files + 1
    go true = omega arith
    go false = omega arith
