-- The files of servers' logs.
use Rattle.std.proofs.Common.{ℕ, ◌+◌, ◌≤◌, Bool, true, false, cond, List, [], ◌∷◌, Option, Some, None, zero, suc, arith, ◌==◌, count_by, nat_le, slice_get}
use Rattle.openings.proofs.Prelude.{Log, ServerInit, Txn, appended, flush, flushed_at, flushed_times, history_at, laid, laid_after, log_at, log_in}
use Rattle.openings.proofs.Prelude.{opened, push}

flushed_times-files : (n : ℕ) (log : Log) → log.files ≤ (flushed_times n log).files
flushed_times-files zero log = omega arith
flushed_times-files (suc n) log = let fewer = flushed_times-files n log in omega arith

push-files : (log : Log) (size : ℕ) → log.files ≤ (push log size).files
push-files log size = go (nat_le log.limit (log.pos + size))
  where
    go : (full : Bool) → log.files ≤ (cond full (flush (appended log size)) (appended log size)).files
    go true = omega arith
    go false = omega arith

laid_after-files : (flushes : List ℕ) (count : ℕ) (log : Log) (history : List Txn) → log.files ≤ (laid_after flushes count log history).files
laid_after-files flushes count log [] = flushed_times-files (count_by (λ k. k == count) flushes) log
laid_after-files flushes count log (t ∷ ts) =
    let now = flushed_at flushes count log in
    let flushed : log.files ≤ now.files = flushed_times-files (count_by (λ k. k == count) flushes) log in
    let pushed = push-files now t.size in
    let later = laid_after-files flushes (count + 1) (push now t.size) ts in
    omega arith

-- a log has one file at least
pub log_at-files : (servers : List ServerInit) (n : ℕ) → 1 ≤ (log_at servers n).files
log_at-files servers n = go (slice_get servers n)
  where
    by : (i : ServerInit) (logs : Bool) → 1 ≤ (cond logs (laid i.settings.limit i.flushes (history_at servers n)) (opened i.settings.limit)).files
    by i true = laid_after-files i.flushes 0 (opened i.settings.limit) (history_at servers n)
    by i false = omega arith

    go : (x : Option ServerInit) → 1 ≤ (log_in servers n x).files
    go None = omega arith
    go (Some i) = by i i.settings.logs
