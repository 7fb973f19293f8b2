-- How long the log of a server is at the opening, and how many files it has.
use Rattle.std.proofs.Common.{◌≡◌, ℕ, ◌+◌, ◌-◌, ◌≤◌, Bool, true, false, cond, List, [], ◌∷◌, length, refl, ◌∙◌, ap, arith, zero, suc, All, count_by, is_some, nat_le, ◌==◌, ◌&&◌}
use Rattle.world_openings.proofs.Prelude.{All-head, All-tail, Grown, HasSize, Index, Kept, Log, ServerInit, Settings, SourceState, Txn, bare_server}
use Rattle.world_openings.proofs.Prelude.{count_by-le-length, file_start, files-push, flushed_at, flushed_times, history_at, laid, laid_after}
use Rattle.world_openings.proofs.Prelude.{length-push, log_by, logged_by, nat_tests, opened, push, server_of, source_state, sum_by-cons}
use Rattle.world_openings.proofs.Prelude.grown

entries-flushed_times : (n : ℕ) (log : Log) → length (flushed_times n log).entries ≡ length log.entries
entries-flushed_times zero log = refl
entries-flushed_times (suc n) log = entries-flushed_times n log

files-flushed_times : (n : ℕ) (log : Log) → (flushed_times n log).files ≡ log.files + n
files-flushed_times zero log = omega arith
files-flushed_times (suc n) log = let e = files-flushed_times n log in omega arith

Grown-flushed_times : (n : ℕ) (log : Log) → Grown log → Grown (flushed_times n log)
Grown-flushed_times zero log g = g
Grown-flushed_times (suc n) log g = grown.Flushed (flushed_times n log) (Grown-flushed_times n log g)

-- one or nothing
abbrev tick : Bool → ℕ
tick b = cond b 1 0

-- how often a log is flushed from a count on
abbrev from_on : List ℕ → ℕ → ℕ
from_on flushes count = count_by (λ k. nat_le count k) flushes

count-next : (flushes : List ℕ) (count : ℕ) → from_on flushes count ≡ count_by (λ k. k == count) flushes + from_on flushes (count + 1)
count-next [] count = refl
count-next (f ∷ fs) count =
    let split : tick (nat_le count f) ≡ tick (f == count) + tick (nat_le (count + 1) f) = grind (arith, nat_tests) in
    omega (arith, split, count-next fs count, sum_by-cons (λ k. tick (nat_le count k)) f fs, sum_by-cons (λ k. tick (k == count)) f fs, sum_by-cons (λ k. tick (nat_le (count + 1) k)) f fs)

entries-laid_after : (flushes : List ℕ) (count : ℕ) (log : Log) (ts : List Txn) → length (laid_after flushes count log ts).entries ≡ length log.entries + length ts
entries-laid_after flushes count log [] = let e = entries-flushed_times (count_by (λ k. k == count) flushes) log in omega arith
entries-laid_after flushes count log (t ∷ ts) =
    let e = entries-flushed_times (count_by (λ k. k == count) flushes) log in
    let p = length-push (flushed_at flushes count log) t.size in
    let more = entries-laid_after flushes (count + 1) (push (flushed_at flushes count log) t.size) ts in
    omega arith

files-laid_after : (flushes : List ℕ) (count : ℕ) (log : Log) (ts : List Txn) → (laid_after flushes count log ts).files ≤ log.files + length ts + from_on flushes count
files-laid_after flushes count log [] =
    let e = files-flushed_times (count_by (λ k. k == count) flushes) log in let n = count-next flushes count in omega arith
files-laid_after flushes count log (t ∷ ts) =
    let e = files-flushed_times (count_by (λ k. k == count) flushes) log in
    let n = count-next flushes count in
    let p = files-push (flushed_at flushes count log) t.size in
    let more = files-laid_after flushes (count + 1) (push (flushed_at flushes count log) t.size) ts in
    omega arith

Grown-laid_after : (flushes : List ℕ) (count : ℕ) (log : Log) (ts : List Txn) → All HasSize ts → Grown log → Grown (laid_after flushes count log ts)
Grown-laid_after flushes count log [] sized g = Grown-flushed_times (count_by (λ k. k == count) flushes) log g
Grown-laid_after flushes count log (t ∷ ts) sized g =
    let size = All-head HasSize t ts sized in
    Grown-laid_after flushes (count + 1) (push (flushed_at flushes count log) t.size) ts (All-tail HasSize t ts sized)
    (grown.Pushed (flushed_at flushes count log) t.size size.0 (Grown-flushed_times (count_by (λ k. k == count) flushes) log g))

-- the log of a server is as long as its history, or empty, and its files are at most its transactions, its flushes and
-- one
pub record IsLaid (log : Log) (history : List Txn) (flushes : ℕ) : Type 0 where
  pub entries : length log.entries ≤ length history
  pub files : log.files ≤ 1 + length log.entries + flushes
  pub grown : Grown log

pub IsLaid-log_by : (i : ServerInit) (history : List Txn) → All HasSize history → IsLaid (log_by i history) history (length i.flushes)
IsLaid-log_by i history sized = go i.settings.logs
  where
    go : (b : Bool) → IsLaid (cond b (laid i.settings.limit i.flushes history) (opened i.settings.limit)) history (length i.flushes)
    go true = record {
      entries = let e = entries-laid_after i.flushes 0 (opened i.settings.limit) history in omega arith;
      files =
          let e = entries-laid_after i.flushes 0 (opened i.settings.limit) history in
          let f = files-laid_after i.flushes 0 (opened i.settings.limit) history in
          let c = count_by-le-length (λ k. nat_le 0 k) i.flushes in
          omega arith;
      grown = Grown-laid_after i.flushes 0 (opened i.settings.limit) history sized (grown.Opened i.settings.limit);
    }
    go false = record { entries = omega arith; files = omega arith; grown = grown.Opened i.settings.limit }

-- the log of a server that logs is as long as its history
pub entries-log_by : (i : ServerInit) (history : List Txn) → i.settings.logs ≡ true → length (log_by i history).entries ≡ length history
entries-log_by i history on =
    ap (λ b. length (cond b (laid i.settings.limit i.flushes history) (opened i.settings.limit)).entries) on
    ∙ (let e = entries-laid_after i.flushes 0 (opened i.settings.limit) history in omega (arith, e))

-- an index by its parts
pub index-is : (x : Index) (l : Log) (ts : List Txn) (r f : ℕ) → x.log ≡ l → x.txns ≡ ts → x.room ≡ r → x.flushes ≡ f
    → x ≡ record { log = l; txns = ts; room = r; flushes = f }
index-is x l ts r f log txns room flushes =
    ap (λ y. record x { log = y }) log ∙ ap (λ y. record x { log = l; txns = y }) txns
    ∙ ap (λ y. record x { log = l; txns = ts; room = y }) room ∙ ap (λ y. record x { log = l; txns = ts; room = r; flushes = y }) flushes

-- the log of a server that is printed, by all that it has executed
abbrev told_by : Bool → ServerInit → List Txn → ℕ → ℕ → Index
told_by b i history room flushes =
    record { log = cond b (laid i.settings.limit i.flushes history) (opened i.settings.limit); txns = cond b history []; room = room; flushes = flushes }

pub told-log_by : (i : ServerInit) (history : List Txn) (room flushes : ℕ) (x : Index) → x ≡ record { log = laid i.settings.limit i.flushes history; txns = history; room = room; flushes = flushes }
    → cond i.settings.logs x (record x { log = opened i.settings.limit; txns = [] })
    ≡ record { log = log_by i history; txns = logged_by i history; room = room; flushes = flushes }
told-log_by i history room flushes x is =
    ap (λ (y : Index). cond i.settings.logs y (record y { log = opened i.settings.limit; txns = [] })) is ∙ go i.settings.logs
  where
    go : (b : Bool) → cond b (told_by true i history room flushes) (told_by false i history room flushes) ≡ told_by b i history room flushes
    go true = refl
    go false = refl

-- a server by what it is made of
pub bare_server-is : (servers : List ServerInit) (room flushes n : ℕ) (i : ServerInit) (settings : Settings) (x : Index) (source : SourceState) (receiver applier : Bool) → settings ≡ i.settings
    → x ≡ record { log = laid i.settings.limit i.flushes (history_at servers n); txns = history_at servers n; room = room; flushes = flushes - length i.flushes }
    → source ≡ source_state i.detached i.source → receiver ≡ (is_some i.source && i.io) → applier ≡ (is_some i.source && i.sql)
    → server_of (record {
      settings = settings;
      log = x;
      first = i.purged;
      source = source;
      exec = file_start 1;
      read = file_start 1;
      auto = i.auto;
      receiver = receiver;
      applier = applier;
      until = i.until;
      read_only = i.read_only;
      up = i.up;
      desk = i.desk;
      feed = i.feed;
    }) ≡ bare_server servers room flushes n i
bare_server-is servers room flushes n i settings x source receiver applier same is from on off =
    rw (same, from, on, off)
    (ap (λ (h : Kept). record (bare_server servers room flushes n i) { history = h; log = cond i.settings.logs x (record x { log = opened i.settings.limit; txns = [] }) })
    (ap (λ (y : Index). record { txns = y.txns; room = y.room }) is)
    ∙ ap (λ (l : Index). record (bare_server servers room flushes n i) { log = l }) (told-log_by i (history_at servers n) room (flushes - length i.flushes) x is))
