-- What is kept of the servers stays right as one executes one more transaction.
use Rattle.std.proofs.Common.{◌≡◌, ℕ, ◌+◌, ◌<◌, ◌≤◌, Bool, true, false, cond, List, [], ◌∷◌, ◌++◌, length, length-append, sym, ◌∙◌, ap, Some, arith, get_or, slice_get, slice_set, nat_eq}
use Rattle.server_model.proofs.Prelude.{All-push, Coord, Grown, HasPlaces, HasSize, Index, IsFit, IsKept, IsNumbered, Server, Txn, count_own}
use Rattle.server_model.proofs.Prelude.{mul-le-mul_right, own_counts, own_txn, place, push, slice_get-get_or, slice_get_within, source_no}
use Rattle.server_model.proofs.Prelude.{stable_push, sum_by-le, sum_by_push, took}
use Rattle.server_model.proofs.Prelude.grown
use Rattle.server_model.proofs.Keeps.{IsChange, IsKept-with}
use Rattle.server_model.proofs.LogSizes.{length-push, files-push}
use Rattle.server_model.proofs.OwnCounts.{own-at, own-few, own-set}
use Rattle.server_model.proofs.PurgedFiles.{KeepsFrom-took}

module _ (s : Server) (t : Txn) (to : Coord) (fit : IsFit s) (some : 0 < t.size) (size : t.size ≤ 1000000) (room : length s.history.txns < s.history.room) where
  -- of a log that took the transaction, and of one that didn't because the server doesn't log
  by_logs : (P : Index → Type 0) → P (record s.log { log = push s.log.log t.size; txns = s.log.txns ++ t ∷ [] }) → P s.log → P (took s t).log
  by_logs P logged unlogged = go s.settings.logs
    where
      go : (b : Bool) → P (cond b (record s.log { log = push s.log.log t.size; txns = s.log.txns ++ t ∷ [] }) s.log)
      go true = logged
      go false = unlogged

  longer : length (s.history.txns ++ t ∷ []) ≡ length s.history.txns + 1
  longer = length-append s.history.txns (t ∷ [])

  pub IsFit-took : IsFit (record (took s t) { exec = to })
  IsFit-took = record {
    high = fit.high;
    room = by_logs (λ i. s.history.room ≤ i.room) fit.room fit.room;
    within = let e = longer in omega arith;
    entries = by_logs (λ i. length i.log.entries ≤ length (s.history.txns ++ t ∷ []))
        (let e = longer in let f = length-push s.log.log t.size in let g = fit.entries in omega arith)
        (let e = longer in let g = fit.entries in omega arith);
    sizes = All-push HasSize s.history.txns t fit.sizes (some, size);
    grown = by_logs (λ i. Grown i.log) (grown.Pushed s.log.log t.size some fit.grown) fit.grown;
    files = by_logs (λ i. i.log.files + i.flushes ≤ 4000001 + length i.log.entries)
        (let e = length-push s.log.log t.size in let f = files-push s.log.log t.size in let g = fit.files in omega arith)
        fit.files;
    kept = KeepsFrom-took s t fit.kept;
  }

  -- the change that the transaction makes, if both coordinates have places then
  pub IsChange-took : (servers : List Server) (n before after : ℕ) → after ≤ before + 1
      → ((m : ℕ) (u : Server) → source_no s.source ≡ Some m → slice_get servers m ≡ Some u → HasPlaces s u → HasPlaces (record s { exec = to }) u)
      → IsChange servers n s (record (took s t) { exec = to }) before after
  IsChange-took servers n before after few places = record {
    source = λ m h. h;
    stable = by_logs (λ i. (c : Coord) (k : ℕ) → place s.log.log c ≡ Some k → place i.log c ≡ Some k)
        (λ c k h. stable_push s.log.log t.size c k fit.grown some h)
        (λ c k h. h);
    fit = IsFit-took;
    places = λ m u from at old. let moved = places m u from at old in record { exec = moved.exec; read = moved.read };
    errant = let e = longer in omega arith;
  }

-- how many of its own a server has, with one more transaction
pub count_own-push : (n : ℕ) (txns : List Txn) (t : Txn) → count_own n (txns ++ t ∷ []) ≡ count_own n txns + cond (nat_eq t.origin.0 n) 1 0
count_own-push n txns t = sum_by_push (λ (x : Txn). cond (nat_eq x.origin.0 n) 1 0) txns t

-- the counts with one more transaction of a server, which is its own or not
pub own-took : (servers : List Server) (own : List ℕ) (n k more : ℕ) (s : Server) (t : Txn) (to : Coord) → own ≡ own_counts servers
    → slice_get servers n ≡ Some s → slice_get own n ≡ Some k → more ≡ cond (nat_eq t.origin.0 n) 1 0
    → slice_set own n (k + more) ≡ own_counts (slice_set servers n (record (took s t) { exec = to }))
own-took servers own n k more s t to is here at one =
    own-set servers own n (k + more) (record (took s t) { exec = to }) is
    (ap (λ (j : ℕ). j + more) (own-at servers own n k s is here at) ∙ ap (λ (m : ℕ). count_own n s.history.txns + m) one
    ∙ sym (count_own-push n s.history.txns t))

-- a write keeps what is kept
pub IsKept-write : (servers : List Server) (before after n : ℕ) (s : Server) (t : Txn) → IsKept servers before
    → slice_get servers n ≡ Some s → length s.history.txns < s.history.room → 0 < t.size → t.size ≤ 1000000 → after ≤ before + 1
    → IsKept (slice_set servers n (took s t)) after
IsKept-write servers before after n s t kept here room some few rise =
    IsKept-with servers before after n s (took s t) kept here
    (IsChange-took s t s.exec (kept.fit n s here) some few room servers n before after rise (λ m u from at old. old))

-- the count of errant writes stays small
pub errant-small : (servers : List Server) (errant : ℕ) → IsKept servers errant → errant ≤ 4000000000
errant-small servers errant kept =
    let a = kept.errant_few in let b = kept.few in
    let short : (k : ℕ) (d : Server) → k < length servers → length (get_or servers k d).history.txns ≤ 4000000
    = λ k d h. let fit = kept.fit k (get_or servers k d) (slice_get-get_or servers k d h) in let e = fit.high in let f = fit.within in omega arith in
    let sum = sum_by-le (λ (s : Server). length s.history.txns) 4000000 servers short in
    omega (arith, mul-le-mul_right 4000000 b)

-- a server's next own transaction has a GTID
pub own-numbered : (servers : List Server) (n k size : ℕ) (s : Server) → IsFit s → slice_get servers n ≡ Some s → k ≡ count_own n s.history.txns
    → length s.history.txns < s.history.room → IsNumbered (length servers) (own_txn n (k + 1) size)
own-numbered servers n k size s fit here count room =
    let a = fit.high in
    let few = own-few n k s count in
    let within = slice_get_within servers n s here in
    record { origin = within; some = omega arith; few = omega arith }
