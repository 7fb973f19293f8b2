-- A log is laid again from its history and its flush points.
use Rattle.std.proofs.Common.{◌≡◌, ◌∙◌, ◌==◌, ◌||◌, ℕ, ◌+◌, ◌-◌, ◌<◌, ◌≤◌, Bool, true, false, cond, List, [], ◌∷◌, ◌++◌, length, replicate, refl, sym, ap, subst, arith, add-zero, append_assoc, length-append, zero, suc, nat_le, nat_lt, count_by}
use Rattle.read_back_laws.proofs.Prelude.{Entry, Flushed, LaysOut, Log, Took, Txn, append-nil, appended, entry_at_end, eq-eqb, falls_or_passes, file_behind}
use Rattle.read_back_laws.proofs.Prelude.{flush, flush_points, flushed_at, flushed_from, flushed_times, laid, laid_after, le-ltb, length-push, ltb-false}
use Rattle.read_back_laws.proofs.Prelude.{ne_eqb, opened, or_from, or_parts, push, replicate-append-replicate, sum_by-cons, sum_by_push}
use Rattle.server_model.specs.Layout.{Opened}

-- the flush points of a log by its own limit
abbrev pub own_points : Log → List ℕ
own_points log = flush_points log.limit log

-- ---- flush points of longer logs

-- the file in which a log goes on after these transactions, if it goes on in `file` before them
abbrev goes_on : ℕ → ℕ → List Entry → ℕ
goes_on limit file [] = file
goes_on limit file (e ∷ es) = goes_on limit (file_behind limit e) es

-- the flush points before the last transaction
abbrev inner : ℕ → ℕ → ℕ → List Entry → List ℕ
inner limit count file [] = []
inner limit count file (e ∷ es) = replicate (e.file - file) count ++ inner limit (count + 1) (file_behind limit e) es

flushed_from-inner : (limit files count file : ℕ) (es : List Entry) → flushed_from limit files count file es ≡ inner limit count file es ++ replicate (files - goes_on limit file es) (count + length es)
flushed_from-inner limit files count file [] = ap (λ k. replicate (files - file) k) (sym (add-zero count))
flushed_from-inner limit files count file (e ∷ es) =
    let last : count + 1 + length es ≡ count + suc (length es) = omega arith in
    let here = replicate (e.file - file) count in
    let rest = inner limit (count + 1) (file_behind limit e) es in
    let behind = files - goes_on limit (file_behind limit e) es in
    ap (λ xs. here ++ xs) (flushed_from-inner limit files (count + 1) (file_behind limit e) es)
    ∙ sym (append_assoc here rest (replicate behind (count + 1 + length es)))
    ∙ ap (λ k. (here ++ rest) ++ replicate behind k) last

inner-push : (limit count file : ℕ) (es : List Entry) (e : Entry) → inner limit count file (es ++ e ∷ []) ≡ inner limit count file es ++ replicate (e.file - goes_on limit file es) (count + length es)
inner-push limit count file [] e = append-nil (replicate (e.file - file) count) ∙ ap (λ k. replicate (e.file - file) k) (sym (add-zero count))
inner-push limit count file (d ∷ ds) e =
    let last : count + 1 + length ds ≡ count + suc (length ds) = omega arith in
    let here = replicate (d.file - file) count in
    let rest = inner limit (count + 1) (file_behind limit d) ds in
    let behind = e.file - goes_on limit (file_behind limit d) ds in
    ap (λ xs. here ++ xs) (inner-push limit (count + 1) (file_behind limit d) ds e)
    ∙ sym (append_assoc here rest (replicate behind (count + 1 + length ds)))
    ∙ ap (λ k. (here ++ rest) ++ replicate behind k) last

goes_on-push : (limit file : ℕ) (es : List Entry) (e : Entry) → goes_on limit file (es ++ e ∷ []) ≡ file_behind limit e
goes_on-push limit file [] e = refl
goes_on-push limit file (d ∷ ds) e = goes_on-push limit (file_behind limit d) ds e

-- the flush points of a log before its last transaction, and those after it
own_points-inner : (log : Log) → own_points log ≡ inner log.limit 0 1 log.entries ++ replicate (log.files - goes_on log.limit 1 log.entries) (length log.entries)
unfolding flush_points
own_points-inner log =
    let none : 0 + length log.entries ≡ length log.entries = omega arith in
    flushed_from-inner log.limit log.files 0 1 log.entries
    ∙ ap (λ k. inner log.limit 0 1 log.entries ++ replicate (log.files - goes_on log.limit 1 log.entries) k) none

pub own_points-opened : (limit : ℕ) → own_points (opened limit) ≡ []
unfolding flush_points
own_points-opened limit = refl

-- after a transaction that begins no file except by its size no flush point is
last-flushed : (log longer : Log) (size : ℕ) → longer.limit ≡ log.limit → longer.entries ≡ log.entries ++ entry_at_end log size ∷ [] → longer.files ≡ file_behind log.limit (entry_at_end log size)
    → own_points longer ≡ own_points log
last-flushed log longer size limit entries files =
    let e = entry_at_end log size in
    let before = inner log.limit 0 1 log.entries in
    let last : longer.files - goes_on longer.limit 1 longer.entries ≡ 0 =
    let on : goes_on longer.limit 1 longer.entries ≡ file_behind log.limit e = ap (λ l. goes_on l 1 longer.entries) limit ∙ ap (goes_on log.limit 1) entries ∙ goes_on-push log.limit 1 log.entries e in
    omega (arith, on, files) in
    own_points-inner longer
    ∙ ap (λ n. inner longer.limit 0 1 longer.entries ++ replicate n (length longer.entries)) last
    ∙ append-nil (inner longer.limit 0 1 longer.entries)
    ∙ ap (λ l. inner l 0 1 longer.entries) limit ∙ ap (inner log.limit 0 1) entries ∙ inner-push log.limit 0 1 log.entries e
    ∙ ap (λ k. before ++ replicate (log.files - goes_on log.limit 1 log.entries) k) (zero_add (length log.entries))
    ∙ sym (own_points-inner log)
  where
    zero_add : (n : ℕ) → 0 + n ≡ n
    zero_add n = omega arith

pub own_points-push : (log : Log) (size : ℕ) → own_points (push log size) ≡ own_points log
own_points-push log size = go (nat_le log.limit (log.pos + size)) refl
  where
    go : (b : Bool) → nat_le log.limit (log.pos + size) ≡ b → own_points (cond b (flush (appended log size)) (appended log size)) ≡ own_points log
    go true e = last-flushed log (flush (appended log size)) size refl refl (ap (λ b. cond b (log.files + 1) log.files) (sym e))
    go false e = last-flushed log (appended log size) size refl refl (ap (λ b. cond b (log.files + 1) log.files) (sym e))

-- the last transaction of a log lies no further than its last file
Reaches-last : (history : List Txn) (log : Log) → LaysOut history log → goes_on log.limit 1 log.entries ≤ log.files
Reaches-last history log (Opened limit) = omega arith
Reaches-last history log (Took old before t some l) = go (nat_le before.limit (before.pos + t.size)) refl
  where
    go : (b : Bool) → nat_le before.limit (before.pos + t.size) ≡ b
        → let longer = cond b (flush (appended before t.size)) (appended before t.size) in goes_on longer.limit 1 longer.entries ≤ longer.files
    go true e =
        let on = goes_on-push before.limit 1 before.entries (entry_at_end before t.size) in
        let file : file_behind before.limit (entry_at_end before t.size) ≡ before.files + 1 = ap (λ b. cond b (before.files + 1) before.files) e in
        omega (arith, on, file)
    go false e =
        let on = goes_on-push before.limit 1 before.entries (entry_at_end before t.size) in
        let file : file_behind before.limit (entry_at_end before t.size) ≡ before.files = ap (λ b. cond b (before.files + 1) before.files) e in
        omega (arith, on, file)
Reaches-last history log (Flushed history' before l) = let least = Reaches-last history' before l in omega arith

pub own_points-flush : (history : List Txn) (log : Log) → LaysOut history log → own_points (flush log) ≡ own_points log ++ length log.entries ∷ []
own_points-flush history log l =
    let k = length log.entries in
    let before = inner log.limit 0 1 log.entries in
    let on = goes_on log.limit 1 log.entries in
    let least : on ≤ log.files = Reaches-last history log l in
    let more : log.files + 1 - on ≡ (log.files - on) + 1 = omega arith in
    own_points-inner (flush log)
    ∙ ap (λ n. before ++ replicate n k) more
    ∙ ap (λ xs. before ++ xs) (sym (replicate-append-replicate (log.files - on) 1 k))
    ∙ sym (append_assoc before (replicate (log.files - on) k) (k ∷ []))
    ∙ ap (λ xs. xs ++ k ∷ []) (sym (own_points-inner log))

-- ---- flush points rise, and none passes the number of transactions

falls-weaker : (bound least less : ℕ) (xs : List ℕ) → less ≤ least → falls_or_passes bound least xs ≡ false → falls_or_passes bound less xs ≡ false
falls-weaker bound least less [] low h = refl
falls-weaker bound least less (x ∷ xs) low h =
    let parts = or_parts (nat_lt x least || nat_lt bound x) (falls_or_passes bound x xs) h in
    let here = or_parts (nat_lt x least) (nat_lt bound x) parts.0 in
    let more = ltb-false x least here.0 in
    or_from (nat_lt x less || nat_lt bound x) (falls_or_passes bound x xs)
    (or_from (nat_lt x less) (nat_lt bound x) (le-ltb x less (omega arith)) here.1) parts.1

falls-replicate : (bound least k n : ℕ) (xs : List ℕ) → least ≤ k → k ≤ bound → falls_or_passes bound k xs ≡ false → falls_or_passes bound least (replicate n k ++ xs) ≡ false
falls-replicate bound least k zero xs low high h = falls-weaker bound k least xs low h
falls-replicate bound least k (suc n) xs low high h =
    or_from (nat_lt k least || nat_lt bound k) (falls_or_passes bound k (replicate n k ++ xs))
    (or_from (nat_lt k least) (nat_lt bound k) (le-ltb k least low) (le-ltb bound k high))
    (falls-replicate bound k k n xs (omega arith) high h)

falls-flushed_from : (bound least limit files count file : ℕ) (es : List Entry) → least ≤ count → count + length es ≤ bound → falls_or_passes bound least (flushed_from limit files count file es) ≡ false
falls-flushed_from bound least limit files count file [] low high =
    subst (λ xs. falls_or_passes bound least xs ≡ false) (append-nil (replicate (files - file) count))
    (falls-replicate bound least count (files - file) [] low (omega arith) refl)
falls-flushed_from bound least limit files count file (e ∷ es) low high =
    falls-replicate bound least count (e.file - file) (flushed_from limit files (count + 1) (file_behind limit e) es) low (omega arith)
    (falls-flushed_from bound count limit files (count + 1) (file_behind limit e) es (omega arith) (omega arith))

pub falls-own_points : (log : Log) (bound : ℕ) → length log.entries ≤ bound → falls_or_passes bound 0 (own_points log) ≡ false
unfolding flush_points
falls-own_points log bound few = falls-flushed_from bound 0 log.limit log.files 0 1 log.entries (omega arith) (omega arith)

-- ---- laying

-- one or nothing
abbrev tick : Bool → ℕ
tick b = cond b 1 0

-- how often a count is listed
abbrev times : List ℕ → ℕ → ℕ
times fs j = count_by (λ k. k == j) fs

-- no count above the bound is listed
times-above : (bound least j : ℕ) (xs : List ℕ) → bound < j → falls_or_passes bound least xs ≡ false → times xs j ≡ 0
times-above bound least j [] above h = refl
times-above bound least j (x ∷ xs) above h =
    let parts = or_parts (nat_lt x least || nat_lt bound x) (falls_or_passes bound x xs) h in
    let high = ltb-false bound x (or_parts (nat_lt x least) (nat_lt bound x) parts.0).1 in
    let other : tick (x == j) ≡ 0 = ap tick (ne_eqb x j (λ e. omega arith)) in
    let rest = times-above bound x j xs above parts.1 in
    omega (arith, sum_by-cons (λ k. tick (k == j)) x xs, other, rest)

times-push : (fs : List ℕ) (k j : ℕ) → times (fs ++ k ∷ []) j ≡ times fs j + tick (k == j)
times-push fs k j = sum_by_push (λ x. tick (x == j)) fs k

laid_after-push : (fs : List ℕ) (count : ℕ) (log : Log) (ts : List Txn) (t : Txn) → laid_after fs count log (ts ++ t ∷ []) ≡ flushed_at fs (count + length ts + 1) (push (laid_after fs count log ts) t.size)
laid_after-push fs count log [] t =
    let same : count + 1 ≡ count + 0 + 1 = omega arith in
    ap (λ k. flushed_at fs k (push (flushed_at fs count log) t.size)) same
laid_after-push fs count log (u ∷ us) t =
    let same : count + 1 + length us + 1 ≡ count + suc (length us) + 1 = omega arith in
    let now = push (flushed_at fs count log) u.size in
    laid_after-push fs (count + 1) now us t ∙ ap (λ k. flushed_at fs k (push (laid_after fs (count + 1) now us) t.size)) same

laid_after-flush : (fs : List ℕ) (count k : ℕ) (log : Log) (ts : List Txn) → k ≡ count + length ts → laid_after (fs ++ k ∷ []) count log ts ≡ flush (laid_after fs count log ts)
laid_after-flush fs count k log [] is =
    let here : tick (k == count) ≡ 1 = ap tick (eq-eqb k count (omega arith)) in
    let more : times (fs ++ k ∷ []) count ≡ suc (times fs count) = omega (arith, times-push fs k count, here) in
    ap (λ n. flushed_times n log) more
laid_after-flush fs count k log (t ∷ ts) is =
    let other : tick (k == count) ≡ 0 = ap tick (ne_eqb k count (λ e. omega arith)) in
    let none : times (fs ++ k ∷ []) count ≡ times fs count = omega (arith, times-push fs k count, other) in
    ap (λ n. laid_after (fs ++ k ∷ []) (count + 1) (push (flushed_times n log) t.size) ts) none
    ∙ laid_after-flush fs (count + 1) k (push (flushed_at fs count log) t.size) ts (omega arith)

pub push-limit : (log : Log) (size : ℕ) → (push log size).limit ≡ log.limit
push-limit log size = go (nat_le log.limit (log.pos + size))
  where
    go : (b : Bool) → (cond b (flush (appended log size)) (appended log size)).limit ≡ log.limit
    go true = refl
    go false = refl

-- the log of a history has its transactions
pub entries-laid : (history : List Txn) (log : Log) → LaysOut history log → length log.entries ≡ length history
entries-laid history log (Opened limit) = refl
entries-laid history log (Took old before t some l) =
    let more = entries-laid old before l in
    length-push before t.size ∙ ap (λ k. k + 1) more ∙ sym (length-append old (t ∷ []))
entries-laid history log (Flushed history' before l) = entries-laid history' before l

-- a log is what is laid from its history and its flush points
pub laid-own_points : (history : List Txn) (log : Log) → LaysOut history log → laid log.limit (own_points log) history ≡ log
laid-own_points history log (Opened limit) = ap (λ fs. laid limit fs []) (own_points-opened limit)
laid-own_points history log (Took old before t some l) =
    let fs = own_points before in
    let count = entries-laid old before l in
    let none : times fs (0 + length old + 1) ≡ 0 = times-above (length before.entries) 0 (0 + length old + 1) fs (omega arith) (falls-own_points before (length before.entries) (omega arith)) in
    ap (λ limit. laid limit (own_points (push before t.size)) (old ++ t ∷ [])) (push-limit before t.size)
    ∙ ap (λ xs. laid before.limit xs (old ++ t ∷ [])) (own_points-push before t.size)
    ∙ laid_after-push fs 0 (opened before.limit) old t
    ∙ ap (λ n. flushed_times n (push (laid before.limit fs old) t.size)) none
    ∙ ap (λ x. push x t.size) (laid-own_points old before l)
laid-own_points history log (Flushed history' before l) =
    let fs = own_points before in
    ap (λ xs. laid before.limit xs history') (own_points-flush history' before l)
    ∙ laid_after-flush fs 0 (length before.entries) (opened before.limit) history' (let count = entries-laid history' before l in omega arith)
    ∙ ap flush (laid-own_points history' before l)
