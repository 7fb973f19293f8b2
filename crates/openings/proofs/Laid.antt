-- A log that is laid in one pass.
use Rattle.std.proofs.Common.{◌≡◌, ℕ, ◌+◌, ◌<◌, ◌≤◌, true, false, cond, List, [], ◌∷◌, ◌++◌, length, take, drop, refl, sym, ap, ◌∙◌, append_assoc, arith, suc, zero, get_or, subst, inl, inr, length-append, ◌==◌, ◌||◌, nat_le, nat_lt, count_by, All, slice_index_or}
use Rattle.openings.proofs.Prelude.{Log, SameBehind, ServerInit, Txn, and_parts, bad_flushes, cases_Bool, cases_lt, cases_order, count_of, drop_all}
use Rattle.openings.proofs.Prelude.{drop_more, eq-eqb, falls_or_passes, flush, flushed_at, flushed_times, get_or-drop, laid_after, le-leb, leb-true}
use Rattle.openings.proofs.Prelude.{length-drop, length-take-le, ltb-false, ne_eqb, or_parts, push, rises_from, sum_by-cons, take_all, take_more}
use Rattle.openings.proofs.Joined.{tick}

abbrev pub points_at : ℕ → List ℕ → ℕ
points_at j flushes = count_by (λ k. k == j) flushes

points_at-cons : (j x : ℕ) (xs : List ℕ) → points_at j (x ∷ xs) ≡ tick (x == j) + points_at j xs
points_at-cons j x xs = sum_by-cons (λ k. tick (k == j)) x xs

points_at-here : (j x : ℕ) (xs : List ℕ) → x ≡ j → points_at j (x ∷ xs) ≡ suc (points_at j xs)
points_at-here j x xs e = points_at-cons j x xs ∙ ap (λ n. n + points_at j xs) (ap tick (eq-eqb x j e)) ∙ (let k = points_at j xs in omega arith)

points_at-other : (j x : ℕ) (xs : List ℕ) → (x ≡ j → ⊥) → points_at j (x ∷ xs) ≡ points_at j xs
points_at-other j x xs e = points_at-cons j x xs ∙ ap (λ n. n + points_at j xs) (ap tick (ne_eqb x j e)) ∙ (let k = points_at j xs in omega arith)

-- rising counts from a larger least one are none of the smaller
points_at-below : (j least : ℕ) (xs : List ℕ) → j < least → rises_from least xs ≡ true → points_at j xs ≡ 0
points_at-below j least [] less rises = refl
points_at-below j least (x ∷ xs) less rises =
    let parts = and_parts (nat_le least x) (rises_from x xs) rises in
    let more = leb-true least x parts.0 in
    let later : j < x = omega arith in
    points_at-other j x xs (λ e. omega arith) ∙ points_at-below j x xs later parts.1

-- a flush before others comes to the same
flushed_times-after : (n : ℕ) (log : Log) → flushed_times n (flush log) ≡ flush (flushed_times n log)
flushed_times-after zero log = refl
flushed_times-after (suc n) log = ap flush (flushed_times-after n log)

flushed_at-here : (count x : ℕ) (xs : List ℕ) (log : Log) → x ≡ count → flushed_at (x ∷ xs) count log ≡ flushed_at xs count (flush log)
flushed_at-here count x xs log e = ap (λ n. flushed_times n log) (points_at-here count x xs e) ∙ sym (flushed_times-after (points_at count xs) log)

flushed_at-none : (count least : ℕ) (xs : List ℕ) (log : Log) → count < least → rises_from least xs ≡ true → flushed_at xs count log ≡ log
flushed_at-none count least xs log less rises = ap (λ n. flushed_times n log) (points_at-below count least xs less rises)

-- the flush points at this count, from `next` to `at`, are done
pub record Flushes (flushes : List ℕ) (next count at : ℕ) (before now : Log) : Type 0 where
  pub from : next ≤ at
  pub within : at ≤ length flushes
  pub rises : rises_from count (drop at flushes) ≡ true
  pub log : flushed_at (drop at flushes) count now ≡ flushed_at (drop next flushes) count before
  pub behind : SameBehind count (drop next flushes) (drop at flushes)

pub Flushes-more : (flushes : List ℕ) (next count at : ℕ) (before now : Log) → at < length flushes → get_or flushes at 0 ≡ count → Flushes flushes next count at before now
    → Flushes flushes next count (at + 1) before (flush now)
Flushes-more flushes next count at before now more is f =
    let here : drop at flushes ≡ get_or flushes at 0 ∷ drop (at + 1) flushes = drop_more flushes at 0 more in
    let rest = drop (at + 1) flushes in
    let parts = and_parts (nat_le count (get_or flushes at 0)) (rises_from (get_or flushes at 0) rest) (sym (ap (rises_from count) here) ∙ f.rises) in
    let from = f.from in
    record {
      from = omega arith;
      within = omega arith;
      rises = subst (λ (k : ℕ). rises_from k rest ≡ true) is parts.1;
      log = sym (flushed_at-here count (get_or flushes at 0) rest now is) ∙ ap (λ xs. flushed_at xs count now) (sym here) ∙ f.log;
      behind = record {
        each = λ j h. let apart : get_or flushes at 0 ≡ j → ⊥ = λ e. omega arith in
            sym (points_at-other j (get_or flushes at 0) rest apart) ∙ ap (points_at j) (sym here) ∙ f.behind.each j h;
      };
    }

abbrev none_left : List ℕ
none_left = []

later_than : (n m : ℕ) → n ≤ m → (m ≡ n → ⊥) → n + 1 ≤ m
later_than n m h apart = elim (cases_order n m) [
  | inl same ↦ absurd (apart (sym same))
  | inr (inl less) ↦ omega arith
  | inr (inr more) ↦ omega arith
]

-- nothing more is at this count
pub Flushes-end : (flushes : List ℕ) (next count at : ℕ) (before now : Log) → (at < length flushes → get_or flushes at 0 ≡ count → ⊥) → Flushes flushes next count at before now
    → (now ≡ flushed_at (drop next flushes) count before) × (rises_from (count + 1) (drop at flushes) ≡ true)
Flushes-end flushes next count at before now apart f = elim (cases_lt at (length flushes)) [
  | inl more ↦ (
      let here : drop at flushes ≡ get_or flushes at 0 ∷ drop (at + 1) flushes = drop_more flushes at 0 more in
      let rest = drop (at + 1) flushes in
      let parts = and_parts (nat_le count (get_or flushes at 0)) (rises_from (get_or flushes at 0) rest) (sym (ap (rises_from count) here) ∙ f.rises) in
      let least = leb-true count (get_or flushes at 0) parts.0 in
      let later : count + 1 ≤ get_or flushes at 0 = later_than count (get_or flushes at 0) least (apart more) in
      let low : nat_le (count + 1) (get_or flushes at 0) ≡ true = le-leb (count + 1) (get_or flushes at 0) later in
      let rises : rises_from (count + 1) (drop at flushes) ≡ true = ap (rises_from (count + 1)) here ∙ rw low parts.1 in
      (sym (flushed_at-none count (count + 1) (drop at flushes) now (omega arith) rises) ∙ f.log, rises))
  | inr past ↦ (
      let none : drop at flushes ≡ none_left = drop_all at flushes past in
      (sym (ap (λ xs. flushed_at xs count now) none) ∙ f.log, ap (rises_from (count + 1)) none))
]

-- only the flush points from a count on matter
pub laid_after-same : (xs ys : List ℕ) (count : ℕ) (log : Log) (ts : List Txn) → ((j : ℕ) → count ≤ j → points_at j xs ≡ points_at j ys) → laid_after xs count log ts ≡ laid_after ys count log ts
laid_after-same xs ys count log [] same = ap (λ n. flushed_times n log) (same count (omega arith))
laid_after-same xs ys count log (t ∷ ts) same =
    ap (λ l. laid_after xs (count + 1) (push l t.size) ts) (ap (λ n. flushed_times n log) (same count (omega arith)))
    ∙ laid_after-same xs ys (count + 1) (push (flushed_at ys count log) t.size) ts (λ j h. same j (omega arith))

-- one transaction more, after the flush points at this count
pub laid_after-on : (xs ys : List ℕ) (count : ℕ) (log now : Log) (t : Txn) (ts : List Txn) → now ≡ flushed_at xs count log → SameBehind count xs ys
    → laid_after ys (count + 1) (push now t.size) ts ≡ laid_after xs count log (t ∷ ts)
laid_after-on xs ys count log now t ts is behind =
    laid_after-same ys xs (count + 1) (push now t.size) ts (λ j h. behind.each j (omega arith)) ∙ ap (λ l. laid_after xs (count + 1) (push l t.size) ts) is

-- flush points that don't fall rise
pub rises-from_good : (bound least : ℕ) (xs : List ℕ) → falls_or_passes bound least xs ≡ false → rises_from least xs ≡ true
rises-from_good bound least [] h = refl
rises-from_good bound least (x ∷ xs) h =
    let both = or_parts (nat_lt x least || nat_lt bound x) (falls_or_passes bound x xs) h in
    let low = or_parts (nat_lt x least) (nat_lt bound x) both.0 in
    let at_least : nat_le least x ≡ true = le-leb least x (ltb-false x least low.0) in
    rw at_least (rises-from_good bound x xs both.1)

pub within-from_good : (bound least : ℕ) (xs : List ℕ) → falls_or_passes bound least xs ≡ false → All (λ k. k ≤ bound) xs
within-from_good bound least [] h = λ k d l. absurd (omega arith)
within-from_good bound least (x ∷ xs) h =
    let both = or_parts (nat_lt x least || nat_lt bound x) (falls_or_passes bound x xs) h in
    each (ltb-false bound x (or_parts (nat_lt x least) (nat_lt bound x) both.0).1) (within-from_good bound x xs both.1)
  where
    each : x ≤ bound → All (λ k. k ≤ bound) xs → (k d : ℕ) → k < suc (length xs) → slice_index_or (x ∷ xs) k d ≤ bound
    each here rest zero d l = here
    each here rest (suc k) d l = rest k d (omega arith)

-- rising counts above a bound are none, if all are within it
pub none_behind : (bound : ℕ) (xs : List ℕ) → rises_from (bound + 1) xs ≡ true → All (λ k. k ≤ bound) xs → length xs ≡ 0
none_behind bound [] rises all = refl
none_behind bound (x ∷ xs) rises all =
    let least = leb-true (bound + 1) x (and_parts (nat_le (bound + 1) x) (rises_from x xs) rises).0 in
    let most : x ≤ bound = all 0 0 (omega arith) in absurd (omega arith)

-- so many transactions of a history are laid, with the flush points before this one
pub record Lays (flushes : List ℕ) (history : List Txn) (next count : ℕ) (before now : Log) : Type 0 where
  pub within : next ≤ length flushes
  pub rises : rises_from count (drop next flushes) ≡ true
  pub log : laid_after (drop next flushes) count now (drop count history) ≡ laid_after flushes 0 before history

pub Lays-more : (flushes : List ℕ) (history : List Txn) (next at count : ℕ) (before now flushed : Log) (t : Txn) → drop count history ≡ t ∷ drop (count + 1) history → Lays flushes history next count before now
    → flushed ≡ flushed_at (drop next flushes) count now → SameBehind count (drop next flushes) (drop at flushes) → at ≤ length flushes → rises_from (count + 1) (drop at flushes) ≡ true
    → Lays flushes history at (count + 1) before (push flushed t.size)
Lays-more flushes history next at count before now flushed t here lays is behind within rises = record {
  within = within;
  rises = rises;
  log = laid_after-on (drop next flushes) (drop at flushes) count now flushed t (drop (count + 1) history) is behind ∙ ap (laid_after (drop next flushes) count now) (sym here) ∙ lays.log;
}

abbrev no_more : List Txn
no_more = []

pub Lays-all : (flushes : List ℕ) (history : List Txn) (next : ℕ) (before now flushed : Log) → Lays flushes history next (length history) before now
    → flushed ≡ flushed_at (drop next flushes) (length history) now → flushed ≡ laid_after flushes 0 before history
Lays-all flushes history next before now flushed lays is =
    let none : drop (length history) history ≡ no_more = drop_all (length history) history (omega arith) in
    is ∙ ap (laid_after (drop next flushes) (length history) now) (sym none) ∙ lays.log

-- all flush points are done if none is after the history
pub all_flushed : (flushes : List ℕ) (count at : ℕ) → at ≤ length flushes → rises_from (count + 1) (drop at flushes) ≡ true → All (λ k. k ≤ count) flushes → at ≡ length flushes
all_flushed flushes count at within rises all =
    let rest : All (λ k. k ≤ count) (drop at flushes) = λ k d l. let size = length-drop at flushes in let inside : at + k < length flushes = omega arith in
    subst (λ n. n ≤ count) (sym (get_or-drop at flushes k d)) (all (at + k) d inside) in
    let none = none_behind count (drop at flushes) rises rest in
    let size = length-drop at flushes in omega arith

good_logged : (i : ServerInit) → i.settings.logs ≡ true → bad_flushes i ≡ false → falls_or_passes (count_of i) 0 i.flushes ≡ false
good_logged i logs good = sym (ap (λ b. cond b (falls_or_passes (count_of i) 0 i.flushes) (nat_lt 0 (length i.flushes))) logs) ∙ good

good_silent : (i : ServerInit) → i.settings.logs ≡ false → bad_flushes i ≡ false → length i.flushes ≡ 0
good_silent i silent good =
    let none : nat_lt 0 (length i.flushes) ≡ false = sym (ap (λ b. cond b (falls_or_passes (count_of i) 0 i.flushes) (nat_lt 0 (length i.flushes))) silent) ∙ good in
    let h = ltb-false 0 (length i.flushes) none in omega arith

-- flush points that are not bad rise, and none is after the history
pub good-points : (i : ServerInit) → bad_flushes i ≡ false → (rises_from 0 i.flushes ≡ true) × All (λ k. k ≤ count_of i) i.flushes
good-points i good = elim (cases_Bool i.settings.logs) [
  | inl logs ↦ (rises-from_good (count_of i) 0 i.flushes (good_logged i logs good), within-from_good (count_of i) 0 i.flushes (good_logged i logs good))
  | inr silent ↦ no_points i.flushes (good_silent i silent good)
]
  where
    no_points : (xs : List ℕ) → length xs ≡ 0 → (rises_from 0 xs ≡ true) × All (λ k. k ≤ count_of i) xs
    no_points [] none = (refl, λ k d l. absurd (omega arith))
    no_points (x ∷ xs) none = absurd (omega arith)

-- so many transactions of the history are in the log, then one more, and at the end all
pub txns-count : (history before now : List Txn) (count : ℕ) → count < length history → now ≡ before ++ take count history → length now ≡ length before + count
txns-count history before now count within is =
    let size = length-take-le count history (omega arith) in
    ap length is ∙ length-append before (take count history) ∙ ap (λ n. length before + n) size

pub txns-more : (history before now after : List Txn) (count : ℕ) (d : Txn) → count < length history → now ≡ before ++ take count history → after ≡ now
    → after ++ get_or history count d ∷ [] ≡ before ++ take (count + 1) history
txns-more history before now after count d within is same =
    ap (λ xs. xs ++ get_or history count d ∷ []) (same ∙ is) ∙ append_assoc before (take count history) (get_or history count d ∷ [])
    ∙ ap (λ xs. before ++ xs) (sym (take_more history count d within))

pub txns-all : (history before now : List Txn) (count : ℕ) → count ≡ length history → now ≡ before ++ take count history → now ≡ before ++ history
txns-all history before now count end is = is ∙ ap (λ xs. before ++ xs) (take_all count history (omega arith))
