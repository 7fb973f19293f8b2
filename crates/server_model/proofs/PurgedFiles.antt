-- What is in the purged files of a server's log, and that it stays the same as the log grows.
use Rattle.std.proofs.Common.{◌≡◌, ℕ, ◌+◌, ◌-◌, ◌<◌, ◌≤◌, Bool, true, false, cond, List, [], ◌∷◌, ◌++◌, length, refl, sym, ◌∙◌, ap, Some, arith, take, drop}
use Rattle.std.specs.Prelude.{◌||◌, count_by, slice_range, unwrap_or}
use Rattle.server_model.proofs.Prelude.{Coord, IsFit, KeepsFrom, Log, Server, Txn, drop-take, ends_by, false≢true, file_start, has_place}
use Rattle.server_model.proofs.Prelude.{is_at_or_before, is_file_start, list_any, nat_tests, place, place-from, place-monotone, place-within}
use Rattle.server_model.proofs.Prelude.{purged_len, purged_txns, push, rotated, stable_flush, stable_push, take-append-drop, take-append-le}
use Rattle.server_model.proofs.Prelude.{take-take, took, touches}
use Rattle.server_model.proofs.LogSizes.{files-rise}

-- the start of each file has a place
pub has_place-file_start : (log : Log) (file : ℕ) → 1 ≤ file → file ≤ log.files → has_place log (file_start file) ≡ true
has_place-file_start log file low high =
    let is : is_file_start log (file_start file) ≡ true = grind (arith, nat_tests) in
    ap (λ b. b || list_any (touches (file_start file)) log.entries) is

pub place-file_start : (log : Log) (file : ℕ) → 1 ≤ file → file ≤ log.files → (k : ℕ) × (place log (file_start file) ≡ Some k)
place-file_start log file low high =
    let k = count_by (ends_by (file_start file)) log.entries in
    (k, place-from log (file_start file) k (has_place-file_start log file low high) refl)

pub starts-ordered : (a b : ℕ) → a ≤ b → is_at_or_before (file_start a) (file_start b) ≡ true
starts-ordered a b h = grind (arith, nat_tests)

pub purged_len-is : (s : Server) (k : ℕ) → place s.log.log (file_start s.first) ≡ Some k → purged_len s ≡ k
purged_len-is s k p = ap (λ o. unwrap_or o 0) p

-- the place of the first kept file's start
pub purged-place : (s : Server) → 1 ≤ s.first → s.first ≤ s.log.log.files → place s.log.log (file_start s.first) ≡ Some (purged_len s)
purged-place s low high =
    let p = place-file_start s.log.log s.first low high in
    p.1 ∙ ap Some (sym (purged_len-is s p.0 p.1))

-- no more is purged than there is
pub purged_len-few : (s : Server) → 1 ≤ s.first → s.first ≤ s.log.log.files → purged_len s ≤ length s.log.log.entries
purged_len-few s low high = place-within s.log.log (file_start s.first) (purged_len s) (purged-place s low high)

pub purged_len-within : (s : Server) → IsFit s → purged_len s ≤ length s.history.txns
purged_len-within s fit =
    let few = purged_len-few s fit.kept.low fit.kept.high in
    let entries = fit.entries in
    omega arith

-- a server whose log is kept from this file on
abbrev pub from_file : ℕ → Server → Server
from_file first s = record s { first = first }

-- what is purged then and wasn't before
abbrev pub newly_purged : ℕ → Server → List Txn
newly_purged first s = slice_range s.history.txns (purged_len s) (purged_len (from_file first s))

-- a later first file leaves no fewer
pub purged_len-rises : (s : Server) (first : ℕ) → 1 ≤ s.first → s.first ≤ first → first ≤ s.log.log.files → purged_len s ≤ purged_len (from_file first s)
purged_len-rises s first low more high =
    place-monotone s.log.log (file_start s.first) (file_start first) (purged_len s) (purged_len (from_file first s)) (starts-ordered s.first first more)
    (purged-place s low (omega arith)) (purged-place (from_file first s) (omega arith) high)

pub purged_len-later : (s : Server) (first : ℕ) → IsFit s → s.first ≤ first → first ≤ s.log.log.files → purged_len (from_file first s) ≤ length s.history.txns
purged_len-later s first fit more high =
    let low = fit.kept.low in
    let few = purged_len-few (from_file first s) (omega arith) high in
    let entries = fit.entries in
    omega arith

-- as the log grows

pub KeepsFrom-took : (s : Server) (t : Txn) → KeepsFrom s.settings.logs s.log.log s.first → KeepsFrom s.settings.logs (took s t).log.log s.first
KeepsFrom-took s t kept = go s.settings.logs refl
  where
    go : (b : Bool) → s.settings.logs ≡ b → KeepsFrom s.settings.logs (cond b (record s.log { log = push s.log.log t.size; txns = s.log.txns ++ t ∷ [] }) s.log).log s.first
    go true on = record {
      low = kept.low;
      high = (let more = files-rise s.log.log t.size in let high = kept.high in omega arith);
      unlogged = λ off. absurd (false≢true (sym off ∙ on));
    }
    go false off = kept

purged_len-took : (s : Server) (t : Txn) (to : Coord) → IsFit s → 0 < t.size → purged_len (record (took s t) { exec = to }) ≡ purged_len s
purged_len-took s t to fit some = go s.settings.logs
  where
    go : (b : Bool) → unwrap_or (place (cond b (record s.log { log = push s.log.log t.size; txns = s.log.txns ++ t ∷ [] }) s.log).log (file_start s.first)) 0 ≡ purged_len s
    go true = ap (λ o. unwrap_or o 0) (stable_push s.log.log t.size (file_start s.first) (purged_len s) fit.grown some (purged-place s fit.kept.low fit.kept.high))
    go false = refl

pub purged_txns-took : (s : Server) (t : Txn) (to : Coord) → IsFit s → 0 < t.size → purged_txns (record (took s t) { exec = to }) ≡ purged_txns s
purged_txns-took s t to fit some =
    ap (λ k. take k (s.history.txns ++ t ∷ [])) (purged_len-took s t to fit some) ∙ take-append-le (purged_len s) s.history.txns (t ∷ []) (purged_len-within s fit)

pub purged_txns-rotated : (s : Server) → IsFit s → purged_txns (rotated s) ≡ purged_txns s
purged_txns-rotated s fit =
    ap (λ k. take k s.history.txns) (purged_len-is (rotated s) (purged_len s) (stable_flush s.log.log (file_start s.first) (purged_len s) (purged-place s fit.kept.low fit.kept.high)))

-- a prefix of a list, in two
pub take-range : (xs : List Txn) (from to : ℕ) → from ≤ to → take to xs ≡ take from xs ++ slice_range xs from to
take-range xs from to h =
    let sum : to ≡ from + (to - from) = omega arith in
    sym (take-append-drop from (take to xs))
    ∙ ap (λ ys. ys ++ drop from (take to xs)) (take-take from to xs h)
    ∙ ap (λ k. take from xs ++ drop from (take k xs)) sum
    ∙ ap (λ ys. take from xs ++ ys) (drop-take from (to - from) xs)
