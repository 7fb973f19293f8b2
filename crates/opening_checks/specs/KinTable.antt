-- A table of what listed histories say of each transaction: for each origin a row of links, by the transactions'
-- numbers.
use Rattle.std.specs.Prelude.{◌≡◌, ℕ, ◌+◌, ◌-◌, ◌<◌, ◌≤◌, ◌==◌, ◌&&◌, Bool, true, nat_le, if◌then◌else◌, List, [], ◌∷◌, ◌++◌, length, Option, Some, None, slice_get, slice_set, slice_index, unwrap_or, is_none, zero, suc}
use Rattle.std.specs.List.{list_any}
use Rattle.opening_checks.specs.Prelude.{ServerInit, Txn, count_own, history_at, links, list_all, listed_history, parts_of, same_before}
use Rattle.opening_checks.specs.declared.kin_row.Link.{Link}

-- what a history has of a transaction beside its origin and number
abbrev pub link_of : Option Txn → Txn → Link
link_of before t = record { before = before; size = t.size }

-- two links say the same
abbrev pub alike : Link → Link → Bool
alike k l = same_before k.before l.before && k.size == l.size

-- there is no link, or an equal one
abbrev pub agrees_where : Option Link → Link → Bool
agrees_where None x = true
agrees_where (Some e) x = alike e x

-- a row agrees with a link for this number
abbrev pub agrees_in : List Link → ℕ → Link → Bool
agrees_in row number x = agrees_where (slice_get row (number - 1)) x

-- the row of an origin
abbrev pub row_at : List (List Link) → ℕ → List Link
row_at rows origin = unwrap_or (slice_get rows origin) []

abbrev pub agrees_at : List (List Link) → Option Txn × Txn → Bool
agrees_at rows l = agrees_in (row_at rows l.1.origin.0) l.1.seq (link_of l.0 l.1)

-- the table agrees with each transaction of a history
abbrev pub agrees_throughout : List (List Link) → List Txn → Bool
agrees_throughout rows history = list_all (agrees_at rows) (links history)

-- the row with a link for this number, if it is the next one
abbrev pub extended : List Link → ℕ → Link → List Link
extended row number x = if length row + 1 == number then row ++ x ∷ [] else row

abbrev pub with_link : List (List Link) → Option Txn × Txn → List (List Link)
with_link rows l = slice_set rows l.1.origin.0 (extended (row_at rows l.1.origin.0) l.1.seq (link_of l.0 l.1))

-- the table once these joined it
abbrev pub with_links : List (List Link) → List (Option Txn × Txn) → List (List Link)
with_links rows [] = rows
with_links rows (l ∷ ls) = with_links (with_link rows l) ls

-- the transaction before the one at an index
abbrev pub before_at : List Txn → ℕ → Option Txn
before_at history zero = None
before_at history (suc j) = slice_get history j

-- the transaction at index j is number k + 1 of an origin, and has this link
pub record StandsAt (history : List Txn) (j origin k : ℕ) (x : Link) : Type 0 where
  pub txn : Txn
  pub there : slice_get history j ≡ Some txn
  pub own : txn.origin.0 ≡ origin
  pub number : txn.seq ≡ suc k
  pub link : x ≡ link_of (before_at history j) txn

-- server m lists this history
pub record Lists (servers : List ServerInit) (m : ℕ) (history : List Txn) : Type 0 where
  pub init : ServerInit
  pub there : slice_get servers m ≡ Some init
  pub root : init.source ≡ None
  pub is : history ≡ listed_history (parts_of init)

-- one of these servers may list a history: it has no source
abbrev pub lists_any : List ServerInit → Bool
lists_any servers = list_any (λ i. is_none i.source) servers

-- There is a row for each server. Each link is of a history that one of the first n servers lists. Each transaction of
-- those histories has an equal link.
pub record IsTable (servers : List ServerInit) (n : ℕ) (rows : List (List Link)) : Type 0 where
  pub count : length rows ≡ length servers
  pub sound : (o k : ℕ) (e : Link) → slice_get (row_at rows o) k ≡ Some e → (m : ℕ) × (m < n) × (history : List Txn) × Lists servers m history × (j : ℕ) × StandsAt history j o k e
  pub complete : (m : ℕ) → m < n → (history : List Txn) → Lists servers m history → (j : ℕ) (t : Txn) → slice_get history j ≡ Some t
      → (e : Link) × (slice_get (row_at rows t.origin.0) (t.seq - 1) ≡ Some e) × (alike e (link_of (before_at history j) t) ≡ true)

-- the transaction's number is at most what a list of counts has for its origin
abbrev pub is_counted : List ℕ → Txn → Bool
is_counted own t = nat_le t.seq (slice_index own t.origin.0)

-- for each server how many transactions of its own it has executed
pub record CountsHome (servers : List ServerInit) (own : List ℕ) : Type 0 where
  pub each : (o : ℕ) → o < length servers → slice_index own o ≡ count_own o (history_at servers o)

-- a transaction has a number, and its origin is one of so many servers
pub record IsOfServers (servers : ℕ) (t : Txn) : Type 0 where
  pub origin : t.origin.0 < servers
  pub number : 1 ≤ t.seq
