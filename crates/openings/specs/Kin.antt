-- Listed histories agree. In all of them a transaction follows the same transaction, or comes first, and has the same
-- size. Its origin's history has it.
use Rattle.std.specs.Prelude.{ℕ, ◌==◌, ◌&&◌, ◌||◌, not, Bool, true, false, List, [], ◌∷◌, Option, Some, None, is_some, slice_get, zero, suc}
use Rattle.openings.specs.Prelude.{Txn, holds, list_all, same_txn}
use Rattle.openings.specs.declared.init.ServerInit.{ServerInit}
use Rattle.openings.specs.Listed.{listed_history}
use Rattle.openings.specs.Servers.{parts_of, history_at}

-- each transaction of a history with the one before it, if there is one
abbrev pub links_after : Option Txn → List Txn → List (Option Txn × Txn)
links_after before [] = []
links_after before (t ∷ ts) = (before, t) ∷ links_after (Some t) ts

abbrev pub links : List Txn → List (Option Txn × Txn)
links history = links_after None history

abbrev pub same_before : Option Txn → Option Txn → Bool
same_before None None = true
same_before (Some x) (Some y) = same_txn x y
same_before _ _ = false

-- two links are of different transactions, or of one size after the same transaction
abbrev pub links_agree : Option Txn × Txn → Option Txn × Txn → Bool
links_agree k l = not (same_txn k.1 l.1) || (same_before k.0 l.0 && k.1.size == l.1.size)

abbrev pub histories_agree : List Txn → List Txn → Bool
histories_agree a b = list_all (λ l. list_all (λ k. links_agree k l) (links a)) (links b)

-- the test holds at each number below one
abbrev pub all_below : (ℕ → Bool) → ℕ → Bool
all_below test zero = true
all_below test (suc n) = all_below test n && test n

-- a history agrees with that of a server, if that one lists its own
abbrev pub agrees_with : List Txn → Option ServerInit → Bool
agrees_with history None = true
agrees_with history (Some i) = is_some i.source || histories_agree (listed_history (parts_of i)) history

-- the origin of a transaction has executed it too
abbrev pub is_home : List ServerInit → Txn → Bool
is_home servers t = holds t (history_at servers t.origin.0)

-- what server n lists agrees with what the servers before it list, and with the origins of its transactions
abbrev pub is_kin : List ServerInit → ℕ → List Txn → Bool
is_kin servers n history = all_below (λ m. agrees_with history (slice_get servers m)) n && list_all (is_home servers) history
