-- Histories: what servers have executed (MySQL 8.0 Reference Manual, "Replication").
use Rattle.std.specs.Prelude.{ℕ, Bool, ◌==◌, ◌&&◌, List, count_by}
use Rattle.std.specs.List.{list_any}
use Rattle.orch_base.specs.declared.server.Txn.{Txn}

-- two transactions are the same if origin and number are
abbrev pub same_txn : Txn → Txn → Bool
same_txn x y = x.origin.0 == y.origin.0 && x.seq == y.seq

-- how many transactions of a history have this origin
abbrev pub count_own : ℕ → List Txn → ℕ
count_own origin txns = count_by (λ t. t.origin.0 == origin) txns

-- whether a history has a transaction
abbrev pub holds : Txn → List Txn → Bool
holds t txns = list_any (λ x. same_txn x t) txns
