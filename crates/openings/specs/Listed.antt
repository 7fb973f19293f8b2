-- Histories as lists of parts.
use Rattle.std.specs.Prelude.{ℕ, ◌+◌, List, [], ◌∷◌, ◌++◌, replicate, sum_by}
use Rattle.openings.specs.Prelude.{ServerNo, Txn, count_own}
use Rattle.openings.specs.declared.part.Part.{Part}

-- how many transactions the parts have
abbrev pub transactions : List Part → ℕ
transactions parts = sum_by (λ p. p.count) parts

-- the origin and the size of each transaction, in order
abbrev pub singles : List Part → List (ServerNo × ℕ)
singles [] = []
singles (p ∷ ps) = replicate p.count (p.origin, p.size) ++ singles ps

-- the transaction of this origin and size that follows a history: the n-th of an origin has number n
abbrev pub next_txn : List Txn → ServerNo × ℕ → Txn
next_txn done x = record { origin = x.0; seq = count_own x.0.0 done + 1; size = x.1 }

-- the history once these joined it
abbrev pub joined_by : List Txn → List (ServerNo × ℕ) → List Txn
joined_by done [] = done
joined_by done (x ∷ xs) = joined_by (done ++ next_txn done x ∷ []) xs

-- the history that the parts list
abbrev pub listed_history : List Part → List Txn
listed_history parts = joined_by [] (singles parts)
