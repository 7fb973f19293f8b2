-- What a server has executed of its own and its new source hasn't (MySQL 8.0 Reference Manual, "GTID Format and
-- Storage").
use Rattle.std.specs.Prelude.{ℕ, ◌==◌, not, List, [], filter, fold}
use Rattle.permission.specs.Prelude.{Interval, flat_map, holds, numbers, with_pair}

-- the numbers of a set's GTIDs of one UUID
abbrev pub numbers_of : ℕ → List Interval → List ℕ
numbers_of uuid xs = flat_map numbers (filter (λ s. s.uuid == uuid) xs)

-- those of them that another set lacks
abbrev pub numbers_missing : ℕ → List Interval → List Interval → List ℕ
numbers_missing uuid xs ys = filter (λ n. not (holds ys uuid n)) (numbers_of uuid xs)

-- the set of one UUID with these numbers
abbrev pub set_with : ℕ → List ℕ → List Interval
set_with uuid ns = fold (λ set n. with_pair uuid n set) [] ns

-- the GTIDs of one UUID that are in the first set and not in the second
unfoldable pub own_missing : ℕ → List Interval → List Interval → List Interval
own_missing uuid xs ys = set_with uuid (numbers_missing uuid xs ys)
