-- How the log of a server matches another's (Pseudo-GTID): by its last mark, which is an entry that no other is equal
-- to, and by the entries after that one.
use Rattle.std.specs.Prelude.{ℕ, zero, suc, ◌+◌, ◌-◌, ◌%◌, Bool, false, ◌==◌, ◌&&◌, not, if◌then◌else◌, length, Option, Some, None, Result, Ok, Err}
use Rattle.operations.specs.Prelude.{Attached, Coord, Detached, Server, ServerNo, SourceState, Spot, Txn, Without, World, can_reach, coord_after}
use Rattle.operations.specs.Prelude.{end_of, logged_by, same_txn, server_at}
use Rattle.operations.specs.Prelude.spot
use Rattle.operations.specs.declared.matching.MatchFault.{MatchFault}
use Rattle.operations.specs.declared.matching.MatchFault.TheVariants as fault

-- ---- entries

-- a transaction whose number is divisible by the distance of marks is a mark; there are none at the distance 0
abbrev pub is_mark : ℕ → Txn → Bool
is_mark every t = not (every == 0) && (t.seq % every == 0)

-- what an entry shows of its transaction: its origin, its size, and whether it is a mark
abbrev pub shows_same : ℕ → Txn → Txn → Bool
shows_same every x y = x.origin.0 == y.origin.0 && (x.size == y.size && (if is_mark every x then is_mark every y else not (is_mark every y)))

-- an entry that a log keeps is a mark
abbrev pub is_mark_there : ℕ → Option Txn → Bool
is_mark_there every None = false
is_mark_there every (Some t) = is_mark every t

-- it is this mark: the text of a mark is its origin and its number
abbrev pub is_same_there : Txn → Option Txn → Bool
is_same_there t None = false
is_same_there t (Some x) = same_txn x t

-- two entries are there, and show the same
abbrev pub alike : ℕ → Option Txn → Option Txn → Bool
alike every None y = false
alike every (Some x) None = false
alike every (Some x) (Some y) = shows_same every x y

-- ---- numbers

-- the last of the numbers below one that passes
abbrev pub last_below : (ℕ → Bool) → ℕ → Option ℕ
last_below p zero = None
last_below p (suc k) = if p k then Some k else last_below p k

-- the first that doesn't, of so many numbers from one on
abbrev pub first_not : (ℕ → Bool) → ℕ → ℕ → Option ℕ
first_not p k zero = None
first_not p k (suc more) = if p k then first_not p (suc k) more else Some k

-- ---- logs

-- the last mark that the log of a server keeps
abbrev pub last_mark : ℕ → Server → Option ℕ
last_mark every r = last_below (λ k. is_mark_there every (logged_by r k)) (length r.history.txns)

-- the place of the same mark in the log of another server
abbrev pub place_of_mark : Server → Option Txn → Option ℕ
place_of_mark d None = None
place_of_mark d (Some t) = last_below (λ k. is_same_there t (logged_by d k)) (length d.history.txns)

-- the first entry of r after its mark i that isn't like the one in its place after the mark j of d
abbrev pub first_unlike : ℕ → Server → Server → ℕ → ℕ → Option ℕ
first_unlike every r d i j = first_not (λ k. alike every (logged_by r k) (logged_by d ((k + j) - i))) (i + 1) (length r.history.txns - (i + 1))

-- By that one; entries are counted from 1 on. The end of all that r has executed is the end of as many transactions of
-- d after the mark.
abbrev pub matched_at : Server → Server → ℕ → ℕ → Option ℕ → Result Coord MatchFault
matched_at r d i j None = Ok (coord_after d.log.log ((length r.history.txns + j) - i))
matched_at r d i j (Some k) = Err (fault.Mismatch (k + 1))

abbrev pub matched_behind : ℕ → Server → Server → ℕ → Option ℕ → Result Coord MatchFault
matched_behind every r d i None = Err fault.NoMark
matched_behind every r d i (Some j) = matched_at r d i j (first_unlike every r d i j)

abbrev pub matched_from : ℕ → Server → Server → Option ℕ → Result Coord MatchFault
matched_from every r d None = Err fault.NoMark
matched_from every r d (Some i) = matched_behind every r d i (place_of_mark d (logged_by r i))

-- the end of all that server r has executed in the log of server d, or why their logs don't match
abbrev pub match_of : ℕ → Server → Server → Result Coord MatchFault
match_of every r d = matched_from every r d (last_mark every r)

-- ---- servers

abbrev pub match_between : ℕ → Option Server → Option Server → Result Coord MatchFault
match_between every None d = Err fault.NoMark
match_between every (Some r) None = Err fault.NoMark
match_between every (Some r) (Some d) = match_of every r d

-- as orchestrator reads both logs
abbrev pub match_logs : World → ServerNo → ServerNo → ℕ → Result Coord MatchFault
match_logs w r d every =
    if not (can_reach (server_at w r.0)) then Err (fault.Unreachable r)
    else if not (can_reach (server_at w d.0)) then Err (fault.Unreachable d)
    else match_between every (server_at w r.0) (server_at w d.0)

-- the position of a server that is matched: under its source, attached or detached, else at its own end
abbrev pub standing : Server → SourceState → Spot
standing s Without = if s.settings.logs then spot.OwnEnd (end_of s.log.log) else spot.Nowhere
standing s (Attached m) = spot.At m s.exec
standing s (Detached m) = spot.At m s.exec

abbrev pub standing_at : Option Server → Spot
standing_at None = spot.Nowhere
standing_at (Some s) = standing s s.source
