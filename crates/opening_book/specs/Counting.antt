-- Kept rows that count: those of the scenario's servers whose numbers are in their ranges.
use Rattle.std.specs.Prelude.{ℕ, ◌^◌, ◌&&◌, nat_le, Bool, true, List, Option, None, Some, filter, fold, length, max}
use Rattle.opening_book.specs.Prelude.{BookState, Moment, Row, Settings, are_known, book_made, longest_block, map_of, servers_of}
use Rattle.opening_book.specs.Prelude.row

-- read numbers and moments are at most this
abbrev pub greatest : ℕ
greatest = 2 ^ 63

-- at an opening ids of recoveries are at most this
abbrev pub greatest_id : ℕ
greatest_id = 2 ^ 62

abbrev pub is_end_in_range : Option Moment → Bool
is_end_in_range None = true
is_end_in_range (Some ended) = nat_le ended.0 greatest

abbrev pub is_block_in_range : Option ℕ → Bool
is_block_in_range None = true
is_block_in_range (Some block) = nat_le block longest_block

-- the greatest number of a node
abbrev pub last_node : ℕ
last_node = 16

-- a row's numbers are in their ranges; ids of recoveries are 1 to this last one
abbrev pub is_in_range : ℕ → Row → Bool
is_in_range last (row.Instance i) = nat_le i.read greatest && nat_le i.moment.0 greatest
is_in_range last (row.Downtime d) = nat_le d.begun.0 greatest && nat_le d.until.0 greatest
is_in_range last (row.Candidate c) = nat_le c.until.0 greatest
is_in_range last (row.Recovery k) = (nat_le 1 k.id && nat_le k.id last) && (nat_le k.begun.0 greatest && (is_end_in_range k.ended && is_block_in_range k.block))
is_in_range last (row.Switch enabled) = true
is_in_range last (row.Active node until) = (nat_le 1 node && nat_le node last_node) && nat_le until.0 greatest

-- whether a row counts among so many servers, by the last id that counts
abbrev pub counts : ℕ → ℕ → Row → Bool
counts servers last r = are_known servers (servers_of r) && is_in_range last r

-- the rows that count, of two with one table and key the last: by table, then key
abbrev pub counted : ℕ → ℕ → List Row → List Row
counted servers last rows = filter (counts servers last) (map_of rows)

abbrev pub end_or : ℕ → Option Moment → ℕ
end_or now None = now
end_or now (Some ended) = max now ended.0

-- the moment, raised to the latest begun or ended moment of a row
abbrev pub raised : ℕ → Row → ℕ
raised now (row.Instance i) = now
raised now (row.Downtime d) = max now d.begun.0
raised now (row.Candidate c) = now
raised now (row.Recovery k) = end_or (max now k.begun.0) k.ended
raised now (row.Switch enabled) = now
raised now (row.Active node until) = now

abbrev pub latest : ℕ → List Row → ℕ
latest now rows = fold raised now rows

-- the greater of a read number and a row's
abbrev pub later_read : ℕ → Row → ℕ
later_read read (row.Instance i) = max read i.read
later_read read (row.Downtime d) = read
later_read read (row.Candidate c) = read
later_read read (row.Recovery k) = read
later_read read (row.Switch enabled) = read
later_read read (row.Active node until) = read

-- the greatest read number of these rows, or 0
abbrev pub last_read : List Row → ℕ
last_read rows = fold later_read 0 rows

-- the book of the rows that count
abbrev pub loaded : List Settings → ℕ → List Row → BookState
loaded settings last rows = book_made settings (counted (length settings) last rows)
