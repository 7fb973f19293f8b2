-- Kept rows that follow a book and an audit.
use Rattle.std.specs.Prelude.{◌≡◌, ℕ, ◌-◌, ◌<◌, ◌≤◌, ◌^◌, ◌&&◌, Bool, false, length, List, Option, None, Some, IfSome, ⊤}
use Rattle.opening_book.specs.Prelude.{AuditState, BookState, Change, IsAudit, IsBook, IsRising, Moment, Recovery, Row, as_row, book_rows, changed}
use Rattle.opening_book.specs.Prelude.{closed, is_of_book, longest_block, recovery_at, row_at, row_in, table_of}
use Rattle.opening_book.specs.Prelude.change
use Rattle.opening_book.specs.Prelude.key
use Rattle.opening_book.specs.Prelude.row
use Rattle.opening_book.specs.Prelude.table
use Rattle.opening_book.specs.Audits.{audit_of}
use Rattle.opening_book.specs.Counting.{counted, counts, greatest_id}
use Rattle.opening_book.specs.Opening.{loading}

-- whether a row would be one of the book of so many servers
abbrev pub is_for_book : ℕ → Row → Bool
is_for_book servers r = is_of_book (table_of r) && counts servers greatest_id r

-- the book's row is kept; if the book has none, a row that is kept is of another table or doesn't count
abbrev pub IsKeptFor : ℕ → Option Row → Option Row → Type 0
IsKeptFor servers kept (Some r) = kept ≡ Some r
IsKeptFor servers kept None = IfSome kept (λ r. is_for_book servers r ≡ false)

-- so it is at each table and key
pub record Follow (rows : List Row) (b : BookState) : Type 0 where
  pub rising : IsRising rows
  pub book : IsBook b
  pub each : (p : ℕ) → IsKeptFor (length b.names) (row_in rows p) (row_in (book_rows b) p)

-- the id of a recovery that is put is in its type's range
abbrev pub IsIdInRange : Change → Type 0
IsIdInRange (change.Put (row.Instance i)) = ⊤
IsIdInRange (change.Put (row.Downtime d)) = ⊤
IsIdInRange (change.Put (row.Candidate c)) = ⊤
IsIdInRange (change.Put (row.Recovery k)) = k.id < 2 ^ 64
IsIdInRange (change.Put (row.Switch enabled)) = ⊤
IsIdInRange (change.Put (row.Active node until)) = ⊤
IsIdInRange (change.Remove t k) = ⊤

-- the audit's recovery is kept, with its block period; if the audit has none, a row that is kept doesn't count by the
-- next id
abbrev pub IsAudited : ℕ → ℕ → Option Row → Option Recovery → Type 0
IsAudited servers next kept (Some r) = kept ≡ Some (row.Recovery (as_row r))
IsAudited servers next kept None = IfSome kept (λ r. counts servers (next - 1) r ≡ false)

-- the block periods of all clusters are in their range
abbrev pub AreShort : (List ℕ → ℕ) → Type 0
AreShort period = (cluster : List ℕ) → period cluster ≤ longest_block

-- so it is at each id
pub record FollowAudit (servers : ℕ) (rows : List Row) (a : AuditState) : Type 0 where
  pub audit : IsAudit a
  pub small : a.next ≤ 2 ^ 64
  pub each : (id : ℕ) → id < 2 ^ 64 → IsAudited servers a.next (row_at rows table.Recovery (key.Id id)) (recovery_at a id)

-- once what a load keeps is kept, the rows follow the audit of those that count up to this last id, whose unended
-- recoveries are ended as interrupted
abbrev pub FollowOnceLoaded : (List ℕ → ℕ) → ℕ → ℕ → ℕ → List Row → Moment → Type 0
FollowOnceLoaded period servers next last rows at =
    let counting = counted servers last rows in
    let audit = audit_of period next counting in
    FollowAudit servers (changed rows (loading period counting audit at)) (closed audit at)
