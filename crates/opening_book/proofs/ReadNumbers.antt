-- After an opening no instance has a greater read number than the count of readings.
use Rattle.std.proofs.Common.{ℕ, ◌≤◌, Bool, true, false, List, [], ◌∷◌, length, Option, Some, None, arith}
use Rattle.std.specs.Prelude.{⊤, ◌&&◌, All, IfSome, fold, is_none, slice_index_or, if◌then◌else◌}
use Rattle.opening_book.proofs.Prelude.{All-head, All-replicate, All-set, All-tail, All-weaker, AreReadWithin, AuditState, BookState}
use Rattle.opening_book.proofs.Prelude.{Change, Instance, Key, Moment, Row, Rule, Server, Settings, Table, World, after_first, after_opening}
use Rattle.opening_book.proofs.Prelude.{after_put, after_removal, after_row, counted, empty_book, has_row, last_read, later_read, loaded, loading}
use Rattle.opening_book.proofs.Prelude.{missing, opened_book, opening_changes, put_instance, registered, registering, row_fits, server_at}
use Rattle.opening_book.proofs.Prelude.change
use Rattle.opening_book.proofs.Prelude.key
use Rattle.opening_book.proofs.Prelude.row
use Rattle.opening_book.proofs.Prelude.table
use Rattle.opening_book.proofs.Changes.{all-from, all-loading, all-opening}

abbrev Within : ℕ → Option Instance → Type 0
Within reads x = IfSome x (λ i. i.read ≤ reads)

-- the instance that a change puts has no greater number
abbrev AddsWithin : ℕ → Change → Type 0
AddsWithin reads (change.Put (row.Instance i)) = i.read ≤ reads
AddsWithin reads _ = ⊤

-- ---- the rows that are loaded

rises : (reads : ℕ) (r : Row) → reads ≤ later_read reads r
rises reads (row.Instance i) = omega arith
rises reads _ = omega arith

own : (reads : ℕ) (r : Row) → AddsWithin (later_read reads r) (change.Put r)
own reads (row.Instance i) = omega arith
own reads _ = tt

still : (reads more : ℕ) (b : BookState) → reads ≤ more → AreReadWithin reads b → AreReadWithin more b
still reads more b less within = All-weaker (Within reads) (Within more) weaker b.instances within
  where
    weaker : (x : Option Instance) → Within reads x → Within more x
    weaker None h = tt
    weaker (Some i) h = omega (arith, h, less)

put-within : (reads : ℕ) (b : BookState) (r : Row) → AddsWithin reads (change.Put r) → AreReadWithin reads b → AreReadWithin reads (after_put b r)
put-within reads b (row.Instance i) at within = All-set (Within reads) b.instances i.no.0 (Some i) at within
put-within reads b _ at within = within

row-within : (reads : ℕ) (b : BookState) (r : Row) → AddsWithin reads (change.Put r) → AreReadWithin reads b → AreReadWithin reads (after_row b r)
row-within reads b r at within = go (row_fits (length b.names) r)
  where
    go : (fits : Bool) → AreReadWithin reads (if fits then after_put b r else b)
    go true = put-within reads b r at within
    go false = within

made-within : (rows : List Row) (reads : ℕ) (b : BookState) → AreReadWithin reads b → AreReadWithin (fold later_read reads rows) (fold after_row b rows)
made-within [] reads b within = within
made-within (r ∷ rows) reads b within =
    made-within rows (later_read reads r) (after_row b r) (row-within (later_read reads r) b r (own reads r) (still reads (later_read reads r) b (rises reads r) within))

pub loaded-within : (settings : List Settings) (last : ℕ) (rows : List Row) → AreReadWithin (last_read (counted (length settings) last rows)) (loaded settings last rows)
loaded-within settings last rows = made-within (counted (length settings) last rows) 0 (empty_book settings) (All-replicate (Within 0) (length settings) None tt)

-- ---- the changes of the opening

first-within : (reads : ℕ) (b : BookState) (r : Row) → AddsWithin reads (change.Put r) → AreReadWithin reads b → AreReadWithin reads (after_first b r)
first-within reads b (row.Instance i) at within = All-set (Within reads) b.instances i.no.0 (Some i) at within
first-within reads b _ at within = within

removal-within : (reads : ℕ) (b : BookState) (t : Table) (k : Key) → AreReadWithin reads b → AreReadWithin reads (after_removal b t k)
removal-within reads b table.Instance (key.Server n) within = All-set (Within reads) b.instances n.0 None tt within
removal-within reads b table.Downtime (key.Server n) within = within
removal-within reads b table.Candidate (key.Server n) within = within
removal-within reads b table.Switch key.Global within = within
removal-within reads b _ _ within = within

change-within : (reads : ℕ) (b : BookState) (c : Change) → AddsWithin reads c → AreReadWithin reads b → AreReadWithin reads (after_opening b c)
change-within reads b (change.Put r) at within = first-within reads b r at within
change-within reads b (change.Remove t k) at within = removal-within reads b t k within

opened-within : (reads : ℕ) (cs : List Change) (b : BookState) → All (AddsWithin reads) cs → AreReadWithin reads b → AreReadWithin reads (opened_book b cs)
opened-within reads [] b all within = within
opened-within reads (c ∷ cs) b all within =
    opened-within reads cs (after_opening b c) (All-tail (AddsWithin reads) c cs all) (change-within reads b c (All-head (AddsWithin reads) c cs all) within)

-- an opening puts instances that were read never
module _ (reads : ℕ) (w : World) (at : Moment) (b : BookState) where
  at-instance : (n : ℕ) (o : Option Server) → IfSome (put_instance w at n o) (AddsWithin reads)
  at-instance n None = tt
  at-instance n (Some s) = omega arith

  at-missing : (n : ℕ) (known : Bool) → IfSome (missing w at b n known) (AddsWithin reads)
  at-missing n known = go (known && is_none (slice_index_or b.instances n None))
    where
      go : (lacks : Bool) → IfSome (if lacks then put_instance w at n (server_at w n) else None) (AddsWithin reads)
      go true = at-instance n (server_at w n)
      go false = tt

  at-registering : (n : ℕ) (rule : Option Rule) → IfSome (registering at b n rule) (AddsWithin reads)
  at-registering n None = tt
  at-registering n (Some rule) = go (has_row b (row.Candidate (registered at n rule)))
    where
      go : (had : Bool) → IfSome (if had then None else Some (change.Put (row.Candidate (registered at n rule)))) (AddsWithin reads)
      go true = tt
      go false = tt

  pub opening-within : (known : List Bool) (rules : List (Option Rule)) (period : List ℕ → ℕ) (rows : List Row) (a : AuditState)
      → AreReadWithin reads b → AreReadWithin reads (opened_book b (opening_changes w at b known rules (loading period rows a at)))
  opening-within known rules period rows a within =
      let recoveries = loading period rows a at in
      opened-within reads (opening_changes w at b known rules recoveries) b
      (all-opening (AddsWithin reads) w at b known rules recoveries
      (all-from (AddsWithin reads) (missing w at b) 0 known (λ n k h. at-missing n k))
      (all-from (AddsWithin reads) (registering at b) 0 rules (λ n rule h. at-registering n rule))
      (all-loading (AddsWithin reads) period rows a at (λ r. tt)))
      within
