-- Coordinates with a place in a log can be printed: how far a log of so many sized transactions goes.
pub use Rattle.scenario_dump.proofs.Worlds.{All-at as All-slot}
use Rattle.std.proofs.Common.{◌≡◌, ℕ, ◌+◌, ◌*◌, ◌≤◌, Bool, true, false, cond, List, [], ◌∷◌, ◌++◌, length, length-append, refl, subst, arith, ◌&&◌, ◌||◌, All, nat_le, ◌==◌}
use Rattle.tidy_laws.proofs.Prelude.{All-head, All-nil, All-push, All-tail, All-take, All-weaker, Coord, Entry, Flushed, HasSize, IsWritten, LaysOut}
use Rattle.tidy_laws.proofs.Prelude.{Log, Took, Txn, and_parts, appended, end_coord, entry_at_end, eqb-true, false≢true, flush, get-push_new}
use Rattle.tidy_laws.proofs.Prelude.{has_place, is_file_start, list_any, nat_tests, push, same_coord, same_coord-true}
use Rattle.tidy_laws.proofs.Prelude.{start_coord, take-append_seam, touches}
use Rattle.tidy_laws.proofs.Prelude.Layout.{Opened}

-- a transaction in a log of so many files, whose positions go up to a bound
pub record LiesIn (bound files : ℕ) (e : Entry) : Type 0 where
  pub low : 1 ≤ e.file
  pub high : e.file ≤ files
  pub start : 4 ≤ e.start
  pub order : e.start ≤ e.end
  pub end : e.end ≤ bound

pub record Lies (bound : ℕ) (log : Log) : Type 0 where
  pub files : 1 ≤ log.files
  pub start : 4 ≤ log.pos
  pub end : log.pos ≤ bound
  pub entries : All (LiesIn bound log.files) log.entries

lies-more : (a b f g : ℕ) (es : List Entry) → a ≤ b → f ≤ g → All (LiesIn a f) es → All (LiesIn b g) es
lies-more a b f g es more files all =
    All-weaker (LiesIn a f) (LiesIn b g)
    (λ e h. record {
      low = h.low;
      high = let x = h.high in omega arith;
      start = h.start;
      order = h.order;
      end = let x = h.end in omega arith;
    }) es all

lies-flush : (bound : ℕ) (log : Log) → Lies bound log → Lies bound (flush log)
lies-flush bound log l = record {
  files = let x = l.files in omega arith;
  start = omega arith;
  end = let x = l.start in let y = l.end in omega arith;
  entries = lies-more bound bound log.files (log.files + 1) log.entries (omega arith) (omega arith) l.entries;
}

lies-appended : (bound size : ℕ) (log : Log) → Lies bound log → Lies (bound + size) (appended log size)
lies-appended bound size log l = record {
  files = l.files;
  start = let x = l.start in omega arith;
  end = let x = l.end in omega arith;
  entries =
      All-push (LiesIn (bound + size) log.files) log.entries (entry_at_end log size)
      (lies-more bound (bound + size) log.files log.files log.entries (omega arith) (omega arith) l.entries)
      (record { low = l.files; high = omega arith; start = l.start; order = omega arith; end = let x = l.end in omega arith });
}

lies-push : (bound size : ℕ) (log : Log) → Lies bound log → Lies (bound + size) (push log size)
lies-push bound size log l = go (nat_le log.limit (log.pos + size))
  where
    go : (b : Bool) → Lies (bound + size) (cond b (flush (appended log size)) (appended log size))
    go true = lies-flush (bound + size) (appended log size) (lies-appended bound size log l)
    go false = lies-appended bound size log l

lies-up : (a b : ℕ) (log : Log) → a ≤ b → Lies a log → Lies b log
lies-up a b log more l = record {
  files = l.files;
  start = l.start;
  end = let x = l.end in omega arith;
  entries = lies-more a b log.files log.files log.entries more (omega arith) l.entries;
}

-- without the last transaction
front-sized : (history : List Txn) (t : Txn) → All HasSize (history ++ t ∷ []) → All HasSize history
front-sized history t all = subst (All HasSize) (take-append_seam history (t ∷ [])) (All-take HasSize (length history) (history ++ t ∷ []) all)

last-sized : (history : List Txn) (t : Txn) → All HasSize (history ++ t ∷ []) → HasSize t
last-sized history t all = All-slot HasSize (history ++ t ∷ []) (length history) t all (get-push_new history t)

-- how far the log of a history goes
abbrev reach : List Txn → ℕ
reach history = 4 + 1000000 * length history

pub lies-laid : (history : List Txn) (log : Log) → LaysOut history log → All HasSize history → Lies (reach history) log
lies-laid history log (Opened limit) all = record { files = omega arith; start = omega arith; end = omega arith; entries = All-nil (LiesIn 4 1) }
lies-laid history log (Took old before t some l) all =
    let size = last-sized old t all in
    let was = lies-laid old before l (front-sized old t all) in
    let few = size.1 in
    let long = length-append old (t ∷ []) in
    lies-up (4 + 1000000 * length old + t.size) (4 + 1000000 * length (old ++ t ∷ [])) (push before t.size) (omega arith) (lies-push (4 + 1000000 * length old) t.size before was)
lies-laid history log (Flushed history' before l) all = lies-flush (reach history') before (lies-laid history' before l all)

-- ---- printing

module _ (bound : ℕ) (log : Log) (l : Lies bound log) (few : log.files ≤ 8000001) (low : bound ≤ 4000000000004) where
  written-touched : (c : Coord) (es : List Entry) → All (LiesIn bound log.files) es → list_any (touches c) es ≡ true → IsWritten c
  written-touched c [] all h = absurd (false≢true h)
  written-touched c (e ∷ es) all h =
      go (same_coord (start_coord e) c) (same_coord (end_coord e) c) refl refl h (written-touched c es (All-tail (LiesIn bound log.files) e es all))
    where
      here : LiesIn bound log.files e
      here = All-head (LiesIn bound log.files) e es all

      at-start : IsWritten (start_coord e)
      at-start =
          let a = here.low in let b = here.high in let d = here.start in let f = here.order in let g = here.end in
          record { file = a; files = omega arith; start = d; pos = omega arith }

      at-end : IsWritten (end_coord e)
      at-end =
          let a = here.low in let b = here.high in let d = here.start in let f = here.order in let g = here.end in
          record { file = a; files = omega arith; start = omega arith; pos = omega arith }

      go : (a b : Bool) → same_coord (start_coord e) c ≡ a → same_coord (end_coord e) c ≡ b → ((a || b) || list_any (touches c) es) ≡ true → (list_any (touches c) es ≡ true → IsWritten c) → IsWritten c
      go true b is more h rest = subst IsWritten (same_coord-true (start_coord e) c is) at-start
      go false true is more h rest = subst IsWritten (same_coord-true (end_coord e) c more) at-end
      go false false is more h rest = rest h

  -- a coordinate with a place can be printed
  pub written-placed : (c : Coord) → has_place log c ≡ true → IsWritten c
  written-placed c h = go (is_file_start log c) refl h
    where
      go : (a : Bool) → is_file_start log c ≡ a → (a || list_any (touches c) log.entries) ≡ true → IsWritten c
      go true is h =
          let parts = and_parts (c.pos == 4) (nat_le 1 c.file && nat_le c.file log.files) is in
          let more = and_parts (nat_le 1 c.file) (nat_le c.file log.files) parts.1 in
          let at : c.pos ≡ 4 = eqb-true c.pos 4 parts.0 in
          let least : 1 ≤ c.file = le-from 1 c.file more.0 in
          let most : c.file ≤ log.files = le-from c.file log.files more.1 in
          record { file = least; files = omega arith; start = omega arith; pos = omega arith }
        where
          le-from : (a b : ℕ) → nat_le a b ≡ true → a ≤ b
          le-from a b h = grind (arith, nat_tests)
      go false is h = written-touched c log.entries l.entries h
