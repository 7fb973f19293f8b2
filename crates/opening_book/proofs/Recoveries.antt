-- Kept rows follow the audit that is loaded of them, and go on to do so.
use Rattle.std.proofs.Common.{◌≡◌, ◌∙◌, ℕ, ◌+◌, ◌-◌, ◌<◌, ◌≤◌, ◌^◌, Bool, true, false, leb, ltb, List, [], ◌∷◌, map, refl, sym, ap, subst, Option, Some, None, arith}
use Rattle.std.specs.Prelude.{All, AllPairs, ◌&&◌, ◌==◌, filter, find, fold, is_none, is_some, not, option_and_then, option_map, unwrap_or, if◌then◌else◌}
use Rattle.opening_book.proofs.Prelude.{All-append, All-cons, All-filter, All-head, All-map, All-nil, All-tail, All-weaker, AllPairs-filter}
use Rattle.opening_book.proofs.Prelude.{AuditState, BookState, Change, Follow, FollowAudit, IsAudit, IsAudit-map, IsAudited, IsInRange, IsKeyInRange}
use Rattle.opening_book.proofs.Prelude.{IsRising, Key, Moment, Recovery, RecoveryRow, Row, Table, acking, acknowledged, acknowledged-block}
use Rattle.opening_book.proofs.Prelude.{acknowledged-id, acknowledged_for, are_known, as_row, audit_of, blocks_given, both_true, changed, changed_by}
use Rattle.opening_book.proofs.Prelude.{closed, closing, cons_option, counted, counts, ended_so, ending_servers, eq-eqb, false≢true, filter_passes}
use Rattle.opening_book.proofs.Prelude.{fits, fold-append, greatest, greatest_id, head_known, id_in, interrupted, interrupted-block, interrupted-id}
use Rattle.opening_book.proofs.Prelude.{interrupting, is_block_in_range, is_end_in_range, is_in_range, is_new, is_of, is_of_book, is_unended}
use Rattle.opening_book.proofs.Prelude.{kept-audit, kept-back, key_number, key_of, key_servers, last_id, later_id, le-leb, leb-true, loaded_by}
use Rattle.opening_book.proofs.Prelude.{loading, longest_block, map_of, map_of_rising, ne_eqb, none-at, pairs_head, pairs_tail, put, put_recovery}
use Rattle.opening_book.proofs.Prelude.{recoveries_in, recovery_at, recovery_row_in, row_after, row_fits, row_in, row_in-changed, row_in-changed_by}
use Rattle.opening_book.proofs.Prelude.{row_in-elsewhere, rows_before, rows_behind, sort_key, sort_key_of, source_servers}
use Rattle.opening_book.proofs.Prelude.change
use Rattle.opening_book.proofs.Prelude.ending
use Rattle.opening_book.proofs.Prelude.key
use Rattle.opening_book.proofs.Prelude.row
use Rattle.opening_book.proofs.Prelude.table
use Rattle.opening_book.proofs.Following.{is_eq, map_of-rising, passing, rest_rising, Follow-puts, PutsRecovery}

-- the index of an id's recovery
abbrev at : ℕ → ℕ
at id = sort_key table.Recovery (key.Id id)

less-off : (k p : ℕ) → k < p → (k == p) ≡ false
less-off k p h = grind arith

more-off : (k p : ℕ) → p < k → (k == p) ≡ false
more-off k p h = grind arith

-- two recoveries are at one key if their ids are equal
same-key : (m n : ℕ) → (at m == at n) ≡ (m == n)
same-key m n = go (m == n) refl
  where
    go : (e : Bool) → (m == n) ≡ e → (at m == at n) ≡ e
    go true is = eq-eqb (at m) (at n) (ap at (is_eq m n is))
    go false is = ne_eqb (at m) (at n) (λ h. let same : m ≡ n = omega (arith, h) in false≢true (sym is ∙ eq-eqb m n same))

-- ---- the recoveries of rows

abbrev IsKeyed : Row → Type 0
IsKeyed r = IsKeyInRange (key_of r)

-- the numbers of a recovery whose row counts
record IsRanged (until : ℕ) (k : RecoveryRow) : Type 0 where
  pub low : 1 ≤ k.id
  pub high : k.id ≤ until
  pub block : is_block_in_range k.block ≡ true

ranged : (count until : ℕ) (k : RecoveryRow) → counts count until (row.Recovery k) ≡ true → IsRanged until k
ranged count until k h =
    let range = (both_true (are_known count (k.failed.0 ∷ ending_servers k.outcome)) (is_in_range until (row.Recovery k)) h).1 in
    let parts = both_true (leb 1 k.id && leb k.id until) (leb k.begun.0 greatest && (is_end_in_range k.ended && is_block_in_range k.block)) range in
    let id = both_true (leb 1 k.id) (leb k.id until) parts.0 in
    let times = both_true (leb k.begun.0 greatest) (is_end_in_range k.ended && is_block_in_range k.block) parts.1 in
    let ends = both_true (is_end_in_range k.ended) (is_block_in_range k.block) times.1 in
    record { low = leb-true 1 k.id id.0; high = leb-true k.id until id.1; block = ends.1 }

keyed : (count until : ℕ) → count ≤ 2 ^ 32 → until < 2 ^ 64 → (r : Row) → counts count until r ≡ true → IsKeyed r
keyed count until few short (row.Instance i) h =
    let known = (both_true (are_known count (i.no.0 ∷ source_servers i.seen.source)) (is_in_range until (row.Instance i)) h).0 in
    let less = head_known count i.no.0 (source_servers i.seen.source) known in
    omega (arith, less, few)
keyed count until few short (row.Downtime d) h =
    let known = (both_true (are_known count (d.no.0 ∷ [])) (is_in_range until (row.Downtime d)) h).0 in
    let less = head_known count d.no.0 [] known in
    omega (arith, less, few)
keyed count until few short (row.Candidate c) h =
    let known = (both_true (are_known count (c.no.0 ∷ [])) (is_in_range until (row.Candidate c)) h).0 in
    let less = head_known count c.no.0 [] known in
    omega (arith, less, few)
keyed count until few short (row.Recovery k) h = let up = (ranged count until k h).high in omega (arith, up, short)
keyed count until few short (row.Switch e) h = tt
keyed count until few short (row.Active node end) h = tt

skip : (x : Row) (xs : List Row) (p : ℕ) → (sort_key_of x == p) ≡ false → row_in xs p ≡ row_in (x ∷ xs) p
skip x xs p off = rw off refl

-- ---- rows of recoveries by their ids

abbrev pub row-of : Option Row → Option RecoveryRow
row-of x = option_and_then recovery_row_in x

module _ (period : List ℕ → ℕ) where
  -- what is kept under an id once a row without a block period has its cluster's
  abbrev given-by : Option Row → Option RecoveryRow → Option Row
  given-by kept None = kept
  given-by kept (Some k) = if is_none k.block then Some (row.Recovery (as_row (loaded_by period k))) else kept

  -- the recovery of an id, and what the blocks that are given change under it, by the row that is there
  record IsFound (id : ℕ) (xs : List Row) : Type 0 where
    pub found : find (λ r. r.id == id) (recoveries_in period xs) ≡ option_map (loaded_by period) (row-of (row_in xs (at id)))
    pub given : (kept : Option Row) → fold (row_after (at id)) kept (blocks_given period xs) ≡ given-by kept (row-of (row_in xs (at id)))

  past : (id : ℕ) (x : Row) (xs : List Row) → (sort_key_of x == at id) ≡ false → IsFound id xs
      → find (λ r. r.id == id) (recoveries_in period xs) ≡ option_map (loaded_by period) (row-of (row_in (x ∷ xs) (at id)))
  past id x xs off is = is.found ∙ ap (λ (o : Option Row). option_map (loaded_by period) (row-of o)) (skip x xs (at id) off)

  past-given : (id : ℕ) (x : Row) (xs : List Row) → (sort_key_of x == at id) ≡ false → IsFound id xs
      → (kept : Option Row) → fold (row_after (at id)) kept (blocks_given period xs) ≡ given-by kept (row-of (row_in (x ∷ xs) (at id)))
  past-given id x xs off is kept = is.given kept ∙ ap (λ (o : Option Row). given-by kept (row-of o)) (skip x xs (at id) off)

  found-recovery : (id : ℕ) → id < 2 ^ 64 → (xs : List Row) → AllPairs (λ a b. sort_key_of a < sort_key_of b) xs → All IsKeyed xs → IsFound id xs
  found-recovery id small [] rising keys = record { found = refl; given = λ kept. refl }
  found-recovery id small (row.Instance i ∷ xs) rising keys =
      let here = All-head IsKeyed (row.Instance i) xs keys in
      let off = less-off (sort_key_of (row.Instance i)) (at id) (omega (arith, here)) in
      let rest = found-recovery id small xs (pairs_tail (λ a b. sort_key_of a < sort_key_of b) (row.Instance i) xs rising) (All-tail IsKeyed (row.Instance i) xs keys) in
      record { found = past id (row.Instance i) xs off rest; given = past-given id (row.Instance i) xs off rest }
  found-recovery id small (row.Downtime d ∷ xs) rising keys =
      let here = All-head IsKeyed (row.Downtime d) xs keys in
      let off = less-off (sort_key_of (row.Downtime d)) (at id) (omega (arith, here)) in
      let rest = found-recovery id small xs (pairs_tail (λ a b. sort_key_of a < sort_key_of b) (row.Downtime d) xs rising) (All-tail IsKeyed (row.Downtime d) xs keys) in
      record { found = past id (row.Downtime d) xs off rest; given = past-given id (row.Downtime d) xs off rest }
  found-recovery id small (row.Candidate c ∷ xs) rising keys =
      let here = All-head IsKeyed (row.Candidate c) xs keys in
      let off = less-off (sort_key_of (row.Candidate c)) (at id) (omega (arith, here)) in
      let rest = found-recovery id small xs (pairs_tail (λ a b. sort_key_of a < sort_key_of b) (row.Candidate c) xs rising) (All-tail IsKeyed (row.Candidate c) xs keys) in
      record { found = past id (row.Candidate c) xs off rest; given = past-given id (row.Candidate c) xs off rest }
  found-recovery id small (row.Switch e ∷ xs) rising keys =
      let off = more-off (sort_key_of (row.Switch e)) (at id) (omega (arith, small)) in
      let rest = found-recovery id small xs (pairs_tail (λ a b. sort_key_of a < sort_key_of b) (row.Switch e) xs rising) (All-tail IsKeyed (row.Switch e) xs keys) in
      record { found = past id (row.Switch e) xs off rest; given = past-given id (row.Switch e) xs off rest }
  found-recovery id small (row.Active node end ∷ xs) rising keys =
      let off = more-off (sort_key_of (row.Active node end)) (at id) (omega (arith, small)) in
      let rest = found-recovery id small xs (pairs_tail (λ a b. sort_key_of a < sort_key_of b) (row.Active node end) xs rising) (All-tail IsKeyed (row.Active node end) xs keys) in
      record { found = past id (row.Active node end) xs off rest; given = past-given id (row.Active node end) xs off rest }
  found-recovery id small (row.Recovery k ∷ xs) rising keys =
      let rest = found-recovery id small xs (pairs_tail (λ a b. sort_key_of a < sort_key_of b) (row.Recovery k) xs rising) (All-tail IsKeyed (row.Recovery k) xs keys) in
      record {
        found = found-here (k.id == id) (sym (same-key k.id id)) rest.found;
        given = λ kept. given-here kept rest (is_none k.block) refl (k.id == id) refl;
      }
    where
      found-here : (e : Bool) → e ≡ (sort_key_of (row.Recovery k) == at id) → find (λ r. r.id == id) (recoveries_in period xs) ≡ option_map (loaded_by period) (row-of (row_in xs (at id)))
          → (if e then Some (loaded_by period k) else find (λ r. r.id == id) (recoveries_in period xs))
          ≡ option_map (loaded_by period) (row-of (if (sort_key_of (row.Recovery k) == at id) then Some (row.Recovery k) else row_in xs (at id)))
      found-here true is rest = rw (sym is) refl
      found-here false is rest = rw (sym is) rest

      none-later : k.id ≡ id → row_in xs (at id) ≡ None
      none-later here =
          row_in-elsewhere xs (at id)
          (All-weaker (λ x. sort_key_of (row.Recovery k) < sort_key_of x) (λ x. (sort_key_of x == at id) ≡ false) (λ x h. more-off (sort_key_of x) (at id) (omega (arith, h, here))) xs
          (pairs_head (λ a b. sort_key_of a < sort_key_of b) (row.Recovery k) xs rising))

      given-here : (kept : Option Row) → IsFound id xs → (b : Bool) → is_none k.block ≡ b → (e : Bool) → (k.id == id) ≡ e
          → fold (row_after (at id)) kept (cons_option (if b then Some (put_recovery (loaded_by period k)) else None) (blocks_given period xs))
          ≡ given-by kept (row-of (if (sort_key_of (row.Recovery k) == at id) then Some (row.Recovery k) else row_in xs (at id)))
      given-here kept rest b lacks true here =
          let same : (sort_key_of (row.Recovery k) == at id) ≡ true = same-key k.id id ∙ here in
          let later = none-later (is_eq k.id id here) in
          rw same (by b lacks same later)
        where
          by : (b : Bool) → is_none k.block ≡ b → (sort_key_of (row.Recovery k) == at id) ≡ true → row_in xs (at id) ≡ None
              → fold (row_after (at id)) kept (cons_option (if b then Some (put_recovery (loaded_by period k)) else None) (blocks_given period xs))
              ≡ (if is_none k.block then Some (row.Recovery (as_row (loaded_by period k))) else kept)
          by true lacks same later =
              ap (λ (x : Option Row). fold (row_after (at id)) x (blocks_given period xs)) (ap (λ e. if e then Some (row.Recovery (as_row (loaded_by period k))) else kept) same)
              ∙ rest.given (Some (row.Recovery (as_row (loaded_by period k))))
              ∙ ap (λ (o : Option Row). given-by (Some (row.Recovery (as_row (loaded_by period k)))) (row-of o)) later
              ∙ sym (ap (λ e. if e then Some (row.Recovery (as_row (loaded_by period k))) else kept) lacks)
          by false lacks same later =
              rest.given kept
              ∙ ap (λ (o : Option Row). given-by kept (row-of o)) later
              ∙ sym (ap (λ e. if e then Some (row.Recovery (as_row (loaded_by period k))) else kept) lacks)
      given-here kept rest b lacks false here =
          let other : (sort_key_of (row.Recovery k) == at id) ≡ false = same-key k.id id ∙ here in
          rw other (by b other)
        where
          by : (b : Bool) → (sort_key_of (row.Recovery k) == at id) ≡ false
              → fold (row_after (at id)) kept (cons_option (if b then Some (put_recovery (loaded_by period k)) else None) (blocks_given period xs))
              ≡ given-by kept (row-of (row_in xs (at id)))
          by true other =
              ap (λ (x : Option Row). fold (row_after (at id)) x (blocks_given period xs)) (ap (λ e. if e then Some (row.Recovery (as_row (loaded_by period k))) else kept) other)
              ∙ rest.given kept
          by false other = rest.given kept

-- the rows that pass a test, by key
row_in-filter : (test : Row → Bool) (p : ℕ) (rows : List Row) → IsRising rows → row_in (filter test rows) p ≡ passing test (row_in rows p)
row_in-filter test p [] rising = refl
row_in-filter test p (r ∷ rows) rising = go (row_in-filter test p rows (rest_rising r rows rising)) (test r) refl (sort_key_of r == p) refl
  where
    above : All (λ x. sort_key_of r < sort_key_of x) rows
    above = pairs_head (λ a b. sort_key_of a < sort_key_of b) r rows rising.apart

    gone : sort_key_of r ≡ p → row_in (filter test rows) p ≡ None
    gone same =
        row_in-elsewhere (filter test rows) p
        (All-filter test (λ x. (sort_key_of x == p) ≡ false) rows (All-weaker (λ x. sort_key_of r < sort_key_of x) (λ x. (sort_key_of x == p) ≡ false) (λ x h. more-off (sort_key_of x) p (omega (arith, h, same))) rows above))

    go : row_in (filter test rows) p ≡ passing test (row_in rows p) → (b : Bool) → test r ≡ b → (e : Bool) → (sort_key_of r == p) ≡ e
        → row_in (if b then r ∷ filter test rows else filter test rows) p ≡ passing test (if e then Some r else row_in rows p)
    go rest true passes true here = rw here (sym (rw passes refl))
    go rest true passes false here = rw here rest
    go rest false fails true here = gone (is_eq (sort_key_of r) p here) ∙ sym (rw fails refl)
    go rest false fails false here = rest

pub stands-at : (rows : List Row) (p : ℕ) (x : Row) → row_in rows p ≡ Some x → sort_key_of x ≡ p
stands-at [] p x h = absurd cc
stands-at (r ∷ rows) p x h = go (sort_key_of r == p) refl h (stands-at rows p x)
  where
    go : (e : Bool) → (sort_key_of r == p) ≡ e → (if e then Some r else row_in rows p) ≡ Some x → (row_in rows p ≡ Some x → sort_key_of x ≡ p) → sort_key_of x ≡ p
    go true is h rest = let same : r ≡ x = cc in subst (λ y. sort_key_of y ≡ p) same (is_eq (sort_key_of r) p is)
    go false is h rest = rest h

-- of a recovery's key only a recovery is a row that counts
recovery-there : (id : ℕ) → id < 2 ^ 64 → (x : Row) → IsKeyed x → sort_key_of x ≡ at id → (k : RecoveryRow) × (x ≡ row.Recovery k)
recovery-there id small (row.Recovery k) range is = (k, refl)
recovery-there id small (row.Switch e) range is = absurd (omega (arith, small, is))
recovery-there id small (row.Active node end) range is = absurd (omega (arith, small, is))
recovery-there id small _ range is = absurd (omega (arith, range, is))

-- ---- at a load

module _ (period : List ℕ → ℕ) (short : (cluster : List ℕ) → period cluster ≤ longest_block) where
  -- a row that has a block period is the row of the recovery that it keeps, and one that lacks it becomes so
  given-row : (k : RecoveryRow) → given-by period (Some (row.Recovery k)) (Some k) ≡ Some (row.Recovery (as_row (loaded_by period k)))
  given-row k = go k.block refl
    where
      go : (o : Option ℕ) → k.block ≡ o → (if is_none k.block then Some (row.Recovery (as_row (loaded_by period k))) else Some (row.Recovery k)) ≡ Some (row.Recovery (as_row (loaded_by period k)))
      go None is = rw is refl
      go (Some block) is =
          let own = kept-back (period k.cluster) k (ap is_some is) in
          ap (λ (o : Option ℕ). if is_none o then Some (row.Recovery (as_row (loaded_by period k))) else Some (row.Recovery k)) is ∙ ap (λ (x : RecoveryRow). Some (row.Recovery x)) (sym own)

  short-block : (k : RecoveryRow) → is_block_in_range k.block ≡ true → (loaded_by period k).block ≤ longest_block
  short-block k h = go k.block h
    where
      go : (o : Option ℕ) → is_block_in_range o ≡ true → unwrap_or o (period k.cluster) ≤ longest_block
      go None h = short k.cluster
      go (Some block) h = leb-true block longest_block h

  module _ (count next until : ℕ) (rows : List Row) (few : count ≤ 2 ^ 32) (first : 1 ≤ next) (most : next ≤ 2 ^ 64) (before : until < next) where
    below : until < 2 ^ 64
    below = omega (arith, before, most)

    abbrev IsEntry : Recovery → Type 0
    IsEntry r = (1 ≤ r.id) × (r.id < next) × (r.block ≤ longest_block)

    abbrev Counts : Row → Type 0
    Counts r = counts count until r ≡ true

    loaded-ids : (xs : List Row) → All Counts xs → All IsEntry (recoveries_in period xs)
    loaded-ids [] all = All-nil IsEntry
    loaded-ids (row.Instance i ∷ xs) all = loaded-ids xs (All-tail Counts (row.Instance i) xs all)
    loaded-ids (row.Downtime d ∷ xs) all = loaded-ids xs (All-tail Counts (row.Downtime d) xs all)
    loaded-ids (row.Candidate c ∷ xs) all = loaded-ids xs (All-tail Counts (row.Candidate c) xs all)
    loaded-ids (row.Switch e ∷ xs) all = loaded-ids xs (All-tail Counts (row.Switch e) xs all)
    loaded-ids (row.Active node end ∷ xs) all = loaded-ids xs (All-tail Counts (row.Active node end) xs all)
    loaded-ids (row.Recovery k ∷ xs) all =
        let is = ranged count until k (All-head Counts (row.Recovery k) xs all) in
        let high = is.high in
        All-cons IsEntry (loaded_by period k) (recoveries_in period xs) (is.low, omega (arith, high, before), short-block k is.block) (loaded-ids xs (All-tail Counts (row.Recovery k) xs all))

    counted-all : All Counts (counted count until rows)
    counted-all = filter_passes (counts count until) (map_of rows)

    counted-rising : IsRising (counted count until rows)
    counted-rising = record { apart = AllPairs-filter (λ a b. sort_key_of a < sort_key_of b) (counts count until) (map_of rows) (map_of_rising rows).apart }

    pub audit-loaded : IsAudit (audit_of period next (counted count until rows))
    audit-loaded = kept-audit period (counted count until rows) next counted-rising first (loaded-ids (counted count until rows) counted-all)

    counted-at : IsRising rows → (p : ℕ) → row_in (counted count until rows) p ≡ passing (counts count until) (row_in rows p)
    counted-at rising p = row_in-filter (counts count until) p (map_of rows) (map_of_rising rows) ∙ ap (passing (counts count until)) (map_of-rising rows p rising)

    -- a recovery that is loaded is that of the row that is kept under its id, if that one counts
    pub loaded-at : IsRising rows → (id : ℕ) → id < 2 ^ 64
        → recovery_at (audit_of period next (counted count until rows)) id ≡ option_map (loaded_by period) (row-of (passing (counts count until) (row_in rows (at id))))
    loaded-at rising id small =
        let xs = counted count until rows in
        (found-recovery period id small xs counted-rising.apart (All-weaker Counts IsKeyed (keyed count until few below) xs counted-all)).found
        ∙ ap (λ (o : Option Row). option_map (loaded_by period) (row-of o)) (counted-at rising (at id))

    pub FollowAudit-by : IsRising rows → ((p : ℕ) (x : Row) → row_in rows p ≡ Some x → counts count until x ≡ counts count (next - 1) x)
        → FollowAudit count (changed rows (blocks_given period (counted count until rows))) (audit_of period next (counted count until rows))
    FollowAudit-by rising agree = record {
      audit = audit-loaded;
      small = most;
      each = λ id small.
          let xs = counted count until rows in
          let is = found-recovery period id small xs counted-rising.apart (All-weaker Counts IsKeyed (keyed count until few below) xs counted-all) in
          let there = counted-at rising (at id) in
          let look : recovery_at (audit_of period next xs) id ≡ option_map (loaded_by period) (row-of (passing (counts count until) (row_in rows (at id)))) =
          is.found ∙ ap (λ (o : Option Row). option_map (loaded_by period) (row-of o)) there in
          let row-now : row_in (changed rows (blocks_given period xs)) (at id) ≡ given-by period (row_in rows (at id)) (row-of (passing (counts count until) (row_in rows (at id)))) =
          row_in-changed rows (blocks_given period xs) (at id) ∙ is.given (row_in rows (at id)) ∙ ap (λ (o : Option Row). given-by period (row_in rows (at id)) (row-of o)) there in
          subst (λ (x : Option Row). IsAudited count next x (recovery_at (audit_of period next xs) id)) (sym row-now)
          (subst (IsAudited count next (given-by period (row_in rows (at id)) (row-of (passing (counts count until) (row_in rows (at id)))))) (sym look) (kept id small (row_in rows (at id)) refl));
    }
      where
        kept : (id : ℕ) → id < 2 ^ 64 → (x : Option Row) → row_in rows (at id) ≡ x
            → IsAudited count next (given-by period x (row-of (passing (counts count until) x))) (option_map (loaded_by period) (row-of (passing (counts count until) x)))
        kept id small None is = tt
        kept id small (Some x) is = go (counts count until x) refl
          where
            go : (b : Bool) → counts count until x ≡ b
                → IsAudited count next (given-by period (Some x) (row-of (if b then Some x else None))) (option_map (loaded_by period) (row-of (if b then Some x else None)))
            go false fails = sym (agree (at id) x is) ∙ fails
            go true passes =
                let it = recovery-there id small x (keyed count until few below x passes) (stands-at rows (at id) x is) in
                subst (λ y. IsAudited count next (given-by period (Some y) (recovery_row_in y)) (option_map (loaded_by period) (recovery_row_in y))) (sym it.1) (given-row it.0)

-- ---- the ids of an opening

later-above : (start : ℕ) (rows : List Row) → start ≤ fold later_id start rows
later-above start [] = omega arith
later-above start (r ∷ rows) = let more = later-above (later_id start r) rows in omega (arith, more)

ids-below : (start : ℕ) (rows : List Row) → All (λ x. id_in x ≤ fold later_id start rows) rows
ids-below start [] = All-nil (λ x. id_in x ≤ start)
ids-below start (r ∷ rows) =
    let more = later-above (later_id start r) rows in
    All-cons (λ x. id_in x ≤ fold later_id (later_id start r) rows) r rows (omega (arith, more)) (ids-below (later_id start r) rows)

id-within : (r : Row) → id_in r ≤ greatest_id
id-within (row.Recovery r) = go (leb r.id greatest_id) refl
  where
    go : (b : Bool) → leb r.id greatest_id ≡ b → (if b then r.id else 0) ≤ greatest_id
    go true is = leb-true r.id greatest_id is
    go false is = omega arith
id-within _ = omega arith

last-within : (start : ℕ) (rows : List Row) → start ≤ greatest_id → fold later_id start rows ≤ greatest_id
last-within start [] h = h
last-within start (r ∷ rows) h = let here = id-within r in last-within (later_id start r) rows (omega (arith, here, h))

pub last_id-within : (rows : List Row) → last_id rows ≤ greatest_id
last_id-within rows = last-within 0 rows (omega arith)

-- what holds of all rows holds of their map
all-put : (P : Row → Type 0) (rows : List Row) (r : Row) → All P rows → P r → All P (put rows r)
unfolding put
all-put P rows r all here =
    All-append P (rows_before rows (sort_key_of r)) (r ∷ rows_behind rows (sort_key_of r)) (All-filter (λ x. ltb (sort_key_of x) (sort_key_of r)) P rows all)
    (All-cons P r (rows_behind rows (sort_key_of r)) here (All-filter (λ x. ltb (sort_key_of r) (sort_key_of x)) P rows all))

all-mapped : (P : Row → Type 0) (map rows : List Row) → All P map → All P rows → All P (fold put map rows)
all-mapped P map [] so_far all = so_far
all-mapped P map (r ∷ rows) so_far all = all-mapped P (put map r) rows (all-put P map r so_far (All-head P r rows all)) (All-tail P r rows all)

same-filter : (test other : Row → Bool) (rows : List Row) → All (λ x. test x ≡ other x) rows → filter test rows ≡ filter other rows
same-filter test other [] all = refl
same-filter test other (r ∷ rows) all =
    let here = All-head (λ x. test x ≡ other x) r rows all in
    let rest = same-filter test other rows (All-tail (λ x. test x ≡ other x) r rows all) in
    (λ i. if here i then r ∷ filter test rows else filter test rows) ∙ ap (λ xs. if other r then r ∷ xs else xs) rest

leb-not : (m n : ℕ) → (m ≤ n → ⊥) → leb m n ≡ false
leb-not m n h = go (leb m n) refl
  where
    go : (b : Bool) → leb m n ≡ b → b ≡ false
    go true is = absurd (h (leb-true m n is))
    go false is = refl

ids-agree : (last id : ℕ) → last ≤ greatest_id → (if leb id greatest_id then id else 0) ≤ last → leb id greatest_id ≡ leb id last
ids-agree last id most h = go (leb id greatest_id) refl h
  where
    go : (b : Bool) → leb id greatest_id ≡ b → (if b then id else 0) ≤ last → b ≡ leb id last
    go true is h = sym (le-leb id last h)
    go false is h = sym (leb-not id last (λ k. let wide : id ≤ greatest_id = omega (arith, k, most) in false≢true (sym is ∙ le-leb id greatest_id wide)))

-- of the rows that are handed back the same count by the greatest id and by the last one
rows-agree : (count : ℕ) (rows : List Row) (x : Row) → id_in x ≤ last_id rows → counts count greatest_id x ≡ counts count (last_id rows) x
rows-agree count rows (row.Recovery r) h =
    ap (λ b. are_known count (r.failed.0 ∷ ending_servers r.outcome) && ((leb 1 r.id && b) && (leb r.begun.0 greatest && (is_end_in_range r.ended && is_block_in_range r.block))))
    (ids-agree (last_id rows) r.id (last_id-within rows) h)
rows-agree count rows _ h = refl

counted-opening : (count : ℕ) (rows : List Row) → counted count greatest_id rows ≡ counted count (last_id rows) rows
counted-opening count rows =
    same-filter (counts count greatest_id) (counts count (last_id rows)) (map_of rows)
    (All-weaker (λ x. id_in x ≤ last_id rows) (λ x. counts count greatest_id x ≡ counts count (last_id rows) x) (rows-agree count rows) (map_of rows)
    (all-mapped (λ x. id_in x ≤ last_id rows) [] rows (All-nil (λ x. id_in x ≤ last_id rows)) (ids-below 0 rows)))

module _ (period : List ℕ → ℕ) where
  pub audit-opened : (count : ℕ) (rows : List Row) → ((cluster : List ℕ) → period cluster ≤ longest_block) → count ≤ 2 ^ 32 → IsAudit (audit_of period (last_id rows + 1) (counted count greatest_id rows))
  audit-opened count rows short few =
      let most = last_id-within rows in
      subst (λ xs. IsAudit (audit_of period (last_id rows + 1) xs)) (sym (counted-opening count rows))
      (audit-loaded period short count (last_id rows + 1) (last_id rows) rows few (omega arith) (omega (arith, most)) (omega arith))

  pub FollowAudit-opened : (count : ℕ) (rows : List Row) → ((cluster : List ℕ) → period cluster ≤ longest_block) → count ≤ 2 ^ 32 → IsRising rows
      → FollowAudit count (changed rows (blocks_given period (counted count greatest_id rows))) (audit_of period (last_id rows + 1) (counted count greatest_id rows))
  FollowAudit-opened count rows short few rising =
      let most = last_id-within rows in
      let back : last_id rows ≡ (last_id rows + 1) - 1 = omega arith in
      subst (λ xs. FollowAudit count (changed rows (blocks_given period xs)) (audit_of period (last_id rows + 1) xs)) (sym (counted-opening count rows))
      (FollowAudit-by period short count (last_id rows + 1) (last_id rows) rows few (omega arith) (omega (arith, most)) (omega arith) rising (λ p x is. ap (λ n. counts count n x) back))

  pub FollowAudit-loaded : (count next : ℕ) (rows : List Row) → ((cluster : List ℕ) → period cluster ≤ longest_block) → count ≤ 2 ^ 32 → 1 ≤ next → next ≤ 2 ^ 64 → IsRising rows
      → FollowAudit count (changed rows (blocks_given period (counted count (next - 1) rows))) (audit_of period next (counted count (next - 1) rows))
  FollowAudit-loaded count next rows short few first most rising = FollowAudit-by period short count next (next - 1) rows few first most (omega (arith, first)) rising (λ p x is. refl)

  -- blocks that are given put recoveries
  puts-given : (xs : List Row) → All IsKeyed xs → All PutsRecovery (blocks_given period xs)
  puts-given [] all = All-nil PutsRecovery
  puts-given (row.Instance i ∷ xs) all = puts-given xs (All-tail IsKeyed (row.Instance i) xs all)
  puts-given (row.Downtime d ∷ xs) all = puts-given xs (All-tail IsKeyed (row.Downtime d) xs all)
  puts-given (row.Candidate c ∷ xs) all = puts-given xs (All-tail IsKeyed (row.Candidate c) xs all)
  puts-given (row.Switch e ∷ xs) all = puts-given xs (All-tail IsKeyed (row.Switch e) xs all)
  puts-given (row.Active node end ∷ xs) all = puts-given xs (All-tail IsKeyed (row.Active node end) xs all)
  puts-given (row.Recovery k ∷ xs) all = go (is_none k.block) (puts-given xs (All-tail IsKeyed (row.Recovery k) xs all))
    where
      go : (b : Bool) → All PutsRecovery (blocks_given period xs) → All PutsRecovery (cons_option (if b then Some (put_recovery (loaded_by period k)) else None) (blocks_given period xs))
      go true rest = All-cons PutsRecovery (put_recovery (loaded_by period k)) (blocks_given period xs) (as_row (loaded_by period k), All-head IsKeyed (row.Recovery k) xs all, refl) rest
      go false rest = rest

  pub puts-loaded : (count until : ℕ) (rows : List Row) → count ≤ 2 ^ 32 → until < 2 ^ 64 → All PutsRecovery (blocks_given period (counted count until rows))
  puts-loaded count until rows few small =
      puts-given (counted count until rows)
      (All-weaker (λ r. counts count until r ≡ true) IsKeyed (keyed count until few small) (counted count until rows) (filter_passes (counts count until) (map_of rows)))

  pub Follow-given : (rows given : List Row) (b : BookState) (count until : ℕ) → count ≤ 2 ^ 32 → until < 2 ^ 64 → Follow rows b → Follow (changed rows (blocks_given period (counted count until given))) b
  Follow-given rows given b count until few small follow = Follow-puts rows b (blocks_given period (counted count until given)) (puts-loaded count until given few small) follow

-- ---- changes of the book

apart-put : (count id : ℕ) → count ≤ 2 ^ 32 → id < 2 ^ 64 → (r : Row) → row_fits count r ≡ true → (sort_key_of r == at id) ≡ false
apart-put count id few small (row.Instance i) h = let less = head_known count i.no.0 (source_servers i.seen.source) h in less-off (sort_key_of (row.Instance i)) (at id) (omega (arith, less, few))
apart-put count id few small (row.Downtime d) h = let less = head_known count d.no.0 [] h in less-off (sort_key_of (row.Downtime d)) (at id) (omega (arith, less, few))
apart-put count id few small (row.Candidate c) h = let less = head_known count c.no.0 [] h in less-off (sort_key_of (row.Candidate c)) (at id) (omega (arith, less, few))
apart-put count id few small (row.Recovery r) h = absurd (false≢true h)
apart-put count id few small (row.Switch e) h = more-off (sort_key_of (row.Switch e)) (at id) (omega (arith, small))
apart-put count id few small (row.Active node end) h = absurd (false≢true h)

pub key-number : (k : Key) → IsKeyInRange k → key_number k ≤ 2 ^ 32 + 2 ^ 64 + 1
key-number (key.Server n) range = omega (arith, range)
key-number (key.Id id) range = omega (arith, range)
key-number key.Global range = omega arith
key-number key.Active range = omega arith

apart-remove : (id : ℕ) → id < 2 ^ 64 → (t : Table) (k : Key) → is_of_book t ≡ true → IsKeyInRange k → (sort_key t k == at id) ≡ false
apart-remove id small table.Recovery k h range = absurd (false≢true h)
apart-remove id small table.Switch k h range = more-off (sort_key table.Switch k) (at id) (omega (arith, small))
apart-remove id small table.Active k h range = absurd (false≢true h)
apart-remove id small x k h range = let n = key-number k range in less-off (sort_key x k) (at id) (omega (arith, n))

pub left-alone : (count id : ℕ) → count ≤ 2 ^ 32 → id < 2 ^ 64 → (c : Change) → fits count c ≡ true → IsInRange c → (x : Option Row) → row_after (at id) x c ≡ x
left-alone count id few small (change.Put r) fit range x = rw (apart-put count id few small r fit) refl
left-alone count id few small (change.Remove t k) fit range x = rw (apart-remove id small t k (both_true (is_of_book t) (are_known count (key_servers k)) fit).0 range) refl

-- a change of the book leaves the recoveries' rows
pub FollowAudit-book : (count : ℕ) (rows : List Row) (a : AuditState) (c : Change) → count ≤ 2 ^ 32 → FollowAudit count rows a → fits count c ≡ true → IsInRange c → FollowAudit count (changed_by rows c) a
FollowAudit-book count rows a c few follow fit range = record {
  audit = follow.audit;
  small = follow.small;
  each = λ id small. subst (λ (x : Option Row). IsAudited count a.next x (recovery_at a id)) (sym (row_in-changed_by rows c (at id) ∙ left-alone count id few small c fit range (row_in rows (at id)))) (follow.each id small);
}

-- ---- changes of recoveries

module _ (f : Recovery → Recovery) (same : (r : Recovery) → (f r).id ≡ r.id) (lasts : (r : Recovery) → (f r).block ≡ r.block) (changes : Recovery → Bool) (still : (r : Recovery) → changes r ≡ false → f r ≡ r) where
  found-mapped : (id : ℕ) (xs : List Recovery) → find (λ r. r.id == id) (map f xs) ≡ option_map f (find (λ r. r.id == id) xs)
  found-mapped id [] = refl
  found-mapped id (r ∷ xs) = ap (λ n. if (n == id) then Some (f r) else find (λ x. x.id == id) (map f xs)) (same r) ∙ go (r.id == id) (found-mapped id xs)
    where
      go : (e : Bool) → find (λ x. x.id == id) (map f xs) ≡ option_map f (find (λ x. x.id == id) xs) → (if e then Some (f r) else find (λ x. x.id == id) (map f xs)) ≡ option_map f (if e then Some r else find (λ x. x.id == id) xs)
      go true rest = refl
      go false rest = rest

  -- what is kept of an id after the changes
  abbrev kept-by : Option Row → Option Recovery → Option Row
  kept-by kept None = kept
  kept-by kept (Some r) = if changes r then Some (row.Recovery (as_row (f r))) else kept

  none-above : (id : ℕ) (xs : List Recovery) → All (λ r. id < r.id) xs → find (λ r. r.id == id) xs ≡ None
  none-above id xs above = none-at id xs (All-weaker (λ (r : Recovery). id < r.id) (λ r. (r.id == id) ≡ false) (λ r h. more-off r.id id h) xs above)

  kept-changed : (id : ℕ) (xs : List Recovery) (kept : Option Row) → AllPairs (λ x y. x.id < y.id) xs
      → fold (row_after (at id)) kept (map put_recovery (map f (filter changes xs))) ≡ kept-by kept (find (λ r. r.id == id) xs)
  kept-changed id [] kept rising = refl
  kept-changed id (r ∷ xs) kept rising = go (λ k. kept-changed id xs k (pairs_tail (λ (x y : Recovery). x.id < y.id) r xs rising)) (changes r) refl (r.id == id) refl
    where
      above : All (λ x. r.id < x.id) xs
      above = pairs_head (λ (x y : Recovery). x.id < y.id) r xs rising

      gone : r.id ≡ id → find (λ x. x.id == id) xs ≡ None
      gone here = none-above id xs (subst (λ n. All (λ (x : Recovery). n < x.id) xs) here above)

      key : (sort_key_of (row.Recovery (as_row (f r))) == at id) ≡ (r.id == id)
      key = same-key (f r).id id ∙ ap (λ n. n == id) (same r)

      go : ((k : Option Row) → fold (row_after (at id)) k (map put_recovery (map f (filter changes xs))) ≡ kept-by k (find (λ x. x.id == id) xs)) → (b : Bool) → changes r ≡ b → (e : Bool) → (r.id == id) ≡ e
          → fold (row_after (at id)) kept (map put_recovery (map f (if b then r ∷ filter changes xs else filter changes xs))) ≡ kept-by kept (if e then Some r else find (λ x. x.id == id) xs)
      go rest true is true here =
          let now : row_after (at id) kept (put_recovery (f r)) ≡ Some (row.Recovery (as_row (f r))) = ap (λ e. if e then Some (row.Recovery (as_row (f r))) else kept) (key ∙ here) in
          ap (λ k. fold (row_after (at id)) k (map put_recovery (map f (filter changes xs)))) now
          ∙ rest (Some (row.Recovery (as_row (f r))))
          ∙ ap (kept-by (Some (row.Recovery (as_row (f r))))) (gone (is_eq r.id id here))
          ∙ sym (ap (λ c. if c then Some (row.Recovery (as_row (f r))) else kept) is)
      go rest true is false here =
          let now : row_after (at id) kept (put_recovery (f r)) ≡ kept = ap (λ e. if e then Some (row.Recovery (as_row (f r))) else kept) (key ∙ here) in
          ap (λ k. fold (row_after (at id)) k (map put_recovery (map f (filter changes xs)))) now ∙ rest kept
      go rest false is true here =
          rest kept ∙ ap (kept-by kept) (gone (is_eq r.id id here)) ∙ sym (ap (λ c. if c then Some (row.Recovery (as_row (f r))) else kept) is)
      go rest false is false here = rest kept

  pub FollowAudit-mapped : (count : ℕ) (rows : List Row) (a : AuditState) → FollowAudit count rows a
      → FollowAudit count (changed rows (map put_recovery (map f (filter changes a.recoveries)))) (record a { recoveries = map f a.recoveries })
  FollowAudit-mapped count rows a follow = record {
    audit = IsAudit-map f same lasts a follow.audit;
    small = follow.small;
    each = λ id small.
        subst (λ (x : Option Row). IsAudited count a.next x (find (λ r. r.id == id) (map f a.recoveries))) (sym (row_in-changed rows (map put_recovery (map f (filter changes a.recoveries))) (at id) ∙ kept-changed id a.recoveries (row_in rows (at id)) follow.audit.rising))
        (subst (IsAudited count a.next (kept-by (row_in rows (at id)) (recovery_at a id))) (sym (found-mapped id a.recoveries)) (go (recovery_at a id) (row_in rows (at id)) (follow.each id small)));
  }
    where
      go : (x : Option Recovery) (kept : Option Row) → IsAudited count a.next kept x → IsAudited count a.next (kept-by kept x) (option_map f x)
      go None kept is = is
      go (Some r) kept is = by (changes r) refl
        where
          by : (b : Bool) → changes r ≡ b → (if b then Some (row.Recovery (as_row (f r))) else kept) ≡ Some (row.Recovery (as_row (f r)))
          by true changed = refl
          by false changed = is ∙ ap (λ (y : Recovery). Some (row.Recovery (as_row y))) (sym (still r changed))

ended-stays : (moment : Moment) (r : Recovery) → is_unended r ≡ false → interrupted moment r ≡ r
ended-stays moment r is = ap (λ b. if b then ended_so moment ending.Interrupted r else r) is

-- each unended recovery is kept as interrupted
pub FollowAudit-closed : (count : ℕ) (rows : List Row) (a : AuditState) (moment : Moment) → FollowAudit count rows a → FollowAudit count (changed rows (interrupting a moment)) (closed a moment)
FollowAudit-closed count rows a moment follow = FollowAudit-mapped (interrupted moment) (interrupted-id moment) (interrupted-block moment) is_unended (ended-stays moment) count rows a follow

-- what a load keeps of recoveries, first their blocks and then their ends
pub FollowAudit-loading : (period : List ℕ → ℕ) (count : ℕ) (rows counting : List Row) (a : AuditState) (moment : Moment)
    → FollowAudit count (changed rows (blocks_given period counting)) a
    → FollowAudit count (changed rows (loading period counting a moment)) (closed a moment)
FollowAudit-loading period count rows counting a moment follow =
    subst (λ (xs : List Row). FollowAudit count xs (closed a moment))
    (sym (fold-append changed_by rows (blocks_given period counting) (interrupting a moment)))
    (FollowAudit-closed count (changed rows (blocks_given period counting)) a moment follow)

acked-stays : (cluster : List ℕ) (r : Recovery) → is_new cluster r ≡ false → acknowledged_for cluster r ≡ r
acked-stays cluster r = go (is_of cluster r) r.acked refl
  where
    go : (of acked : Bool) → r.acked ≡ acked → (of && not acked) ≡ false → (if of then record r { acked = true } else r) ≡ r
    go true true is h = ap (λ b. record r { acked = b }) (sym is)
    go true false is h = absurd (false≢true (sym h))
    go false acked is h = refl

-- and each that is acknowledged
pub FollowAudit-acknowledged : (count : ℕ) (rows : List Row) (a : AuditState) (cluster : List ℕ) → FollowAudit count rows a
    → FollowAudit count (changed rows (map put_recovery (acking a cluster))) (acknowledged a cluster)
FollowAudit-acknowledged count rows a cluster follow = FollowAudit-mapped (acknowledged_for cluster) (acknowledged-id cluster) (acknowledged-block cluster) (is_new cluster) (acked-stays cluster) count rows a follow

-- ids of recoveries that change are in their type's range
pub closing-small : (a : AuditState) (moment : Moment) → IsAudit a → a.next ≤ 2 ^ 64 → All (λ r. r.id < 2 ^ 64) (closing a moment)
closing-small a moment is most =
    All-map (λ (r : Recovery). r.id < 2 ^ 64) (interrupted moment) (filter is_unended a.recoveries)
    (All-filter is_unended (λ r. (interrupted moment r).id < 2 ^ 64) a.recoveries
    (All-weaker (λ (r : Recovery). r.id < a.next) (λ r. (interrupted moment r).id < 2 ^ 64) (λ r h. let e = interrupted-id moment r in omega (arith, h, most, e)) a.recoveries is.below))

pub acking-small : (a : AuditState) (cluster : List ℕ) → IsAudit a → a.next ≤ 2 ^ 64 → All (λ r. r.id < 2 ^ 64) (acking a cluster)
acking-small a cluster is most =
    All-map (λ (r : Recovery). r.id < 2 ^ 64) (acknowledged_for cluster) (filter (is_new cluster) a.recoveries)
    (All-filter (is_new cluster) (λ r. (acknowledged_for cluster r).id < 2 ^ 64) a.recoveries
    (All-weaker (λ (r : Recovery). r.id < a.next) (λ r. (acknowledged_for cluster r).id < 2 ^ 64) (λ r h. let e = acknowledged-id cluster r in omega (arith, h, most, e)) a.recoveries is.below))
