-- The kept rows of a book change with the book.
use Rattle.std.proofs.Common.{◌≡◌, ℕ, ◌+◌, ◌*◌, ◌<◌, ◌≤◌, ◌^◌, Bool, true, List, [], ◌∷◌, ◌++◌, length, All, Option, None, Some, refl, sym, ap, ◌∙◌, append_assoc, append-nil, arith, filter_map, option_map, slice_set}
use Rattle.instance_keeper.proofs.Prelude.{All-append, All-cons, All-nil, All-weaker, AllPairs, BookState, Change, IsBook, IsInRange, IsKeyInRange}
use Rattle.instance_keeper.proofs.Prelude.{IsRising, Key, Row, Table, after_change, after_put, after_removal, are_known, book_rows, both_true}
use Rattle.instance_keeper.proofs.Prelude.{changed_by, false≢true, fits, head_known, is_of_book, key_servers, option_to_list, pairs_append, put}
use Rattle.instance_keeper.proofs.Prelude.{put_middle, remove, remove_middle, row_fits, sort_key, sort_key_of, source_servers}
use Rattle.instance_keeper.proofs.Prelude.change
use Rattle.instance_keeper.proofs.Prelude.key
use Rattle.instance_keeper.proofs.Prelude.row
use Rattle.instance_keeper.proofs.Prelude.table
use Rattle.instance_keeper.proofs.BookRows.{rows_low, rows_high, rows_rise, table_put, table_remove}

abbrev pub Low : ℕ → List Row → Type 0
Low p rows = All (λ r. p ≤ sort_key_of r) rows

abbrev pub High : ℕ → List Row → Type 0
High p rows = All (λ r. sort_key_of r < p) rows

low_less : (p q : ℕ) (rows : List Row) → q ≤ p → Low p rows → Low q rows
low_less p q rows e h = All-weaker (λ r. p ≤ sort_key_of r) (λ r. q ≤ sort_key_of r) (λ r g. omega (arith, e, g)) rows h

high_more : (p q : ℕ) (rows : List Row) → p ≤ q → High p rows → High q rows
high_more p q rows e h = All-weaker (λ r. sort_key_of r < p) (λ r. sort_key_of r < q) (λ r g. omega (arith, e, g)) rows h

above : (p q : ℕ) (rows : List Row) → q < p → Low p rows → All (λ r. q < sort_key_of r) rows
above p q rows e h = All-weaker (λ r. p ≤ sort_key_of r) (λ r. q < sort_key_of r) (λ r g. omega (arith, e, g)) rows h

across : (p q : ℕ) (xs ys : List Row) → p ≤ q → High p xs → Low q ys → All (λ x. All (λ y. sort_key_of x < sort_key_of y) ys) xs
across p q xs ys e high low =
    All-weaker (λ x. sort_key_of x < p) (λ x. All (λ y. sort_key_of x < sort_key_of y) ys)
    (λ x g. All-weaker (λ y. q ≤ sort_key_of y) (λ y. sort_key_of x < sort_key_of y) (λ y h. omega (arith, e, g, h)) ys low) xs high

low_both : (p : ℕ) (xs ys : List Row) → Low p xs → Low p ys → Low p (xs ++ ys)
low_both p xs ys a b = All-append (λ r. p ≤ sort_key_of r) xs ys a b

high_both : (p : ℕ) (xs ys : List Row) → High p xs → High p ys → High p (xs ++ ys)
high_both p xs ys a b = All-append (λ r. sort_key_of r < p) xs ys a b

abbrev Before : Row → Row → Type 0
Before x y = sort_key_of x < sort_key_of y

module _ (b : BookState) (is : IsBook b) where
  abbrev pub first : List Row
  first = filter_map (option_map row.Instance) b.instances

  abbrev pub second : List Row
  second = filter_map (option_map row.Downtime) b.downtimes

  abbrev pub third : List Row
  third = filter_map (option_map row.Candidate) b.candidates

  abbrev pub last : List Row
  last = option_to_list (option_map row.Switch b.switch)

  first_high : High (1 * 2 ^ 65 + 2 ^ 32) first
  first_high = let s = is.small in let n = is.instances in high_more (1 * 2 ^ 65 + (0 + length b.instances)) (1 * 2 ^ 65 + 2 ^ 32) first (omega (arith, s, n)) (rows_high row.Instance (λ i. i.no) (1 * 2 ^ 65) (λ a. refl) 0 b.instances is.instance_numbers)

  second_low : Low (2 * 2 ^ 65) second
  second_low = low_less (2 * 2 ^ 65 + 0) (2 * 2 ^ 65) second (omega arith) (rows_low row.Downtime (λ d. d.no) (2 * 2 ^ 65) (λ a. refl) 0 b.downtimes is.downtime_numbers)

  second_high : High (2 * 2 ^ 65 + 2 ^ 32) second
  second_high = let s = is.small in let n = is.downtimes in high_more (2 * 2 ^ 65 + (0 + length b.downtimes)) (2 * 2 ^ 65 + 2 ^ 32) second (omega (arith, s, n)) (rows_high row.Downtime (λ d. d.no) (2 * 2 ^ 65) (λ a. refl) 0 b.downtimes is.downtime_numbers)

  third_low : Low (3 * 2 ^ 65) third
  third_low = low_less (3 * 2 ^ 65 + 0) (3 * 2 ^ 65) third (omega arith) (rows_low row.Candidate (λ c. c.no) (3 * 2 ^ 65) (λ a. refl) 0 b.candidates is.candidate_numbers)

  third_high : High (3 * 2 ^ 65 + 2 ^ 32) third
  third_high = let s = is.small in let n = is.candidates in high_more (3 * 2 ^ 65 + (0 + length b.candidates)) (3 * 2 ^ 65 + 2 ^ 32) third (omega (arith, s, n)) (rows_high row.Candidate (λ c. c.no) (3 * 2 ^ 65) (λ a. refl) 0 b.candidates is.candidate_numbers)

  last_at : (x : Option Bool) → All (λ r. sort_key_of r ≡ 5 * 2 ^ 65 + (2 ^ 32 + 2 ^ 64)) (option_to_list (option_map row.Switch x))
  last_at None = All-nil (λ r. sort_key_of r ≡ 5 * 2 ^ 65 + (2 ^ 32 + 2 ^ 64))
  last_at (Some e) = All-cons (λ r. sort_key_of r ≡ 5 * 2 ^ 65 + (2 ^ 32 + 2 ^ 64)) (row.Switch e) [] refl (All-nil (λ r. sort_key_of r ≡ 5 * 2 ^ 65 + (2 ^ 32 + 2 ^ 64)))

  pub last_low : (p : ℕ) → p ≤ 5 * 2 ^ 65 + (2 ^ 32 + 2 ^ 64) → Low p last
  last_low p e = All-weaker (λ r. sort_key_of r ≡ 5 * 2 ^ 65 + (2 ^ 32 + 2 ^ 64)) (λ r. p ≤ sort_key_of r) (λ r g. omega (arith, e, g)) last (last_at b.switch)

  after_second : Low (3 * 2 ^ 65) (third ++ last)
  after_second = low_both (3 * 2 ^ 65) third last third_low (last_low (3 * 2 ^ 65) (omega arith))

  after_first : Low (2 * 2 ^ 65) (second ++ (third ++ last))
  after_first = low_both (2 * 2 ^ 65) second (third ++ last) second_low (low_less (3 * 2 ^ 65) (2 * 2 ^ 65) (third ++ last) (omega arith) after_second)

  to_second : High (2 * 2 ^ 65 + 2 ^ 32) (first ++ second)
  to_second = high_both (2 * 2 ^ 65 + 2 ^ 32) first second (high_more (1 * 2 ^ 65 + 2 ^ 32) (2 * 2 ^ 65 + 2 ^ 32) first (omega arith) first_high) second_high

  pub to_third : High (3 * 2 ^ 65 + 2 ^ 32) ((first ++ second) ++ third)
  to_third = high_both (3 * 2 ^ 65 + 2 ^ 32) (first ++ second) third (high_more (2 * 2 ^ 65 + 2 ^ 32) (3 * 2 ^ 65 + 2 ^ 32) (first ++ second) (omega arith) to_second) third_high

  last_rise : (x : Option Bool) → AllPairs (λ a b. sort_key_of a < sort_key_of b) (option_to_list (option_map row.Switch x))
  last_rise None = λ i j d less within. absurd (omega (arith, within))
  last_rise (Some e) = λ i j d less within. absurd (omega (arith, less, within))

  pub rows_rising : IsRising (book_rows b)
  rows_rising = record {
    apart =
        pairs_append Before first (second ++ (third ++ last)) (rows_rise row.Instance (λ i. i.no) (1 * 2 ^ 65) (λ a. refl) 0 b.instances is.instance_numbers)
        (pairs_append Before second (third ++ last) (rows_rise row.Downtime (λ d. d.no) (2 * 2 ^ 65) (λ a. refl) 0 b.downtimes is.downtime_numbers)
        (pairs_append Before third last (rows_rise row.Candidate (λ c. c.no) (3 * 2 ^ 65) (λ a. refl) 0 b.candidates is.candidate_numbers) (last_rise b.switch)
        (across (3 * 2 ^ 65 + 2 ^ 32) (4 * 2 ^ 65) third last (omega arith) third_high (last_low (4 * 2 ^ 65) (omega arith))))
        (across (2 * 2 ^ 65 + 2 ^ 32) (3 * 2 ^ 65) second (third ++ last) (omega arith) second_high after_second))
        (across (1 * 2 ^ 65 + 2 ^ 32) (2 * 2 ^ 65) first (second ++ (third ++ last)) (omega arith) first_high after_first);
  }

  module _ (n : ℕ) (known : n < length b.names) where
    pub in_first : n < length b.instances
    in_first = let e = is.instances in omega (arith, e, known)

    in_second : n < length b.downtimes
    in_second = let e = is.downtimes in omega (arith, e, known)

    in_third : n < length b.candidates
    in_third = let e = is.candidates in omega (arith, e, known)

    small : n < 2 ^ 32
    small = let e = is.small in omega (arith, e, known)

    pub behind_first : All (λ r. 1 * 2 ^ 65 + n < sort_key_of r) (second ++ (third ++ last))
    behind_first = above (2 * 2 ^ 65) (1 * 2 ^ 65 + n) (second ++ (third ++ last)) (let e = small in omega (arith, e)) after_first

    before_second : High (2 * 2 ^ 65 + n) first
    before_second = high_more (1 * 2 ^ 65 + 2 ^ 32) (2 * 2 ^ 65 + n) first (omega arith) first_high

    behind_second : All (λ r. 2 * 2 ^ 65 + n < sort_key_of r) (third ++ last)
    behind_second = above (3 * 2 ^ 65) (2 * 2 ^ 65 + n) (third ++ last) (let e = small in omega (arith, e)) after_second

    before_third : High (3 * 2 ^ 65 + n) (first ++ second)
    before_third = high_more (2 * 2 ^ 65 + 2 ^ 32) (3 * 2 ^ 65 + n) (first ++ second) (omega arith) to_second

    behind_third : All (λ r. 3 * 2 ^ 65 + n < sort_key_of r) last
    behind_third = above (4 * 2 ^ 65) (3 * 2 ^ 65 + n) last (let e = small in omega (arith, e)) (last_low (4 * 2 ^ 65) (omega arith))

  third_assoc : (x : List Row) → first ++ (second ++ (x ++ last)) ≡ (first ++ second) ++ (x ++ last)
  third_assoc x = sym (append_assoc first second (x ++ last))

  last_assoc : (x : List Row) → first ++ (second ++ (third ++ x)) ≡ ((first ++ second) ++ third) ++ x
  last_assoc x = sym (append_assoc (first ++ second) third x ∙ append_assoc first second (third ++ x))

  before_last : High (5 * 2 ^ 65 + (2 ^ 32 + 2 ^ 64)) ((first ++ second) ++ third)
  before_last = high_more (3 * 2 ^ 65 + 2 ^ 32) (5 * 2 ^ 65 + (2 ^ 32 + 2 ^ 64)) ((first ++ second) ++ third) (omega arith) to_third

  pub book_put : (r : Row) → row_fits (length b.names) r ≡ true → book_rows (after_put b r) ≡ put (book_rows b) r
  book_put (row.Instance i) h =
      let known = head_known (length b.names) i.no.0 (source_servers i.seen.source) h in
      table_put row.Instance (λ i. i.no) (1 * 2 ^ 65) (λ a. refl) b.instances i.no.0 is.instance_numbers (in_first i.no.0 known) [] (second ++ (third ++ last)) (All-nil (λ r. sort_key_of r < 1 * 2 ^ 65 + i.no.0)) (behind_first i.no.0 known) i refl
  book_put (row.Downtime d) h =
      let known = head_known (length b.names) d.no.0 [] h in
      table_put row.Downtime (λ d. d.no) (2 * 2 ^ 65) (λ a. refl) b.downtimes d.no.0 is.downtime_numbers (in_second d.no.0 known) first (third ++ last) (before_second d.no.0 known) (behind_second d.no.0 known) d refl
  book_put (row.Candidate c) h =
      let known = head_known (length b.names) c.no.0 [] h in
      third_assoc (filter_map (option_map row.Candidate) (slice_set b.candidates c.no.0 (Some c)))
      ∙ (table_put row.Candidate (λ c. c.no) (3 * 2 ^ 65) (λ a. refl) b.candidates c.no.0 is.candidate_numbers (in_third c.no.0 known) (first ++ second) last (before_third c.no.0 known) (behind_third c.no.0 known) c refl
      ∙ ap (λ l. put l (row.Candidate c)) (sym (third_assoc third)))
  book_put (row.Recovery r) h = absurd (false≢true h)
  book_put (row.Active node until) h = absurd (false≢true h)
  book_put (row.Switch e) h =
      last_assoc (row.Switch e ∷ [])
      ∙ sym (ap (λ l. put l (row.Switch e)) (last_assoc last ∙ ap (λ l. ((first ++ second) ++ third) ++ l) (sym (append-nil last)))
      ∙ put_middle ((first ++ second) ++ third) last [] (5 * 2 ^ 65 + (2 ^ 32 + 2 ^ 64)) before_last (last_at b.switch) (All-nil (λ r. 5 * 2 ^ 65 + (2 ^ 32 + 2 ^ 64) < sort_key_of r)) (row.Switch e) refl)

  -- a key of another table has no row
  first_none : (t : Table) (k : Key) (q : ℕ) → sort_key t k ≡ 1 * 2 ^ 65 + q → 2 ^ 32 ≤ q → q < 2 ^ 65 → book_rows b ≡ remove (book_rows b) t k
  first_none t k q at low high =
      sym (remove_middle first [] (second ++ (third ++ last)) (sort_key t k)
      (high_more (1 * 2 ^ 65 + 2 ^ 32) (sort_key t k) first (omega (arith, at, low)) first_high) (All-nil (λ r. sort_key_of r ≡ sort_key t k))
      (above (2 * 2 ^ 65) (sort_key t k) (second ++ (third ++ last)) (omega (arith, at, high)) after_first) t k refl)

  second_none : (t : Table) (k : Key) (q : ℕ) → sort_key t k ≡ 2 * 2 ^ 65 + q → 2 ^ 32 ≤ q → q < 2 ^ 65 → book_rows b ≡ remove (book_rows b) t k
  second_none t k q at low high =
      sym (append_assoc first second (third ++ last))
      ∙ sym (ap (λ l. remove l t k) (sym (append_assoc first second (third ++ last)))
      ∙ remove_middle (first ++ second) [] (third ++ last) (sort_key t k)
      (high_more (2 * 2 ^ 65 + 2 ^ 32) (sort_key t k) (first ++ second) (omega (arith, at, low)) to_second) (All-nil (λ r. sort_key_of r ≡ sort_key t k))
      (above (3 * 2 ^ 65) (sort_key t k) (third ++ last) (omega (arith, at, high)) after_second) t k refl)

  third_none : (t : Table) (k : Key) → 3 * 2 ^ 65 + 2 ^ 32 ≤ sort_key t k → sort_key t k < 5 * 2 ^ 65 + (2 ^ 32 + 2 ^ 64) → book_rows b ≡ remove (book_rows b) t k
  third_none t k low high =
      last_assoc last
      ∙ sym (ap (λ l. remove l t k) (last_assoc last)
      ∙ remove_middle ((first ++ second) ++ third) [] last (sort_key t k)
      (high_more (3 * 2 ^ 65 + 2 ^ 32) (sort_key t k) ((first ++ second) ++ third) low to_third) (All-nil (λ r. sort_key_of r ≡ sort_key t k))
      (above (5 * 2 ^ 65 + (2 ^ 32 + 2 ^ 64)) (sort_key t k) last high (last_low (5 * 2 ^ 65 + (2 ^ 32 + 2 ^ 64)) (omega arith))) t k refl)

  last_none : (t : Table) (k : Key) → 5 * 2 ^ 65 + (2 ^ 32 + 2 ^ 64) < sort_key t k → book_rows b ≡ remove (book_rows b) t k
  last_none t k low =
      let all = high_both (sort_key t k) ((first ++ second) ++ third) last
      (high_more (3 * 2 ^ 65 + 2 ^ 32) (sort_key t k) ((first ++ second) ++ third) (omega (arith, low)) to_third)
      (All-weaker (λ r. sort_key_of r ≡ 5 * 2 ^ 65 + (2 ^ 32 + 2 ^ 64)) (λ r. sort_key_of r < sort_key t k) (λ r g. omega (arith, low, g)) last (last_at b.switch)) in
      let whole = last_assoc last ∙ sym (append-nil (((first ++ second) ++ third) ++ last)) in
      whole
      ∙ sym (ap (λ l. remove l t k) whole
      ∙ remove_middle (((first ++ second) ++ third) ++ last) [] [] (sort_key t k) all (All-nil (λ r. sort_key_of r ≡ sort_key t k)) (All-nil (λ r. sort_key t k < sort_key_of r)) t k refl)

  pub book_remove : (t : Table) (k : Key) → is_of_book t ≡ true → are_known (length b.names) (key_servers k) ≡ true → IsKeyInRange k → book_rows (after_removal b t k) ≡ remove (book_rows b) t k
  book_remove table.Instance (key.Server n) o h r =
      let known = head_known (length b.names) n.0 [] h in
      table_remove row.Instance (λ i. i.no) (1 * 2 ^ 65) (λ a. refl) b.instances n.0 is.instance_numbers (in_first n.0 known) [] (second ++ (third ++ last)) (All-nil (λ r. sort_key_of r < 1 * 2 ^ 65 + n.0)) (behind_first n.0 known) table.Instance (key.Server n) refl
  book_remove table.Instance (key.Id id) o h r = first_none table.Instance (key.Id id) (2 ^ 32 + id) refl (omega arith) (omega (arith, r))
  book_remove table.Instance key.Global o h r = first_none table.Instance key.Global (2 ^ 32 + 2 ^ 64) refl (omega arith) (omega arith)
  book_remove table.Instance key.Active o h r = first_none table.Instance key.Active (2 ^ 32 + 2 ^ 64 + 1) refl (omega arith) (omega arith)
  book_remove table.Downtime (key.Server n) o h r =
      let known = head_known (length b.names) n.0 [] h in
      table_remove row.Downtime (λ d. d.no) (2 * 2 ^ 65) (λ a. refl) b.downtimes n.0 is.downtime_numbers (in_second n.0 known) first (third ++ last) (before_second n.0 known) (behind_second n.0 known) table.Downtime (key.Server n) refl
  book_remove table.Downtime (key.Id id) o h r = second_none table.Downtime (key.Id id) (2 ^ 32 + id) refl (omega arith) (omega (arith, r))
  book_remove table.Downtime key.Global o h r = second_none table.Downtime key.Global (2 ^ 32 + 2 ^ 64) refl (omega arith) (omega arith)
  book_remove table.Downtime key.Active o h r = second_none table.Downtime key.Active (2 ^ 32 + 2 ^ 64 + 1) refl (omega arith) (omega arith)
  book_remove table.Candidate (key.Server n) o h r =
      let known = head_known (length b.names) n.0 [] h in
      third_assoc (filter_map (option_map row.Candidate) (slice_set b.candidates n.0 None))
      ∙ (table_remove row.Candidate (λ c. c.no) (3 * 2 ^ 65) (λ a. refl) b.candidates n.0 is.candidate_numbers (in_third n.0 known) (first ++ second) last (before_third n.0 known) (behind_third n.0 known) table.Candidate (key.Server n) refl
      ∙ ap (λ l. remove l table.Candidate (key.Server n)) (sym (third_assoc third)))
  book_remove table.Candidate (key.Id id) o h r = third_none table.Candidate (key.Id id) (omega arith) (omega (arith, r))
  book_remove table.Candidate key.Global o h r = third_none table.Candidate key.Global (omega arith) (omega arith)
  book_remove table.Candidate key.Active o h r = third_none table.Candidate key.Active (omega arith) (omega arith)
  book_remove table.Recovery k o h r = absurd (false≢true o)
  book_remove table.Active k o h r = absurd (false≢true o)
  book_remove table.Switch (key.Server n) o h r =
      let known = head_known (length b.names) n.0 [] h in
      let s = small n.0 known in
      third_none table.Switch (key.Server n) (omega arith) (omega (arith, s))
  book_remove table.Switch (key.Id id) o h r = third_none table.Switch (key.Id id) (omega arith) (omega (arith, r))
  book_remove table.Switch key.Active o h r = last_none table.Switch key.Active (omega arith)
  book_remove table.Switch key.Global o h r =
      last_assoc []
      ∙ sym (ap (λ l. remove l table.Switch key.Global) (last_assoc last ∙ ap (λ l. ((first ++ second) ++ third) ++ l) (sym (append-nil last)))
      ∙ remove_middle ((first ++ second) ++ third) last [] (5 * 2 ^ 65 + (2 ^ 32 + 2 ^ 64)) before_last (last_at b.switch) (All-nil (λ r. 5 * 2 ^ 65 + (2 ^ 32 + 2 ^ 64) < sort_key_of r)) table.Switch key.Global refl)

  pub book_change : (c : Change) → fits (length b.names) c ≡ true → IsInRange c → book_rows (after_change b c) ≡ changed_by (book_rows b) c
  book_change (change.Put r) h g = book_put r h
  book_change (change.Remove t k) h g =
      let e = both_true (is_of_book t) (are_known (length b.names) (key_servers k)) h in
      book_remove t k e.0 e.1 g
