-- What a search by halves needs of a log's transactions.
use Rattle.std.proofs.Common.{◌≡◌, ℕ, ◌+◌, ◌-◌, ◌<◌, ◌≤◌, Bool, true, false, cond, List, [], ◌∷◌, ◌++◌, length, refl, sym, ◌∙◌, ap, subst, inl, inr, Option, Some, None, arith, zero, suc, ◌||◌, get_or, count_by, map, option_map, slice_get}
use Rattle.binlog_coords.proofs.Prelude.{Coord, Entry, IsPartitionedBy, IsPartitionPoint, LieBetween, Log, Next, Slot, cases_Bool, coord_after}
use Rattle.binlog_coords.proofs.Prelude.{end_coord, end_of, end_or_first, ends_by, entry_from, entry_of, file_start, from_bool, has_place}
use Rattle.binlog_coords.proofs.Prelude.{is_at_or_before, is_before, is_file_start, length-map, list_any, map-append, nat_tests, next_after}
use Rattle.binlog_coords.proofs.Prelude.{next_file, prefix_len, prefix_len_is, same_coord, slice_get-get_or, slice_get-map, slice_get_past}
use Rattle.binlog_coords.proofs.Prelude.{start_coord, starts_at, touches}
use Rattle.binlog_coords.proofs.Prelude.next
use Rattle.binlog_coords.proofs.Places.{is_at_or_before-trans, count_by-cons}

-- one more transaction at the end
pub LieBetween-snoc : (from to to' : Coord) (es : List Entry) (e : Entry) → LieBetween from to es → is_at_or_before to (start_coord e) ≡ true → e.start < e.end
    → is_at_or_before (end_coord e) to' ≡ true → LieBetween from to' (es ++ e ∷ [])
LieBetween-snoc from to to' [] e h s some l = (is_at_or_before-trans from to (start_coord e) h s, some, l)
LieBetween-snoc from to to' (x ∷ es) e h s some l = (h.0, h.1, LieBetween-snoc (end_coord x) to to' es e h.2 s some l)

-- a later end
pub LieBetween-later : (from to to' : Coord) (es : List Entry) → LieBetween from to es → is_at_or_before to to' ≡ true → LieBetween from to' es
LieBetween-later from to to' [] h l = is_at_or_before-trans from to to' h l
LieBetween-later from to to' (x ∷ es) h l = (h.0, h.1, LieBetween-later (end_coord x) to to' es h.2 l)

-- a file's head is after all of the file before it
pub before-next : (file pos : ℕ) → is_at_or_before (record { file = file; pos = pos }) (file_start (file + 1)) ≡ true
before-next file pos = grind (arith, nat_tests)

pub LieBetween-ends : (from to : Coord) (es : List Entry) → LieBetween from to es → is_at_or_before from to ≡ true
LieBetween-ends from to [] h = h
LieBetween-ends from to (x ∷ es) h =
    let rest = LieBetween-ends (end_coord x) to es h.2 in
    let first = h.0 in
    let some = h.1 in
    grind (arith, nat_tests)

-- after one more transaction, in the same file or with the next begun
pub LieBetween-appended : (file start end : ℕ) (es es' : List Entry) → LieBetween (file_start 1) (record { file = file; pos = start }) es → start < end
    → es' ≡ es ++ record { file = file; start = start; end = end } ∷ [] → LieBetween (file_start 1) (record { file = file; pos = end }) es'
LieBetween-appended file start end es es' h some more =
    let at_start : is_at_or_before (record { file = file; pos = start }) (record { file = file; pos = start }) ≡ true = grind (arith, nat_tests) in
    let at_end : is_at_or_before (record { file = file; pos = end }) (record { file = file; pos = end }) ≡ true = grind (arith, nat_tests) in
    rw more (LieBetween-snoc (file_start 1) (record { file = file; pos = start }) (record { file = file; pos = end }) es (record { file = file; start = start; end = end }) h at_start some at_end)

pub LieBetween-filled : (file start end : ℕ) (es es' : List Entry) → LieBetween (file_start 1) (record { file = file; pos = start }) es → start < end
    → es' ≡ es ++ record { file = file; start = start; end = end } ∷ [] → LieBetween (file_start 1) (file_start (file + 1)) es'
LieBetween-filled file start end es es' h some more =
    LieBetween-later (file_start 1) (record { file = file; pos = end }) (file_start (file + 1)) es' (LieBetween-appended file start end es es' h some more) (before-next file end)

-- nothing has ended at the start of the first, and nothing touches what lies before it
none-ended : (c from to : Coord) (es : List Entry) → LieBetween from to es → is_at_or_before c from ≡ true → count_by (ends_by c) es ≡ 0
none-ended c from to [] h l = refl
none-ended c from to (x ∷ es) h l =
    let first = h.0 in
    let some = h.1 in
    let not_yet : ends_by c x ≡ false = grind (arith, nat_tests) in
    let within : is_at_or_before c (end_coord x) ≡ true = grind (arith, nat_tests) in
    let rest = none-ended c (end_coord x) to es h.2 within in
    rw (count_by-cons (ends_by c) x es, not_yet, rest) refl

none-touched : (c from to : Coord) (es : List Entry) → LieBetween from to es → is_before c from ≡ true → list_any (touches c) es ≡ false
none-touched c from to [] h l = refl
none-touched c from to (x ∷ es) h l =
    let first = h.0 in
    let some = h.1 in
    let not_here : touches c x ≡ false = grind (arith, nat_tests) in
    let within : is_before c (end_coord x) ≡ true = grind (arith, nat_tests) in
    let rest = none-touched c (end_coord x) to es h.2 within in
    rw (not_here, rest) refl

none-begins : (c from to : Coord) (k : ℕ) (es : List Entry) (none : Next) → LieBetween from to es → is_before c from ≡ true → entry_from c k es none ≡ none
none-begins c from to k [] none h l = refl
none-begins c from to k (x ∷ es) none h l =
    let first = h.0 in
    let some = h.1 in
    let not_here : same_coord (start_coord x) c ≡ false = grind (arith, nat_tests) in
    let within : is_before c (end_coord x) ≡ true = grind (arith, nat_tests) in
    let rest = none-begins c (end_coord x) to (suc k) es none h.2 within in
    rw (not_here, rest) refl

-- those that end by a coordinate come first
count-is-prefix : (c from to : Coord) (es : List Entry) → LieBetween from to es → count_by (ends_by c) es ≡ prefix_len (ends_by c) es
count-is-prefix c from to [] h = refl
count-is-prefix c from to (x ∷ es) h =
    elim (cases_Bool (ends_by c x)) [
      | inl ended ↦
          let rest = count-is-prefix c (end_coord x) to es h.2 in
          rw (count_by-cons (ends_by c) x es, ended, rest) refl
      | inr later ↦
          let within : is_at_or_before c (end_coord x) ≡ true = grind (arith, nat_tests) in
          let rest = none-ended c (end_coord x) to es h.2 within in
          rw (count_by-cons (ends_by c) x es, later, rest) refl
    ]

-- each begins after the list's start, and takes bytes
lies-behind : (from to : Coord) (es : List Slot) → LieBetween from to (map entry_of es) → (j : ℕ) (d : Slot) → j < length es
    → (is_at_or_before from (start_coord (entry_of (get_or es j d))) ≡ true) × ((entry_of (get_or es j d)).start < (entry_of (get_or es j d)).end)
lies-behind from to [] h j d below = absurd (omega arith)
lies-behind from to (x ∷ es) h zero d below = (h.0, h.1)
lies-behind from to (x ∷ es) h (suc j) d below =
    let first = h.0 in
    let some = h.1 in
    let here : is_at_or_before from (end_coord (entry_of x)) ≡ true = grind (arith, nat_tests) in
    let rest = lies-behind (end_coord (entry_of x)) to es h.2 j d (omega arith) in
    (is_at_or_before-trans from (end_coord (entry_of x)) (start_coord (entry_of (get_or es j d))) here rest.0, rest.1)

ended-with : (c from : Coord) (e : Entry) → is_at_or_before from (start_coord e) ≡ true → e.start < e.end → ends_by c e ≡ true → is_at_or_before from c ≡ true
ended-with c from e behind some by = grind (arith, nat_tests)

-- the transaction of a slot ends at or before c
abbrev pub slot_ends : Coord → Slot → Bool
slot_ends c s = ends_by c (entry_of s)

-- those that have ended are before those that have not
pub ended-before : (c from to : Coord) (es : List Slot) → LieBetween from to (map entry_of es) → IsPartitionedBy (slot_ends c) es
ended-before c from to [] h i j d order below by = absurd (omega arith)
ended-before c from to (x ∷ es) h zero zero d order below by = by
ended-before c from to (x ∷ es) h zero (suc j) d order below by =
    let rest = lies-behind (end_coord (entry_of x)) to es h.2 j d (omega arith) in
    ended-with c (end_coord (entry_of x)) (entry_of (get_or es j d)) rest.0 rest.1 by
ended-before c from to (x ∷ es) h (suc i) zero d order below by = absurd (omega arith)
ended-before c from to (x ∷ es) h (suc i) (suc j) d order below by =
    ended-before c (end_coord (entry_of x)) to es h.2 i j d (omega arith) (omega arith) by

prefix_len-entries : (c : Coord) (es : List Slot) → prefix_len (ends_by c) (map entry_of es) ≡ prefix_len (slot_ends c) es
prefix_len-entries c [] = refl
prefix_len-entries c (x ∷ es) = let rest = prefix_len-entries c es in go (slot_ends c x) rest
  where
    go : (b : Bool) → prefix_len (ends_by c) (map entry_of es) ≡ prefix_len (slot_ends c) es
        → cond b (1 + prefix_len (ends_by c) (map entry_of es)) 0 ≡ cond b (1 + prefix_len (slot_ends c) es) 0
    go true rest = ap (λ n. 1 + n) rest
    go false rest = refl

-- the boundary that a search by halves finds is their number; the list that is searched is replaced by an equal one
pub boundary-by : (c to : Coord) (items : List Slot) (seen : List Entry) (es : List Slot) (i : ℕ) → map entry_of items ≡ seen → LieBetween (file_start 1) to (map entry_of items) → es ≡ items
    → i ≤ length es → IsPartitionPoint (λ s. slot_ends c s ≡ true) (λ s. slot_ends c s ≡ false) es i → i ≡ count_by (ends_by c) seen
boundary-by c to items seen es i view h same within point =
    let none : Slot = record { file = 0; start = 0; size = 0; origin = 0; seq = 0 } in
    let found : prefix_len (slot_ends c) es ≡ i =
    prefix_len_is (slot_ends c) es i none within (λ k below. point.0 k _ (omega arith) below) (λ below. point.1 i _ (omega arith) below) in
    sym found ∙ ap (prefix_len (slot_ends c)) same ∙ sym (prefix_len-entries c items) ∙ sym (count-is-prefix c (file_start 1) to (map entry_of items) h)
    ∙ ap (count_by (ends_by c)) view

-- all before the last have ended if it has begun
ended-at_last : (c from to : Coord) (es : List Slot) → LieBetween from to (map entry_of es) → (i : ℕ) (last : Slot) → length es ≡ suc i → ((d : Slot) → last ≡ get_or es i d)
    → is_at_or_before (start_coord (entry_of last)) c ≡ true → count_by (ends_by c) (map entry_of es) ≡ i + cond (slot_ends c last) 1 0
ended-at_last c from to [] h i last count is begun = absurd (omega arith)
ended-at_last c from to (x ∷ []) h zero last count is begun = rw (count_by-cons (ends_by c) (entry_of x) [], is x) (omega arith)
ended-at_last c from to (x ∷ y ∷ es) h zero last count is begun = absurd (omega arith)
ended-at_last c from to (x ∷ es) h (suc i) last count is begun =
    let behind = lies-behind (end_coord (entry_of x)) to es h.2 i x (omega arith) in
    let before : is_at_or_before (end_coord (entry_of x)) (start_coord (entry_of last)) ≡ true = rw (is x) behind.0 in
    let ended : ends_by c (entry_of x) ≡ true = is_at_or_before-trans (end_coord (entry_of x)) (start_coord (entry_of last)) c before begun in
    let rest = ended-at_last c (end_coord (entry_of x)) to es h.2 i last (omega arith) is begun in
    rw (count_by-cons (ends_by c) (entry_of x) (map entry_of es), ended, rest) (omega arith)

as_number : (b : Bool) → from_bool b ≡ cond b 1 0
as_number true = refl
as_number false = refl

-- the same with equal values for the parts
pub count-at_last : (c to start : Coord) (items : List Slot) (seen : List Entry) (es : List Slot) (last : Slot) (n : ℕ) (begun ended : Bool) → map entry_of items ≡ seen
    → LieBetween (file_start 1) to (map entry_of items) → es ≡ items → (0 < length es) × ((d : Slot) → last ≡ get_or es (length es - 1) d) → length es ≡ n
    → start ≡ start_coord (entry_of last) → begun ≡ is_at_or_before start c → begun ≡ true → ended ≡ slot_ends c last
    → n - 1 + from_bool ended ≡ count_by (ends_by c) seen
count-at_last c to start items seen es last n begun ended view h same at count start_is begun_is is_begun ended_is =
    let here : is_at_or_before (start_coord (entry_of last)) c ≡ true = subst (λ (x : Coord). is_at_or_before x c ≡ true) start_is (sym begun_is ∙ is_begun) in
    let number : length es ≡ suc (n - 1) = let some = at.0 in omega arith in
    let place : length es - 1 ≡ n - 1 = omega arith in
    rw (ended_is, as_number (slot_ends c last), ← view, ← same)
    (sym (ended-at_last c (file_start 1) to es (rw same h) (n - 1) last number (λ d. at.1 d ∙ ap (λ i. get_or es i d) place) here))

-- a transaction, if there is one, ends at c
abbrev end_stands : Coord → Option Entry → Bool
end_stands c None = false
end_stands c (Some e) = same_coord (end_coord e) c

-- the k-th transaction ends at c
abbrev ended_at : Coord → List Entry → ℕ → Bool
ended_at c es zero = false
ended_at c es (suc k) = end_stands c (slice_get es k)

-- the last that ended by a coordinate and the next are the only ones that can touch it
any-touches : (c from to : Coord) (es : List Entry) → LieBetween from to es → (k : ℕ) → k ≡ count_by (ends_by c) es
    → list_any (touches c) es ≡ (ended_at c es k || starts_at c (slice_get es k))
any-touches c from to [] h zero e = refl
any-touches c from to [] h (suc k) e = refl
any-touches c from to (x ∷ es) h k e = go k (ends_by c x) refl (e ∙ count_by-cons (ends_by c) x es) (any-touches c (end_coord x) to es h.2)
  where
    some : x.start < x.end
    some = h.1

    not_last : (j : ℕ) → suc j ≡ count_by (ends_by c) es → (b : Bool) → is_at_or_before c (end_coord x) ≡ b → same_coord (end_coord x) c ≡ false
    not_last j count true within = let none = none-ended c (end_coord x) to es h.2 within in absurd (omega arith)
    not_last j count false past = grind (arith, nat_tests)

    ended : (k : ℕ) → ends_by c x ≡ true → k ≡ count_by (ends_by c) es → list_any (touches c) es ≡ (ended_at c es k || starts_at c (slice_get es k))
        → list_any (touches c) (x ∷ es) ≡ (ended_at c (x ∷ es) (suc k) || starts_at c (slice_get es k))
    ended zero by count rest =
        let begun : same_coord (start_coord x) c ≡ false = grind (arith, nat_tests) in rw (begun, rest) refl
    ended (suc j) by count rest =
        let begun : same_coord (start_coord x) c ≡ false = grind (arith, nat_tests) in
        let past : same_coord (end_coord x) c ≡ false = not_last j count (is_at_or_before c (end_coord x)) refl in
        rw (begun, past, rest) refl

    later : ends_by c x ≡ false → list_any (touches c) (x ∷ es) ≡ (ended_at c (x ∷ es) zero || starts_at c (Some x))
    later after =
        let past : same_coord (end_coord x) c ≡ false = grind (arith, nat_tests) in
        let before : is_before c (end_coord x) ≡ true = grind (arith, nat_tests) in
        let rest = none-touched c (end_coord x) to es h.2 before in
        at (same_coord (start_coord x) c) (same_coord (end_coord x) c) (list_any (touches c) es) past rest
      where
        at : (s e a : Bool) → e ≡ false → a ≡ false → ((s || e) || a) ≡ s
        at true e a p q = refl
        at false e a p q = rw (p, q) refl

    go : (k : ℕ) (b : Bool) → ends_by c x ≡ b → k ≡ cond b 1 0 + count_by (ends_by c) es
        → ((k : ℕ) → k ≡ count_by (ends_by c) es → list_any (touches c) es ≡ (ended_at c es k || starts_at c (slice_get es k)))
        → list_any (touches c) (x ∷ es) ≡ (ended_at c (x ∷ es) k || starts_at c (slice_get (x ∷ es) k))
    go zero true by count rest = absurd (omega arith)
    go (suc k) true by count rest = let here : k ≡ count_by (ends_by c) es = omega arith in ended k by here (rest k here)
    go zero false after count rest = later after
    go (suc k) false after count rest =
        let within : is_at_or_before c (end_coord x) ≡ true = grind (arith, nat_tests) in
        let none = none-ended c (end_coord x) to es h.2 within in absurd (omega arith)

-- a coordinate has a place exactly if a file begins, the k-th transaction ends, or the next begins
pub has_place-at : (log : Log) (c : Coord) → LieBetween (file_start 1) (end_of log) log.entries → (k : ℕ) → k ≡ count_by (ends_by c) log.entries
    → has_place log c ≡ (is_file_start log c || (same_coord (coord_after log k) c || starts_at c (slice_get log.entries k)))
has_place-at log c h k e = go k (is_file_start log c) refl (any-touches c (file_start 1) (end_of log) log.entries h k e)
  where
    some_file : is_at_or_before (file_start 1) (end_of log) ≡ true
    some_file = LieBetween-ends (file_start 1) (end_of log) log.entries h

    not_first : is_file_start log c ≡ false → same_coord (file_start 1) c ≡ false
    not_first other = let files = some_file in grind (arith, nat_tests)

    same : (o : Option Entry) → is_file_start log c ≡ false → end_stands c o ≡ same_coord (end_or_first o) c
    same None other = sym (not_first other)
    same (Some x) other = refl

    ended : (k : ℕ) → is_file_start log c ≡ false → ended_at c log.entries k ≡ same_coord (coord_after log k) c
    ended zero other = sym (not_first other)
    ended (suc j) other = same (slice_get log.entries j) other

    go : (k : ℕ) (b : Bool) → is_file_start log c ≡ b → list_any (touches c) log.entries ≡ (ended_at c log.entries k || starts_at c (slice_get log.entries k))
        → (b || list_any (touches c) log.entries) ≡ (b || (same_coord (coord_after log k) c || starts_at c (slice_get log.entries k)))
    go k true is any = refl
    go k false other any = any ∙ ap (λ b. b || starts_at c (slice_get log.entries k)) (ended k other)

-- what follows at the coordinate at which this transaction, numbered k, may begin; else what is given
abbrev next_at : Coord → ℕ → Option Entry → Next → Next
next_at c k None none = none
next_at c k (Some e) none = cond (same_coord (start_coord e) c) (next.Entry k (end_coord e)) none

-- the first that begins at a coordinate is the one after those that have ended
pub entry_from-at : (c from to : Coord) (i : ℕ) (es : List Entry) (none : Next) → LieBetween from to es → (k n : ℕ) → k ≡ count_by (ends_by c) es → n ≡ i + k
    → entry_from c i es none ≡ next_at c n (slice_get es k) none
entry_from-at c from to i [] none h k n e m = refl
entry_from-at c from to i (x ∷ es) none h k n e m =
    go k (ends_by c x) refl (e ∙ count_by-cons (ends_by c) x es) m (entry_from-at c (end_coord x) to (suc i) es none h.2)
  where
    some : x.start < x.end
    some = h.1

    at : (b : Bool) (n : ℕ) (rest : Next) → n ≡ i → rest ≡ none → cond b (next.Entry i (end_coord x)) rest ≡ cond b (next.Entry n (end_coord x)) none
    at true n rest p q = ap (λ j. next.Entry j (end_coord x)) (sym p)
    at false n rest p q = q

    go : (k : ℕ) (b : Bool) → ends_by c x ≡ b → k ≡ cond b 1 0 + count_by (ends_by c) es → n ≡ i + k
        → ((k n : ℕ) → k ≡ count_by (ends_by c) es → n ≡ suc i + k → entry_from c (suc i) es none ≡ next_at c n (slice_get es k) none)
        → entry_from c i (x ∷ es) none ≡ next_at c n (slice_get (x ∷ es) k) none
    go zero true by count number rest = absurd (omega arith)
    go (suc j) true by count number rest =
        let begun : same_coord (start_coord x) c ≡ false = grind (arith, nat_tests) in
        rw begun (rest j n (omega arith) (omega arith))
    go zero false after count number rest =
        let before : is_before c (end_coord x) ≡ true = grind (arith, nat_tests) in
        at (same_coord (start_coord x) c) n (entry_from c (suc i) es none) (omega arith) (none-begins c (end_coord x) to (suc i) es none h.2 before)
    go (suc j) false after count number rest =
        let within : is_at_or_before c (end_coord x) ≡ true = grind (arith, nat_tests) in
        let none = none-ended c (end_coord x) to es h.2 within in absurd (omega arith)

-- the same with equal values for the parts
pub has_place-by : (log seen : Log) (c d : Coord) (k : ℕ) (es : List Entry) (heads ends begins : Bool) → log ≡ seen → LieBetween (file_start 1) (end_of log) log.entries
    → k ≡ count_by (ends_by c) seen.entries → heads ≡ is_file_start log c → d ≡ coord_after seen k → ends ≡ same_coord d c → es ≡ log.entries → begins ≡ starts_at c (slice_get es k)
    → has_place seen c ≡ (heads || (ends || begins))
has_place-by log seen c d k es heads ends begins view h count at_head at at_end same at_start =
    rw (at_head, at_end, at, at_start, same, ← view)
    (has_place-at log c h k (count ∙ ap (λ (x : Log). count_by (ends_by c) x.entries) (sym view)))

-- what follows, by what is after those that have ended
next_after-at : (log seen : Log) (c : Coord) (k : ℕ) (es : List Slot) (o : Option Entry) (none : Next) → log ≡ seen → LieBetween (file_start 1) (end_of log) log.entries
    → k ≡ count_by (ends_by c) seen.entries → map entry_of es ≡ log.entries → slice_get (map entry_of es) k ≡ o → none ≡ next_file log c
    → next_at c k o none ≡ next_after seen c
next_after-at log seen c k es o none view h count same at other =
    rw (← at, other, same, ← view)
    (sym (entry_from-at c (file_start 1) (end_of log) 0 log.entries (next_file log c) h k k (count ∙ ap (λ (x : Log). count_by (ends_by c) x.entries) (sym view)) (omega arith)))

-- how many there are
pub entries-count : (es : List Slot) → length (map entry_of es) ≡ length es
entries-count es = length-map es entry_of

-- the transaction of a slot
slot-entry : (es : List Slot) (k : ℕ) (t : Slot) → k < length es → t ≡ get_or es k t → slice_get (map entry_of es) k ≡ Some (entry_of t)
slot-entry es k t within at = slice_get-map entry_of es k ∙ ap (option_map entry_of) (slice_get-get_or es k t within ∙ ap Some (sym at))

-- a transaction that begins here, one that begins elsewhere, or none
pub next_after-begun : (log seen : Log) (c start to : Coord) (k : ℕ) (es : List Slot) (t : Slot) (begins : Bool) → log ≡ seen → LieBetween (file_start 1) (end_of log) log.entries
    → k ≡ count_by (ends_by c) seen.entries → map entry_of es ≡ log.entries → (k < length es) × ((d : Slot) → t ≡ get_or es k d) → start ≡ start_coord (entry_of t)
    → begins ≡ same_coord start c → begins ≡ true → to ≡ end_coord (entry_of t) → next.Entry k to ≡ next_after seen c
next_after-begun log seen c start to k es t begins view h count same at from begins_is here ends =
    let begun : same_coord (start_coord (entry_of t)) c ≡ true = subst (λ (x : Coord). same_coord x c ≡ true) from (sym begins_is ∙ here) in
    ap (next.Entry k) ends ∙ sym (ap (λ b. cond b (next.Entry k (end_coord (entry_of t))) (next_file log c)) begun)
    ∙ next_after-at log seen c k es (Some (entry_of t)) (next_file log c) view h count same (slot-entry es k t at.0 (at.1 t)) refl

pub next_after-elsewhere : (log seen : Log) (c start : Coord) (k : ℕ) (es : List Slot) (t : Slot) (begins : Bool) (none : Next) → log ≡ seen → LieBetween (file_start 1) (end_of log) log.entries
    → k ≡ count_by (ends_by c) seen.entries → map entry_of es ≡ log.entries → (k < length es) × ((d : Slot) → t ≡ get_or es k d) → start ≡ start_coord (entry_of t)
    → begins ≡ same_coord start c → begins ≡ false → none ≡ next_file log c → none ≡ next_after seen c
next_after-elsewhere log seen c start k es t begins none view h count same at from begins_is elsewhere other =
    let begun : same_coord (start_coord (entry_of t)) c ≡ false = subst (λ (x : Coord). same_coord x c ≡ false) from (sym begins_is ∙ elsewhere) in
    sym (ap (λ b. cond b (next.Entry k (end_coord (entry_of t))) none) begun)
    ∙ next_after-at log seen c k es (Some (entry_of t)) none view h count same (slot-entry es k t at.0 (at.1 t)) other

pub next_after-past : (log seen : Log) (c : Coord) (k : ℕ) (es : List Slot) (none : Next) → log ≡ seen → LieBetween (file_start 1) (end_of log) log.entries
    → k ≡ count_by (ends_by c) seen.entries → map entry_of es ≡ log.entries → length es ≤ k → none ≡ next_file log c → none ≡ next_after seen c
next_after-past log seen c k es none view h count same past other =
    let size = entries-count es in
    next_after-at log seen c k es None none view h count same (slice_get_past (map entry_of es) k (omega arith)) other

-- the first transactions end at the end of the last of them
pub coord_after-last : (log : Log) (es : List Slot) (k : ℕ) (t : Slot) (to : Coord) → map entry_of es ≡ log.entries → (k ≡ 0 → ⊥) → k ≤ length log.entries → t ≡ get_or es (k - 1) t
    → to ≡ end_coord (entry_of t) → to ≡ coord_after log k
coord_after-last log es zero t to same some within at ends = absurd (some refl)
coord_after-last log es (suc k) t to same some within at ends =
    let last : suc k - 1 ≡ k = omega arith in
    let count : length log.entries ≡ length es = sym (ap length same) ∙ entries-count es in
    let found = subst (λ i. slice_get (map entry_of es) i ≡ Some (entry_of t)) last (slot-entry es (suc k - 1) t (omega arith) at) in
    ends ∙ sym (ap end_or_first (ap (λ xs. slice_get xs k) (sym same) ∙ found))

-- one slot more
pub entries-pushed : (es es' : List Slot) (s : Slot) → es' ≡ es ++ s ∷ [] → map entry_of es' ≡ map entry_of es ++ entry_of s ∷ []
entries-pushed es es' s more = ap (map entry_of) more ∙ map-append entry_of es (s ∷ [])
