-- What follows a coordinate, by the log's entries: a transaction, the next file, or nothing.
use Rattle.std.proofs.Common.{◌≡◌, ℕ, ◌+◌, ◌<◌, ◌≤◌, Bool, true, false, cond, List, [], ◌∷◌, ◌++◌, length, refl, sym, zero-add, ◌∙◌, ap, subst, inl, inr, ◌⊎◌, Some, None, arith, length-append, zero, suc, get_or, ◌↔◌, IsSomeAnd, Option, count_by, slice_get}
use Rattle.binlog_coords.proofs.Prelude.{Coord, EndsFile, Entry, Log, Next, Spans, StepFrom, appended, cases_lt, end_coord, end_of, ends_by}
use Rattle.binlog_coords.proofs.Prelude.{entry_at_end, entry_from, file_start, get_or_from_slice_get, is_at_or_before, nat_tests, next_after}
use Rattle.binlog_coords.proofs.Prelude.{next_file, place, same_coord, same_Some, slice_get-get_or, slice_get_within, start_coord}
use Rattle.binlog_coords.proofs.Prelude.next
use Rattle.binlog_coords.proofs.Places.{Laid, Opened, Appended, Flushed, Found, Missing, At, same_coord-true, same_coord-refl, is_at_or_before-trans, count_by-cons, count-monotone, place-parts, slice_get-snoc_within, slice_get-snoc_last, entry_from-snoc, entry_from-past, entry_from-found, next_after-end, next_after-step, next_file-earlier, next_file-last}

-- each transaction takes bytes
pub data Sized : List Entry → Type 0 where
  NoEntry : Sized []
  AnEntry : (e : Entry) (es : List Entry) → e.start < e.end → Sized es → Sized (e ∷ es)

pub Sized-snoc : (es : List Entry) (e : Entry) → Sized es → e.start < e.end → Sized (es ++ e ∷ [])
Sized-snoc es e NoEntry h = AnEntry e [] h NoEntry
Sized-snoc es e (AnEntry x rest some sized) h = AnEntry x (rest ++ e ∷ []) some (Sized-snoc rest e sized h)

pub Laid-sized : (log : Log) → Laid log → Sized log.entries
Laid-sized log (Opened limit) = NoEntry
Laid-sized log (Appended old size some g) = Sized-snoc old.entries (entry_at_end old size) (Laid-sized old g) (omega arith)
Laid-sized log (Flushed old g) = Laid-sized old g

Sized-at : (es : List Entry) (i : ℕ) (t : Entry) → Sized es → slice_get es i ≡ Some t → t.start < t.end
Sized-at es i t NoEntry h = cc
Sized-at es zero t (AnEntry e rest some sized) h = subst (λ (x : Entry). x.start < x.end) (same_Some e t h) some
Sized-at es (suc i) t (AnEntry e rest some sized) h = Sized-at rest i t sized h

-- the new transaction is found at the old end
entry_from-new : (log : Log) (size : ℕ) → Laid log → (none : Next)
    → entry_from (end_of log) 0 (appended log size).entries none ≡ next.Entry (length log.entries) (end_of (appended log size))
entry_from-new log size g none =
    entry_from-snoc (end_of log) 0 log.entries (entry_at_end log size) none
    ∙ entry_from-past log g (end_of log) 0 _ (grind (arith, nat_tests))
    ∙ ap (λ b. cond b (next.Entry (0 + length log.entries) (end_of (appended log size))) none) (same_coord-refl (end_of log))
    ∙ ap (λ n. next.Entry n (end_of (appended log size))) (zero-add (length log.entries))

-- each transaction is found at its start
entry_from-begins : (log : Log) → Laid log → (i : ℕ) (t : Entry) → slice_get log.entries i ≡ Some t → (none : Next)
    → entry_from (start_coord t) 0 log.entries none ≡ next.Entry i (end_coord t)
entry_from-begins log (Opened limit) i t h none = cc
entry_from-begins log (Flushed old g) i t h none = entry_from-begins old g i t h none
entry_from-begins log (Appended old size some g) i t h none =
    elim (cases_lt i (length old.entries)) [
      | inl within ↦
          let had : slice_get old.entries i ≡ Some t = sym (slice_get-snoc_within old.entries (entry_at_end old size) i within) ∙ h in
          entry_from-snoc (start_coord t) 0 old.entries (entry_at_end old size) none ∙ entry_from-begins old g i t had _
      | inr past ↦
          let below : i < length (appended old size).entries = slice_get_within (appended old size).entries i t h in
          let last : i ≡ length old.entries = omega (arith, length-append old.entries (entry_at_end old size ∷ [])) in
          let new : entry_at_end old size ≡ t =
          same_Some (entry_at_end old size) t (sym (slice_get-snoc_last old.entries (entry_at_end old size)) ∙ subst (λ n. slice_get (appended old size).entries n ≡ Some t) last h) in
          subst (λ (x : Entry). entry_from (start_coord x) 0 (appended old size).entries none ≡ next.Entry i (end_coord x)) new
          (entry_from-new old size g none ∙ ap (λ n. next.Entry n (end_of (appended old size))) (sym last))
    ]

-- the entry at an index of a list begins and ends there
abbrev SpansIn : List Entry → ℕ → Coord → Coord → Type 0
SpansIn es n c e = IsSomeAnd (slice_get es n) (λ t. (start_coord t ≡ c) × (end_coord t ≡ e))

-- what is found is in the list
entry_from-spans : (c : Coord) (k : ℕ) (es : List Entry) (none : Next) (i : ℕ) (e : Coord) → entry_from c k es none ≡ next.Entry i e
    → (none ≡ next.Entry i e) ⊎ ((n : ℕ) × (i ≡ k + n) × SpansIn es n c e)
entry_from-spans c k [] none i e h = inl h
entry_from-spans c k (x ∷ es) none i e h = go (same_coord (start_coord x) c) refl h (entry_from-spans c (suc k) es none i e)
  where
    go : (b : Bool) → same_coord (start_coord x) c ≡ b → cond b (next.Entry k (end_coord x)) (entry_from c (suc k) es none) ≡ next.Entry i e
        → (entry_from c (suc k) es none ≡ next.Entry i e → (none ≡ next.Entry i e) ⊎ ((n : ℕ) × (i ≡ suc k + n) × SpansIn es n c e))
        → (none ≡ next.Entry i e) ⊎ ((n : ℕ) × (i ≡ k + n) × SpansIn (x ∷ es) n c e)
    go true same found later =
        let number : k ≡ i = cc in
        let ends : end_coord x ≡ e = cc in
        inr (0, omega arith, (same_coord-true (start_coord x) c same, ends))
    go false same found later = elim (later found) [
      | inl none_found ↦ inl none_found
      | inr deeper ↦ inr (suc (deeper.0), omega arith, deeper.2)
    ]

next_file-no_entry : (log : Log) (c : Coord) (i : ℕ) (e : Coord) → next_file log c ≡ next.Entry i e → ⊥
next_file-no_entry log c i e h = elim (cases_lt c.file log.files) [
  | inl earlier ↦ let r = next_file-earlier log c earlier in cc
  | inr last ↦ let r = next_file-last log c last in cc
]

-- an entry follows exactly at its start
pub next_after-entry : (log : Log) → Laid log → (c : Coord) (i : ℕ) (e : Coord) → (next_after log c ≡ next.Entry i e) ↔ Spans log i c e
next_after-entry log g c i e = (spans, found)
  where
    spans : next_after log c ≡ next.Entry i e → Spans log i c e
    spans h = elim (entry_from-spans c 0 log.entries (next_file log c) i e h) [
      | inl none ↦ absurd (next_file-no_entry log c i e none)
      | inr at ↦ let same : at.0 ≡ i = omega arith in subst (λ n. SpansIn log.entries n c e) same at.2
    ]

    at : (o : Option Entry) → slice_get log.entries i ≡ o → IsSomeAnd o (λ t. (start_coord t ≡ c) × (end_coord t ≡ e)) → next_after log c ≡ next.Entry i e
    at None none s = absurd s
    at (Some t) some s =
        subst (λ (x : Coord). next_after log x ≡ next.Entry i e) s.0
        (entry_from-begins log g i t some (next_file log (start_coord t)) ∙ ap (λ x. next.Entry i x) s.1)

    found : Spans log i c e → next_after log c ≡ next.Entry i e
    found s = at (slice_get log.entries i) refl s

-- if the later of two coordinates has no more transactions before it, the same ones end by both
count-same : (es : List Entry) (c d : Coord) → is_at_or_before c d ≡ true → count_by (ends_by d) es ≤ count_by (ends_by c) es
    → (i : ℕ) (t : Entry) → slice_get es i ≡ Some t → ends_by d t ≡ true → ends_by c t ≡ true
count-same [] c d order le i t h by = cc
count-same (e ∷ es) c d order le zero t h by =
    let same : e ≡ t = same_Some e t h in
    let fewer = count-monotone es c d order in
    subst (λ (x : Entry). ends_by c x ≡ true) same
    (go (ends_by c e) (ends_by d e) refl (subst (λ (x : Entry). ends_by d x ≡ true) (sym same) by) fewer
    (rw (count_by-cons (ends_by c) e es, count_by-cons (ends_by d) e es) at le))
  where
    go : (a b : Bool) → ends_by c e ≡ a → b ≡ true → count_by (ends_by c) es ≤ count_by (ends_by d) es
        → cond b 1 0 + count_by (ends_by d) es ≤ cond a 1 0 + count_by (ends_by c) es → ends_by c e ≡ true
    go true b is by fewer le = is
    go false true is by fewer le = absurd (omega arith)
    go false false is by fewer le = cc
count-same (e ∷ es) c d order le (suc i) t h by =
    count-same es c d order
    (go (ends_by c e) (ends_by d e) (λ by_c. is_at_or_before-trans (end_coord e) c d by_c order)
    (rw (count_by-cons (ends_by c) e es, count_by-cons (ends_by d) e es) at le))
    i t h by
  where
    go : (a b : Bool) → (a ≡ true → b ≡ true)
        → cond b 1 0 + count_by (ends_by d) es ≤ cond a 1 0 + count_by (ends_by c) es → count_by (ends_by d) es ≤ count_by (ends_by c) es
    go true true f le = omega arith
    go true false f le = let t : false ≡ true = f refl in cc
    go false true f le = omega arith
    go false false f le = omega arith

before_next_file : (c : Coord) → is_at_or_before c (file_start (c.file + 1)) ≡ true
before_next_file c = grind (arith, nat_tests)

ends_by_next_file : (c : Coord) (t : Entry) → t.file ≡ c.file → ends_by (file_start (c.file + 1)) t ≡ true
ends_by_next_file c t h = grind (arith, nat_tests)

not_yet_ended : (c : Coord) (t : Entry) → start_coord t ≡ c → t.start < t.end → ends_by c t ≡ true → ⊥
not_yet_ended c t h some by =
    let pos : t.start ≡ c.pos = ap (λ (x : Coord). x.pos) h in
    let file : t.file ≡ c.file = ap (λ (x : Coord). x.file) h in
    grind (arith, nat_tests)

EndsFile-at : (log : Log) (c : Coord) → EndsFile log c → (i : ℕ) (t : Entry) → slice_get log.entries i ≡ Some t → t.file ≡ c.file → ends_by c t ≡ true
EndsFile-at log c all i t h =
    subst (λ (x : Entry). x.file ≡ c.file → ends_by c x ≡ true) (get_or_from_slice_get log.entries i t t h) (all i t (slice_get_within log.entries i t h))

-- the next file follows exactly at the end of a file that isn't the last
pub next_after-rotate : (log : Log) → Laid log → (c d : Coord) (k : ℕ) → place log c ≡ Some k
    → (next_after log c ≡ next.Rotate d) ↔ (EndsFile log c × (c.file < log.files) × (d ≡ file_start (c.file + 1)))
next_after-rotate log g c d k p = (ends, follows)
  where
    file : next_after log c ≡ next.Rotate d → Found c 0 log.entries → (c.file < log.files) ⊎ (log.files ≤ c.file) → (c.file < log.files) × (d ≡ file_start (c.file + 1))
    file h (At i e f) order = let r = f (next_file log c) in cc
    file h (Missing f) (inl earlier) =
        let r : next.Rotate (file_start (c.file + 1)) ≡ next.Rotate d = sym (f (next_file log c) ∙ next_file-earlier log c earlier) ∙ h in
        (earlier, cc)
    file h (Missing f) (inr last) = let r = f (next_file log c) ∙ next_file-last log c last in cc

    ended : place log (file_start (c.file + 1)) ≡ Some k → EndsFile log c
    ended q i t below same =
        count-same log.entries c (file_start (c.file + 1)) (before_next_file c)
        (omega (arith, (place-parts log c k p).1, (place-parts log (file_start (c.file + 1)) k q).1))
        i (get_or log.entries i t) (slice_get-get_or log.entries i t below) (ends_by_next_file c (get_or log.entries i t) same)

    ends : next_after log c ≡ next.Rotate d → EndsFile log c × (c.file < log.files) × (d ≡ file_start (c.file + 1))
    ends h =
        let parts = file h (entry_from-found c 0 log.entries) (cases_lt c.file log.files) in
        let step : StepFrom log c k (next.Rotate d) = subst (λ (n : Next). StepFrom log c k n) h (next_after-step log g c k p) in
        (ended (subst (λ (x : Coord). place log x ≡ Some k) parts.1 step.0), parts.0, parts.1)

    begun : (i : ℕ) (e : Coord) → EndsFile log c → (o : Option Entry) → slice_get log.entries i ≡ o → IsSomeAnd o (λ t. (start_coord t ≡ c) × (end_coord t ≡ e)) → ⊥
    begun i e all None none s = s
    begun i e all (Some t) some s =
        not_yet_ended c t s.0 (Sized-at log.entries i t (Laid-sized log g) some) (EndsFile-at log c all i t some (ap (λ (x : Coord). x.file) s.0))

    at : EndsFile log c → c.file < log.files → Found c 0 log.entries → next_after log c ≡ next.Rotate (file_start (c.file + 1))
    at all earlier (At i e f) = absurd (begun i e all (slice_get log.entries i) refl ((next_after-entry log g c i e).0 (f (next_file log c))))
    at all earlier (Missing f) = f (next_file log c) ∙ next_file-earlier log c earlier

    follows : EndsFile log c × (c.file < log.files) × (d ≡ file_start (c.file + 1)) → next_after log c ≡ next.Rotate d
    follows h = at h.0 h.1 (entry_from-found c 0 log.entries) ∙ ap (λ x. next.Rotate x) (sym h.2)

-- nothing follows exactly at the end
pub next_after-nothing : (log : Log) → Laid log → (c : Coord) (k : ℕ) → place log c ≡ Some k → (next_after log c ≡ next.End) ↔ (c ≡ end_of log)
next_after-nothing log g c k p = (ends, at)
  where
    ends : next_after log c ≡ next.End → c ≡ end_of log
    ends h = subst (λ (n : Next). StepFrom log c k n) h (next_after-step log g c k p)

    at : c ≡ end_of log → next_after log c ≡ next.End
    at h = rw h (next_after-end log g)
