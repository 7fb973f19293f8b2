-- Histories that transactions join one by one.
use Rattle.std.proofs.Common.{◌≡◌, ℕ, ◌+◌, ◌-◌, ◌<◌, ◌≤◌, List, [], ◌∷◌, ◌++◌, length, take, replicate, refl, sym, ap, ◌∙◌, arith, suc, zero, length-append, min, drop, get_or, cond, ◌⊎◌, inl, inr, add-zero, ◌==◌, slice_index, slice_set, Bool}
use Rattle.openings.proofs.Prelude.{CountsOwn, Part, ServerNo, Txn, cases_eq, count_by-le-length, count_own, drop_all, eq-eqb, get_or-replicate}
use Rattle.openings.proofs.Prelude.{get_or-set_other, get_or-set_same, joined_by, length-replicate, length-set, listed_history, ne_eqb, next_txn}
use Rattle.openings.proofs.Prelude.{singles, sum_by_push, take-take, take_all, take_at}

abbrev nil : (X : Type 0) → List X
nil X = []

pub joined_by-append : (done : List Txn) (xs ys : List (ServerNo × ℕ)) → joined_by done (xs ++ ys) ≡ joined_by (joined_by done xs) ys
joined_by-append done [] ys = refl
joined_by-append done (x ∷ xs) ys = joined_by-append (done ++ next_txn done x ∷ []) xs ys

pub length-joined_by : (done : List Txn) (xs : List (ServerNo × ℕ)) → length (joined_by done xs) ≡ length done + length xs
length-joined_by done [] = omega arith
length-joined_by done (x ∷ xs) =
    let rest = length-joined_by (done ++ next_txn done x ∷ []) xs in
    let longer = length-append done (next_txn done x ∷ []) in omega arith

-- what was done comes first
pub joined_by-front : (done : List Txn) (xs : List (ServerNo × ℕ)) → take (length done) (joined_by done xs) ≡ done
joined_by-front done [] = take_all (length done) done (omega arith)
joined_by-front done (x ∷ xs) =
    let next = done ++ next_txn done x ∷ [] in
    let longer : length next ≡ length done + 1 = length-append done (next_txn done x ∷ []) in
    let shorter : length done ≤ length next = omega arith in
    sym (take-take (length done) (length next) (joined_by next xs) shorter)
    ∙ ap (take (length done)) (joined_by-front next xs) ∙ take_at done (next_txn done x ∷ []) (length done) refl

take_nil : {X : Type 0} (k : ℕ) → take k (nil X) ≡ nil X
take_nil {X} k = take_all k (nil X) (omega arith)

pub take-joined_by : (done : List Txn) (xs : List (ServerNo × ℕ)) (k : ℕ) → take (length done + k) (joined_by done xs) ≡ joined_by done (take k xs)
take-joined_by done [] k = take_all (length done + k) done (omega arith) ∙ ap (joined_by done) (sym (take_nil k))
take-joined_by done (x ∷ xs) zero = let e : length done + 0 ≡ length done = omega arith in rw e (joined_by-front done (x ∷ xs))
take-joined_by done (x ∷ xs) (suc k) =
    let next = done ++ next_txn done x ∷ [] in
    let longer : length next ≡ length done + 1 = length-append done (next_txn done x ∷ []) in
    let e : length done + suc k ≡ length next + k = omega arith in
    rw e (take-joined_by next xs k)

-- the first transactions of what is listed
pub take-listed : (parts : List Part) (k : ℕ) → take k (listed_history parts) ≡ joined_by [] (take k (singles parts))
take-listed parts k = let e : 0 + k ≡ k = omega arith in rw e at (take-joined_by [] (singles parts) k)

-- one more of an origin's own
abbrev pub tick : Bool → ℕ
tick b = cond b 1 0

pub count_own-push : (o : ℕ) (done : List Txn) (t : Txn) → count_own o (done ++ t ∷ []) ≡ count_own o done + tick (t.origin.0 == o)
count_own-push o done t = sum_by_push (λ (x : Txn). tick (x.origin.0 == o)) done t

pub CountsOwn-more : (counts : List ℕ) (done : List Txn) (x : ServerNo × ℕ) (seq : ℕ) → x.0.0 < length counts → CountsOwn counts done → seq ≡ count_own x.0.0 done + 1
    → CountsOwn (slice_set counts x.0.0 seq) (done ++ next_txn done x ∷ [])
CountsOwn-more counts done x seq within own is = record { each = λ o h. one o h (cases_eq o x.0.0) }
  where
    one : (o : ℕ) → o < length (slice_set counts x.0.0 seq) → (o ≡ x.0.0) ⊎ (o ≡ x.0.0 → ⊥) → slice_index (slice_set counts x.0.0 seq) o ≡ count_own o (done ++ next_txn done x ∷ [])
    one o h (inl same) =
        let here : slice_index (slice_set counts x.0.0 seq) x.0.0 ≡ seq = get_or-set_same counts x.0.0 seq 0 within in
        let more : count_own x.0.0 (done ++ next_txn done x ∷ []) ≡ count_own x.0.0 done + tick (x.0.0 == x.0.0) = count_own-push x.0.0 done (next_txn done x) in
        let once : tick (x.0.0 == x.0.0) ≡ 1 = ap tick (eq-eqb x.0.0 x.0.0 refl) in
        rw same (here ∙ is ∙ ap (λ k. count_own x.0.0 done + k) (sym once) ∙ sym more)
    one o h (inr apart) =
        let there : slice_index (slice_set counts x.0.0 seq) o ≡ slice_index counts o = get_or-set_other counts x.0.0 o seq 0 apart in
        let more : count_own o (done ++ next_txn done x ∷ []) ≡ count_own o done + tick (x.0.0 == o) = count_own-push o done (next_txn done x) in
        let other : tick (x.0.0 == o) ≡ 0 = ap tick (ne_eqb x.0.0 o (λ e. apart (sym e))) in
        let size = length-set counts x.0.0 seq in
        let old = own.each o (omega arith) in
        there ∙ old ∙ sym (more ∙ ap (λ k. count_own o done + k) other ∙ add-zero (count_own o done))

-- so many of the transactions of one origin and size have joined
pub record Adds (x : ServerNo × ℕ) (taken so_far : ℕ) (before now : List Txn) (table : List ℕ) : Type 0 where
  pub rest : joined_by now (replicate (taken - so_far) x) ≡ joined_by before (replicate taken x)
  pub len : length now ≡ length before + so_far
  pub counts : CountsOwn table now
  pub origin : x.0.0 < length table

-- the number that the table gives to the next one fits
pub Adds-fits : (x : ServerNo × ℕ) (taken so_far : ℕ) (before now : List Txn) (counts : List ℕ) → Adds x taken so_far before now counts
    → slice_index counts x.0.0 ≤ length before + so_far
Adds-fits x taken so_far before now counts adds =
    let own = adds.counts.each x.0.0 adds.origin in
    let most : count_own x.0.0 now ≤ length now = count_by-le-length (λ (t : Txn). t.origin.0 == x.0.0) now in
    let len = adds.len in omega arith

pub Adds-none : (x : ServerNo × ℕ) (taken : ℕ) (before : List Txn) (counts : List ℕ) → x.0.0 < length counts → CountsOwn counts before → Adds x taken 0 before before counts
Adds-none x taken before counts origin own = record {
  rest = let e : taken - 0 ≡ taken = omega arith in ap (λ k. joined_by before (replicate k x)) e;
  len = omega arith;
  counts = own;
  origin = origin;
}

abbrev txn_of : ServerNo → ℕ → ℕ → Txn
txn_of origin seq size = record { origin = origin; seq = seq; size = size }

pub Adds-more : (x : ServerNo × ℕ) (taken so_far : ℕ) (before now : List Txn) (counts : List ℕ) (seq : ℕ) → so_far < taken → Adds x taken so_far before now counts → seq ≡ slice_index counts x.0.0 + 1
    → Adds x taken (so_far + 1) before (now ++ txn_of x.0 seq x.1 ∷ []) (slice_set counts x.0.0 seq)
Adds-more x taken so_far before now counts seq more adds is =
    let own : seq ≡ count_own x.0.0 now + 1 = is ∙ ap (λ k. k + 1) (adds.counts.each x.0.0 adds.origin) in
    let next : txn_of x.0 seq x.1 ≡ next_txn now x = ap (λ k. txn_of x.0 k x.1) own in
    let left : taken - so_far ≡ suc (taken - (so_far + 1)) = omega arith in
    record {
      rest = ap (λ t. joined_by (now ++ t ∷ []) (replicate (taken - (so_far + 1)) x)) next ∙ ap (λ k. joined_by now (replicate k x)) (sym left) ∙ adds.rest;
      len = let longer = length-append now (txn_of x.0 seq x.1 ∷ []) in let len = adds.len in omega arith;
      counts = ap_counts next (CountsOwn-more counts now x seq adds.origin adds.counts own);
      origin = let size = length-set counts x.0.0 seq in let origin = adds.origin in omega arith;
    }
  where
    ap_counts : {t u : Txn} {cs : List ℕ} → t ≡ u → CountsOwn cs (now ++ u ∷ []) → CountsOwn cs (now ++ t ∷ [])
    ap_counts e h = rw e h

pub Adds-all : (x : ServerNo × ℕ) (taken : ℕ) (before now : List Txn) (counts : List ℕ) → Adds x taken taken before now counts → now ≡ joined_by before (replicate taken x)
Adds-all x taken before now counts adds = let none : taken - taken ≡ 0 = omega arith in sym (ap (λ k. joined_by now (replicate k x)) none) ∙ adds.rest

-- a prefix of two joined lists
take-append : {X : Type 0} (k : ℕ) (xs ys : List X) → take k (xs ++ ys) ≡ take k xs ++ take (k - length xs) ys
take-append zero [] ys = refl
take-append zero (x ∷ xs) ys = let e : 0 - suc (length xs) ≡ 0 = omega arith in rw e refl
take-append (suc k) [] ys = let e : suc k - 0 ≡ suc k = omega arith in rw e refl
take-append (suc k) (x ∷ xs) ys = let e : suc k - suc (length xs) ≡ k - length xs = omega arith in rw e (ap (λ zs. x ∷ zs) (take-append k xs ys))

take-replicate_min : {X : Type 0} (k n : ℕ) (x : X) → take k (replicate n x) ≡ replicate (min n k) x
take-replicate_min zero n x = let e : min n 0 ≡ 0 = omega arith in rw e refl
take-replicate_min (suc k) zero x = let e : min 0 (suc k) ≡ 0 = omega arith in rw e refl
take-replicate_min (suc k) (suc n) x = let e : min (suc n) (suc k) ≡ suc (min n k) = omega arith in rw e (ap (λ zs. x ∷ zs) (take-replicate_min k n x))

abbrev pub pair_of : Part → ServerNo × ℕ
pair_of p = (p.origin, p.size)

-- the first transactions of the parts before this one have joined
pub record Takes (parts : List Part) (count at : ℕ) (now : List Txn) (table : List ℕ) : Type 0 where
  pub rest : joined_by now (take (count - length now) (singles (drop at parts))) ≡ joined_by [] (take count (singles parts))
  pub within : length now ≤ count
  pub counts : CountsOwn table now

pub Takes-none : (parts : List Part) (count : ℕ) (counts : List ℕ) → CountsOwn counts [] → Takes parts count 0 [] counts
Takes-none parts count counts own = record {
  rest = let e : count - 0 ≡ count = omega arith in ap (λ k. joined_by [] (take k (singles parts))) e;
  within = omega arith;
  counts = own;
}

-- how many of a part join
taken-part : (parts : List Part) (count at : ℕ) (p : Part) (now : List Txn) (k : ℕ) → drop at parts ≡ p ∷ drop (at + 1) parts → k ≡ count - length now
    → take k (singles (drop at parts)) ≡ replicate (min p.count k) (pair_of p) ++ take (k - p.count) (singles (drop (at + 1) parts))
taken-part parts count at p now k here is =
    let len : length (replicate p.count (pair_of p)) ≡ p.count = length-replicate p.count (pair_of p) in
    ap (λ ps. take k (singles ps)) here ∙ take-append k (replicate p.count (pair_of p)) (singles (drop (at + 1) parts))
    ∙ ap (λ xs. xs ++ take (k - length (replicate p.count (pair_of p))) (singles (drop (at + 1) parts))) (take-replicate_min k p.count (pair_of p))
    ∙ ap (λ m. replicate (min p.count k) (pair_of p) ++ take (k - m) (singles (drop (at + 1) parts))) len

-- they fit if all do
pub Takes-fits : (parts : List Part) (count at : ℕ) (p : Part) (now : List Txn) (counts : List ℕ) → drop at parts ≡ p ∷ drop (at + 1) parts → Takes parts count at now counts
    → length now + min p.count (count - length now) ≤ length (joined_by [] (take count (singles parts)))
Takes-fits parts count at p now counts here takes =
    let k = count - length now in
    let split = ap length (taken-part parts count at p now k here refl) in
    let front = length-append (replicate (min p.count k) (pair_of p)) (take (k - p.count) (singles (drop (at + 1) parts))) in
    let len = length-replicate (min p.count k) (pair_of p) in
    let whole = length-joined_by now (take k (singles (drop at parts))) in
    let same = ap length takes.rest in
    omega arith

pub Takes-more : (parts : List Part) (count at : ℕ) (p : Part) (now next : List Txn) (counts counts' : List ℕ) → drop at parts ≡ p ∷ drop (at + 1) parts → Takes parts count at now counts
    → next ≡ joined_by now (replicate (min p.count (count - length now)) (pair_of p)) → CountsOwn counts' next → Takes parts count (at + 1) next counts'
Takes-more parts count at p now next counts counts' here takes is own =
    let k = count - length now in
    let joined = length-joined_by now (replicate (min p.count k) (pair_of p)) in
    let added = length-replicate (min p.count k) (pair_of p) in
    let size = ap length is in
    let within = takes.within in
    let more : length next ≡ length now + min p.count k = omega arith in
    let left : take (count - length next) (singles (drop (at + 1) parts)) ≡ take (k - p.count) (singles (drop (at + 1) parts)) =
    let e : count - length next ≡ k - p.count = omega arith in ap (λ m. take m (singles (drop (at + 1) parts))) e in
    record {
      rest = ap (λ xs. joined_by next xs) left ∙ ap (λ done. joined_by done (take (k - p.count) (singles (drop (at + 1) parts)))) is
          ∙ sym (joined_by-append now (replicate (min p.count k) (pair_of p)) (take (k - p.count) (singles (drop (at + 1) parts))))
          ∙ sym (ap (joined_by now) (taken-part parts count at p now k here refl)) ∙ takes.rest;
      within = omega arith;
      counts = own;
    }

pub Takes-all : (parts : List Part) (count : ℕ) (now : List Txn) (counts : List ℕ) → Takes parts count (length parts) now counts → now ≡ joined_by [] (take count (singles parts))
Takes-all parts count now counts takes =
    let none : drop (length parts) parts ≡ nil Part = drop_all (length parts) parts (omega arith) in
    let e : joined_by now (take (count - length now) (singles (drop (length parts) parts))) ≡ now =
    ap (λ ps. joined_by now (take (count - length now) (singles ps))) none ∙ ap (joined_by now) (take_nil (count - length now)) in
    sym e ∙ takes.rest

-- nothing has joined yet
pub CountsOwn-none : (servers : ℕ) (counts : List ℕ) → counts ≡ replicate servers 0 → CountsOwn counts []
CountsOwn-none servers counts e = record {
  each = λ o h. let size : length counts ≡ servers = ap length e ∙ length-replicate servers 0 in
      let within : o < servers = omega arith in ap (λ xs. get_or xs o 0) e ∙ get_or-replicate servers o 0 0 within;
}
