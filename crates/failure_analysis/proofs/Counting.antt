-- Replicas are counted in one pass.
use Rattle.std.proofs.Common.{◌≡◌, ℕ, ◌+◌, ◌<◌, ◌≤◌, Bool, true, false, cond, ◌&&◌, List, length, get_or, set, take, refl, sym, ◌∙◌, ap, subst, Option, None, Some, arith, ◌==◌}
use Rattle.failure_analysis.proofs.Prelude.{AreParts, Attached, BookState, Detached, HasKnownSource, Instance, IsBook, ServerNo, SourceState, Tally}
use Rattle.failure_analysis.proofs.Prelude.{Without, add-zero, are_known, count_by-le-length, count_of, eq-eqb, eqb-true, false≢true, get_or-set_at}
use Rattle.failure_analysis.proofs.Prelude.{get_or-set_other, get_or_default, is_any, is_attached_to, is_replica_that, is_valid, known-below}
use Rattle.failure_analysis.proofs.Prelude.{known_at, lags, length-take, no_replicas, raised, replicates, seen_source, source_servers}
use Rattle.failure_analysis.proofs.Prelude.{sum_by-le-sum_by, sum_by_more, tally_of}

-- a stricter test counts no more
fewer : (p q : Instance → Bool) → ((i : Instance) → p i ≡ true → q i ≡ true) → (xs : List (Option Instance)) (n : ServerNo) → count_of p xs n ≤ count_of q xs n
fewer p q stricter xs n = sum_by-le-sum_by (λ x. cond (is_replica_that p n x) 1 0) (λ x. cond (is_replica_that q n x) 1 0) xs each
  where
    both : (a b c : Bool) → (b ≡ true → c ≡ true) → cond (a && b) 1 0 ≤ cond (a && c) 1 0
    both false b c h = omega arith
    both true false c h = omega arith
    both true true c h = subst (λ d. cond true 1 0 ≤ cond d 1 0) (sym (h refl)) (omega arith)

    each : (x : Option Instance) → cond (is_replica_that p n x) 1 0 ≤ cond (is_replica_that q n x) 1 0
    each None = omega arith
    each (Some i) = both (is_attached_to n i.seen.source) (p i) (q i) (stricter i)

pub first-part : (a b : Bool) → (a && b) ≡ true → a ≡ true
first-part true b e = refl
first-part false b e = e

pub tally-parts : (xs : List (Option Instance)) (n : ServerNo) → AreParts (tally_of xs n)
tally-parts xs n = record {
  lagging = fewer lags replicates (λ i e. first-part (replicates i) _ e) xs n;
  replicating = fewer replicates is_valid (λ i e. first-part i.valid _ e) xs n;
  valid = fewer is_valid is_any (λ i e. refl) xs n;
}

-- a pass over the first of a list counts no more than these
pub tally-few : (xs : List (Option Instance)) (i : ℕ) (n : ServerNo) → (tally_of (take i xs) n).replicas ≤ i
tally-few xs i n =
    let few = count_by-le-length (is_replica_that is_any n) (take i xs) in
    let short = length-take i xs in
    omega (arith, few, short)

-- one more instance
abbrev counted : ServerNo → Option Instance → Tally → Tally
counted n None t = t
counted n (Some x) t = cond (is_attached_to n x.seen.source) (raised t x) t

count-more : (test : Instance → Bool) (xs : List (Option Instance)) (i : ℕ) (n : ServerNo) → i < length xs
    → count_of test (take (i + 1) xs) n ≡ count_of test (take i xs) n + cond (is_replica_that test n (get_or xs i None)) 1 0
count-more test xs i n within = sum_by_more (λ x. cond (is_replica_that test n x) 1 0) xs i None within

same-tally : (a b : Tally) → a.replicas ≡ b.replicas → a.valid ≡ b.valid → a.replicating ≡ b.replicating → a.lagging ≡ b.lagging → a ≡ b
same-tally a b e f g h = λ i. record { replicas = e i; valid = f i; replicating = g i; lagging = h i }

tally-more : (xs : List (Option Instance)) (i : ℕ) (n : ServerNo) (x : Option Instance) → i < length xs → get_or xs i None ≡ x
    → tally_of (take (i + 1) xs) n ≡ counted n x (tally_of (take i xs) n)
tally-more xs i n x within at = go x (λ test. count-more test xs i n within ∙ ap (λ y. count_of test (take i xs) n + cond (is_replica_that test n y) 1 0) at)
  where
    go : (y : Option Instance) → ((test : Instance → Bool) → count_of test (take (i + 1) xs) n ≡ count_of test (take i xs) n + cond (is_replica_that test n y) 1 0)
        → tally_of (take (i + 1) xs) n ≡ counted n y (tally_of (take i xs) n)
    go None more =
        same-tally _ _ (more is_any ∙ add-zero (count_of is_any (take i xs) n)) (more is_valid ∙ add-zero (count_of is_valid (take i xs) n))
        (more replicates ∙ add-zero (count_of replicates (take i xs) n)) (more lags ∙ add-zero (count_of lags (take i xs) n))
    go (Some r) more = by (is_attached_to n r.seen.source) more
      where
        by : (b : Bool) → ((test : Instance → Bool) → count_of test (take (i + 1) xs) n ≡ count_of test (take i xs) n + cond (b && test r) 1 0)
            → tally_of (take (i + 1) xs) n ≡ cond b (raised (tally_of (take i xs) n) r) (tally_of (take i xs) n)
        by true more = same-tally _ _ (more is_any) (more is_valid) (more replicates) (more lags)
        by false more =
            same-tally _ _ (more is_any ∙ add-zero (count_of is_any (take i xs) n)) (more is_valid ∙ add-zero (count_of is_valid (take i xs) n))
            (more replicates ∙ add-zero (count_of replicates (take i xs) n)) (more lags ∙ add-zero (count_of lags (take i xs) n))

-- the counts of so many servers over the first of a list
abbrev pub AreTallied : List Tally → List (Option Instance) → ℕ → ℕ → Type 0
AreTallied ts xs servers i = (n : ServerNo) → n.0 < servers → get_or ts n.0 no_replicas ≡ tally_of (take i xs) n

-- one that is attached to no server
pub tallied-past : (ts : List Tally) (xs : List (Option Instance)) (servers i : ℕ) → i < length xs → ((n : ServerNo) → is_attached_to n (seen_source (get_or xs i None)) ≡ false)
    → AreTallied ts xs servers i → AreTallied ts xs servers (i + 1)
tallied-past ts xs servers i within past so_far n few = so_far n few ∙ sym (tally-more xs i n (get_or xs i None) within refl ∙ go (get_or xs i None) (past n))
  where
    go : (x : Option Instance) → is_attached_to n (seen_source x) ≡ false → counted n x (tally_of (take i xs) n) ≡ tally_of (take i xs) n
    go None e = refl
    go (Some r) e = ap (λ b. cond b (raised (tally_of (take i xs) n) r) (tally_of (take i xs) n)) e

-- one that is attached to a server
pub tallied-raised : (ts : List Tally) (xs : List (Option Instance)) (servers i : ℕ) (r : Instance) (s : ServerNo) → i < length xs → get_or xs i None ≡ Some r
    → r.seen.source ≡ Attached s → s.0 < length ts → s.0 < servers
    → AreTallied ts xs servers i → AreTallied (set ts s.0 (raised (get_or ts s.0 no_replicas) r)) xs servers (i + 1)
tallied-raised ts xs servers i r s within at attached room few so_far n known =
    go (s.0 == n.0) refl ∙ sym (tally-more xs i n (Some r) within at ∙ ap (λ y. cond (is_attached_to n y) (raised (tally_of (take i xs) n) r) (tally_of (take i xs) n)) attached)
  where
    go : (b : Bool) → (s.0 == n.0) ≡ b → get_or (set ts s.0 (raised (get_or ts s.0 no_replicas) r)) n.0 no_replicas ≡ cond b (raised (tally_of (take i xs) n) r) (tally_of (take i xs) n)
    go true e =
        let same : n.0 ≡ s.0 = sym (eqb-true s.0 n.0 e) in
        get_or-set_at ts s.0 n.0 (raised (get_or ts s.0 no_replicas) r) no_replicas same room
        ∙ ap (λ k. raised (get_or ts k no_replicas) r) (sym same) ∙ ap (λ t. raised t r) (so_far n known)
    go false e = get_or-set_other ts s.0 n.0 (raised (get_or ts s.0 no_replicas) r) no_replicas (λ same. false≢true (sym e ∙ eq-eqb s.0 n.0 (sym same))) ∙ so_far n known

-- what is read of a list, with the default of the definitions
pub tally-read : (ts : List Tally) (i : ℕ) (t : Tally) → i < length ts → t ≡ get_or ts i t → t ≡ get_or ts i no_replicas
tally-read ts i t within e = e ∙ get_or_default ts i t no_replicas within

pub not-attached : (n : ServerNo) (x : SourceState) → ((s : ServerNo) → x ≡ Attached s → ⊥) → is_attached_to n x ≡ false
not-attached n Without no-source = refl
not-attached n (Attached s) no-source = absurd (no-source s refl)
not-attached n (Detached s) no-source = refl

-- its source is one of the servers
pub source-known : (b : BookState) (i : ℕ) (r : Instance) (s : ServerNo) → IsBook b → get_or b.instances i None ≡ Some r → r.seen.source ≡ Attached s → s.0 < length b.names
source-known b i r s is at attached =
    let known : HasKnownSource (length b.names) (Some r) = subst (HasKnownSource (length b.names)) at (known_at b i is) in
    known-below (length b.names) s.0 (subst (λ (x : SourceState). are_known (length b.names) (source_servers x) ≡ true) attached known)
