-- What is listed has its sizes, and is of the servers.
use Rattle.std.proofs.Common.{◌≡◌, ℕ, ◌+◌, ◌<◌, ◌≤◌, List, [], ◌∷◌, ◌++◌, length, take, replicate, refl, sym, subst, ap, ◌∙◌, inl, inr, Some, None, Option, arith, suc, length-append, slice_get, All, slice_index_or}
use Rattle.openings.proofs.Prelude.{HasSize, IsPart, Part, PartsInRange, ServerInit, ServerNo, Txn, count_at, get_or_from_slice_get, history_at}
use Rattle.openings.proofs.Prelude.{joined_by, length-replicate, length-take, listed_history, next_txn, parts_at, root_of, singles, slice_get-get_or}
use Rattle.openings.proofs.Prelude.{slice_get_within, sum_by-cons, take_all, transactions}
use Rattle.openings.proofs.Joined.{pair_of, take-listed, length-joined_by}
use Rattle.openings.proofs.Members.{get-push, get-take, get-append, get-replicate}

-- what holds of each transaction that joins holds of each in the history
pub joined_by-each : (Q : Txn → Type 0) (done : List Txn) (xs : List (ServerNo × ℕ)) → ((k : ℕ) (t : Txn) → slice_get done k ≡ Some t → Q t)
    → ((before : List Txn) (k : ℕ) (x : ServerNo × ℕ) → slice_get xs k ≡ Some x → Q (next_txn before x)) → (k : ℕ) (t : Txn) → slice_get (joined_by done xs) k ≡ Some t → Q t
joined_by-each Q done [] old new k t h = old k t h
joined_by-each Q done (x ∷ xs) old new k t h =
    joined_by-each Q (done ++ next_txn done x ∷ []) xs
    (λ j u e. elim (get-push done (next_txn done x) u j e) [ inl before ↦ old j u before | inr now ↦ subst Q (sym now.1) (new done 0 x refl) ])
    (λ before j y e. new before (suc j) y e) k t h

-- each is of a part
pub singles-part : (parts : List Part) (k : ℕ) (x : ServerNo × ℕ) → slice_get (singles parts) k ≡ Some x → (p : Part) × (j : ℕ) × (slice_get parts j ≡ Some p) × (x ≡ pair_of p)
singles-part [] k x h = cc
singles-part (p ∷ ps) k x h =
    elim (get-append (replicate p.count (pair_of p)) (singles ps) x k h) [
      | inl here ↦ (p, 0, refl, get-replicate p.count (pair_of p) x k here)
      | inr there ↦ (let rest = singles-part ps there.0 x there.1 in (rest.0, suc rest.1, rest.2, rest.3))
    ]

-- a transaction that these many servers may list
pub record IsListedTxn (servers : ℕ) (t : Txn) : Type 0 where
  pub origin : t.origin.0 < servers
  pub size : HasSize t

part-txn : (servers : ℕ) (before : List Txn) (p : Part) (x : ServerNo × ℕ) → IsPart servers p → x ≡ pair_of p → IsListedTxn servers (next_txn before x)
part-txn servers before p x part is = subst (λ (y : ServerNo × ℕ). IsListedTxn servers (next_txn before y)) (sym is) (record {
  origin = part.origin;
  size = record { some = part.some; few = part.size };
})

pub joined-listed : (servers count : ℕ) (parts : List Part) → All (IsPart servers) parts → (k : ℕ) (t : Txn) → slice_get (joined_by [] (take count (singles parts))) k ≡ Some t → IsListedTxn servers t
joined-listed servers count parts all k t h =
    joined_by-each (IsListedTxn servers) [] (take count (singles parts)) (λ j u e. none j u e)
    (λ before j x e. single before x (singles-part parts j x (get-take count (singles parts) x j e).1)) k t h
  where
    none : (j : ℕ) (u : Txn) → slice_get [] j ≡ Some u → IsListedTxn servers u
    none j u e = cc

    single : (before : List Txn) (x : ServerNo × ℕ) → (p : Part) × (j : ℕ) × (slice_get parts j ≡ Some p) × (x ≡ pair_of p) → IsListedTxn servers (next_txn before x)
    single before x found =
        let p = found.0 in
        let at : p ≡ slice_index_or parts found.1 p = sym (get_or_from_slice_get parts found.1 p p found.2) in
        part-txn servers before p x (subst (IsPart servers) (sym at) (all found.1 p (slice_get_within parts found.1 p found.2))) found.3

pub joined-sized : (servers count : ℕ) (parts : List Part) → All (IsPart servers) parts → All HasSize (joined_by [] (take count (singles parts)))
joined-sized servers count parts all = λ k d h. (joined-listed servers count parts all k _ (slice_get-get_or (joined_by [] (take count (singles parts))) k d h)).size

-- the parts at a number are in range
pub parts_at-in_range : (servers : List ServerInit) (n : ℕ) → PartsInRange servers → All (IsPart (length servers)) (parts_at (slice_get servers n))
parts_at-in_range servers n range = at (slice_get servers n) refl
  where
    at : (o : Option ServerInit) → slice_get servers n ≡ o → All (IsPart (length servers)) (parts_at o)
    at None e = λ k d h. absurd (omega arith)
    at (Some i) e = range.each n i e

pub root-parts : (servers : List ServerInit) (n root : ℕ) (parts : List Part) → root ≡ root_of servers n → parts ≡ parts_at (slice_get servers root) → parts ≡ parts_at (slice_get servers (root_of servers n))
root-parts servers n root parts top is = is ∙ ap (λ m. parts_at (slice_get servers m)) top

-- what a server has executed joins from the parts at the top of its sources
pub history_at-joined : (servers : List ServerInit) (n count : ℕ) (parts : List Part) → count ≡ count_at (slice_get servers n) → parts ≡ parts_at (slice_get servers (root_of servers n))
    → joined_by [] (take count (singles parts)) ≡ history_at servers n
history_at-joined servers n count parts counted is =
    ap (λ k. joined_by [] (take k (singles parts))) counted ∙ ap (λ ps. joined_by [] (take (count_at (slice_get servers n)) (singles ps))) is
    ∙ sym (take-listed (parts_at (slice_get servers (root_of servers n))) (count_at (slice_get servers n)))

pub history_at-sized : (servers : List ServerInit) (n : ℕ) → PartsInRange servers → All HasSize (history_at servers n)
history_at-sized servers n range =
    subst (All HasSize) (sym (take-listed (parts_at (slice_get servers (root_of servers n))) (count_at (slice_get servers n))))
    (joined-sized (length servers) (count_at (slice_get servers n)) (parts_at (slice_get servers (root_of servers n))) (parts_at-in_range servers (root_of servers n) range))

pub length-singles : (parts : List Part) → length (singles parts) ≡ transactions parts
length-singles [] = refl
length-singles (p ∷ ps) =
    let front = length-append (replicate p.count (pair_of p)) (singles ps) in
    let count = length-replicate p.count (pair_of p) in
    let rest = length-singles ps in
    let sum = sum_by-cons (λ (q : Part). q.count) p ps in omega arith

-- a server has executed no more than is listed at the top of its sources
pub length-history_at : (servers : List ServerInit) (n : ℕ) → length (history_at servers n) ≤ transactions (parts_at (slice_get servers (root_of servers n)))
length-history_at servers n =
    let parts = parts_at (slice_get servers (root_of servers n)) in
    let front = length-take (count_at (slice_get servers n)) (listed_history parts) in
    let joined : length (listed_history parts) ≡ 0 + length (singles parts) = length-joined_by [] (singles parts) in
    let sum = length-singles parts in omega arith

pub parts_at-few : (servers : List ServerInit) (n : ℕ) → PartsInRange servers → transactions (parts_at (slice_get servers n)) ≤ 4000000
parts_at-few servers n range = at (slice_get servers n) refl
  where
    at : (o : Option ServerInit) → slice_get servers n ≡ o → transactions (parts_at o) ≤ 4000000
    at None e = omega arith
    at (Some i) e = range.few n i e

pub length-listed : (parts : List Part) → length (listed_history parts) ≡ transactions parts
length-listed parts = let joined : length (listed_history parts) ≡ 0 + length (singles parts) = length-joined_by [] (singles parts) in let sum = length-singles parts in omega arith

-- what is listed is all that the parts have
pub listed-all : (parts : List Part) (n : ℕ) → n ≡ transactions parts → joined_by [] (take n (singles parts)) ≡ listed_history parts
listed-all parts n is = let size = length-singles parts in ap (joined_by []) (take_all n (singles parts) (omega arith))
