-- The links of a history, by index; when two links say the same; when two histories agree.
use Rattle.std.proofs.Common.{◌≡◌, ℕ, inl, inr, true, List, [], ◌∷◌, refl, sym, ap, subst, ◌∙◌, Some, None, Option, suc, zero, ◌==◌, not, slice_get}
use Rattle.opening_checks.proofs.Prelude.{Link, Txn, alike, and_from, and_parts, before_at, cases_Bool, eq-eqb, eqb-true, false≢true, histories_agree}
use Rattle.opening_checks.proofs.Prelude.{link_of, links, links_after, links_agree, list_all, not_from_false, not_from_true, or_cases, or_left}
use Rattle.opening_checks.proofs.Prelude.{or_right, same_before, same_Some, same_txn}
use Rattle.opening_checks.proofs.ListTests.{list_all-get, list_all-from_get}

-- the transaction before the one at an index, in a history that follows this one
abbrev before_from : Option Txn → List Txn → ℕ → Option Txn
before_from before history zero = before
before_from before history (suc j) = slice_get history j

before_from-on : (before : Option Txn) (t : Txn) (ts : List Txn) (j : ℕ) → before_from before (t ∷ ts) (suc j) ≡ before_from (Some t) ts j
before_from-on before t ts zero = refl
before_from-on before t ts (suc j) = refl

links_after-get : (before : Option Txn) (history : List Txn) (j : ℕ) (t : Txn) → slice_get history j ≡ Some t → slice_get (links_after before history) j ≡ Some (before_from before history j, t)
links_after-get before [] j t h = cc
links_after-get before (u ∷ us) zero t h = ap (λ (v : Txn). Some (before, v)) (same_Some u t h)
links_after-get before (u ∷ us) (suc j) t h = links_after-get (Some u) us j t h ∙ ap (λ (b : Option Txn). Some (b, t)) (sym (before_from-on before u us j))

links_after-txn : (before : Option Txn) (history : List Txn) (j : ℕ) (l : Option Txn × Txn) → slice_get (links_after before history) j ≡ Some l → slice_get history j ≡ Some l.1
links_after-txn before [] j l h = cc
links_after-txn before (u ∷ us) zero l h = ap Some (ap (λ (k : Option Txn × Txn). k.1) (same_Some (before, u) l h))
links_after-txn before (u ∷ us) (suc j) l h = links_after-txn (Some u) us j l h

before_at-from : (history : List Txn) (j : ℕ) → before_from None history j ≡ before_at history j
before_at-from history zero = refl
before_at-from history (suc j) = refl

pub links-get : (history : List Txn) (j : ℕ) (t : Txn) → slice_get history j ≡ Some t → slice_get (links history) j ≡ Some (before_at history j, t)
links-get history j t h = links_after-get None history j t h ∙ ap (λ (b : Option Txn). Some (b, t)) (before_at-from history j)

-- each link is of a transaction, with the one before it
pub links-txn : (history : List Txn) (j : ℕ) (l : Option Txn × Txn) → slice_get (links history) j ≡ Some l → (slice_get history j ≡ Some l.1) × (l ≡ (before_at history j, l.1))
links-txn history j l h =
    let at = links_after-txn None history j l h in
    (at, same_Some l (before_at history j, l.1) (sym h ∙ links-get history j l.1 at))

-- the same transaction
pub same_txn-parts : (x y : Txn) → same_txn x y ≡ true → (x.origin.0 ≡ y.origin.0) × (x.seq ≡ y.seq)
same_txn-parts x y h = let parts = and_parts (x.origin.0 == y.origin.0) (x.seq == y.seq) h in (eqb-true x.origin.0 y.origin.0 parts.0, eqb-true x.seq y.seq parts.1)

pub same_txn-from : (x y : Txn) → x.origin.0 ≡ y.origin.0 → x.seq ≡ y.seq → same_txn x y ≡ true
same_txn-from x y origin seq = and_from (x.origin.0 == y.origin.0) (x.seq == y.seq) (eq-eqb x.origin.0 y.origin.0 origin) (eq-eqb x.seq y.seq seq)

same_before-refl : (x : Option Txn) → same_before x x ≡ true
same_before-refl None = refl
same_before-refl (Some x) = same_txn-from x x refl refl

same_before-sym : (x y : Option Txn) → same_before x y ≡ true → same_before y x ≡ true
same_before-sym None None h = refl
same_before-sym None (Some y) h = absurd (false≢true h)
same_before-sym (Some x) None h = absurd (false≢true h)
same_before-sym (Some x) (Some y) h = let parts = same_txn-parts x y h in same_txn-from y x (sym parts.0) (sym parts.1)

same_before-trans : (x y z : Option Txn) → same_before x y ≡ true → same_before y z ≡ true → same_before x z ≡ true
same_before-trans None None z g h = h
same_before-trans None (Some y) z g h = absurd (false≢true g)
same_before-trans (Some x) None z g h = absurd (false≢true g)
same_before-trans (Some x) (Some y) None g h = absurd (false≢true h)
same_before-trans (Some x) (Some y) (Some z) g h =
    let one = same_txn-parts x y g in let two = same_txn-parts y z h in same_txn-from x z (one.0 ∙ two.0) (one.1 ∙ two.1)

alike-parts : (k l : Link) → alike k l ≡ true → (same_before k.before l.before ≡ true) × (k.size ≡ l.size)
alike-parts k l h = let parts = and_parts (same_before k.before l.before) (k.size == l.size) h in (parts.0, eqb-true k.size l.size parts.1)

alike-from : (k l : Link) → same_before k.before l.before ≡ true → k.size ≡ l.size → alike k l ≡ true
alike-from k l before size = and_from (same_before k.before l.before) (k.size == l.size) before (eq-eqb k.size l.size size)

pub alike-refl : (k : Link) → alike k k ≡ true
alike-refl k = alike-from k k (same_before-refl k.before) refl

pub alike-sym : (k l : Link) → alike k l ≡ true → alike l k ≡ true
alike-sym k l h = let parts = alike-parts k l h in alike-from l k (same_before-sym k.before l.before parts.0) (sym parts.1)

pub alike-trans : (k l m : Link) → alike k l ≡ true → alike l m ≡ true → alike k m ≡ true
alike-trans k l m g h =
    let one = alike-parts k l g in let two = alike-parts l m h in alike-from k m (same_before-trans k.before l.before m.before one.0 two.0) (one.1 ∙ two.1)

-- links of one transaction agree if they say the same
pub links_agree-alike : (b c : Option Txn) (t u : Txn) → links_agree (b, t) (c, u) ≡ true → same_txn t u ≡ true → alike (link_of b t) (link_of c u) ≡ true
links_agree-alike b c t u h same = elim (or_cases (not (same_txn t u)) (alike (link_of b t) (link_of c u)) h) [
  | inl apart ↦ absurd (false≢true (sym (not_from_true (same_txn t u) same) ∙ apart))
  | inr agree ↦ agree
]

pub links_agree-from : (b c : Option Txn) (t u : Txn) → (same_txn t u ≡ true → alike (link_of b t) (link_of c u) ≡ true) → links_agree (b, t) (c, u) ≡ true
links_agree-from b c t u agree = elim (cases_Bool (same_txn t u)) [
  | inl same ↦ or_right (not (same_txn t u)) (alike (link_of b t) (link_of c u)) (agree same)
  | inr apart ↦ or_left (not (same_txn t u)) (alike (link_of b t) (link_of c u)) (not_from_false (same_txn t u) apart)
]

pub histories_agree-each : (a b : List Txn) → histories_agree a b ≡ true → (i j : ℕ) (t u : Txn) → slice_get a i ≡ Some t → slice_get b j ≡ Some u → links_agree (before_at a i, t) (before_at b j, u) ≡ true
histories_agree-each a b h i j t u at bt =
    let row = list_all-get (λ l. list_all (λ k. links_agree k l) (links a)) (links b) h j (before_at b j, u) (links-get b j u bt) in
    list_all-get (λ k. links_agree k (before_at b j, u)) (links a) row i (before_at a i, t) (links-get a i t at)

pub histories_agree-from_each : (a b : List Txn) → ((i j : ℕ) (t u : Txn) → slice_get a i ≡ Some t → slice_get b j ≡ Some u → links_agree (before_at a i, t) (before_at b j, u) ≡ true) → histories_agree a b ≡ true
histories_agree-from_each a b each =
    list_all-from_get (λ l. list_all (λ k. links_agree k l) (links a)) (links b)
    (λ j l lt. list_all-from_get (λ k. links_agree k l) (links a)
    (λ i k kt. let one = links-txn a i k kt in let two = links-txn b j l lt in
    subst (λ (x : Option Txn × Txn). links_agree x l ≡ true) (sym one.1) (subst (λ (y : Option Txn × Txn). links_agree (before_at a i, k.1) y ≡ true) (sym two.1) (each i j k.1 l.1 one.0 two.0))))
