-- What a server has executed beyond an observed set.
use Rattle.server_model.proofs.Prelude.{All-head, All-nil, All-tail, Interval, IsInterval, IsSet, IsSet-with_pair, Txn, and_parts, eqb-true}
use Rattle.server_model.proofs.Prelude.{errant_set, false≢true, filter, fold, get_or_from_slice_get, has_gtid, holds, largest, list_any, nat_tests}
use Rattle.server_model.proofs.Prelude.{or_right, same_sets_lem, set_of, slice_get_within, spans, with_gtid}
use Rattle.std.proofs.Common.{◌≡◌, ℕ, ◌^◌, ◌<◌, ◌≤◌, Bool, true, false, cond, not, List, [], ◌∷◌, length, refl, sym, ◌∙◌, ap, subst, arith, get_or, zero, suc, slice_get, Some, ◌==◌, ◌&&◌, ◌||◌, All}
use Rattle.server_model.proofs.ExecutedSets.{is_gtid, holds-set_of}

-- a GTID that a set may have
pub record IsGtid (uuid : ℕ → ℕ) (t : Txn) : Type 0 where
  pub fits : uuid t.origin.0 < 2 ^ 128
  pub some : 1 ≤ t.seq
  pub few : t.seq ≤ largest

-- what a set holds is a GTID
held_fits : (set : List Interval) (u n : ℕ) → All IsInterval set → holds set u n ≡ true → (u < 2 ^ 128) × (1 ≤ n) × (n ≤ largest)
held_fits [] u n all h = absurd (false≢true h)
held_fits (s ∷ xs) u n all h = go (spans u n s) refl h (λ k. held_fits xs u n (All-tail IsInterval s xs all) k)
  where
    one : IsInterval s
    one = All-head IsInterval s xs all

    inside : (s.uuid == u) ≡ true → (1 ≤ n) → (n ≤ largest) → (u < 2 ^ 128) × (1 ≤ n) × (n ≤ largest)
    inside e a b = (subst (λ v. v < 2 ^ 128) (eqb-true s.uuid u e) one.uuid_fits, a, b)

    go : (b : Bool) → spans u n s ≡ b → (b || holds xs u n) ≡ true → (holds xs u n ≡ true → (u < 2 ^ 128) × (1 ≤ n) × (n ≤ largest)) → (u < 2 ^ 128) × (1 ≤ n) × (n ≤ largest)
    go true e k more =
        let a = one.above_zero in let b = one.in_range in
        inside (grind (arith, nat_tests)) (grind (arith, nat_tests)) (grind (arith, nat_tests))
    go false e k more = more k

self_gtid : (uuid : ℕ → ℕ) (t : Txn) → is_gtid uuid (uuid t.origin.0) t.seq t ≡ true
self_gtid uuid t = grind (arith, nat_tests)

any-at : (uuid : ℕ → ℕ) (txns : List Txn) (k : ℕ) (d : Txn) → k < length txns → list_any (is_gtid uuid (uuid (get_or txns k d).origin.0) (get_or txns k d).seq) txns ≡ true
any-at uuid [] k d h = absurd (omega arith)
any-at uuid (t ∷ ts) zero d h = ap (λ b. b || list_any (is_gtid uuid (uuid t.origin.0) t.seq) ts) (self_gtid uuid t)
any-at uuid (t ∷ ts) (suc k) d h =
    or_right (is_gtid uuid (uuid (get_or ts k d).origin.0) (get_or ts k d).seq t) (list_any (is_gtid uuid (uuid (get_or ts k d).origin.0) (get_or ts k d).seq) ts)
    (any-at uuid ts k d (omega arith))

-- the transactions of a history that makes a set have GTIDs
pub gtids-of : (uuid : ℕ → ℕ) (txns : List Txn) → IsSet (set_of uuid txns) → All (IsGtid uuid) txns
gtids-of uuid txns is k d h =
    let t = get_or txns k d in
    let fits = held_fits (set_of uuid txns) (uuid t.origin.0) t.seq is.each (holds-set_of uuid txns (uuid t.origin.0) t.seq ∙ any-at uuid txns k d h) in
    record { fits = fits.0; some = fits.1; few = fits.2 }

pub IsSet-fold : (uuid : ℕ → ℕ) (txns : List Txn) (set : List Interval) → All (IsGtid uuid) txns → IsSet set → IsSet (fold (with_gtid uuid) set txns)
IsSet-fold uuid [] set all is = is
IsSet-fold uuid (t ∷ ts) set all is =
    let one = All-head (IsGtid uuid) t ts all in
    IsSet-fold uuid ts (with_gtid uuid set t) (All-tail (IsGtid uuid) t ts all) (IsSet-with_pair set (uuid t.origin.0) t.seq is one.fits one.some one.few)

IsSet-nil : IsSet []
IsSet-nil = record { each = All-nil IsInterval; apart = λ i j d less h. absurd (omega arith) }

All-cons : (P : Txn → Type 0) (x : Txn) (ys : List Txn) → P x → All P ys → All P (x ∷ ys)
All-cons P x ys a b zero d h = a
All-cons P x ys a b (suc k) d h = b k d (omega arith)

All-filter : (P : Txn → Type 0) (p : Txn → Bool) (txns : List Txn) → All P txns → All P (filter p txns)
All-filter P p [] all = all
All-filter P p (t ∷ ts) all = go (p t) (All-filter P p ts (All-tail P t ts all))
  where
    go : (b : Bool) → All P (filter p ts) → All P (cond b (t ∷ filter p ts) (filter p ts))
    go true more = All-cons P t (filter p ts) (All-head P t ts all) more
    go false more = more

-- what is left of a history beyond a set
beyond : (uuid : ℕ → ℕ) (observed : List Interval) (txns : List Txn) (u n : ℕ)
    → list_any (is_gtid uuid u n) (filter (λ t. not (has_gtid uuid observed t)) txns) ≡ (list_any (is_gtid uuid u n) txns && not (holds observed u n))
beyond uuid observed [] u n = refl
beyond uuid observed (t ∷ ts) u n = go (is_gtid uuid u n t) (has_gtid uuid observed t) refl refl (beyond uuid observed ts u n)
  where
    same : is_gtid uuid u n t ≡ true → has_gtid uuid observed t ≡ holds observed u n
    same e =
        let parts = and_parts (u == uuid t.origin.0) (n == t.seq) e in
        ap (λ v. holds observed v t.seq) (sym (eqb-true u (uuid t.origin.0) parts.0)) ∙ ap (holds observed u) (sym (eqb-true n t.seq parts.1))

    none : (b : Bool) → (b && false) ≡ false
    none true = refl
    none false = refl

    go : (a b : Bool) → is_gtid uuid u n t ≡ a → has_gtid uuid observed t ≡ b
        → list_any (is_gtid uuid u n) (filter (λ t. not (has_gtid uuid observed t)) ts) ≡ (list_any (is_gtid uuid u n) ts && not (holds observed u n))
        → list_any (is_gtid uuid u n) (cond (not b) (t ∷ filter (λ t. not (has_gtid uuid observed t)) ts) (filter (λ t. not (has_gtid uuid observed t)) ts))
        ≡ ((a || list_any (is_gtid uuid u n) ts) && not (holds observed u n))
    go true true e f more =
        let held : holds observed u n ≡ true = sym (same e) ∙ f in
        more ∙ ap (λ b. list_any (is_gtid uuid u n) ts && not b) held ∙ none (list_any (is_gtid uuid u n) ts) ∙ sym (ap not held)
    go true false e f more = ap (λ b. b || list_any (is_gtid uuid u n) (filter (λ t. not (has_gtid uuid observed t)) ts)) e ∙ sym (ap not (sym (same e) ∙ f))
    go false true e f more = more
    go false false e f more = ap (λ b. b || list_any (is_gtid uuid u n) (filter (λ t. not (has_gtid uuid observed t)) ts)) e ∙ more

-- so the difference of the sets is the set of what is left
pub errant-is : (uuid : ℕ → ℕ) (observed rest : List Interval) (txns : List Txn) → IsSet (set_of uuid txns) → IsSet rest
    → ((u n : ℕ) → holds rest u n ≡ (holds (set_of uuid txns) u n && not (holds observed u n))) → rest ≡ errant_set uuid observed txns
errant-is uuid observed rest txns is it same =
    let left = filter (λ t. not (has_gtid uuid observed t)) txns in
    same_sets_lem rest (errant_set uuid observed txns) it
    (IsSet-fold uuid left [] (All-filter (IsGtid uuid) (λ t. not (has_gtid uuid observed t)) txns (gtids-of uuid txns is)) IsSet-nil)
    (λ u n. same u n ∙ ap (λ b. b && not (holds observed u n)) (holds-set_of uuid txns u n) ∙ sym (beyond uuid observed txns u n) ∙ sym (holds-set_of uuid left u n))

and_false : (a b : Bool) → a ≡ true → (a && not b) ≡ false → b ≡ true
and_false true true e f = refl
and_false true false e f = absurd (false≢true (sym f))
and_false false b e f = absurd (false≢true e)

-- if nothing is left, each transaction's GTID is in the observed set
pub none-errant : (uuid : ℕ → ℕ) (observed : List Interval) (txns : List Txn) → errant_set uuid observed txns ≡ [] → (k : ℕ) (t : Txn) → slice_get txns k ≡ Some t → has_gtid uuid observed t ≡ true
none-errant uuid observed txns none k t at =
    let left = filter (λ x. not (has_gtid uuid observed x)) txns in
    let is : get_or txns k t ≡ t = get_or_from_slice_get txns k t t at in
    let here : list_any (is_gtid uuid (uuid t.origin.0) t.seq) txns ≡ true =
    subst (λ (x : Txn). list_any (is_gtid uuid (uuid x.origin.0) x.seq) txns ≡ true) is (any-at uuid txns k t (slice_get_within txns k t at)) in
    and_false (list_any (is_gtid uuid (uuid t.origin.0) t.seq) txns) (has_gtid uuid observed t) here
    (sym (beyond uuid observed txns (uuid t.origin.0) t.seq) ∙ sym (holds-set_of uuid left (uuid t.origin.0) t.seq) ∙ ap (λ xs. holds xs (uuid t.origin.0) t.seq) none)
