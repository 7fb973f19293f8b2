-- Lists of recoveries that change, and keep their ids.
use Rattle.std.proofs.Common.{◌≡◌, ℕ, ◌+◌, ◌<◌, ◌≤◌, false, cond, List, [], ◌∷◌, ◌++◌, length, get_or, set, map, take, drop, zero, suc, refl, sym, ◌∙◌, ap, subst, Some, None, arith, ◌==◌, All, AllPairs, find}
use Rattle.audit_log.proofs.Prelude.{All-head, All-map, All-push, All-tail, All-weaker, AuditState, IsAudit, Recovery, all_pairs_push}
use Rattle.audit_log.proofs.Prelude.{append-nil, begun, drop_all, eq-eqb, get_or-map, length-map, longest_block, ne_eqb, take_all}
pub use Rattle.kept_rows.proofs.OrchBase.Mapped.{mapped, mapped_all, mapped_step}

-- ---- a list that is mapped from its first element on

-- ---- ids and block periods

module _ (f : Recovery → Recovery) (same : (r : Recovery) → (f r).id ≡ r.id) (lasts : (r : Recovery) → (f r).block ≡ r.block) where
  rising-map : (xs : List Recovery) → AllPairs (λ (x y : Recovery). x.id < y.id) xs → AllPairs (λ (x y : Recovery). x.id < y.id) (map f xs)
  rising-map xs rising i j d before within =
      let within' : j < length xs = subst (λ n. j < n) (length-map xs f) within in
      let first = ap (λ (r : Recovery). r.id) (get_or-map f xs i d d (omega (arith, before, within'))) ∙ same (get_or xs i d) in
      let second = ap (λ (r : Recovery). r.id) (get_or-map f xs j d d within') ∙ same (get_or xs j d) in
      let less = rising i j d before within' in
      omega (arith, first, second, less)

  -- a change that keeps ids and block periods keeps an audit
  pub IsAudit-map : (a : AuditState) → IsAudit a → IsAudit (record a { recoveries = map f a.recoveries })
  IsAudit-map a is = record {
    first = is.first;
    rising = rising-map a.recoveries is.rising;
    above = All-map (λ (r : Recovery). 1 ≤ r.id) f a.recoveries
        (All-weaker (λ (r : Recovery). 1 ≤ r.id) (λ r. 1 ≤ (f r).id) (λ r h. let e = same r in omega (arith, h, e)) a.recoveries is.above);
    below = All-map (λ (r : Recovery). r.id < a.next) f a.recoveries
        (All-weaker (λ (r : Recovery). r.id < a.next) (λ r. (f r).id < a.next) (λ r h. let e = same r in omega (arith, h, e)) a.recoveries is.below);
    short = All-map (λ (r : Recovery). r.block ≤ longest_block) f a.recoveries
        (All-weaker (λ (r : Recovery). r.block ≤ longest_block) (λ r. (f r).block ≤ longest_block) (λ r h. let e = lasts r in omega (arith, h, e)) a.recoveries is.short);
  }

-- one more, with the next id
pub IsAudit-begun : (a : AuditState) (r : Recovery) → r.id ≡ a.next → r.block ≤ longest_block → IsAudit a → IsAudit (begun a r)
IsAudit-begun a r next short is = record {
  first = omega arith;
  rising = all_pairs_push (λ (x y : Recovery). x.id < y.id) a.recoveries r is.rising (λ k d within. let h = is.below k d within in omega (arith, h, next));
  above = All-push (λ (x : Recovery). 1 ≤ x.id) a.recoveries r is.above (let h = is.first in omega (arith, h, next));
  below = All-push (λ (x : Recovery). x.id < r.id + 1) a.recoveries r
      (All-weaker (λ (x : Recovery). x.id < a.next) (λ x. x.id < r.id + 1) (λ x h. omega (arith, h, next)) a.recoveries is.below) (omega arith);
  short = All-push (λ (x : Recovery). x.block ≤ longest_block) a.recoveries r is.short short;
}

-- ---- the recovery of an id

pairs-head : (x : Recovery) (xs : List Recovery) → AllPairs (λ (x y : Recovery). x.id < y.id) (x ∷ xs) → All (λ y. x.id < y.id) xs
pairs-head x xs rising k d within = rising 0 (suc k) d (omega arith) (omega (arith, within))

pairs-tail : (x : Recovery) (xs : List Recovery) → AllPairs (λ (x y : Recovery). x.id < y.id) (x ∷ xs) → AllPairs (λ (x y : Recovery). x.id < y.id) xs
pairs-tail x xs rising i j d before within = rising (suc i) (suc j) d (omega (arith, before)) (omega (arith, within))

module _ (id : ℕ) (f : Recovery → Recovery) where
  abbrev at : Recovery → Recovery
  at r = cond (r.id == id) (f r) r

  pub none-changed : (xs : List Recovery) → All (λ r. (r.id == id) ≡ false) xs → map at xs ≡ xs
  none-changed [] none = refl
  none-changed (x ∷ xs) none =
      let here = All-head (λ (r : Recovery). (r.id == id) ≡ false) x xs none in
      let rest = none-changed xs (All-tail (λ (r : Recovery). (r.id == id) ≡ false) x xs none) in
      λ i. cond (here i) (f x) x ∷ rest i

  -- only the one with this id changes
  pub one-changed : (xs : List Recovery) (i : ℕ) (d : Recovery) → AllPairs (λ (x y : Recovery). x.id < y.id) xs → i < length xs → (get_or xs i d).id ≡ id
      → set xs i (f (get_or xs i d)) ≡ map at xs
  one-changed [] i d rising within is = absurd (omega (arith, within))
  one-changed (x ∷ xs) zero d rising within is =
      let others = All-weaker (λ (y : Recovery). x.id < y.id) (λ y. (y.id == id) ≡ false) (λ y h. ne_eqb y.id id (λ e. absurd (omega (arith, h, e, is)))) xs (pairs-head x xs rising) in
      sym (λ j. cond (eq-eqb x.id id is j) (f x) x ∷ none-changed xs others j)
  one-changed (x ∷ xs) (suc i) d rising within is =
      let less = pairs-head x xs rising i d (omega (arith, within)) in
      let other : (x.id == id) ≡ false = ne_eqb x.id id (λ e. absurd (omega (arith, less, e, is))) in
      ap (λ ys. x ∷ ys) (one-changed xs i d (pairs-tail x xs rising) (omega (arith, within)) is) ∙ sym (ap (λ b. cond b (f x) x ∷ map at xs) other)

pub none-at : (id : ℕ) (xs : List Recovery) → All (λ r. (r.id == id) ≡ false) xs → find (λ r. r.id == id) xs ≡ None
none-at id [] none = refl
none-at id (x ∷ xs) none =
    ap (λ b. cond b (Some x) (find (λ r. r.id == id) xs)) (All-head (λ (r : Recovery). (r.id == id) ≡ false) x xs none)
    ∙ none-at id xs (All-tail (λ (r : Recovery). (r.id == id) ≡ false) x xs none)

pub found-at : (id : ℕ) (xs : List Recovery) (i : ℕ) (d : Recovery) → AllPairs (λ (x y : Recovery). x.id < y.id) xs → i < length xs → (get_or xs i d).id ≡ id
    → find (λ r. r.id == id) xs ≡ Some (get_or xs i d)
found-at id [] i d rising within is = absurd (omega (arith, within))
found-at id (x ∷ xs) zero d rising within is = ap (λ b. cond b (Some x) (find (λ r. r.id == id) xs)) (eq-eqb x.id id is)
found-at id (x ∷ xs) (suc i) d rising within is =
    let less = pairs-head x xs rising i d (omega (arith, within)) in
    let other : (x.id == id) ≡ false = ne_eqb x.id id (λ e. absurd (omega (arith, less, e, is))) in
    ap (λ b. cond b (Some x) (find (λ r. r.id == id) xs)) other ∙ found-at id xs i d (pairs-tail x xs rising) (omega (arith, within)) is

-- a part that was lent and is as long as the whole
pub lent : {A : Type 0} (now xs : List A) (n : ℕ) → length now ≡ length xs → n ≡ length xs → take n (now ++ drop (length now) xs) ≡ now
lent now xs n same all =
    ap (λ ys. take n (now ++ ys)) (drop_all (length now) xs (omega (arith, same)))
    ∙ ap (take n) (append-nil now)
    ∙ take_all n now (omega (arith, same, all))
