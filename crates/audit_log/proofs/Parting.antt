-- Recoveries of a cluster don't overlap.
use Rattle.std.proofs.Common.{◌≡◌, ℕ, ◌+◌, ◌-◌, ◌<◌, ◌≤◌, Bool, true, false, cond, not, ◌&&◌, List, [], ◌∷◌, ◌++◌, get_or, map, zero, refl, sym, ◌∙◌, ap, subst, Option, Some, None, Result, Ok, Err, ◌⊎◌, inl, inr, arith, ◌==◌, All, Any, Contains, nat_eq, nat_lt, reverse}
use Rattle.audit_log.proofs.Prelude.{All-contains_itself, All-head, All-map, All-tail, All-weaker, AuditState, Ending, Held, IsApart, IsAudit}
use Rattle.audit_log.proofs.Prelude.{IsClear, IsFree, IsHeldBack, MayBegin, Moment, Recovery, acked_so, acknowledged, acknowledged_at}
use Rattle.audit_log.proofs.Prelude.{acknowledged_for, and_parts, begun, closed, count_unended, ended, ended_so, false≢true, held_by, interrupted}
use Rattle.audit_log.proofs.Prelude.{is_blocking, is_of, is_open, is_unended, last_blocking, le-ltb, ltb-false, may_begin, nat_list_eq_equiv}
use Rattle.audit_log.proofs.Prelude.{pointwise, same_text, sum_by-cons, sum_by_push, unended_of}
use Rattle.audit_log.proofs.Prelude.ending
use Rattle.audit_log.proofs.Prelude.held
use borrow.Author.Tests.{ltb-true}
use Rattle.audit_log.proofs.Changes.{IsAudit-begun, IsAudit-map}
use Rattle.audit_log.proofs.Finding.{All-found, All-reverse, All-reversed, found-passes, last-found, none-found, none-passes}
use Rattle.audit_log.proofs.Kept.{acknowledged-block, acknowledged-id, interrupted-block, interrupted-id}

-- ---- different clusters have different texts

pub of-cluster : (cluster : List ℕ) (r : Recovery) → is_of cluster r ≡ true → r.cluster ≡ cluster
of-cluster cluster r e = same_text r.cluster cluster (sym e)

pub cluster-of : (cluster : List ℕ) (r : Recovery) → r.cluster ≡ cluster → is_of cluster r ≡ true
cluster-of cluster r e = subst (λ (c : List ℕ). pointwise nat_eq r.cluster c ≡ true) e (nat_list_eq_equiv.refl r.cluster)

-- ---- a begin

module _ (cluster : List ℕ) (now : ℕ) where
  abbrev open-one : Recovery → Bool
  open-one r = is_of cluster r && is_unended r

  abbrev blocking-one : Recovery → Bool
  blocking-one r = is_of cluster r && is_blocking now r

  free-of : (r : Recovery) → blocking-one r ≡ false → IsFree cluster now r
  free-of r b here = acked r.acked (nat_lt (now - r.begun.0) r.block) refl (sym (ap (λ x. x && is_blocking now r) (cluster-of cluster r here)) ∙ b)
    where
      acked : (x y : Bool) → nat_lt (now - r.begun.0) r.block ≡ y → (not x && y) ≡ false → (x ≡ true) ⊎ (r.block ≤ now - r.begun.0)
      acked true y f h = inl refl
      acked false true f h = absurd (false≢true (sym h))
      acked false false f h = inr (ltb-false (now - r.begun.0) r.block f)

  clear-of : (r : Recovery) → open-one r ≡ false → blocking-one r ≡ false → IsClear cluster now r
  clear-of r u b here = (sym (ap (λ x. x && is_unended r) (cluster-of cluster r here)) ∙ u, free-of r b here)

  pub clear-closed : (r : Recovery) → IsClear cluster now r → open-one r ≡ false
  clear-closed r clear = go (is_of cluster r) refl
    where
      go : (b : Bool) → is_of cluster r ≡ b → (b && is_unended r) ≡ false
      go true f = (clear (of-cluster cluster r f)).0
      go false f = refl

  pub clear-free : (r : Recovery) → IsClear cluster now r → blocking-one r ≡ false
  clear-free r clear = go (is_of cluster r) refl
    where
      by : (x : Bool) → r.acked ≡ x → ((r.acked ≡ true) ⊎ (r.block ≤ now - r.begun.0)) → (not x && nat_lt (now - r.begun.0) r.block) ≡ false
      by true f h = refl
      by false f (inl h) = absurd (false≢true (sym f ∙ h))
      by false f (inr h) = le-ltb (now - r.begun.0) r.block h

      go : (b : Bool) → is_of cluster r ≡ b → (b && is_blocking now r) ≡ false
      go true f = by r.acked refl (clear (of-cluster cluster r f)).1
      go false f = refl

  both : (xs : List Recovery) → All (λ r. open-one r ≡ false) xs → All (λ r. blocking-one r ≡ false) xs → All (IsClear cluster now) xs
  both xs us bs k d within = clear-of (get_or xs k d) (us k d within) (bs k d within)

  pub apart-begins : (a : AuditState) (id : ℕ) → may_begin a cluster now ≡ Ok id → (id ≡ a.next) × All (IsClear cluster now) a.recoveries
  apart-begins a id h = go (unended_of a cluster) refl (last_blocking a cluster now) refl h
    where
      number : (x : Result ℕ Held) → ℕ
      number (Ok n) = n
      number (Err e) = 0

      go : (u : Option Recovery) → unended_of a cluster ≡ u → (l : Option Recovery) → last_blocking a cluster now ≡ l → held_by a u l ≡ Ok id
          → (id ≡ a.next) × All (IsClear cluster now) a.recoveries
      go (Some r) f l g h = cc
      go None f (Some r) g h = cc
      go None f None g h =
          (sym (ap number h), both a.recoveries (none-passes open-one a.recoveries f) (All-reversed (λ r. blocking-one r ≡ false) a.recoveries (none-passes blocking-one (reverse a.recoveries) g)))

  pub begins-apart : (a : AuditState) → All (IsClear cluster now) a.recoveries → may_begin a cluster now ≡ Ok a.next
  begins-apart a all =
      ap (λ u. held_by a u (last_blocking a cluster now))
      (none-found open-one a.recoveries (All-weaker (IsClear cluster now) (λ r. open-one r ≡ false) clear-closed a.recoveries all))
      ∙ ap (held_by a None)
      (none-found blocking-one (reverse a.recoveries)
      (All-reverse (λ r. blocking-one r ≡ false) a.recoveries (All-weaker (IsClear cluster now) (λ r. blocking-one r ≡ false) clear-free a.recoveries all)))

  -- who holds others back is one of the list
  among : (P : Recovery → Type 0) (xs : List Recovery) (r : Recovery) → Contains xs r → P r → Any P xs
  among P xs r (k, within, at) h = (k, r, within, at, h)

  abbrev why : Result ℕ Held → Held
  why (Ok n) = held.Unended n
  why (Err h) = h

  open-holds : (r : Recovery) → open-one r ≡ true → IsHeldBack cluster now (held.Unended r.id) r
  open-holds r e =
      let parts = and_parts (is_of cluster r) (is_unended r) e in
      (of-cluster cluster r parts.0, refl, parts.1)

  not-true : (b : Bool) → not b ≡ true → b ≡ false
  not-true true e = absurd (false≢true e)
  not-true false e = refl

  blocking-holds : (r : Recovery) → blocking-one r ≡ true → IsHeldBack cluster now (held.Blocked r.id (record { 0 = r.begun.0 + r.block })) r
  blocking-holds r e =
      let parts = and_parts (is_of cluster r) (is_blocking now r) e in
      let two = and_parts (not r.acked) (nat_lt (now - r.begun.0) r.block) parts.1 in
      (of-cluster cluster r parts.0, refl, refl, not-true r.acked two.0, ltb-true (now - r.begun.0) r.block two.1)

  pub held-back : (a : AuditState) (h : Held) → may_begin a cluster now ≡ Err h → Any (IsHeldBack cluster now h) a.recoveries
  held-back a h e = go (unended_of a cluster) refl (last_blocking a cluster now) refl e
    where
      go : (u : Option Recovery) → unended_of a cluster ≡ u → (l : Option Recovery) → last_blocking a cluster now ≡ l → held_by a u l ≡ Err h
          → Any (IsHeldBack cluster now h) a.recoveries
      go (Some r) f l g e =
          among (IsHeldBack cluster now h) a.recoveries r (All-found open-one (Contains a.recoveries) a.recoveries r (All-contains_itself a.recoveries) f)
          (subst (λ (x : Held). IsHeldBack cluster now x r) (ap why e) (open-holds r (found-passes open-one a.recoveries r f)))
      go None f (Some r) g e =
          among (IsHeldBack cluster now h) a.recoveries r
          (All-found blocking-one (Contains a.recoveries) (reverse a.recoveries) r (All-reverse (Contains a.recoveries) a.recoveries (All-contains_itself a.recoveries)) g)
          (subst (λ (x : Held). IsHeldBack cluster now x r) (ap why e) (blocking-holds r (found-passes blocking-one (reverse a.recoveries) r g)))
      go None f None g e = cc

  -- of those that block the last is named
  pub last-held : (a : AuditState) (id : ℕ) (until : Moment) → IsAudit a → may_begin a cluster now ≡ Err (held.Blocked id until)
      → All (λ r. id < r.id → IsFree cluster now r) a.recoveries
  last-held a id until is e = go (unended_of a cluster) (last_blocking a cluster now) refl e
    where
      number : Result ℕ Held → ℕ
      number (Ok n) = n
      number (Err (held.Unended n)) = n
      number (Err (held.Blocked n m)) = n

      go : (u l : Option Recovery) → last_blocking a cluster now ≡ l → held_by a u l ≡ Err (held.Blocked id until)
          → All (λ r. id < r.id → IsFree cluster now r) a.recoveries
      go (Some r) l g e = cc
      go None (Some r) g e =
          let same : r.id ≡ id = ap number e in
          All-weaker (λ x. r.id < x.id → blocking-one x ≡ false) (λ x. id < x.id → IsFree cluster now x)
          (λ x h later. free-of x (h (omega (arith, same, later)))) a.recoveries (last-found blocking-one a.recoveries r is.rising g)
      go None None g e = cc

-- ---- what keeps recoveries of a cluster from overlapping

-- how much one recovery adds
abbrev tick : List ℕ → Recovery → ℕ
tick cluster r = cond (is_of cluster r && is_unended r) 1 0

none-unended : (cluster : List ℕ) (now : ℕ) (xs : List Recovery) → All (IsClear cluster now) xs → count_unended cluster xs ≡ 0
none-unended cluster now [] all = refl
none-unended cluster now (x ∷ xs) all =
    let here : tick cluster x ≡ 0 = ap (λ b. cond b 1 0) (clear-closed cluster now x (All-head (IsClear cluster now) x xs all)) in
    let rest = none-unended cluster now xs (All-tail (IsClear cluster now) x xs all) in
    let sum = sum_by-cons (tick cluster) x xs in
    omega (arith, here, rest, sum)

small : (cluster : List ℕ) (r : Recovery) → tick cluster r ≤ 1
small cluster r = go (is_of cluster r && is_unended r)
  where
    go : (b : Bool) → cond b 1 0 ≤ 1
    go true = omega arith
    go false = omega arith

pub begun-apart : (a : AuditState) (r : Recovery) → MayBegin a r → IsApart a → IsApart (begun a r)
begun-apart a r may apart = record {
  one = λ cluster. go cluster (is_of cluster r) refl;
  audit = IsAudit-begun a r parts.0 may.short apart.audit;
}
  where
    parts : (r.id ≡ a.next) × All (IsClear r.cluster r.begun.0) a.recoveries
    parts = apart-begins r.cluster r.begun.0 a r.id may.answered

    go : (cluster : List ℕ) (b : Bool) → is_of cluster r ≡ b → count_unended cluster (a.recoveries ++ r ∷ []) ≤ 1
    go cluster true e =
        let none : count_unended cluster a.recoveries ≡ 0 =
        subst (λ (c : List ℕ). count_unended c a.recoveries ≡ 0) (of-cluster cluster r e) (none-unended r.cluster r.begun.0 a.recoveries parts.1) in
        let push = sum_by_push (tick cluster) a.recoveries r in
        let most = small cluster r in
        omega (arith, none, push, most)
    go cluster false e =
        let none : tick cluster r ≡ 0 = ap (λ b. cond (b && is_unended r) 1 0) e in
        let push = sum_by_push (tick cluster) a.recoveries r in
        let old = apart.one cluster in
        omega (arith, none, push, old)

-- a change that keeps ids, block periods and clusters, and after which none is unended that was ended
module _ (f : Recovery → Recovery) (same : (r : Recovery) → (f r).id ≡ r.id) (lasts : (r : Recovery) → (f r).block ≡ r.block) (cluster-same : (r : Recovery) → (f r).cluster ≡ r.cluster)
    (stays : (r : Recovery) → is_unended (f r) ≡ true → is_unended r ≡ true) where
  less : (cluster : List ℕ) (r : Recovery) → tick cluster (f r) ≤ tick cluster r
  less cluster r =
      let of : is_of cluster (f r) ≡ is_of cluster r = ap (λ c. pointwise nat_eq c cluster) (cluster-same r) in
      subst (λ b. cond (b && is_unended (f r)) 1 0 ≤ tick cluster r) (sym of) (go (is_of cluster r) (is_unended (f r)) (is_unended r) (stays r))
    where
      go : (b x y : Bool) → (x ≡ true → y ≡ true) → cond (b && x) 1 0 ≤ cond (b && y) 1 0
      go false x y h = omega arith
      go true false y h = omega arith
      go true true y h = subst (λ z. cond true 1 0 ≤ cond z 1 0) (sym (h refl)) (omega arith)

  fewer : (cluster : List ℕ) (xs : List Recovery) → count_unended cluster (map f xs) ≤ count_unended cluster xs
  fewer cluster [] = omega arith
  fewer cluster (x ∷ xs) =
      let here = less cluster x in
      let rest = fewer cluster xs in
      let new = sum_by-cons (tick cluster) (f x) (map f xs) in
      let old = sum_by-cons (tick cluster) x xs in
      omega (arith, here, rest, new, old)

  changed-apart : (a : AuditState) → IsApart a → IsApart (record a { recoveries = map f a.recoveries })
  changed-apart a apart = record {
    one = λ cluster. let x = fewer cluster a.recoveries in let y = apart.one cluster in omega (arith, x, y);
    audit = IsAudit-map f same lasts a apart.audit;
  }

pub ended-apart : (a : AuditState) (id : ℕ) (at : Moment) (outcome : Ending) → is_open outcome ≡ false → IsApart a → IsApart (ended a id at outcome)
ended-apart a id at outcome closes apart =
    changed-apart (λ r. cond (r.id == id) (ended_so at outcome r) r) (λ r. ids r (r.id == id)) (λ r. blocks r (r.id == id)) (λ r. clusters r (r.id == id)) (λ r. opens r (r.id == id)) a apart
  where
    ids : (r : Recovery) (b : Bool) → (cond b (ended_so at outcome r) r).id ≡ r.id
    ids r true = refl
    ids r false = refl

    blocks : (r : Recovery) (b : Bool) → (cond b (ended_so at outcome r) r).block ≡ r.block
    blocks r true = refl
    blocks r false = refl

    clusters : (r : Recovery) (b : Bool) → (cond b (ended_so at outcome r) r).cluster ≡ r.cluster
    clusters r true = refl
    clusters r false = refl

    opens : (r : Recovery) (b : Bool) → is_unended (cond b (ended_so at outcome r) r) ≡ true → is_unended r ≡ true
    opens r true h = absurd (false≢true (sym closes ∙ h))
    opens r false h = h

pub acknowledged-apart : (a : AuditState) (cluster : List ℕ) → IsApart a → IsApart (acknowledged a cluster)
acknowledged-apart a cluster apart =
    changed-apart (acknowledged_for cluster) (acknowledged-id cluster) (acknowledged-block cluster) (λ r. clusters r (is_of cluster r)) (λ r. opens r (is_of cluster r)) a apart
  where
    clusters : (r : Recovery) (b : Bool) → (cond b (record r { acked = true }) r).cluster ≡ r.cluster
    clusters r true = refl
    clusters r false = refl

    opens : (r : Recovery) (b : Bool) → is_unended (cond b (record r { acked = true }) r) ≡ true → is_unended r ≡ true
    opens r true h = h
    opens r false h = h

pub acknowledged_at-apart : (a : AuditState) (id : ℕ) → IsApart a → IsApart (acknowledged_at a id)
acknowledged_at-apart a id apart =
    changed-apart (λ r. cond (r.id == id) (acked_so r) r) (λ r. ids r (r.id == id)) (λ r. blocks r (r.id == id)) (λ r. clusters r (r.id == id)) (λ r. opens r (r.id == id)) a apart
  where
    ids : (r : Recovery) (b : Bool) → (cond b (acked_so r) r).id ≡ r.id
    ids r true = refl
    ids r false = refl

    blocks : (r : Recovery) (b : Bool) → (cond b (acked_so r) r).block ≡ r.block
    blocks r true = refl
    blocks r false = refl

    clusters : (r : Recovery) (b : Bool) → (cond b (acked_so r) r).cluster ≡ r.cluster
    clusters r true = refl
    clusters r false = refl

    opens : (r : Recovery) (b : Bool) → is_unended (cond b (acked_so r) r) ≡ true → is_unended r ≡ true
    opens r true h = h
    opens r false h = h

interrupted-ends : (at : Moment) (r : Recovery) → is_unended (interrupted at r) ≡ false
interrupted-ends at r = go (is_unended r) refl
  where
    go : (b : Bool) → is_unended r ≡ b → is_unended (cond b (ended_so at ending.Interrupted r) r) ≡ false
    go true e = refl
    go false e = e

pub closed-ends : (a : AuditState) (at : Moment) → All (λ r. is_unended r ≡ false) (closed a at).recoveries
closed-ends a at =
    All-map (λ (r : Recovery). is_unended r ≡ false) (interrupted at) a.recoveries (λ k d within. interrupted-ends at (get_or a.recoveries k d))

none-open : (cluster : List ℕ) (xs : List Recovery) → All (λ r. is_unended r ≡ false) xs → count_unended cluster xs ≡ 0
none-open cluster [] all = refl
none-open cluster (x ∷ xs) all =
    let here = tick-none (is_of cluster x) (is_unended x) (All-head (λ (r : Recovery). is_unended r ≡ false) x xs all) in
    let rest = none-open cluster xs (All-tail (λ (r : Recovery). is_unended r ≡ false) x xs all) in
    let sum = sum_by-cons (tick cluster) x xs in
    omega (arith, here, rest, sum)
  where
    tick-none : (b x : Bool) → x ≡ false → cond (b && x) 1 0 ≡ zero
    tick-none true x e = ap (λ y. cond y 1 0) e
    tick-none false x e = refl

pub closed-apart : (a : AuditState) (at : Moment) → IsAudit a → IsApart (closed a at)
closed-apart a at is = record {
  one = λ cluster. let none = none-open cluster (closed a at).recoveries (closed-ends a at) in omega (arith, none);
  audit = IsAudit-map (interrupted at) (interrupted-id at) (interrupted-block at) a is;
}
