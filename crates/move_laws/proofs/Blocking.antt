-- Which recovery the answer names as the one that blocks.
use Rattle.std.proofs.Common.{◌≡◌, ℕ, ◌+◌, ◌-◌, ◌≤◌, Bool, true, false, cond, not, ◌&&◌, List, [], ◌∷◌, ◌++◌, refl, sym, ◌∙◌, ap, subst, append_assoc, Option, Some, None, Result, Ok, Err, ◌⊎◌, inl, inr, All, find, nat_eq, nat_lt, reverse}
use Rattle.move_laws.proofs.Prelude.{All-cons, All-nil, All-reverse, All-weaker, AuditState, Held, IsClosed, IsFree, IsHeldBack, IsLastBlock, Moment, Recovery}
use Rattle.move_laws.proofs.Prelude.{and_parts, false≢true, held_by, is_blocking, is_of, is_unended, last_blocking, ltb-false, ltb-true, may_begin}
use Rattle.move_laws.proofs.Prelude.{nat_list_eq_equiv, none-passes, not-true, pointwise, reverse-append, reverse-reverse, same_Some, same_text, unended_of}
use Rattle.move_laws.proofs.Prelude.held
use mathlib.Core.List.{reverse-cons}

-- the first that passes, none before it does
record IsFirst (p : Recovery → Bool) (xs : List Recovery) (y : Recovery) : Type 0 where
  pub before : List Recovery
  pub behind : List Recovery
  pub split : xs ≡ before ++ y ∷ behind
  pub passed : p y ≡ true
  pub none : All (λ x. p x ≡ false) before

first-found : (p : Recovery → Bool) (xs : List Recovery) (y : Recovery) → find p xs ≡ Some y → IsFirst p xs y
first-found p [] y e = cc
first-found p (x ∷ xs) y e = go (p x) refl e (first-found p xs y)
  where
    go : (b : Bool) → p x ≡ b → cond b (Some x) (find p xs) ≡ Some y → (find p xs ≡ Some y → IsFirst p xs y) → IsFirst p (x ∷ xs) y
    go true is e rest =
        let same : x ≡ y = same_Some x y e in
        record { before = []; behind = xs; split = ap (λ (z : Recovery). z ∷ xs) same; passed = ap p (sym same) ∙ is; none = All-nil (λ x. p x ≡ false) }
    go false is e rest =
        let f = rest e in
        record { before = x ∷ f.before; behind = f.behind; split = ap (λ ys. x ∷ ys) f.split; passed = f.passed; none = All-cons (λ x. p x ≡ false) x f.before is f.none }

-- from the end it is the last, and none after it does
turned-round : (xs before behind : List Recovery) (y : Recovery) → reverse xs ≡ before ++ y ∷ behind → xs ≡ reverse behind ++ y ∷ reverse before
turned-round xs before behind y e =
    sym (reverse-reverse xs) ∙ (ap reverse e ∙ (reverse-append before (y ∷ behind)
    ∙ (ap (λ ys. ys ++ reverse before) (reverse-cons y behind) ∙ append_assoc (reverse behind) (y ∷ []) (reverse before))))

module _ (cluster : List ℕ) (now : ℕ) where
  of-cluster : (r : Recovery) → is_of cluster r ≡ true → r.cluster ≡ cluster
  of-cluster r e = same_text r.cluster cluster (sym e)

  cluster-of : (r : Recovery) → r.cluster ≡ cluster → is_of cluster r ≡ true
  cluster-of r e = subst (λ (c : List ℕ). pointwise nat_eq r.cluster c ≡ true) e (nat_list_eq_equiv.refl r.cluster)

  free : (r : Recovery) → (is_of cluster r && is_blocking now r) ≡ false → IsFree cluster now r
  free r b here = acked r.acked (nat_lt (now - r.begun.0) r.block) refl (sym (ap (λ x. x && is_blocking now r) (cluster-of r here)) ∙ b)
    where
      acked : (x y : Bool) → nat_lt (now - r.begun.0) r.block ≡ y → (not x && y) ≡ false → (x ≡ true) ⊎ (r.block ≤ now - r.begun.0)
      acked true y f h = inl refl
      acked false true f h = absurd (false≢true (sym h))
      acked false false f h = inr (ltb-false (now - r.begun.0) r.block f)

  closed : (r : Recovery) → (is_of cluster r && is_unended r) ≡ false → IsClosed cluster r
  closed r b here = sym (ap (λ x. x && is_unended r) (cluster-of r here)) ∙ b

  blocks : (r : Recovery) (id : ℕ) (until : Moment) → (is_of cluster r && is_blocking now r) ≡ true → held.Blocked r.id (record { 0 = r.begun.0 + r.block }) ≡ held.Blocked id until
      → IsHeldBack cluster now (held.Blocked id until) r
  blocks r id until e same =
      let parts = and_parts (is_of cluster r) (is_blocking now r) e in
      let two = and_parts (not r.acked) (nat_lt (now - r.begun.0) r.block) parts.1 in
      subst (λ (h : Held). IsHeldBack cluster now h r) same (of-cluster r parts.0, refl, refl, not-true r.acked two.0, ltb-true (now - r.begun.0) r.block two.1)

  pub last-block : (a : AuditState) (id : ℕ) (until : Moment) → may_begin a cluster now ≡ Err (held.Blocked id until) → IsLastBlock cluster now id until a.recoveries
  last-block a id until e = go (unended_of a cluster) refl (last_blocking a cluster now) refl e
    where
      why : Result ℕ Held → Held
      why (Ok n) = held.Unended n
      why (Err h) = h

      go : (u : Option Recovery) → unended_of a cluster ≡ u → (l : Option Recovery) → last_blocking a cluster now ≡ l → held_by a u l ≡ Err (held.Blocked id until)
          → IsLastBlock cluster now id until a.recoveries
      go (Some r) f l g e = cc
      go None f None g e = cc
      go None f (Some r) g e =
          let first = first-found (λ r. is_of cluster r && is_blocking now r) (reverse a.recoveries) r g in
          record {
            before = reverse first.behind;
            behind = reverse first.before;
            recovery = r;
            split = turned-round a.recoveries first.before first.behind r first.split;
            blocks = blocks r id until first.passed (ap why e);
            free = All-weaker (λ r. (is_of cluster r && is_blocking now r) ≡ false) (IsFree cluster now) free (reverse first.before)
                (All-reverse (λ r. (is_of cluster r && is_blocking now r) ≡ false) first.before first.none);
            ended = All-weaker (λ r. (is_of cluster r && is_unended r) ≡ false) (IsClosed cluster) closed a.recoveries
                (none-passes (λ r. is_of cluster r && is_unended r) a.recoveries f);
          }
