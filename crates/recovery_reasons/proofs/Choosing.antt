-- The choice among the drained.
use Rattle.std.proofs.Common.{◌≡◌, ℕ, ◌+◌, ◌<◌, ◌≤◌, Bool, true, false, cond, not, ◌&&◌, ◌||◌, List, [], ◌∷◌, map, refl, sym, ◌∙◌, ap, subst, Option, Some, None, inl, inr, arith, ◌==◌, ◌*◌, find, nat_lt}
use Rattle.std.specs.Ordering.{is_lt, nat_cmp, ordering_then}
use Rattle.std.specs.declared.cmp.Ordering.{Ordering}
use Rattle.std.specs.declared.cmp.Ordering.TheVariants.{Less, Equal, Greater}
use Rattle.recovery_reasons.proofs.Prelude.{All, All-cons, All-contains, All-contains_itself, All-head, All-map, All-nil, All-tail, All-weaker}
use Rattle.recovery_reasons.proofs.Prelude.{BookState, ComesFirst, Contains, Coord, Drained, Follower, HasExecutedMost, IsBestOne, IsBetterOne}
use Rattle.recovery_reasons.proofs.Prelude.{IsFirst, IsFirstOf, IsNear, IsPreferred, MayBePromoted, Moment, Rule, ServerNo, Stopped, World}
use Rattle.recovery_reasons.proofs.Prelude.{advance_order, advance_total, and_parts, better_of, center_in, chosen-first, chosen_of, coord_order}
use Rattle.recovery_reasons.proofs.Prelude.{drained_of, eq-eqb, eqb-true, false≢true, first-furthest, follower_of, ground_of, is_barred, is_before}
use Rattle.recovery_reasons.proofs.Prelude.{is_better, is_eligible, is_near, le-ltb, logs_at, lt-ltb, ltb-false, ltb-true, may_lead, most_advanced}
use Rattle.recovery_reasons.proofs.Prelude.{nearer_order, nearer_total, none-chosen, other_text, precedence, rule_at, same_Some, same_coord}
use Rattle.recovery_reasons.proofs.Prelude.{same_coord-true, same_text, server_at, server_order, stopped_in}
use Rattle.recovery_reasons.proofs.Prelude.rule

module _ (w : World) (b : BookState) (now : Moment) where
  -- a number that one of the list has is found
  pub found-some : (f : ServerNo) (xs : List Stopped) (n : ServerNo) → find (λ (x : Stopped). x.no.0 == n.0) xs ≡ None → All (λ (d : Drained). d.no ≡ n → ⊥) (map (drained_of (ground_of w b now) f) xs)
  found-some f [] n h = All-nil (λ (d : Drained). d.no ≡ n → ⊥)
  found-some f (x ∷ xs) n h = go (x.no.0 == n.0) refl h (found-some f xs n)
    where
      go : (a : Bool) → (x.no.0 == n.0) ≡ a → cond a (Some x) (find (λ (y : Stopped). y.no.0 == n.0) xs) ≡ None
          → (find (λ (y : Stopped). y.no.0 == n.0) xs ≡ None → All (λ (d : Drained). d.no ≡ n → ⊥) (map (drained_of (ground_of w b now) f) xs)) → All (λ (d : Drained). d.no ≡ n → ⊥) (map (drained_of (ground_of w b now) f) (x ∷ xs))
      go true e g rest = cc
      go false e g rest =
          All-cons (λ (d : Drained). d.no ≡ n → ⊥) (drained_of (ground_of w b now) f x) (map (drained_of (ground_of w b now) f) xs) (λ same. false≢true (sym e ∙ eq-eqb x.no.0 n.0 (ap (λ (k : ServerNo). k.0) same))) (rest g)

  -- if none is chosen none may be
  pub none-may : (f : ServerNo) (xs : List Stopped) → chosen_of (ground_of w b now) f xs ≡ None → All (λ s. may_lead (ground_of w b now) s ≡ false) xs
  none-may f xs h = go (most_advanced b.names (map (drained_of (ground_of w b now) f) xs)) refl h
    where
      back : (ys : List Stopped) → All (λ (d : Drained). is_eligible d ≡ false) (map (drained_of (ground_of w b now) f) ys) → All (λ s. may_lead (ground_of w b now) s ≡ false) ys
      back [] all = All-nil (λ (s : Stopped). may_lead (ground_of w b now) s ≡ false)
      back (y ∷ ys) all =
          All-cons (λ (s : Stopped). may_lead (ground_of w b now) s ≡ false) y ys (All-head (λ (d : Drained). is_eligible d ≡ false) (drained_of (ground_of w b now) f y) (map (drained_of (ground_of w b now) f) ys) all)
          (back ys (All-tail (λ (d : Drained). is_eligible d ≡ false) (drained_of (ground_of w b now) f y) (map (drained_of (ground_of w b now) f) ys) all))

      go : (o : Option ServerNo) → most_advanced b.names (map (drained_of (ground_of w b now) f) xs) ≡ o → stopped_in xs o ≡ None → All (λ s. may_lead (ground_of w b now) s ≡ false) xs
      go None e g = back xs ((none-chosen (advance_order b.names) is_eligible (map (drained_of (ground_of w b now) f) xs) (advance_total b.names)).0 e)
      go (Some n) e g =
          let first = chosen-first (advance_order b.names) is_eligible (map (drained_of (ground_of w b now) f) xs) n e in
          absurd (All-contains (λ (d : Drained). d.no ≡ n → ⊥) (map (drained_of (ground_of w b now) f) xs) first.1 (found-some f xs n g) (first.0, first.2, first.3) first.4.named)

  -- what is found by a number has it
  named-so : (ys : List Stopped) (p : Stopped) (n : ServerNo) → find (λ (x : Stopped). x.no.0 == n.0) ys ≡ Some p → n ≡ p.no
  named-so [] p n e = cc
  named-so (y ∷ ys) p n e = by (y.no.0 == n.0) refl e (named-so ys p n)
    where
      by : (a : Bool) → (y.no.0 == n.0) ≡ a → cond a (Some y) (find (λ (x : Stopped). x.no.0 == n.0) ys) ≡ Some p → (find (λ (x : Stopped). x.no.0 == n.0) ys ≡ Some p → n ≡ p.no) → n ≡ p.no
      by true same found rest = ap (λ (k : ℕ). record { 0 = k }) (sym (eqb-true y.no.0 n.0 same)) ∙ ap (λ (x : Stopped). x.no) (same_Some y p found)
      by false same found rest = rest found

  -- the chosen one executed most of those that may be
  pub chosen-most : (f : ServerNo) (xs : List Stopped) (p : Stopped) → chosen_of (ground_of w b now) f xs ≡ Some p → HasExecutedMost is_eligible (map (drained_of (ground_of w b now) f) xs) p.no
  chosen-most f xs p h = go (most_advanced b.names (map (drained_of (ground_of w b now) f) xs)) refl h
    where
      go : (o : Option ServerNo) → most_advanced b.names (map (drained_of (ground_of w b now) f) xs) ≡ o → stopped_in xs o ≡ Some p → HasExecutedMost is_eligible (map (drained_of (ground_of w b now) f) xs) p.no
      go None e g = cc
      go (Some n) e g =
          subst (HasExecutedMost is_eligible (map (drained_of (ground_of w b now) f) xs)) (named-so xs p n g)
          (first-furthest b.names is_eligible (map (drained_of (ground_of w b now) f) xs) n (chosen-first (advance_order b.names) is_eligible (map (drained_of (ground_of w b now) f) xs) n e))

  -- ---- by rules, data centres and names

  module _ (f : ServerNo) where
    abbrev ranked : ServerNo → ℕ
    ranked n = 2 * precedence (rule_at b n now) + cond (is_near w f n) 0 1

    near-so : (n : ServerNo) → is_near w f n ≡ true → IsNear w f n
    near-so n h = same_text (center_in (server_at w f.0)) (center_in (server_at w n.0)) (sym h)

    near-not : (n : ServerNo) → is_near w f n ≡ false → IsNear w f n → ⊥
    near-not n h = other_text (center_in (server_at w f.0)) (center_in (server_at w n.0)) (sym h)

    -- who is preferred has the lower rank
    preferred-low : (n m : ServerNo) → IsPreferred w b now f n m → ranked n < ranked m
    preferred-low n m (inl less) = go (is_near w f n) (is_near w f m)
      where
        go : (x y : Bool) → 2 * precedence (rule_at b n now) + cond x 0 1 < 2 * precedence (rule_at b m now) + cond y 0 1
        go true true = omega (arith, less)
        go true false = omega (arith, less)
        go false true = omega (arith, less)
        go false false = omega (arith, less)
    preferred-low n m (inr (same, here, away)) = go (is_near w f n) refl (is_near w f m) refl
      where
        go : (x : Bool) → is_near w f n ≡ x → (y : Bool) → is_near w f m ≡ y → 2 * precedence (rule_at b n now) + cond x 0 1 < 2 * precedence (rule_at b m now) + cond y 0 1
        go true e false g = omega (arith, same)
        go true e true g = absurd (away (near-so m g))
        go false e y g = absurd (near-not n e here)

    low-preferred : (n m : ServerNo) → ranked n < ranked m → IsPreferred w b now f n m
    low-preferred n m low = by-rule (nat_lt (precedence (rule_at b n now)) (precedence (rule_at b m now))) refl
      where
        level : nat_lt (precedence (rule_at b n now)) (precedence (rule_at b m now)) ≡ false → (x : Bool) → is_near w f n ≡ x → (y : Bool) → is_near w f m ≡ y
            → 2 * precedence (rule_at b n now) + cond x 0 1 < 2 * precedence (rule_at b m now) + cond y 0 1 → IsPreferred w b now f n m
        level lower true e false g h =
            let more = ltb-false (precedence (rule_at b n now)) (precedence (rule_at b m now)) lower in
            inr (omega (arith, more, h), near-so n e, near-not m g)
        level lower true e true g h = let more = ltb-false (precedence (rule_at b n now)) (precedence (rule_at b m now)) lower in absurd (omega (arith, more, h))
        level lower false e true g h = let more = ltb-false (precedence (rule_at b n now)) (precedence (rule_at b m now)) lower in absurd (omega (arith, more, h))
        level lower false e false g h = let more = ltb-false (precedence (rule_at b n now)) (precedence (rule_at b m now)) lower in absurd (omega (arith, more, h))

        by-rule : (a : Bool) → nat_lt (precedence (rule_at b n now)) (precedence (rule_at b m now)) ≡ a → IsPreferred w b now f n m
        by-rule true e = inl (ltb-true (precedence (rule_at b n now)) (precedence (rule_at b m now)) e)
        by-rule false e = level e (is_near w f n) refl (is_near w f m) refl low

    lt-less : (x y : ℕ) → x < y → is_lt (nat_cmp x y) ≡ true
    lt-less x y h = ap (λ a. is_lt (cond a Less (cond (x == y) Equal Greater))) (lt-ltb x y h)

    less-lt : (x y : ℕ) → is_lt (nat_cmp x y) ≡ true → x < y
    less-lt x y h = go (nat_lt x y) refl (x == y) h
      where
        go : (a : Bool) → nat_lt x y ≡ a → (c : Bool) → is_lt (cond a Less (cond c Equal Greater)) ≡ true → x < y
        go true e c g = ltb-true x y e
        go false e true g = absurd (false≢true g)
        go false e false g = absurd (false≢true g)

    -- if two are as good the names decide
    by-name : (x y : ℕ) (o : Ordering) → is_lt (ordering_then (nat_cmp x y) o) ≡ false → (x < y → ⊥) × ((y < x → ⊥) → is_lt o ≡ false)
    by-name x y o h = (λ low. first low, λ high. second high)
      where
        first : x < y → ⊥
        first low = false≢true (sym h ∙ ap (λ a. is_lt (ordering_then (cond a Less (cond (x == y) Equal Greater)) o)) (lt-ltb x y low))

        second : (y < x → ⊥) → is_lt o ≡ false
        second high = go (nat_lt x y) refl (x == y) refl h
          where
            go : (a : Bool) → nat_lt x y ≡ a → (c : Bool) → (x == y) ≡ c → is_lt (ordering_then (cond a Less (cond c Equal Greater)) o) ≡ false → is_lt o ≡ false
            go true e c g k = absurd (first (ltb-true x y e))
            go false e true g k = k
            go false e false g k =
                let lower = ltb-false x y e in
                absurd (false≢true (sym g ∙ eq-eqb x y (level lower)))
              where
                level : y ≤ x → x ≡ y
                level lower = by (nat_lt y x) refl
                  where
                    by : (d : Bool) → nat_lt y x ≡ d → x ≡ y
                    by true q = absurd (high (ltb-true y x q))
                    by false q = let other = ltb-false y x q in omega (arith, lower, other)

    comes-first : (n m : ServerNo) → is_lt (ordering_then (nat_cmp (ranked m) (ranked n)) (server_order b.names m n)) ≡ false → ComesFirst w b now f n m
    comes-first n m h =
        let two = by-name (ranked m) (ranked n) (server_order b.names m n) h in
        record { rule = λ p. two.0 (preferred-low m n p); name = λ p. two.1 (λ low. p (low-preferred n m low)) }

  not-barred : (r : Rule) → (r ≡ rule.MustNot → ⊥) → is_barred r ≡ false
  not-barred rule.MustNot h = absurd (h refl)
  not-barred r h = refl

  barred-not : (r : Rule) → is_barred r ≡ false → r ≡ rule.MustNot → ⊥
  barred-not rule.MustNot h e = false≢true (sym h)
  barred-not _ h e = cc

  may-so : (n : ServerNo) → MayBePromoted w b now n → (logs_at w n && not (is_barred (rule_at b n now))) ≡ true
  may-so n h = ap (λ a. a && not (is_barred (rule_at b n now))) h.logs ∙ ap not (not-barred (rule_at b n now) h.allowed)

  so-may : (n : ServerNo) → (logs_at w n && not (is_barred (rule_at b n now))) ≡ true → MayBePromoted w b now n
  so-may n h = go (logs_at w n) refl (is_barred (rule_at b n now)) refl h
    where
      go : (a : Bool) → logs_at w n ≡ a → (c : Bool) → is_barred (rule_at b n now) ≡ c → (a && not c) ≡ true → MayBePromoted w b now n
      go true e false g k = record { logs = e; allowed = barred-not (rule_at b n now) g }
      go true e true g k = absurd (false≢true k)
      go false e c g k = absurd (false≢true k)

  -- who executed more comes first by that
  not-more : (c d : Coord) (o : Ordering) → is_lt (ordering_then (coord_order c d) o) ≡ false → is_before c d ≡ false
  not-more c d o h = by-file (nat_lt c.file d.file) (c.file == d.file) h
    where
      by-pos : (a b : Bool) → is_lt (ordering_then (cond a Less (cond b Equal Greater)) o) ≡ false → a ≡ false
      by-pos true b g = absurd (false≢true (sym g))
      by-pos false b g = refl

      by-file : (a b : Bool) → is_lt (ordering_then (ordering_then (cond a Less (cond b Equal Greater)) (nat_cmp c.pos d.pos)) o) ≡ false → (a || (b && nat_lt c.pos d.pos)) ≡ false
      by-file true b g = absurd (false≢true (sym g))
      by-file false true g = by-pos (nat_lt c.pos d.pos) (c.pos == d.pos) g
      by-file false false g = refl

  level-order : (c d : Coord) (o : Ordering) → same_coord c d ≡ true → is_lt (ordering_then (coord_order c d) o) ≡ is_lt o
  level-order c d o h = go (same_coord-true c d h)
    where
      itself : (x : ℕ) → nat_cmp x x ≡ Equal
      itself x = ap (λ a. cond a Less (cond (x == x) Equal Greater)) (le-ltb x x (omega arith)) ∙ ap (λ a. cond a Equal Greater) (eq-eqb x x refl)

      go : c ≡ d → is_lt (ordering_then (coord_order c d) o) ≡ is_lt o
      go same =
          ap (λ (x : Coord). is_lt (ordering_then (coord_order x d) o)) same
          ∙ (ap (λ (y : Ordering). is_lt (ordering_then (ordering_then y (nat_cmp d.pos d.pos)) o)) (itself d.file)
          ∙ ap (λ (y : Ordering). is_lt (ordering_then y o)) (itself d.pos))

  unmapped : {X : Type 0} (P : Drained → Type 0) (h : X → Drained) (xs : List X) → All P (map h xs) → All (λ x. P (h x)) xs
  unmapped P h [] all = All-nil (λ x. P (h x))
  unmapped P h (x ∷ xs) all = All-cons (λ y. P (h y)) x xs (All-head P (h x) (map h xs) all) (unmapped P h xs (All-tail P (h x) (map h xs) all))

  -- if one was before the map
  from-map : {X : Type 0} (h : X → Drained) (xs : List X) (d : Drained) → Contains (map h xs) d → (x : X) × Contains xs x × (h x ≡ d)
  from-map {X} h xs d there =
      All-contains (λ (y : Drained). (x : X) × Contains xs x × (h x ≡ y)) (map h xs) d
      (All-map (λ (y : Drained). (x : X) × Contains xs x × (h x ≡ y)) h xs (All-weaker (Contains xs) (λ (x : X). (z : X) × Contains xs z × (h z ≡ h x)) (λ x c. (x, c, refl)) xs (All-contains_itself xs)))
      there

  -- the chosen one is the first of those that may be promoted
  pub chosen-comes : (f : ServerNo) (xs : List Stopped) (p : Stopped) → chosen_of (ground_of w b now) f xs ≡ Some p → IsFirstOf w b now f xs p.no
  chosen-comes f xs p h = go (most_advanced b.names (map (drained_of (ground_of w b now) f) xs)) refl h
    where
      go : (o : Option ServerNo) → most_advanced b.names (map (drained_of (ground_of w b now) f) xs) ≡ o → stopped_in xs o ≡ Some p → IsFirstOf w b now f xs p.no
      go None e g = cc
      go (Some n) e g =
          let first = chosen-first (advance_order b.names) is_eligible (map (drained_of (ground_of w b now) f) xs) n e in
          let was = from-map (drained_of (ground_of w b now) f) xs first.1 (first.0, first.2, first.3) in
          subst (IsFirstOf w b now f xs) (named-so xs p n g) (made was.0 was.1 first.1 was.2 first.4)
        where
          made : (s : Stopped) → Contains xs s → (d : Drained) → drained_of (ground_of w b now) f s ≡ d → IsFirst (advance_order b.names) is_eligible (map (drained_of (ground_of w b now) f) xs) n d → IsFirstOf w b now f xs n
          made s there d same is =
              let order = unmapped (λ (other : Drained). is_eligible other ≡ true → is_lt (advance_order b.names other d) ≡ false) (drained_of (ground_of w b now) f) xs is.first in
              let name : s.no ≡ n = ap (λ (x : Drained). x.no) same ∙ is.named in
              record {
                stopped = s;
                among = there;
                named = name;
                may = subst (MayBePromoted w b now) name (so-may s.no (ap is_eligible same ∙ is.passes));
                first = λ other among may.
                    let after : is_lt (advance_order b.names (drained_of (ground_of w b now) f other) (drained_of (ground_of w b now) f s)) ≡ false =
                    ap (λ (x : Drained). is_lt (advance_order b.names (drained_of (ground_of w b now) f other) x)) same
                    ∙ All-contains (λ (x : Stopped). is_eligible (drained_of (ground_of w b now) f x) ≡ true → is_lt (advance_order b.names (drained_of (ground_of w b now) f x) d) ≡ false) xs other order among (may-so other.no may) in
                    record {
                      most = not-more s.exec other.exec (nearer_order b.names (drained_of (ground_of w b now) f other) (drained_of (ground_of w b now) f s)) after;
                      level = λ level. comes-first f s.no other.no (sym (level-order s.exec other.exec (nearer_order b.names (drained_of (ground_of w b now) f other) (drained_of (ground_of w b now) f s)) level) ∙ after);
                    };
              }

  -- ---- the better one

  module _ (f p : ServerNo) (xs : List Follower) where
    abbrev nos : List ServerNo
    nos = map (λ (x : Follower). x.no) xs

    abbrev is-better : ServerNo → Bool
    is-better n = is_better (follower_of (ground_of w b now) f p) (follower_of (ground_of w b now) f n)

    better-so : (n : ServerNo) → IsBetterOne w b now f p xs n → is-better n ≡ true
    better-so n h =
        ap (λ a. a && is_lt (nat_cmp (ranked f n) (ranked f p))) h.logs
        ∙ lt-less f (ranked f n) (ranked f p) (preferred-low f n p h.preferred)

    so-better : (n : ServerNo) → Contains nos n → is-better n ≡ true → IsBetterOne w b now f p xs n
    so-better n there h =
        let both = and_parts (logs_at w n) (is_lt (nat_cmp (ranked f n) (ranked f p))) h in
        record { follows = there; logs = both.0; preferred = low-preferred f n p (less-lt f (ranked f n) (ranked f p) both.1) }

    pub best-of : (q : ServerNo) → better_of (ground_of w b now) f p nos ≡ Some q → IsBestOne w b now f p xs q
    best-of q e =
        let first = chosen-first (nearer_order b.names) (is_better (follower_of (ground_of w b now) f p)) (map (follower_of (ground_of w b now) f) nos) q e in
        let was = from-map (follower_of (ground_of w b now) f) nos first.1 (first.0, first.2, first.3) in
        made was.0 was.1 first.1 was.2 first.4
      where
        made : (n : ServerNo) → Contains nos n → (d : Drained) → follower_of (ground_of w b now) f n ≡ d
            → IsFirst (nearer_order b.names) (is_better (follower_of (ground_of w b now) f p)) (map (follower_of (ground_of w b now) f) nos) q d → IsBestOne w b now f p xs q
        made n there d same is =
            let order = unmapped (λ (other : Drained). is_better (follower_of (ground_of w b now) f p) other ≡ true → is_lt (nearer_order b.names other d) ≡ false) (follower_of (ground_of w b now) f) nos is.first in
            let name : n ≡ q = ap (λ (x : Drained). x.no) same ∙ is.named in
            subst (IsBestOne w b now f p xs) name
            (record {
              better = so-better n there (ap (is_better (follower_of (ground_of w b now) f p)) same ∙ is.passes);
              first = λ m one.
                  comes-first f n m
                  (ap (λ (x : Drained). is_lt (nearer_order b.names (follower_of (ground_of w b now) f m) x)) same
                  ∙ All-contains (λ k. is-better k ≡ true → is_lt (nearer_order b.names (follower_of (ground_of w b now) f k) d) ≡ false) nos m order one.follows (better-so m one));
            })

    pub none-better : better_of (ground_of w b now) f p nos ≡ None → (n : ServerNo) → IsBetterOne w b now f p xs n → ⊥
    none-better e n one =
        let none = unmapped (λ (d : Drained). is_better (follower_of (ground_of w b now) f p) d ≡ false) (follower_of (ground_of w b now) f) nos
        ((none-chosen (nearer_order b.names) (is_better (follower_of (ground_of w b now) f p)) (map (follower_of (ground_of w b now) f) nos) (nearer_total b.names)).0 e) in
        false≢true (sym (All-contains (λ k. is-better k ≡ false) nos n none one.follows) ∙ better-so n one)
