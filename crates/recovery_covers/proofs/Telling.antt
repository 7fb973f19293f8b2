-- The lines of an outcome have each server to which it gives a place.
use Rattle.std.proofs.Common.{◌≡◌, ◌+◌, ◌<◌, Bool, true, false, cond, List, [], ◌∷◌, ◌++◌, map, refl, sym, ◌∙◌, ap, subst, Option, Some, None, ◌⊎◌, inl, inr, arith, ◌==◌, filter_map, find, option_map}
use Rattle.recovery_covers.proofs.Prelude.{All, All-cons, All-contains, All-contains_itself, All-nil, All-weaker, Contains, Contains-append_left}
use Rattle.recovery_covers.proofs.Prelude.{Contains-append_right, Covers, Follower, HasOnePlace, IsToldOf, Line, LostReplica, Outcome, Purpose, ServerNo, World}
use Rattle.recovery_covers.proofs.Prelude.{eqb-true, filter_map-append, follower_line, follower_nos, leader, leader_line, lines_apart, listed, lost_line}
use Rattle.recovery_covers.proofs.Prelude.{option_to_list, or_line, owed, replica_line, same-no, times, told_by, told_why}
use Rattle.recovery_covers.proofs.Prelude.line
use Rattle.recovery_covers.proofs.Prelude.purpose
use Rattle.recovery_covers.proofs.Placing.{server-placed}

-- ---- look-ups

-- what is found in a list by a number
record Found {X : Type 0} (key : X → ServerNo) (xs : List X) (n : ServerNo) : Type 0 where
  item : X
  found : find (λ x. (key x).0 == n.0) xs ≡ Some item
  within : Contains xs item
  named : key item ≡ n

found-by : {X : Type 0} (key : X → ServerNo) (n : ServerNo) (xs : List X) → 0 < times n.0 (map key xs) → Found key xs n
found-by key n [] h = let bad : 0 < 0 = h in absurd (omega (arith, bad))
found-by {X} key n (x ∷ xs) h = go ((key x).0 == n.0) refl h (found-by key n xs)
  where
    go : (b : Bool) → ((key x).0 == n.0) ≡ b → 0 < cond b 1 0 + times n.0 (map key xs) → (0 < times n.0 (map key xs) → Found key xs n) → Found key (x ∷ xs) n
    go true e g rest = record {
      item = x;
      found = ap (λ (b : Bool). cond b (Some x) (find (λ (y : X). (key y).0 == n.0) xs)) e;
      within = (0, omega arith, refl);
      named = same-no (key x) n (eqb-true (key x).0 n.0 e);
    }
    go false e g rest =
        let f = rest (omega (arith, g)) in
        record {
          item = f.item;
          found = ap (λ (b : Bool). cond b (Some x) (find (λ (y : X). (key y).0 == n.0) xs)) e ∙ f.found;
          within = Contains-append_right (x ∷ []) xs f.item f.within;
          named = f.named;
        }

-- or isn't
missed-by : {X : Type 0} (key : X → ServerNo) (n : ServerNo) (xs : List X) → times n.0 (map key xs) ≡ 0 → find (λ x. (key x).0 == n.0) xs ≡ None
missed-by key n [] h = refl
missed-by {X} key n (x ∷ xs) h = go ((key x).0 == n.0) refl h (missed-by key n xs)
  where
    go : (b : Bool) → ((key x).0 == n.0) ≡ b → cond b 1 0 + times n.0 (map key xs) ≡ 0 → (times n.0 (map key xs) ≡ 0 → find (λ (y : X). (key y).0 == n.0) xs ≡ None)
        → cond b (Some x) (find (λ (y : X). (key y).0 == n.0) xs) ≡ None
    go true e g rest = absurd (omega (arith, g))
    go false e g rest = rest (omega (arith, g))

-- what a list gives line by line
all-mapped : {X Y : Type 0} (h : X → Option Y) (xs : List X) → All (λ x. (y : Y) → h x ≡ Some y → Contains (filter_map h xs) y) xs
all-mapped {X} {Y} h [] = All-nil (λ (x : X). (y : Y) → h x ≡ Some y → Contains (filter_map h []) y)
all-mapped {X} {Y} h (x ∷ xs) =
    All-cons (λ (z : X). (y : Y) → h z ≡ Some y → Contains (filter_map h (x ∷ xs)) y) x xs
    (λ y e. whole y (Contains-append_left (filter_map h (x ∷ [])) (filter_map h xs) y (here y e)))
    (All-weaker (λ (z : X). (y : Y) → h z ≡ Some y → Contains (filter_map h xs) y) (λ (z : X). (y : Y) → h z ≡ Some y → Contains (filter_map h (x ∷ xs)) y)
    (λ z on y e. whole y (Contains-append_right (filter_map h (x ∷ [])) (filter_map h xs) y (on y e))) xs (all-mapped h xs))
  where
    whole : (y : Y) → Contains (filter_map h (x ∷ []) ++ filter_map h xs) y → Contains (filter_map h (x ∷ xs)) y
    whole y c = subst (λ (ys : List Y). Contains ys y) (sym (filter_map-append h (x ∷ []) xs)) c

    here : (y : Y) → h x ≡ Some y → Contains (filter_map h (x ∷ [])) y
    here y e = subst (λ (o : Option Y). Contains (filter_map (λ (z : X). o) (x ∷ [])) y) (sym e) (0, omega arith, refl)

mapped : {X Y : Type 0} (h : X → Option Y) (xs : List X) (x : X) (y : Y) → Contains xs x → h x ≡ Some y → Contains (filter_map h xs) y
mapped {X} {Y} h xs x y has e = All-contains (λ (z : X). (v : Y) → h z ≡ Some v → Contains (filter_map h xs) v) xs x (all-mapped h xs) has y e

-- ---- lines

module _ (u : Purpose) (o : Outcome) (order : List ServerNo) where
  first-line : (f : ServerNo → Line) (n : ServerNo) (rest : List Line) → o.promoted ≡ Some n → Contains (option_to_list (option_map f o.promoted) ++ rest) (f n)
  first-line f n rest e = subst (λ (x : Option ServerNo). Contains (option_to_list (option_map f x) ++ rest) (f n)) (sym e) (Contains-append_left (f n ∷ []) rest (f n) (0, omega arith, refl))

  pub leader-told : (n : ServerNo) → o.promoted ≡ Some n → Contains (told_by u o order) (leader_line u n)
  leader-told n e = go u
    where
      go : (v : Purpose) → Contains (told_by v o order) (leader_line v n)
      go purpose.Regroup = first-line line.Server n (filter_map (replica_line o) order) e
      go purpose.Master = first-line line.Promoted n (lines_apart o order) e
      go (purpose.Intermediate s) = first-line line.Successor n (lines_apart o order) e
      go (purpose.Takeover d) = first-line line.Promoted n (lines_apart o order) e

  -- a line of a replica
  replica-told : (n : ServerNo) (l : Line) → Contains order n → ((follower_line o n ≡ Some l) ⊎ ((follower_line o n ≡ None) × (lost_line o n ≡ Some l))) → Contains (told_by u o order) l
  replica-told n l has e = go u
    where
      apart : ((follower_line o n ≡ Some l) ⊎ ((follower_line o n ≡ None) × (lost_line o n ≡ Some l))) → Contains (lines_apart o order) l
      apart (inl f) = Contains-append_left (filter_map (follower_line o) order) (filter_map (lost_line o) order) l (mapped (follower_line o) order n l has f)
      apart (inr f) = Contains-append_right (filter_map (follower_line o) order) (filter_map (lost_line o) order) l (mapped (lost_line o) order n l has f.1)

      joined : ((follower_line o n ≡ Some l) ⊎ ((follower_line o n ≡ None) × (lost_line o n ≡ Some l))) → replica_line o n ≡ Some l
      joined (inl f) = ap (λ (x : Option Line). or_line x (lost_line o n)) f
      joined (inr f) = ap (λ (x : Option Line). or_line x (lost_line o n)) f.0 ∙ f.1

      go : (v : Purpose) → Contains (told_by v o order) l
      go purpose.Regroup =
          Contains-append_right (option_to_list (option_map line.Server o.promoted)) (filter_map (replica_line o) order) l (mapped (replica_line o) order n l has (joined e))
      go purpose.Master = Contains-append_right (option_to_list (option_map line.Promoted o.promoted)) (lines_apart o order) l (apart e)
      go (purpose.Intermediate s) = Contains-append_right (option_to_list (option_map line.Successor o.promoted)) (lines_apart o order) l (apart e)
      go (purpose.Takeover d) = Contains-append_right (option_to_list (option_map line.Promoted o.promoted)) (lines_apart o order) l (apart e)

-- ---- of each server that has a place

led-by : (u : Purpose) (o : Option ServerNo) (n : ServerNo) → times n.0 (leader u o) ≡ 1 → o ≡ Some n
led-by u o n h = go u h
  where
    by : (x : Option ServerNo) → times n.0 (listed x) ≡ 1 → x ≡ Some n
    by None e = let bad : 0 ≡ 1 = e in absurd (omega (arith, bad))
    by (Some k) e = at (k.0 == n.0) refl e
      where
        at : (b : Bool) → (k.0 == n.0) ≡ b → cond b 1 0 + 0 ≡ 1 → Some k ≡ Some n
        at true f g = ap Some (same-no k n (eqb-true k.0 n.0 f))
        at false f g = absurd (omega (arith, g))

    go : (v : Purpose) → times n.0 (leader v o) ≡ 1 → o ≡ Some n
    go (purpose.Intermediate s) e = let bad : 0 ≡ 1 = e in absurd (omega (arith, bad))
    go _ e = by o e

module _ (w : World) (u : Purpose) (f : ServerNo) (ns : List ServerNo) (o : Outcome) (c : Covers w u f ns o) (order : List ServerNo) where
  server-told : (n : ServerNo) → Contains order n → 0 < times n.0 (owed u f ns) → IsToldOf u o (told_by u o order) n
  server-told n has h = go (server-placed w u f ns o c n.0 h)
    where
      follower : Found (λ (x : Follower). x.no) o.followers n → IsToldOf u o (told_by u o order) n
      follower x =
          inr (inl (
            x.item,
            x.within,
            x.named,
            replica-told u o order n (line.Follows x.item.no x.item.source) has (inl (ap (option_map (λ (y : Follower). line.Follows y.no y.source)) x.found)),
          ))

      lost : times n.0 (follower_nos o.followers) ≡ 0 → Found (λ (l : LostReplica). l.no) o.lost n → IsToldOf u o (told_by u o order) n
      lost none l =
          inr (inr (
            l.item,
            l.within,
            l.named,
            replica-told u o order n (told_why l.item.no l.item.detached l.item.why) has (inr (
              ap (option_map (λ (y : Follower). line.Follows y.no y.source)) (missed-by (λ (y : Follower). y.no) n o.followers none),
              ap (option_map (λ (y : LostReplica). told_why y.no y.detached y.why)) l.found,
            )),
          ))

      go : HasOnePlace u o n.0 → IsToldOf u o (told_by u o order) n
      go (inl p) = let is = led-by u o.promoted n p.0 in inl (is, leader-told u o order n is)
      go (inr (inl p)) = follower (found-by (λ (x : Follower). x.no) n o.followers (let e = p.1 in omega (arith, e)))
      go (inr (inr p)) = lost p.1 (found-by (λ (l : LostReplica). l.no) n o.lost (let e = p.2 in omega (arith, e)))

  pub all-told : All (λ n. 0 < times n.0 (owed u f ns) → IsToldOf u o (told_by u o order) n) order
  all-told =
      All-weaker (Contains order) (λ (n : ServerNo). 0 < times n.0 (owed u f ns) → IsToldOf u o (told_by u o order) n) (λ n has h. server-told n has h) order (All-contains_itself order)
