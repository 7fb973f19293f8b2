-- How often a server is in a list.
use Rattle.std.proofs.Common.{◌≡◌, ℕ, ◌+◌, ◌<◌, Bool, true, false, cond, not, List, [], ◌∷◌, ◌++◌, map, refl, sym, ◌∙◌, ap, arith, ◌==◌}
use Rattle.recovery_covers.proofs.Prelude.{All, All-cons, All-head, All-nil, All-tail, ServerNo, eq-eqb, eqb-true, false≢true, filter, ne_eqb, times}

-- how much one server adds
abbrev pub one : ℕ → ServerNo → ℕ
one n k = cond (k.0 == n) 1 0

pub times-append : (n : ℕ) (xs ys : List ServerNo) → times n (xs ++ ys) ≡ times n xs + times n ys
times-append n [] ys = omega arith
times-append n (x ∷ xs) ys = let e = times-append n xs ys in omega (arith, e)

pub times-push : {X : Type 0} (key : X → ServerNo) (n : ℕ) (xs : List X) (x : X) → times n (map key (xs ++ x ∷ [])) ≡ times n (map key xs) + cond ((key x).0 == n) 1 0
times-push key n [] x = omega arith
times-push key n (y ∷ ys) x = let e = times-push key n ys x in omega (arith, e)

pub times-join : {X : Type 0} (key : X → ServerNo) (n : ℕ) (xs ys : List X) → times n (map key (xs ++ ys)) ≡ times n (map key xs) + times n (map key ys)
times-join key n [] ys = omega arith
times-join key n (x ∷ xs) ys = let e = times-join key n xs ys in omega (arith, e)

-- without one server
pub times-out : {X : Type 0} (key : X → ServerNo) (n m : ℕ) (xs : List X) → times n (map key (filter (λ x. not ((key x).0 == m)) xs)) ≡ cond (n == m) 0 (times n (map key xs))
times-out key n m [] = go (n == m)
  where
    go : (b : Bool) → times n [] ≡ cond b 0 (times n [])
    go true = refl
    go false = refl
times-out {X} key n m (x ∷ xs) = go ((key x).0 == m) refl (n == m) refl (times-out key n m xs)
  where
    go : (b : Bool) → ((key x).0 == m) ≡ b → (c : Bool) → (n == m) ≡ c → times n (map key (filter (λ (y : X). not ((key y).0 == m)) xs)) ≡ cond c 0 (times n (map key xs))
        → times n (map key (cond (not b) (x ∷ filter (λ (y : X). not ((key y).0 == m)) xs) (filter (λ (y : X). not ((key y).0 == m)) xs)))
        ≡ cond c 0 (cond ((key x).0 == n) 1 0 + times n (map key xs))
    go true e true f h = h
    go true e false f h =
        let apart : ((key x).0 == n) ≡ false = ap (λ k. k == n) (eqb-true (key x).0 m e) ∙ ne_eqb m n (λ same. false≢true (sym f ∙ eq-eqb n m (sym same))) in
        h ∙ plus-none (cond ((key x).0 == n) 1 0) (times n (map key xs)) (ap (λ b. cond b 1 0) apart)
      where
        plus-none : (a b : ℕ) → a ≡ 0 → b ≡ a + b
        plus-none a b z = omega (arith, z)
    go false e true f h =
        let apart : ((key x).0 == n) ≡ false = ap (λ k. (key x).0 == k) (eqb-true n m f) ∙ e in
        none (cond ((key x).0 == n) 1 0) _ (ap (λ b. cond b 1 0) apart) h
      where
        none : (a b : ℕ) → a ≡ 0 → b ≡ 0 → a + b ≡ 0
        none a b z y = omega (arith, z, y)
    go false e false f h = ap (λ k. cond ((key x).0 == n) 1 0 + k) h

-- a list that has a server once, divided at that one
pub times-parted : {X : Type 0} (key : X → ServerNo) (n : ℕ) (p : ServerNo) (xs : List X) → times p.0 (map key xs) ≡ 1
    → times n (map key xs) ≡ one n p + times n (map key (filter (λ x. not ((key x).0 == p.0)) xs))
times-parted {X} key n p xs once = go (n == p.0) refl (times-out key n p.0 xs)
  where
    go : (b : Bool) → (n == p.0) ≡ b → times n (map key (filter (λ (x : X). not ((key x).0 == p.0)) xs)) ≡ cond b 0 (times n (map key xs))
        → times n (map key xs) ≡ one n p + times n (map key (filter (λ (x : X). not ((key x).0 == p.0)) xs))
    go true e h =
        let same : n ≡ p.0 = eqb-true n p.0 e in
        let here : one n p ≡ 1 = ap (λ b. cond b 1 0) (eq-eqb p.0 n (sym same)) in
        let all : times n (map key xs) ≡ 1 = ap (λ m. times m (map key xs)) same ∙ once in
        omega (arith, here, all, h)
    go false e h =
        let none : one n p ≡ 0 = ap (λ b. cond b 1 0) (ne_eqb p.0 n (λ same. false≢true (sym e ∙ eq-eqb n p.0 (sym same)))) in
        omega (arith, none, h)

-- what holds of each of a list, by its standing there
pub All-counted : {X : Type 0} (key : X → ServerNo) (P Q : X → Type 0) (xs : List X) → All P xs → ((x : X) → 0 < times (key x).0 (map key xs) → P x → Q x) → All Q xs
All-counted key P Q [] all f = All-nil Q
All-counted key P Q (x ∷ xs) all f =
    All-cons Q x xs (f x (here (times (key x).0 (map key xs))) (All-head P x xs all))
    (All-counted key P Q xs (All-tail P x xs all) (λ y h. f y (more (cond ((key x).0 == (key y).0) 1 0) (times (key y).0 (map key xs)) h)))
  where
    here : (k : ℕ) → 0 < cond ((key x).0 == (key x).0) 1 0 + k
    here k = let e : cond ((key x).0 == (key x).0) 1 0 ≡ 1 = ap (λ b. cond b 1 0) (eq-eqb (key x).0 (key x).0 refl) in positive (cond ((key x).0 == (key x).0) 1 0) k e
      where
        positive : (a b : ℕ) → a ≡ 1 → 0 < a + b
        positive a b z = omega (arith, z)

    more : (a k : ℕ) → 0 < k → 0 < a + k
    more a k h = omega (arith, h)

pub self-times : (k : ServerNo) (ks : List ServerNo) → 0 < times k.0 (k ∷ ks)
self-times k ks = positive (cond (k.0 == k.0) 1 0) (times k.0 ks) (ap (λ b. cond b 1 0) (eq-eqb k.0 k.0 refl))
  where
    positive : (a b : ℕ) → a ≡ 1 → 0 < a + b
    positive a b z = omega (arith, z)

-- each of a list is there
pub self-all : {X : Type 0} (key : X → ServerNo) (xs : List X) → All (λ x. 0 < times (key x).0 (map key xs)) xs
self-all {X} key xs = All-counted key (λ (x : X). Unit {0}) (λ x. 0 < times (key x).0 (map key xs)) xs (units xs) (λ x h u. h)
  where
    units : (ys : List X) → All (λ (y : X). Unit {0}) ys
    units [] = All-nil (λ (y : X). Unit {0})
    units (y ∷ ys) = All-cons (λ (x : X). Unit {0}) y ys tt (units ys)
