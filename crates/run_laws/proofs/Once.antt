-- How often a server is in the order by name, and in what a test leaves of a list.
use Rattle.run_laws.proofs.Prelude.{HostPort, IsOrder-by_name, ServerNo, by_name, cases_lt, eq-eqb, eqb-true, false≢true, length-by_name, ne_eqb}
use Rattle.run_laws.proofs.Prelude.{range_with_len, same-no as same-server, sum_by, sum_by-cons, sum_by-IsPermutation, times}
use Rattle.std.proofs.Common.{◌≡◌, ℕ, ◌+◌, ◌<◌, ◌≤◌, ◌∙◌, Bool, true, false, cond, List, [], ◌∷◌, length, map, refl, sym, ap, subst, zero, suc, ◌⊎◌, inl, inr, arith, ◌==◌, filter}

-- how much one number adds
abbrev hit : ℕ → ℕ → ℕ
hit n i = cond (i == n) 1 0

abbrev hits : ℕ → List ℕ → ℕ
hits n is = sum_by (hit n) is

zeros : (a b : ℕ) → a ≡ 0 → b ≡ 0 → a + b ≡ 0
zeros a b x y = omega (arith, x, y)

one-none : (a b : ℕ) → a ≡ 1 → b ≡ 0 → a + b ≡ 1
one-none a b x y = omega (arith, x, y)

none-one : (a b : ℕ) → a ≡ 0 → b ≡ 1 → a + b ≡ 1
none-one a b x y = omega (arith, x, y)

plus-none : (a b : ℕ) → a ≡ 0 → b ≡ a + b
plus-none a b x = omega (arith, x)

pub few-none : (a b : ℕ) → a ≤ 1 → b ≡ 0 → a + b ≤ 1
few-none a b x y = omega (arith, x, y)

pub none-few : (a b : ℕ) → a ≡ 0 → b ≤ 1 → a + b ≤ 1
none-few a b x y = omega (arith, x, y)

pub hit-few : (n i : ℕ) → cond (i == n) 1 0 ≤ 1
hit-few n i = go (i == n)
  where
    go : (b : Bool) → cond b 1 0 ≤ 1
    go true = omega arith
    go false = omega arith

-- ---- a run of numbers

above : (a n : ℕ) → a ≤ n → (a ≡ n → ⊥) → a + 1 ≤ n
above a n low other = go (cases_lt a n)
  where
    go : (a < n) ⊎ (n ≤ a) → a + 1 ≤ n
    go (inl less) = omega (arith, less)
    go (inr more) = absurd (other (omega (arith, low, more)))

none-above : (n a m : ℕ) → n < a → hits n (range_with_len a m) ≡ 0
none-above n a zero high = refl
none-above n a (suc m) high =
    sum_by-cons (hit n) a (range_with_len (a + 1) m)
    ∙ zeros (hit n a) (hits n (range_with_len (a + 1) m)) (ap (λ b. cond b 1 0) (ne_eqb a n (λ same. omega (arith, high, same))))
    (none-above n (a + 1) m (omega (arith, high)))

once-among : (n a m : ℕ) → a ≤ n → n < a + m → hits n (range_with_len a m) ≡ 1
once-among n a zero low high = absurd (omega (arith, low, high))
once-among n a (suc m) low high = go (a == n) refl (once-among n (a + 1) m)
  where
    go : (b : Bool) → (a == n) ≡ b → (a + 1 ≤ n → n < (a + 1) + m → hits n (range_with_len (a + 1) m) ≡ 1) → hits n (range_with_len a (suc m)) ≡ 1
    go true e rest =
        let same = eqb-true a n e in
        sum_by-cons (hit n) a (range_with_len (a + 1) m)
        ∙ one-none (hit n a) (hits n (range_with_len (a + 1) m)) (ap (λ b. cond b 1 0) e) (none-above n (a + 1) m (omega (arith, same)))
    go false e rest =
        sum_by-cons (hit n) a (range_with_len (a + 1) m)
        ∙ none-one (hit n a) (hits n (range_with_len (a + 1) m)) (ap (λ b. cond b 1 0) e)
        (rest (above a n low (λ same. false≢true (sym e ∙ eq-eqb a n same))) (omega (arith, high)))

few-among : (n a m : ℕ) → hits n (range_with_len a m) ≤ 1
few-among n a zero = omega arith
few-among n a (suc m) = subst (λ t. t ≤ 1) (sym (sum_by-cons (hit n) a (range_with_len (a + 1) m))) (go (a == n) refl (few-among n (a + 1) m))
  where
    go : (b : Bool) → (a == n) ≡ b → hits n (range_with_len (a + 1) m) ≤ 1 → hit n a + hits n (range_with_len (a + 1) m) ≤ 1
    go true e rest =
        let same = eqb-true a n e in
        few-none (hit n a) (hits n (range_with_len (a + 1) m)) (hit-few n a) (none-above n (a + 1) m (omega (arith, same)))
    go false e rest = none-few (hit n a) (hits n (range_with_len (a + 1) m)) (ap (λ b. cond b 1 0) e) rest

-- ---- the order by name

times-hits : (n : ℕ) (ks : List ServerNo) → times n ks ≡ hits n (map (λ (k : ServerNo). k.0) ks)
times-hits n [] = refl
times-hits n (k ∷ ks) = ap (λ t. hit n k.0 + t) (times-hits n ks) ∙ sym (sum_by-cons (hit n) k.0 (map (λ (m : ServerNo). m.0) ks))

ordered-hits : (n : ℕ) (names : List HostPort) → times n (by_name names) ≡ hits n (range_with_len 0 (length names))
ordered-hits n names =
    times-hits n (by_name names)
    ∙ sum_by-IsPermutation (hit n) (range_with_len 0 (length (by_name names))) (map (λ (k : ServerNo). k.0) (by_name names)) (IsOrder-by_name names)
    ∙ ap (λ m. hits n (range_with_len 0 m)) (length-by_name names)

pub ordered-few : (n : ℕ) (names : List HostPort) → times n (by_name names) ≤ 1
ordered-few n names = subst (λ t. t ≤ 1) (sym (ordered-hits n names)) (few-among n 0 (length names))

pub ordered-once : (names : List HostPort) (d : ServerNo) → d.0 < length names → times d.0 (by_name names) ≡ 1
ordered-once names d within = ordered-hits d.0 names ∙ once-among d.0 0 (length names) (omega arith) (omega (arith, within))

-- ---- what a test leaves

pub filtered-few : (n : ℕ) (p : ServerNo → Bool) (xs : List ServerNo) → times n (filter p xs) ≤ times n xs
filtered-few n p [] = omega arith
filtered-few n p (x ∷ xs) = go (p x) (filtered-few n p xs)
  where
    go : (b : Bool) → times n (filter p xs) ≤ times n xs → times n (cond b (x ∷ filter p xs) (filter p xs)) ≤ times n (x ∷ xs)
    go true rest = omega (arith, rest)
    go false rest = omega (arith, rest)

-- nothing of a server that doesn't pass
pub filtered-none : (p : ServerNo → Bool) (s : ServerNo) (xs : List ServerNo) → p s ≡ false → times s.0 (filter p xs) ≡ 0
filtered-none p s [] fails = refl
filtered-none p s (x ∷ xs) fails = go (p x) refl (x.0 == s.0) refl (filtered-none p s xs fails)
  where
    go : (b : Bool) → p x ≡ b → (c : Bool) → (x.0 == s.0) ≡ c → times s.0 (filter p xs) ≡ 0 → times s.0 (cond b (x ∷ filter p xs) (filter p xs)) ≡ 0
    go true e true f rest = absurd (false≢true (sym fails ∙ ap p (sym (same-server x s (eqb-true x.0 s.0 f))) ∙ e))
    go true e false f rest = zeros (hit s.0 x.0) (times s.0 (filter p xs)) (ap (λ c. cond c 1 0) f) rest
    go false e c f rest = rest

-- all of one that passes
pub filtered-all : (p : ServerNo → Bool) (d : ServerNo) (xs : List ServerNo) → p d ≡ true → times d.0 (filter p xs) ≡ times d.0 xs
filtered-all p d [] passes = refl
filtered-all p d (x ∷ xs) passes = go (p x) refl (x.0 == d.0) refl (filtered-all p d xs passes)
  where
    go : (b : Bool) → p x ≡ b → (c : Bool) → (x.0 == d.0) ≡ c → times d.0 (filter p xs) ≡ times d.0 xs
        → times d.0 (cond b (x ∷ filter p xs) (filter p xs)) ≡ times d.0 (x ∷ xs)
    go true e c f rest = ap (λ t. hit d.0 x.0 + t) rest
    go false e true f rest = absurd (false≢true (sym e ∙ ap p (same-server x d (eqb-true x.0 d.0 f)) ∙ passes))
    go false e false f rest = rest ∙ plus-none (hit d.0 x.0) (times d.0 xs) (ap (λ c. cond c 1 0) f)
