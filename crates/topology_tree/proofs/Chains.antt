-- following, in one step and more
use Rattle.std.proofs.Common.{◌≡◌, ℕ, ◌<◌, ◌≤◌, List, [], ◌∷◌, length, refl, sym, ◌∙◌, subst, inl, inr, ◌⊎◌, Option, Some, None, arith, zero, suc, get_or}
use Rattle.topology_tree.proofs.Prelude.{ComesBack, Direct, Ending, Following, Follows, Further, Grounded, LeadsTo, Looping, Root, Settles, Under}
use Rattle.topology_tree.proofs.Prelude.{above, same_Some}

pub same_step : (up : ℕ → Option ℕ) (a m k : ℕ) → up a ≡ Some m → up a ≡ Some k → m ≡ k
same_step up a m k e h = same_Some m k (sym e ∙ h)

pub Follows-further : (up : ℕ → Option ℕ) (x m a : ℕ) → Follows up x a → up x ≡ Some m → Follows up m a
Follows-further up x m a (Direct a' e) h = Further a x e (Direct x h)
Follows-further up x m a (Further a' k e r) h = Further a k e (Follows-further up x m k r h)

pub Follows-trans : (up : ℕ → Option ℕ) (b c a : ℕ) → Follows up b a → Follows up c b → Follows up c a
Follows-trans up b c a (Direct a' e) s = Further a b e s
Follows-trans up b c a (Further a' k e r) s = Further a k e (Follows-trans up b c k r s)

pub Grounded-before : (up : ℕ → Option ℕ) (x a : ℕ) → Follows up x a → Grounded up x → Grounded up a
Grounded-before up x a (Direct a' e) g = Under a x e g
Grounded-before up x a (Further a' k e r) g = Under a k e (Grounded-before up x k r g)

pub Settles-before : (up : ℕ → Option ℕ) (x a : ℕ) → Follows up x a → Settles up x → Settles up a
Settles-before up x a (Direct a' e) g = Following a x e g
Settles-before up x a (Further a' k e r) g = Following a k e (Settles-before up x k r g)

pub Settles-from_Ends : (up : ℕ → Option ℕ) (a : ℕ) → Grounded up a → Settles up a
Settles-from_Ends up a (Root a' none) = Ending a none
Settles-from_Ends up a (Under a' m e g) = Following a m e (Settles-from_Ends up m g)

-- what a node that comes back follows leads to that node
pub next_leads : (up : ℕ → Option ℕ) (k m : ℕ) → up k ≡ Some m → Follows up k k → (m ≡ k) ⊎ Follows up k m
next_leads up k m h (Direct k' e) = inl (same_step up k m k h e)
next_leads up k m h (Further k' m' e r) = inr (subst (λ (y : ℕ). Follows up k y) (same_step up k m' m e h) r)

pub next_comes_back : (up : ℕ → Option ℕ) (k m : ℕ) → up k ≡ Some m → ComesBack up k → ComesBack up m
next_comes_back up k m h r =
    elim (next_leads up k m h r) [
      | inl same ↦ subst (λ (y : ℕ). Follows up y y) (sym same) r
      | inr back ↦ Follows-further up k m m back h
    ]

pub Grounded-no_return : (up : ℕ → Option ℕ) (k : ℕ) → Grounded up k → ComesBack up k → ⊥
Grounded-no_return up k (Root k' none) (Direct k'' e) = cc
Grounded-no_return up k (Root k' none) (Further k'' m e r) = cc
Grounded-no_return up k (Under k' m e g) r = Grounded-no_return up m g (next_comes_back up k m e r)

-- all that a node comes to leads back to it if it comes back
pub Follows-back : (up : ℕ → Option ℕ) (x k : ℕ) → Follows up x k → ComesBack up k → Follows up k x
Follows-back up x k (Direct k' e) back =
    elim (next_leads up k x e back) [
      | inl same ↦ subst (λ (y : ℕ). Follows up k y) (sym same) back
      | inr leads ↦ leads
    ]
Follows-back up x k (Further k' m e r) back =
    let there : Follows up m x = Follows-back up x m r (next_comes_back up k m e back) in
    elim (next_leads up k m e back) [
      | inl same ↦ subst (λ (y : ℕ). Follows up y x) same there
      | inr leads ↦ Follows-trans up m k x there leads
    ]

-- what holds of a node and then of what it follows holds of all that it comes to
pub holds_along : (P : ℕ → Type 0) (up : ℕ → Option ℕ) (n x : ℕ) → ((a m : ℕ) → P a → up a ≡ Some m → P m) → Follows up n x → P x → P n
holds_along P up n x closed (Direct x' e) p = closed x n p e
holds_along P up n x closed (Further x' m e r) p = holds_along P up n m closed r (closed x m p e)

pub LeadsTo-first : (up : ℕ → Option ℕ) (n : ℕ) (o : Option ℕ) → up n ≡ o → LeadsTo up o n
LeadsTo-first up n None e = Root n e
LeadsTo-first up n (Some m) e = Direct n e

pub LeadsTo-step : (up : ℕ → Option ℕ) (x n : ℕ) (o : Option ℕ) → up x ≡ o → Follows up x n → LeadsTo up o n
LeadsTo-step up x n None e r = Grounded-before up x n r (Root x e)
LeadsTo-step up x n (Some m) e r = Follows-further up x m n r e

-- cut at the nodes that come back, following ends
pub Grounded-from_Settles : (up par : ℕ → Option ℕ) (n : ℕ) → ((k : ℕ) → (ComesBack up k × (par k ≡ None)) ⊎ ((ComesBack up k → ⊥) × (par k ≡ up k))) → Settles up n → Grounded par n
Grounded-from_Settles up par n is (Ending n' none) =
    elim (is n) [ inl back ↦ Root n back.1 | inr kept ↦ Root n (kept.1 ∙ none) ]
Grounded-from_Settles up par n is (Looping n' back) =
    elim (is n) [ inl cut ↦ Root n cut.1 | inr kept ↦ absurd (kept.0 back) ]
Grounded-from_Settles up par n is (Following n' m e s) =
    elim (is n) [ inl cut ↦ Root n cut.1 | inr kept ↦ Under n m (kept.1 ∙ e) (Grounded-from_Settles up par m is s) ]

-- what a node comes to, it comes to through what it follows, or follows itself
pub next_follows : (up : ℕ → Option ℕ) (b a m : ℕ) → up a ≡ Some m → Follows up b a → (m ≡ b) ⊎ Follows up b m
next_follows up b a m h (Direct a' e) = inl (same_step up a m b h e)
next_follows up b a m h (Further a' k e r) = inr (subst (λ (y : ℕ). Follows up b y) (same_step up a k m e h) r)

-- what is read at a place that is there
pub read_at : {A : Type 0} (xs : List A) (k : ℕ) (x d : A) → k < length xs → x ≡ get_or xs k x → get_or xs k d ≡ x
read_at [] k x d lt e = absurd (omega (arith, lt))
read_at (y ∷ ys) zero x d lt e = sym e
read_at (y ∷ ys) (suc k) x d lt e = read_at ys k x d (omega (arith, lt)) e

pub read_above : (xs : List (Option ℕ)) (k : ℕ) (o : Option ℕ) → k < length xs → o ≡ get_or xs k o → above xs k ≡ o
read_above xs k o lt e = read_at xs k o None lt e

pub above-within : (xs : List (Option ℕ)) (k m : ℕ) → above xs k ≡ Some m → k < length xs
above-within [] k m e = cc
above-within (x ∷ xs) zero m e = omega arith
above-within (x ∷ xs) (suc k) m e = omega (arith, above-within xs k m e)

pub above-past : (xs : List (Option ℕ)) (k : ℕ) → length xs ≤ k → above xs k ≡ None
above-past [] k ge = refl
above-past (x ∷ xs) zero ge = absurd (omega (arith, ge))
above-past (x ∷ xs) (suc k) ge = above-past xs k (omega (arith, ge))
