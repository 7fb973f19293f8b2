-- Plans of several servers, one after another: they have `Held` and are listed if each part does.
use Rattle.move_laws.proofs.Prelude.{All-cons, All-head, All-nil, All-tail, All-weaker, Finish, Footing, Line, Matched, Op, SameBase, ServerNo, again}
use Rattle.move_laws.proofs.Prelude.{again_auto, and_parts, any-true, are_held, are_listed, are_matched, auto, auto-held, autos, both, change_of}
use Rattle.move_laws.proofs.Prelude.{deed_of, eq-eqb, finished, first_about, flat_map, held-append, is_in, list_any, list_any-append, matching}
use Rattle.move_laws.proofs.Prelude.{matchings, option_or, or_left as or-left, swap, under, under-held, unders, up, up-held, ups}
use Rattle.std.proofs.Common.{◌≡◌, ℕ, true, false, List, [], ◌∷◌, ◌++◌, refl, ◌∙◌, ap, Option, Some, None, ◌||◌, ◌==◌, All}

self : (n : ℕ) → (n == n) ≡ true
self n = eq-eqb n n refl

-- ---- a server of a list

abbrev pub Among : List ServerNo → ServerNo → Type 0
Among list n = list_any (λ (k : ServerNo). k.0 == n.0) list ≡ true

pub among-more : (k n : ServerNo) (list : List ServerNo) → Among list n → Among (k ∷ list) n
among-more k n list h = ap (λ b. (k.0 == n.0) || b) h ∙ any-true (k.0 == n.0)

pub among-first : (n : ServerNo) (list : List ServerNo) → Among (n ∷ list) n
among-first n list = or-left (n.0 == n.0) (list_any (λ (k : ServerNo). k.0 == n.0) list) (self n.0)

-- each server of a list is one of it
pub all-among : (list : List ServerNo) → All (Among list) list
all-among [] = All-nil (Among [])
all-among (k ∷ ks) =
    All-cons (Among (k ∷ ks)) k ks (among-first k ks) (All-weaker (Among ks) (Among (k ∷ ks)) (λ n h. among-more k n ks h) ks (all-among ks))

-- and one of the list with others before it
pub among-behind : (k : ServerNo) (list : List ServerNo) → All (Among (k ∷ list)) list
among-behind k list = All-weaker (Among list) (Among (k ∷ list)) (λ n h. among-more k n list h) list (all-among list)

-- and with others after it
pub among-before : (list others : List ServerNo) → All (Among (list ++ others)) list
among-before list others =
    All-weaker (Among list) (Among (list ++ others))
    (λ n h. list_any-append (λ (k : ServerNo). k.0 == n.0) list others
    ∙ or-left (list_any (λ (k : ServerNo). k.0 == n.0) list) (list_any (λ (k : ServerNo). k.0 == n.0) others) h)
    list (all-among list)

-- ---- operations that are listed

module _ (list : List ServerNo) where
  listed-append : (ps qs : List Op) → are_listed list ps ≡ true → are_listed list qs ≡ true → are_listed list (ps ++ qs) ≡ true
  listed-append [] qs first last = last
  listed-append (p ∷ ps) qs first last =
      let parts = and_parts (is_in list (change_of (deed_of p))) (are_listed list ps) first in
      both (is_in list (change_of (deed_of p))) (are_listed list (ps ++ qs)) parts.0 (listed-append ps qs parts.1 last)

  pub finished-listed : (ops : List Op) (lines : List Line) → are_listed list ops ≡ true → are_listed list (finished ops lines) ≡ true
  finished-listed ops lines listed = listed-append ops (Finish lines ∷ []) listed refl

  each-listed : (part : ServerNo → List Op) → ((r : ServerNo) → Among list r → are_listed list (part r) ≡ true) → (rs : List ServerNo) → All (Among list) rs
      → are_listed list (flat_map part rs) ≡ true
  each-listed part listed [] among = refl
  each-listed part listed (r ∷ rs) among =
      listed-append (part r) (flat_map part rs) (listed r (All-head (Among list) r rs among)) (each-listed part listed rs (All-tail (Among list) r rs among))

  pub up-listed : (i x g : ServerNo) → Among list i → Among list x → are_listed list (up i x g) ≡ true
  up-listed i x g at_i at_x = simp (at_i, at_x) refl

  pub under-listed : (i d s : ServerNo) → Among list i → Among list d → are_listed list (under i d s) ≡ true
  under-listed i d s at_i at_d = simp (at_i, at_d) refl

  pub again-listed : (i x : ServerNo) → Among list i → are_listed list (again i x) ≡ true
  again-listed i x at_i = simp (at_i) refl

  pub auto-listed : (r d : ServerNo) → Among list r → are_listed list (auto r d) ≡ true
  auto-listed r d at_r = simp (at_r) refl

  pub again_auto-listed : (i x : ServerNo) → Among list i → are_listed list (again_auto i x) ≡ true
  again_auto-listed i x at_i = simp (at_i) refl

  pub swap-listed : (i x g : ServerNo) → Among list i → Among list x → are_listed list (swap i x g) ≡ true
  swap-listed i x g at_i at_x = simp (at_i, at_x) refl

  pub ups-listed : (rs : List ServerNo) (i x : ServerNo) → All (Among list) rs → Among list i → are_listed list (ups rs i x) ≡ true
  ups-listed rs i x among at_i = each-listed (λ r. up r i x) (λ r at_r. up-listed r i x at_r at_i) rs among

  pub unders-listed : (rs : List ServerNo) (d s : ServerNo) → All (Among list) rs → Among list d → are_listed list (unders rs d s) ≡ true
  unders-listed rs d s among at_d = each-listed (λ r. under r d s) (λ r at_r. under-listed r d s at_r at_d) rs among

  pub autos-listed : (rs : List ServerNo) (d : ServerNo) → All (Among list) rs → are_listed list (autos rs d) ≡ true
  autos-listed rs d among = each-listed (λ r. auto r d) (λ r at_r. auto-listed r d at_r) rs among

  pub matching-listed : (r d : ServerNo) (every : ℕ) → Among list r → are_listed list (matching r d every) ≡ true
  matching-listed r d every at_r = simp (at_r) refl

  pub matchings-listed : (rs : List ServerNo) (d : ServerNo) (every : ℕ) → All (Among list) rs → are_listed list (matchings rs d every) ≡ true
  matchings-listed rs d every among = each-listed (λ r. matching r d every) (λ r at_r. matching-listed r d every at_r) rs among

-- ---- operations with `Held`

base-self : (f : Footing) → SameBase f f
base-self f = record { gtid = λ e. e; logs = λ n e. e }

base-trans : (f g h : Footing) → SameBase f g → SameBase g h → SameBase f h
base-trans f g h p q = record { gtid = λ e. q.gtid (p.gtid e); logs = λ n e. q.logs n (p.logs n e) }

-- if each part has `Held` whatever was read before it
each-held : (P : ServerNo → Type 0) (part : ServerNo → List Op) (f : Footing) (rs : List ServerNo)
    → ((g : Footing) (r : ServerNo) → SameBase f g → P r → are_held g (part r) ≡ true) → All P rs → are_held f (flat_map part rs) ≡ true
each-held P part f [] held all = refl
each-held P part f (r ∷ rs) held all =
    held-append f (part r) (flat_map part rs) (held f r (base-self f) (All-head P r rs all))
    (λ g base. each-held P part g rs (λ h n more at. held h n (base-trans f g h base more) at) (All-tail P r rs all))

pub ups-held : (f : Footing) (rs : List ServerNo) (i x : ServerNo) → All (λ r. (r.0 == i.0) ≡ false) rs → are_held f (ups rs i x) ≡ true
ups-held f rs i x apart = each-held (λ r. (r.0 == i.0) ≡ false) (λ r. up r i x) f rs (λ g r base at. up-held g r i x at) apart

each-of : (rs : List ServerNo) → All (λ (r : ServerNo). Unit {0}) rs
each-of [] = All-nil (λ (r : ServerNo). Unit {0})
each-of (r ∷ rs) = All-cons (λ (r : ServerNo). Unit {0}) r rs tt (each-of rs)

pub unders-held : (f : Footing) (rs : List ServerNo) (d s : ServerNo) → f.logs d.0 ≡ true → are_held f (unders rs d s) ≡ true
unders-held f rs d s logs = each-held (λ r. Unit {0}) (λ r. under r d s) f rs (λ g r base at. under-held g r d s (base.logs d.0 logs)) (each-of rs)

pub autos-held : (f : Footing) (rs : List ServerNo) (d : ServerNo) → f.gtid ≡ true → f.logs d.0 ≡ true → are_held f (autos rs d) ≡ true
autos-held f rs d gtid logs = each-held (λ r. Unit {0}) (λ r. auto r d) f rs (λ g r base at. auto-held g r d (base.gtid gtid) (base.logs d.0 logs)) (each-of rs)

pub again_auto-held : (f : Footing) (i x : ServerNo) → f.gtid ≡ true → are_held f (again_auto i x) ≡ true
again_auto-held f i x gtid = simp (self, gtid) refl

pub matching-held : (f : Footing) (r d : ServerNo) (every : ℕ) → f.logs d.0 ≡ true → are_held f (matching r d every) ≡ true
matching-held f r d every logs = simp (self, logs) refl

pub matchings-held : (f : Footing) (rs : List ServerNo) (d : ServerNo) (every : ℕ) → f.logs d.0 ≡ true → are_held f (matchings rs d every) ≡ true
matchings-held f rs d every logs = each-held (λ r. Unit {0}) (λ r. matching r d every) f rs (λ g r base at. matching-held g r d every (base.logs d.0 logs)) (each-of rs)

-- ---- operations that go by matches

pub matching-matched : (has : Matched) (r d : ServerNo) (every : ℕ) → are_matched has (matching r d every) ≡ true
matching-matched has r d every = simp (self) refl

-- ---- the first of two lists

pub first-append : {A B : Type 0} (about : A → Option B) (xs ys : List A) → first_about about (xs ++ ys) ≡ None → (first_about about xs ≡ None) × (first_about about ys ≡ None)
first-append about [] ys h = (refl, h)
first-append {B = B} about (x ∷ xs) ys h = go (about x) h (first-append about xs ys)
  where
    go : (o : Option B) → option_or o (first_about about (xs ++ ys)) ≡ None → (first_about about (xs ++ ys) ≡ None → (first_about about xs ≡ None) × (first_about about ys ≡ None))
        → (option_or o (first_about about xs) ≡ None) × (first_about about ys ≡ None)
    go None h rest = rest h
    go (Some r) h rest = cc
