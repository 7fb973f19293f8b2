-- A server's path to a destination: its operations have `Held`, and change only servers of the list.
use Rattle.std.proofs.Common.{◌≡◌, true, false, List, [], ◌∷◌, ◌++◌, refl, Option, Some, None, ◌==◌, All}
use Rattle.move_laws.proofs.Prelude.{All-cons, All-head, All-nil, All-tail, BookState, Footing, Matched, Op, Path, ServerNo, again-held, and_parts, are_held}
use Rattle.move_laws.proofs.Prelude.{are_listed, are_matched, arrived, ascended, both, change_of, climbed, deed_of, flat_map, held-append, is_in}
use Rattle.move_laws.proofs.Prelude.{matched-append, next_of, passed_in, path_of, path_to, travelled, under, under-held, up, up-held}
use Rattle.move_laws.proofs.Lists.{Among, again-listed, all-among, under-listed, up-listed}
use Rattle.move_laws.proofs.Apart.{path-apart}

-- ---- operations with `Held`

abbrev Apart : ServerNo → ServerNo → Type 0
Apart n x = (n.0 == x.0) ≡ false

climbed-held : (f : Footing) (n : ServerNo) (xs : List ServerNo) (to : ServerNo) → All (Apart n) xs → are_held f (climbed n xs to) ≡ true
climbed-held f n [] to apart = refl
climbed-held f n (x ∷ xs) to apart =
    held-append f (up n x (next_of xs to)) (climbed n xs to) (up-held f n x (next_of xs to) (All-head (Apart n) x xs apart))
    (λ g base. climbed-held g n xs to (All-tail (Apart n) x xs apart))

ascended-held : (f : Footing) (n d : ServerNo) (xs : List ServerNo) → All (Apart n) xs → are_held f (ascended n d xs) ≡ true
ascended-held f n d [] apart = again-held f n d
ascended-held f n d (x ∷ xs) apart = climbed-held f n (x ∷ xs) d apart

arrived-held : (f : Footing) (n d : ServerNo) (xs : List ServerNo) (o : Option ServerNo) → f.logs d.0 ≡ true → All (Apart n) xs → are_held f (arrived n d xs o) ≡ true
arrived-held f n d xs None logs apart = ascended-held f n d xs apart
arrived-held f n d xs (Some s) logs apart =
    held-append f (climbed n xs s) (under n d s) (climbed-held f n xs s apart) (λ g base. under-held g n d s (base.logs d.0 logs))

travelled-held : (f : Footing) (n d : ServerNo) (o : Option Path) → f.logs d.0 ≡ true → All (Apart n) (passed_in o) → are_held f (travelled n d o) ≡ true
travelled-held f n d None logs apart = refl
travelled-held f n d (Some p) logs apart = arrived-held f n d p.passed p.under logs apart

pub each-held : (f : Footing) (b : BookState) (rs : List ServerNo) (d : ServerNo) → f.logs d.0 ≡ true
    → are_held f (flat_map (λ n. travelled n d (path_of b n d)) rs) ≡ true
each-held f b [] d logs = refl
each-held f b (r ∷ rs) d logs =
    held-append f (travelled r d (path_of b r d)) (flat_map (λ n. travelled n d (path_of b n d)) rs)
    (travelled-held f r d (path_of b r d) logs (path-apart b r d)) (λ g base. each-held g b rs d (base.logs d.0 logs))

-- ---- none of them goes by a match

climbed-matched : (has : Matched) (n : ServerNo) (xs : List ServerNo) (to : ServerNo) → are_matched has (climbed n xs to) ≡ true
climbed-matched has n [] to = refl
climbed-matched has n (x ∷ xs) to = climbed-matched has n xs to

ascended-matched : (has : Matched) (n d : ServerNo) (xs : List ServerNo) → are_matched has (ascended n d xs) ≡ true
ascended-matched has n d [] = refl
ascended-matched has n d (x ∷ xs) = climbed-matched has n (x ∷ xs) d

arrived-matched : (has : Matched) (n d : ServerNo) (xs : List ServerNo) (o : Option ServerNo) → are_matched has (arrived n d xs o) ≡ true
arrived-matched has n d xs None = ascended-matched has n d xs
arrived-matched has n d xs (Some s) = matched-append has (climbed n xs s) (under n d s) (climbed-matched has n xs s) (λ more. refl)

pub travelled-matched : (has : Matched) (n d : ServerNo) (o : Option Path) → are_matched has (travelled n d o) ≡ true
travelled-matched has n d None = refl
travelled-matched has n d (Some p) = arrived-matched has n d p.passed p.under

-- ---- operations that are listed

module _ (list : List ServerNo) where
  listed-append : (ps qs : List Op) → are_listed list ps ≡ true → are_listed list qs ≡ true → are_listed list (ps ++ qs) ≡ true
  listed-append [] qs first last = last
  listed-append (p ∷ ps) qs first last =
      let parts = and_parts (is_in list (change_of (deed_of p))) (are_listed list ps) first in
      both (is_in list (change_of (deed_of p))) (are_listed list (ps ++ qs)) parts.0 (listed-append ps qs parts.1 last)

  climbed-listed : (n : ServerNo) (xs : List ServerNo) (to : ServerNo) → Among list n → All (Among list) xs → are_listed list (climbed n xs to) ≡ true
  climbed-listed n [] to at_n among = refl
  climbed-listed n (x ∷ xs) to at_n among =
      listed-append (up n x (next_of xs to)) (climbed n xs to) (up-listed list n x (next_of xs to) at_n (All-head (Among list) x xs among))
      (climbed-listed n xs to at_n (All-tail (Among list) x xs among))

  ascended-listed : (n d : ServerNo) (xs : List ServerNo) → Among list n → All (Among list) xs → are_listed list (ascended n d xs) ≡ true
  ascended-listed n d [] at_n among = again-listed list n d at_n
  ascended-listed n d (x ∷ xs) at_n among = climbed-listed n (x ∷ xs) d at_n among

  arrived-listed : (n d : ServerNo) (xs : List ServerNo) (o : Option ServerNo) → Among list n → Among list d → All (Among list) xs → are_listed list (arrived n d xs o) ≡ true
  arrived-listed n d xs None at_n at_d among = ascended-listed n d xs at_n among
  arrived-listed n d xs (Some s) at_n at_d among =
      listed-append (climbed n xs s) (under n d s) (climbed-listed n xs s at_n among) (under-listed list n d s at_n at_d)

  travelled-listed : (n d : ServerNo) (o : Option Path) → Among list n → Among list d → All (Among list) (passed_in o) → are_listed list (travelled n d o) ≡ true
  travelled-listed n d None at_n at_d among = refl
  travelled-listed n d (Some p) at_n at_d among = arrived-listed n d p.passed p.under at_n at_d among

  all-left : (xs ys : List ServerNo) → All (Among list) (xs ++ ys) → All (Among list) xs
  all-left [] ys h = All-nil (Among list)
  all-left (x ∷ xs) ys h =
      All-cons (Among list) x xs (All-head (Among list) x (xs ++ ys) h) (all-left xs ys (All-tail (Among list) x (xs ++ ys) h))

  pub all-right : (xs ys : List ServerNo) → All (Among list) (xs ++ ys) → All (Among list) ys
  all-right [] ys h = h
  all-right (x ∷ xs) ys h = all-right xs ys (All-tail (Among list) x (xs ++ ys) h)

  -- if the servers that move, the destination and all that is passed are of the list
  pub each-listed : (b : BookState) (rs : List ServerNo) (d : ServerNo) → All (Among list) rs → Among list d
      → All (Among list) (flat_map (λ n. passed_in (path_to b (Some d) n)) rs) → are_listed list (flat_map (λ n. travelled n d (path_of b n d)) rs) ≡ true
  each-listed b [] d among at_d passed = refl
  each-listed b (r ∷ rs) d among at_d passed =
      listed-append (travelled r d (path_of b r d)) (flat_map (λ n. travelled n d (path_of b n d)) rs)
      (travelled-listed r d (path_of b r d) (All-head (Among list) r rs among) at_d
      (all-left (passed_in (path_of b r d)) (flat_map (λ n. passed_in (path_to b (Some d) n)) rs) passed))
      (each-listed b rs d (All-tail (Among list) r rs among) at_d
      (all-right (passed_in (path_of b r d)) (flat_map (λ n. passed_in (path_to b (Some d) n)) rs) passed))

-- a server with others before and after it is one of the list
pub among-middle : (xs ys : List ServerNo) (d : ServerNo) → Among (xs ++ d ∷ ys) d
among-middle xs ys d =
    All-head (Among (xs ++ d ∷ ys)) d ys (all-right (xs ++ d ∷ ys) xs (d ∷ ys) (all-among (xs ++ d ∷ ys)))

-- and so are those after it
pub among-last : (xs ys : List ServerNo) (d : ServerNo) → All (Among (xs ++ d ∷ ys)) ys
among-last xs ys d =
    All-tail (Among (xs ++ d ∷ ys)) d ys (all-right (xs ++ d ∷ ys) xs (d ∷ ys) (all-among (xs ++ d ∷ ys)))
