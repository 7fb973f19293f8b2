-- The chosen one has executed the most.
use Rattle.std.proofs.Common.{◌≡◌, ℕ, ◌+◌, ◌<◌, ◌≤◌, Bool, true, false, cond, List, [], ◌∷◌, map, refl, sym, ◌∙◌, ap, Option, Some, None, ◌&&◌, ◌||◌, arith, ◌==◌, find, nat_lt, nat_le}
use Rattle.recovery_covers.proofs.Prelude.{All, All-cons, All-contains, All-head, All-map, All-nil, All-tail, BookState, Coord, Drained, Moment, ServerNo}
use Rattle.recovery_covers.proofs.Prelude.{Stopped, World, advance_order, chosen-first, chosen_of, drained_of, eq-eqb, eqb-true, false≢true, first-furthest}
use Rattle.recovery_covers.proofs.Prelude.{ground_of, is_at_or_before, is_before, is_eligible, le-leb, ltb-false, may_lead, most_advanced, same_Some}
use Rattle.recovery_covers.proofs.Prelude.{stopped_in, stopped_nos, times}
use Rattle.recovery_covers.proofs.Times.{All-counted}

-- ---- coordinates

-- of two one isn't before the other
not-before : (c d : Coord) → is_before c d ≡ false → is_at_or_before d c ≡ true
not-before c d h = go (nat_lt c.file d.file) refl (c.file == d.file) refl h
  where
    by-file : nat_lt d.file c.file ≡ true → is_at_or_before d c ≡ true
    by-file e = ap (λ x. x || (d.file == c.file && nat_le d.pos c.pos)) e

    by-pos : (a : Bool) → d.file ≡ c.file → d.pos ≤ c.pos → (a || (d.file == c.file && nat_le d.pos c.pos)) ≡ true
    by-pos true file pos = refl
    by-pos false file pos = ap (λ x. x && nat_le d.pos c.pos) (eq-eqb d.file c.file file) ∙ le-leb d.pos c.pos pos

    go : (b : Bool) → nat_lt c.file d.file ≡ b → (e : Bool) → (c.file == d.file) ≡ e → (b || (e && nat_lt c.pos d.pos)) ≡ false → is_at_or_before d c ≡ true
    go true x e y h = absurd (false≢true (sym h))
    go false x true y h = by-pos (nat_lt d.file c.file) (sym (eqb-true c.file d.file y)) (ltb-false c.pos d.pos h)
    go false x false y h = by-file (less (nat_lt d.file c.file) refl)
      where
        less : (b : Bool) → nat_lt d.file c.file ≡ b → nat_lt d.file c.file ≡ true
        less true f = f
        less false f =
            let a : d.file ≤ c.file = ltb-false c.file d.file x in
            let b : c.file ≤ d.file = ltb-false d.file c.file f in
            absurd (false≢true (sym y ∙ eq-eqb c.file d.file (omega (arith, a, b))))

-- ---- look-ups

-- each of a list that has nobody twice is found by its number
found-all : (xs : List Stopped) → ((n : ℕ) → times n (stopped_nos xs) ≤ 1) → All (λ s. find (λ (x : Stopped). x.no.0 == s.no.0) xs ≡ Some s) xs
found-all [] once = All-nil (λ (s : Stopped). find (λ (x : Stopped). x.no.0 == s.no.0) [] ≡ Some s)
found-all (x ∷ xs) once =
    All-cons (λ (s : Stopped). find (λ (y : Stopped). y.no.0 == s.no.0) (x ∷ xs) ≡ Some s) x xs
    (ap (λ (b : Bool). cond b (Some x) (find (λ (y : Stopped). y.no.0 == x.no.0) xs)) (eq-eqb x.no.0 x.no.0 refl))
    (All-counted (λ (s : Stopped). s.no) (λ (s : Stopped). find (λ (y : Stopped). y.no.0 == s.no.0) xs ≡ Some s) (λ (s : Stopped). find (λ (y : Stopped). y.no.0 == s.no.0) (x ∷ xs) ≡ Some s) xs
    (found-all xs (λ n. let h = once n in omega (arith, h))) (λ s some h. ap (λ (b : Bool). cond b (Some x) (find (λ (y : Stopped). y.no.0 == s.no.0) xs)) (other s some) ∙ h))
  where
    other : (s : Stopped) → 0 < times s.no.0 (stopped_nos xs) → (x.no.0 == s.no.0) ≡ false
    other s some = go (x.no.0 == s.no.0) refl (once s.no.0)
      where
        go : (b : Bool) → (x.no.0 == s.no.0) ≡ b → cond b 1 0 + times s.no.0 (stopped_nos xs) ≤ 1 → b ≡ false
        go true e h = absurd (omega (arith, h, some))
        go false e h = refl

-- ---- the chosen one

module _ (w : World) (b : BookState) (now : Moment) (f : ServerNo) (xs : List Stopped) (once : (n : ℕ) → times n (stopped_nos xs) ≤ 1) where
  abbrev drained : List Drained
  drained = map (drained_of (ground_of w b now) f) xs

  -- a drained one stopped at the position at which it was found
  abbrev IsFound : Drained → Type 0
  IsFound d = (s : Stopped) → find (λ (x : Stopped). x.no.0 == d.no.0) xs ≡ Some s → d.exec ≡ s.exec

  each-found : All IsFound drained
  each-found = All-map IsFound (drained_of (ground_of w b now) f) xs (λ i d lt s h. ap (λ (x : Stopped). x.exec) (same_Some _ s (sym (found-all xs once i d lt) ∙ h)))

  -- none that may be chosen has executed more
  pub chosen-most : (p : Stopped) → chosen_of (ground_of w b now) f xs ≡ Some p → All (λ s. may_lead (ground_of w b now) s ≡ true → is_at_or_before s.exec p.exec ≡ true) xs
  chosen-most p h = go (most_advanced b.names drained) refl h
    where
      go : (o : Option ServerNo) → most_advanced b.names drained ≡ o → stopped_in xs o ≡ Some p → All (λ s. may_lead (ground_of w b now) s ≡ true → is_at_or_before s.exec p.exec ≡ true) xs
      go None e g = cc
      go (Some n) e g =
          let most = first-furthest b.names is_eligible drained n (chosen-first (advance_order b.names) is_eligible drained n e) in
          let named : most.1.no ≡ n = most.4.named in
          let same : most.1.exec ≡ p.exec = All-contains IsFound drained most.1 each-found (most.0, most.2, most.3) p (ap (λ (k : ServerNo). find (λ (x : Stopped). x.no.0 == k.0) xs) named ∙ g) in
          back xs (λ (d : Drained). is_eligible d ≡ true → is_before most.1.exec d.exec ≡ false) most.4.most
          (λ s f e. not-before p.exec s.exec (ap (λ (c : Coord). is_before c s.exec) (sym same) ∙ f e))
        where
          back : (ys : List Stopped) (Q : Drained → Type 0) → All Q (map (drained_of (ground_of w b now) f) ys)
              → ((s : Stopped) → Q (drained_of (ground_of w b now) f s) → may_lead (ground_of w b now) s ≡ true → is_at_or_before s.exec p.exec ≡ true)
              → All (λ s. may_lead (ground_of w b now) s ≡ true → is_at_or_before s.exec p.exec ≡ true) ys
          back [] Q all each = All-nil (λ (s : Stopped). may_lead (ground_of w b now) s ≡ true → is_at_or_before s.exec p.exec ≡ true)
          back (y ∷ ys) Q all each =
              All-cons (λ (s : Stopped). may_lead (ground_of w b now) s ≡ true → is_at_or_before s.exec p.exec ≡ true) y ys (each y (All-head Q (drained_of (ground_of w b now) f y) (map (drained_of (ground_of w b now) f) ys) all))
              (back ys Q (All-tail Q (drained_of (ground_of w b now) f y) (map (drained_of (ground_of w b now) f) ys) all) each)
