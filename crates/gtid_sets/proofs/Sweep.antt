-- One set without another, from the first interval on.
use Rattle.gtid_sets.proofs.Search.{above, above as and_high, below, below as and_low, line_at, line_past}
use Rattle.std.proofs.Common.{◌≡◌, ℕ, ◌+◌, ◌-◌, ◌^◌, ◌<◌, ◌≤◌, inl, inr, Bool, true, false, ltb, leb, max, not, List, [], length, get_or, refl, sym, ap, ◌∙◌, subst, arith, ◌&&◌, ◌||◌}
use Rattle.gtid_sets.proofs.Prelude.{AllWithin, Interval, IsInterval, IsSet, between, cases_lt, high, holds, le-ltb, list_any_none, low, lt-ltb}
use Rattle.gtid_sets.proofs.Prelude.{nat_tests, on_line, point}
use Rattle.gtid_sets.proofs.Line.{low_high, point_within, point_behind, point_rises}
use Rattle.gtid_sets.proofs.Points.{holds_line, holds_past, rises}

pub minus_holds : (xs ys zs : List Interval) → IsSet xs → IsSet ys → IsSet zs → ((x : ℕ) → on_line zs x ≡ (on_line xs x && not (on_line ys x)))
    → (u n : ℕ) → holds zs u n ≡ (holds xs u n && not (holds ys u n))
minus_holds xs ys zs ix iy iz same u n =
    elim (cases_lt n (2 ^ 64)) [
      | inl fits ↦ rw (holds_line zs u n iz.each fits, holds_line xs u n ix.each fits, holds_line ys u n iy.each fits) (same (point u n))
      | inr past ↦ rw (holds_past zs u n iz.each past, holds_past xs u n ix.each past) refl
    ]

-- what is before the next interval
before_next : (ys : List Interval) (j : ℕ) (d : Interval) (f x : ℕ) → IsSet ys → AllWithin (λ s. high s < f) ys 0 j → f ≤ x → (j < length ys → x < low (get_or ys j d)) → on_line ys x ≡ false
before_next ys j d f x is past h next =
    list_any_none (between x) ys (λ k e r. elim (cases_lt k j) [
      | inl less ↦ let p = past k e (omega arith) less in above (low (get_or ys k e)) (high (get_or ys k e)) x (omega arith)
      | inr more ↦ let n = next (omega arith) in let p = rises ys j d is (omega arith) k e more r in below (low (get_or ys k e)) (high (get_or ys k e)) x (omega arith)
    ])

pub past_more : (ys : List Interval) (j f x : ℕ) → AllWithin (λ s. high s < f) ys 0 j → f ≤ x → AllWithin (λ s. high s < x) ys 0 j
past_more ys j f x past h = λ k d l r. let p = past k d l r in omega arith

or_false : (b : Bool) → (b || false) ≡ b
or_false true = refl
or_false false = refl

-- the settled part grows from f to g
settle : (x f g : ℕ) (old new piece want : Bool) → old ≡ (ltb x f && want) → new ≡ (old || piece) → f ≤ g
    → (x < f → piece ≡ false) → (f ≤ x → x < g → piece ≡ want) → (g ≤ x → piece ≡ false) → new ≡ (ltb x g && want)
settle x f g old new piece want o n le none here past_it =
    elim (cases_lt x f) [
      | inl less ↦ rw (n, o, none less, lt-ltb x f less, lt-ltb x g (omega arith)) (or_false want)
      | inr more ↦ elim (cases_lt x g) [
        | inl in_it ↦ rw (n, o, here more in_it, le-ltb x f more, lt-ltb x g in_it) refl
        | inr past ↦ rw (n, o, past_it past, le-ltb x f more, le-ltb x g past) refl
      ]
    ]

whole_bool : (first f h from x : ℕ) → from ≡ max f first → f ≤ x → x ≤ h → (leb from x && leb x h) ≡ (leb first x && true)
whole_bool first f h from x e l r = grind (arith, nat_tests)

gap_low : (from t x : ℕ) → x < from → (leb from x && ltb x t) ≡ false
gap_low from t x l = grind (arith, nat_tests)

gap_high : (from t x : ℕ) → t ≤ x → (leb from x && ltb x t) ≡ false
gap_high from t x l = grind (arith, nat_tests)

-- an interval that the other set does not meet, from the first one on
pub whole_piece : (xs ys old new : List Interval) (i j : ℕ) (d : Interval) (f from g : ℕ) → IsSet xs → IsSet ys → i < length xs
    → AllWithin (λ s. high s < f) xs 0 i → AllWithin (λ s. high s < f) ys 0 j → (j < length ys → high (get_or xs i d) < low (get_or ys j d))
    → from ≡ max f (low (get_or xs i d)) → g ≡ high (get_or xs i d) + 1 → from ≤ high (get_or xs i d)
    → ((x : ℕ) → on_line old x ≡ (ltb x f && (on_line xs x && not (on_line ys x))))
    → ((x : ℕ) → on_line new x ≡ (on_line old x || (leb from x && leb x (high (get_or xs i d)))))
    → (x : ℕ) → on_line new x ≡ (ltb x g && (on_line xs x && not (on_line ys x)))
whole_piece xs ys old new i j d f from g ix iy h past_x past_y clear is_from is_g some o n x =
    let s = get_or xs i d in
    settle x f g (on_line old x) (on_line new x) (leb from x && leb x (high s)) (on_line xs x && not (on_line ys x)) (o x) (n x) (omega arith)
    (λ less. and_low from (high s) x (omega arith))
    (λ more less. rw (line_at xs i d x ix h (past_more xs i f x past_x more) (omega arith), before_next ys j d f x iy past_y more (λ k. let e = clear k in omega arith)) (whole_bool (low s) f (high s) from x is_from more (omega arith)))
    (λ past. and_high from (high s) x (omega arith))

gap_bool_1 : (first f from t x : ℕ) → from ≡ max f first → f ≤ x → (leb from x && ltb x t) ≡ (leb first x && not (leb t x))
gap_bool_1 first f from t x e l = grind (arith, nat_tests)

gap_bool_2 : (from t x : ℕ) (a : Bool) → t ≤ x → (leb from x && ltb x t) ≡ (a && not (leb t x))
gap_bool_2 from t x true l = grind (arith, nat_tests)
gap_bool_2 from t x false l = grind (arith, nat_tests)

gap_bool_3 : (first f from t x : ℕ) (b : Bool) → from ≡ max f first → x < first → (leb from x && ltb x t) ≡ (leb first x && b)
gap_bool_3 first f from t x b e r = grind (arith, nat_tests)

-- an interval before one of the other set
pub gap_piece : (xs ys old new : List Interval) (i j : ℕ) (d : Interval) (f from g : ℕ) → IsSet xs → IsSet ys → i < length xs → j < length ys
    → AllWithin (λ s. high s < f) xs 0 i → AllWithin (λ s. high s < f) ys 0 j → low (get_or ys j d) ≤ high (get_or xs i d)
    → from ≡ max f (low (get_or xs i d)) → g ≡ max from (high (get_or ys j d) + 1) → from ≤ high (get_or xs i d)
    → ((x : ℕ) → on_line old x ≡ (ltb x f && (on_line xs x && not (on_line ys x))))
    → ((x : ℕ) → on_line new x ≡ (on_line old x || (leb from x && ltb x (low (get_or ys j d)))))
    → (x : ℕ) → on_line new x ≡ (ltb x g && (on_line xs x && not (on_line ys x)))
gap_piece xs ys old new i j d f from g ix iy h k past_x past_y meets is_from is_g some o n x =
    let s = get_or xs i d in
    let t = get_or ys j d in
    let up = low_high t (iy.each j d k) in
    let us = low_high s (ix.each i d h) in
    settle x f g (on_line old x) (on_line new x) (leb from x && ltb x (low t)) (on_line xs x && not (on_line ys x)) (o x) (n x) (omega arith)
    (λ less. gap_low from (low t) x (omega arith))
    (λ more less. elim (cases_lt (high t) x) [
      | inl behind ↦ rw (line_at xs i d x ix h (past_more xs i f x past_x more) (omega arith)) (gap_bool_3 (low s) f from (low t) x (not (on_line ys x)) is_from (omega arith))
      | inr in_t ↦ rw (line_at ys j d x iy k (past_more ys j f x past_y more) in_t) (elim (cases_lt (high s) x) [
        | inl over ↦ gap_bool_2 from (low t) x (on_line xs x) (omega arith)
        | inr within ↦ rw (line_at xs i d x ix h (past_more xs i f x past_x more) within) (gap_bool_1 (low s) f from (low t) x is_from more)
      ])
    ])
    (λ past. gap_high from (low t) x (omega arith))

-- all of the set is settled
pub settled : (xs ys zs : List Interval) (i f : ℕ) → length xs ≤ i → AllWithin (λ s. high s < f) xs 0 i
    → ((x : ℕ) → on_line zs x ≡ (ltb x f && (on_line xs x && not (on_line ys x)))) → (x : ℕ) → on_line zs x ≡ (on_line xs x && not (on_line ys x))
settled xs ys zs i f h past has x =
    elim (cases_lt x f) [
      | inl less ↦ has x ∙ (rw (lt-ltb x f less) refl)
      | inr more ↦
          let none : on_line xs x ≡ false = line_past xs x (λ k d l r. let p = past k d l (omega arith) in omega arith) in
          has x ∙ (rw (le-ltb x f more, none) refl)
    ]

-- the part of an interval from a pair on
pub part_is : (s : Interval) (u n : ℕ) → IsInterval s → n < 2 ^ 64 → low s ≤ point u n → point u n ≤ high s → IsInterval (record { uuid = s.uuid; first = n; last = s.last })
part_is s u n is fits l h =
    let a = is.rises in let b = is.in_range in
    let w = point_within s.uuid s.first u n s.last (omega arith) fits (omega arith) l h in
    let c = is.above_zero in
    record { uuid_fits = is.uuid_fits; above_zero = omega arith; rises = w.2; in_range = is.in_range }

pub part_low : (s : Interval) (u n : ℕ) → IsInterval s → n < 2 ^ 64 → low s ≤ point u n → point u n ≤ high s → point s.uuid n ≡ point u n
part_low s u n is fits l h =
    let a = is.rises in let b = is.in_range in
    let w = point_within s.uuid s.first u n s.last (omega arith) fits (omega arith) l h in
    subst (λ (v : ℕ). point s.uuid n ≡ point v n) w.0 refl

-- the part of an interval from a pair on and before another interval
pub record IsGap (s t : Interval) (from n : ℕ) : Type 0 where
  pub is : IsInterval (record { uuid = s.uuid; first = n; last = t.first - 1 })
  pub begins : point s.uuid n ≡ from
  pub ends : point s.uuid (t.first - 1) + 1 ≡ low t

pub gap_is : (s t : Interval) (u n : ℕ) → IsInterval s → IsInterval t → n < 2 ^ 64 → low s ≤ point u n → point u n < low t → low t ≤ high s → IsGap s t (point u n) n
gap_is s t u n is it fits l r m =
    let a = is.rises in let b = is.in_range in let c = it.rises in let e = it.in_range in let z = it.above_zero in let y = is.above_zero in
    let w = point_within s.uuid s.first u n s.last (omega arith) fits (omega arith) l (omega arith) in
    let v = point_within s.uuid s.first t.uuid t.first s.last (omega arith) (omega arith) (omega arith) (omega arith) m in
    let begins : point s.uuid n ≡ point u n = subst (λ (p : ℕ). point s.uuid n ≡ point p n) w.0 refl in
    let at : point s.uuid t.first ≡ low t = subst (λ (p : ℕ). point s.uuid t.first ≡ point p t.first) v.0 refl in
    let up : point s.uuid (t.first - 1 + 1) ≡ point s.uuid (t.first - 1) + 1 = point_behind s.uuid (t.first - 1) in
    let same : t.first - 1 + 1 ≡ t.first = omega arith in
    let ends : point s.uuid (t.first - 1) + 1 ≡ low t = sym up ∙ (ap (point s.uuid) same ∙ at) in
    let less : n < t.first = elim (cases_lt n t.first) [
      | inl h ↦ h
      | inr h ↦ let k = point_rises s.uuid t.first n h in absurd (omega arith)
    ] in
    record {
      is = record { uuid_fits = is.uuid_fits; above_zero = omega arith; rises = omega arith; in_range = omega arith };
      begins = begins;
      ends = ends;
    }

pub gap_test : (a b s t x : ℕ) → a ≡ s → b + 1 ≡ t → (leb a x && leb x b) ≡ (leb s x && ltb x t)
gap_test a b s t x e f = grind (arith, nat_tests)

-- the empty set, as nothing is settled yet
pub none_before : (zs : List Interval) (x : ℕ) (want : Bool) → zs ≡ [] → on_line zs x ≡ (ltb x (point 0 0) && want)
unfolding point
none_before zs x want e = subst (λ (ys : List Interval). on_line ys x ≡ (ltb x 0 && want)) (sym e) (rw (le-ltb x 0 (omega arith)) refl)
