-- The intervals of a set beside a pair: which are before it, which after.
use Rattle.gtid_sets.proofs.Prelude.{All, AllWithin, Interval, IsInterval, IsSet, Misses, OnFalse, between, cases_lt, false≢true, get_or_default}
use Rattle.gtid_sets.proofs.Prelude.{high, holds, le-leb as at_or_above, list_any_at, list_any_none, low, lt-leb as not_above, nat_tests, on_line}
use Rattle.gtid_sets.proofs.Prelude.{point, spans, take_all}
use Rattle.std.proofs.Common.{◌≡◌, ℕ, ◌+◌, ◌^◌, ◌<◌, ◌≤◌, inl, inr, Bool, true, false, ltb, leb, not, List, [], ◌∷◌, length, get_or, take, refl, sym, ◌∙◌, subst, arith, ◌&&◌, ◌||◌}
use Rattle.gtid_sets.proofs.Line.{low_high, point_rises, point_within, point_behind}
use Rattle.gtid_sets.proofs.Points.{holds_line, holds_past, rises, rise_highs}

inside : (a b x : ℕ) → a ≤ x → x ≤ b → (leb a x && leb x b) ≡ true
inside a b x l r = grind (arith, nat_tests)

pub below : (a b x : ℕ) → x < a → (leb a x && leb x b) ≡ false
below a b x l = grind (arith, nat_tests)

pub above : (a b x : ℕ) → b < x → (leb a x && leb x b) ≡ false
above a b x l = grind (arith, nat_tests)

-- all intervals below i end before x, and the one at i does not
pub line_at : (xs : List Interval) (i : ℕ) (d : Interval) (x : ℕ) → IsSet xs → i < length xs → AllWithin (λ s. high s < x) xs 0 i → x ≤ high (get_or xs i d)
    → on_line xs x ≡ leb (low (get_or xs i d)) x
line_at xs i d x is h past up =
    elim (cases_lt x (low (get_or xs i d))) [
      | inl before ↦
          let none : All (λ s. between x s ≡ false) xs = λ k e r. elim (cases_lt k i) [
            | inl less ↦ let p = past k e (omega arith) less in above (low (get_or xs k e)) (high (get_or xs k e)) x p
            | inr more ↦ let p = rises xs i d is h k e more r in below (low (get_or xs k e)) (high (get_or xs k e)) x (omega arith)
          ] in
          list_any_none (between x) xs none ∙ sym (not_above _ _ before)
      | inr from ↦ list_any_at (between x) xs i d h (inside (low (get_or xs i d)) (high (get_or xs i d)) x from up) ∙ sym (at_or_above _ _ from)
    ]

pub line_past : (xs : List Interval) (x : ℕ) → AllWithin (λ s. high s < x) xs 0 (length xs) → on_line xs x ≡ false
line_past xs x past =
    list_any_none (between x) xs (λ k e r. let p = past k e (omega arith) r in above (low (get_or xs k e)) (high (get_or xs k e)) x p)

pub holds_at : {a b c : Bool} → a ≡ b → c ≡ b → c ≡ a
holds_at e f = f ∙ sym e

not_less : (x a : ℕ) → not (ltb x a) ≡ leb a x
not_less x a = grind (arith, nat_tests)

-- one step of a search by halves
pub ends_before : (xs : List Interval) (i : ℕ) (d : Interval) (x : ℕ) → IsSet xs → i < length xs → high (get_or xs i d) < x → AllWithin (λ s. high s < x) xs 0 (i + 1)
ends_before xs i d x is h less = λ k e l r.
    let up = rise_highs xs k i e is (omega arith) h in
    let same : get_or xs i d ≡ get_or xs i e = get_or_default xs i d e h in
    let here : high (get_or xs i e) < x = subst (λ (t : Interval). high t < x) same less in
    omega arith

pub ends_behind : (xs : List Interval) (i : ℕ) (d : Interval) (x : ℕ) → IsSet xs → i < length xs → x ≤ high (get_or xs i d) → AllWithin (λ s. x ≤ high s) xs i (length xs)
ends_behind xs i d x is h more = λ k e l r.
    let up = rise_highs xs i k e is l r in
    let same : get_or xs i d ≡ get_or xs i e = get_or_default xs i d e h in
    let here : x ≤ high (get_or xs i e) = subst (λ (t : Interval). x ≤ high t) same more in
    omega arith

first_in : (s : Interval) → IsInterval s → spans s.uuid s.first s ≡ true
first_in s is = let r = is.rises in grind (arith, nat_tests)

pub misses_all : (xs : List Interval) (i : ℕ) (s : Interval) → IsSet xs → IsInterval s → length xs ≤ i → AllWithin (λ t. high t < low s) xs 0 i → Misses xs s
misses_all xs i s is it out past =
    let a = it.rises in let b = it.in_range in
    (s.first, first_in s it, holds_line xs s.uuid s.first is.each (omega arith) ∙ line_past xs (low s) (λ k d l r. past k d l (omega arith)))

pub misses_first : (xs : List Interval) (i : ℕ) (d s : Interval) → IsSet xs → IsInterval s → i < length xs → AllWithin (λ t. high t < low s) xs 0 i
    → low s < low (get_or xs i d) → Misses xs s
misses_first xs i d s is it h past before =
    let a = it.rises in let b = it.in_range in
    let up = low_high (get_or xs i d) (is.each i d h) in
    (s.first, first_in s it, holds_line xs s.uuid s.first is.each (omega arith) ∙ (line_at xs i d (low s) is h past (omega arith) ∙ not_above _ _ before))

-- the set has nothing just after an interval
behind_none : (xs : List Interval) (i : ℕ) (d : Interval) (x : ℕ) → IsSet xs → i < length xs → x ≡ high (get_or xs i d) + 1 → on_line xs x ≡ false
behind_none xs i d x is h at =
    list_any_none (between x) xs (λ k e r. elim (cases_lt i k) [
      | inl less ↦
          let gap = is.apart i k d less r in
          let same : get_or xs k d ≡ get_or xs k e = get_or_default xs k d e r in
          subst (λ (t : Interval). between x t ≡ false) same (below (low (get_or xs k d)) (high (get_or xs k d)) x (omega arith))
      | inr more ↦
          let up = rise_highs xs k i d is more h in
          let same : get_or xs k d ≡ get_or xs k e = get_or_default xs k d e r in
          subst (λ (t : Interval). between x t ≡ false) same (above (low (get_or xs k d)) (high (get_or xs k d)) x (omega arith))
    ])

middle_in : (s : Interval) (n : ℕ) → s.first ≤ n → n ≤ s.last → spans s.uuid n s ≡ true
middle_in s n l r = grind (arith, nat_tests)

pub misses_last : (xs : List Interval) (i : ℕ) (d s : Interval) → IsSet xs → IsInterval s → i < length xs
    → low (get_or xs i d) ≤ low s → low s ≤ high (get_or xs i d) → high (get_or xs i d) < high s → Misses xs s
misses_last xs i d s is it h l r less =
    let t = get_or xs i d in
    let ti = is.each i d h in
    let a = it.rises in let b = it.in_range in let e = ti.rises in let f = ti.in_range in
    let w = point_within t.uuid t.first s.uuid s.first t.last (omega arith) (omega arith) (omega arith) l r in
    let same : t.uuid ≡ s.uuid = w.0 in
    let at : point s.uuid (t.last + 1) ≡ high t + 1 = point_behind s.uuid t.last ∙ subst (λ (u : ℕ). point s.uuid t.last + 1 ≡ point u t.last + 1) (sym same) refl in
    let end : t.last < s.last = elim (cases_lt t.last s.last) as (λ v. t.last < s.last) [
      | inl less2 ↦ less2
      | inr past ↦ let up = point_rises s.uuid s.last t.last past in let k : point t.uuid t.last ≡ point s.uuid t.last = subst (λ (u : ℕ). point t.uuid t.last ≡ point u t.last) same refl in absurd (omega arith)
    ] in
    (t.last + 1, middle_in s (t.last + 1) (omega arith) (omega arith), holds_line xs s.uuid (t.last + 1) is.each (omega arith) ∙ behind_none xs i d (point s.uuid (t.last + 1)) is h at)

pub on_false_not : {P : Type 0} (r b : Bool) → r ≡ b → (b ≡ true → P) → OnFalse (not r) P
on_false_not true b e f = f (sym e)
on_false_not false b e f = tt

either : {P : Type 0} (a b : Bool) → (a ≡ true → P) → (b ≡ true → P) → (a || b) ≡ true → P
either true b f g e = f refl
either false b f g e = g e

-- all parts are in the set
pub parts_held : (ps xs : List Interval) → IsSet ps → IsSet xs → ((x : ℕ) → on_line ps x ≡ true → on_line xs x ≡ true)
    → (u n : ℕ) → holds ps u n ≡ true → holds xs u n ≡ true
parts_held ps xs ip ix all u n on =
    elim (cases_lt n (2 ^ 64)) [
      | inl fits ↦ holds_line xs u n ix.each fits ∙ all (point u n) (sym (holds_line ps u n ip.each fits) ∙ on)
      | inr past ↦ absurd (false≢true (sym (holds_past ps u n ip.each past) ∙ on))
    ]

pub none_held : (xs : List Interval) → IsSet xs → ((u n : ℕ) → holds xs u n ≡ false) → xs ≡ []
none_held [] is none = refl
none_held (s ∷ xs) is none =
    let it = is.each 0 s (omega arith) in
    absurd (false≢true (sym (none s.uuid s.first) ∙ list_any_at (spans s.uuid s.first) (s ∷ xs) 0 s (omega arith) (first_in s it)))

pub same_point : {u v n m : ℕ} → u ≡ v → n ≡ m → point u n ≡ point v m
same_point {u} {v} {n} {m} e f = subst (λ (w : ℕ). point u n ≡ point w m) e (subst (λ (k : ℕ). point u n ≡ point u k) f refl)

-- the search finds no interval
pub found_not : (xs : List Interval) (i u n : ℕ) → IsSet xs → n < 2 ^ 64 → length xs ≤ i → AllWithin (λ s. high s < point u n) xs 0 i → holds xs u n ≡ false
found_not xs i u n is fits out past = holds_line xs u n is.each fits ∙ line_past xs (point u n) (λ k d l r. past k d l (omega arith))

pub found_at : (xs : List Interval) (i : ℕ) (d : Interval) (u n : ℕ) → IsSet xs → n < 2 ^ 64 → i < length xs → AllWithin (λ s. high s < point u n) xs 0 i
    → AllWithin (λ s. point u n ≤ high s) xs i (length xs) → not (ltb (point u n) (low (get_or xs i d))) ≡ holds xs u n
found_at xs i d u n is fits h past up =
    holds_at (holds_line xs u n is.each fits) (not_less _ _ ∙ sym (line_at xs i d (point u n) is h past (up i d (omega arith) h)))

pub parts_all : (ps xs : List Interval) (i : ℕ) → length ps ≤ i → ((x : ℕ) → on_line (take i ps) x ≡ true → on_line xs x ≡ true) → (x : ℕ) → on_line ps x ≡ true → on_line xs x ≡ true
parts_all ps xs i h all x = subst (λ (qs : List Interval). on_line qs x ≡ true → on_line xs x ≡ true) (take_all i ps h) (all x)
