-- Two sets that have the same pairs have the same intervals.
use Rattle.gtid_sets.proofs.Inserts.{set_above, set_head}
use Rattle.gtid_sets.proofs.Count.{set_tail as set_rest}
use Rattle.gtid_sets.proofs.Prelude.{All, Interval, IsInterval, IsSet, between, cases_lt, false≢true, high, holds, low, nat_tests, on_line}
use Rattle.gtid_sets.proofs.Prelude.{or_left as or_first, point}
use Rattle.std.proofs.Common.{◌≡◌, ℕ, suc, ◌+◌, ◌/◌, ◌%◌, ◌^◌, ◌<◌, ◌≤◌, true, false, leb, List, [], ◌∷◌, inl, inr, refl, sym, ap, ◌∙◌, subst, arith, ◌&&◌}
use Rattle.gtid_sets.proofs.Line.{low_high}
use Rattle.gtid_sets.proofs.Points.{holds_line}

not_between : (x l h : ℕ) → x < l → (leb l x && leb x h) ≡ false
not_between x l h less = grind (arith, nat_tests)

past_between : (x l h : ℕ) → h < x → (leb l x && leb x h) ≡ false
past_between x l h less = grind (arith, nat_tests)

in_between : (x l h : ℕ) → l ≤ x → x ≤ h → (leb l x && leb x h) ≡ true
in_between x l h a b = grind (arith, nat_tests)

-- no point before the first of the intervals is on one
below_none : (m x : ℕ) (xs : List Interval) → All (λ t. m < low t) xs → x ≤ m → on_line xs x ≡ false
below_none m x [] above h = refl
below_none m x (t ∷ xs) above h =
    let here : m < low t = above 0 t (omega arith) in
    let none : between x t ≡ false = not_between x (low t) (high t) (omega (arith, here, h)) in
    let more : on_line xs x ≡ false = below_none m x xs (λ k d within. above (suc k) d (omega (arith, within))) h in
    rw (none, more) refl

front_none : (x : ℕ) (t : Interval) (ys : List Interval) → IsSet (t ∷ ys) → x < low t → on_line (t ∷ ys) x ≡ false
front_none x t ys is less =
    let none : between x t ≡ false = not_between x (low t) (high t) less in
    let order = low_high t (set_head t ys is) in
    let more : on_line ys x ≡ false = below_none (high t + 1) x ys (set_above t ys is) (omega (arith, less, order)) in
    rw (none, more) refl

head_on : (x : ℕ) (s : Interval) (xs : List Interval) → low s ≤ x → x ≤ high s → on_line (s ∷ xs) x ≡ true
head_on x s xs a b = or_first (between x s) (on_line xs x) (in_between x (low s) (high s) a b)

low_order : (s t : Interval) (xs ys : List Interval) → IsSet (s ∷ xs) → IsSet (t ∷ ys) → ((x : ℕ) → on_line (s ∷ xs) x ≡ on_line (t ∷ ys) x) → low t ≤ low s
low_order s t xs ys is it same = elim (cases_lt (low s) (low t)) [
  | inl less ↦
      let on = head_on (low s) s xs (omega arith) (low_high s (set_head s xs is)) in
      absurd (false≢true (sym (front_none (low s) t ys it less) ∙ (sym (same (low s)) ∙ on)))
  | inr more ↦ more
]

gap_none : (s : Interval) (xs : List Interval) → IsSet (s ∷ xs) → on_line (s ∷ xs) (high s + 1) ≡ false
gap_none s xs is =
    let none : between (high s + 1) s ≡ false = past_between (high s + 1) (low s) (high s) (omega arith) in
    let more : on_line xs (high s + 1) ≡ false = below_none (high s + 1) (high s + 1) xs (set_above s xs is) (omega arith) in
    rw (none, more) refl

high_order : (s t : Interval) (xs ys : List Interval) → IsSet (s ∷ xs) → low t ≤ low s → ((x : ℕ) → on_line (s ∷ xs) x ≡ on_line (t ∷ ys) x) → high t ≤ high s
high_order s t xs ys is order same = elim (cases_lt (high s) (high t)) [
  | inl less ↦
      let rises = low_high s (set_head s xs is) in
      let on = head_on (high s + 1) t ys (omega (arith, order, rises)) (omega (arith, less)) in
      absurd (false≢true (sym (gap_none s xs is) ∙ (same (high s + 1) ∙ on)))
  | inr more ↦ more
]

abbrev made : ℕ → ℕ → ℕ → Interval
made u f l = record { uuid = u; first = f; last = l }

fields_same : (u f l v g m : ℕ) → u ≡ v → f ≡ g → l ≡ m → made u f l ≡ made v g m
fields_same u f l v g m a b c = rw (a, b, c) refl

fits : (s : Interval) → IsInterval s → (s.first < 2 ^ 64) × (s.last < 2 ^ 64)
fits s is = let a = is.rises in let b = is.in_range in (omega (arith, a, b), omega (arith, b))

point_same : (u n v m : ℕ) → n < 2 ^ 64 → m < 2 ^ 64 → point u n ≡ point v m → (u ≡ v) × (n ≡ m)
unfolding point
point_same u n v m a b e = (omega (arith, a, b, e), omega (arith, a, b, e))

ends_same : (s t : Interval) → IsInterval s → IsInterval t → low s ≡ low t → high s ≡ high t → s ≡ t
ends_same s t is it a b =
    let first = point_same s.uuid s.first t.uuid t.first (fits s is).0 (fits t it).0 a in
    let last = point_same s.uuid s.last t.uuid t.last (fits s is).1 (fits t it).1 b in
    fields_same s.uuid s.first s.last t.uuid t.first t.last first.0 first.1 last.1

rest_same : (s : Interval) (xs ys : List Interval) → IsSet (s ∷ xs) → IsSet (s ∷ ys) → ((x : ℕ) → on_line (s ∷ xs) x ≡ on_line (s ∷ ys) x) → (x : ℕ) → on_line xs x ≡ on_line ys x
rest_same s xs ys is it same x = elim (cases_lt (high s + 1) x) [
  | inl less ↦
      let none : between x s ≡ false = past_between x (low s) (high s) (omega (arith, less)) in
      let all = same x in
      rw none at all
  | inr more ↦ below_none (high s + 1) x xs (set_above s xs is) more ∙ sym (below_none (high s + 1) x ys (set_above s ys it) more)
]

some_on : (t : Interval) (ys : List Interval) → IsSet (t ∷ ys) → on_line (t ∷ ys) (low t) ≡ true
some_on t ys it = head_on (low t) t ys (omega arith) (low_high t (set_head t ys it))

line_same : (xs ys : List Interval) → IsSet xs → IsSet ys → ((x : ℕ) → on_line xs x ≡ on_line ys x) → xs ≡ ys
line_same [] [] is it same = refl
line_same [] (t ∷ ys) is it same = absurd (false≢true (same (low t) ∙ some_on t ys it))
line_same (s ∷ xs) [] is it same = absurd (false≢true (sym (same (low s)) ∙ some_on s xs is))
line_same (s ∷ xs) (t ∷ ys) is it same =
    let back : (x : ℕ) → on_line (t ∷ ys) x ≡ on_line (s ∷ xs) x = λ x. sym (same x) in
    let a = low_order s t xs ys is it same in
    let b = low_order t s ys xs it is back in
    let c = high_order s t xs ys is a same in
    let d = high_order t s ys xs it b back in
    let one : s ≡ t = ends_same s t (set_head s xs is) (set_head t ys it) (omega (arith, a, b)) (omega (arith, c, d)) in
    let it_too : IsSet (s ∷ ys) = subst (λ (r : Interval). IsSet (r ∷ ys)) (sym one) it in
    let same_too : (x : ℕ) → on_line (s ∷ xs) x ≡ on_line (s ∷ ys) x = subst (λ (r : Interval). (x : ℕ) → on_line (s ∷ xs) x ≡ on_line (r ∷ ys) x) (sym one) same in
    ap (λ (zs : List Interval). s ∷ zs) (line_same xs ys (set_rest s xs is) (set_rest t ys it) (rest_same s xs ys is it_too same_too)) ∙ ap (λ (r : Interval). r ∷ ys) one

point_split : (x : ℕ) → point (x / 2 ^ 64) (x % 2 ^ 64) ≡ x
unfolding point
point_split x = omega arith

split_small : (x : ℕ) → x % 2 ^ 64 < 2 ^ 64
split_small x = omega arith

pub same_sets_lem : (xs ys : List Interval) → IsSet xs → IsSet ys → ((uuid n : ℕ) → holds xs uuid n ≡ holds ys uuid n) → xs ≡ ys
same_sets_lem xs ys is it same = line_same xs ys is it (λ x.
    let u = x / 2 ^ 64 in
    let n = x % 2 ^ 64 in
    let at : on_line xs (point u n) ≡ on_line ys (point u n) = sym (holds_line xs u n is.each (split_small x)) ∙ (same u n ∙ holds_line ys u n it.each (split_small x)) in
    subst (λ (y : ℕ). on_line xs y ≡ on_line ys y) (point_split x) at)
