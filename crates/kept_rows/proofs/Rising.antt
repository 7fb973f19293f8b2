-- Rows that rise already are their own map.
use Rattle.std.proofs.Common.{◌≡◌, ◌∙◌, ℕ, suc, zero, ◌+◌, ◌-◌, ◌<◌, Bool, true, false, List, [], ◌∷◌, ◌++◌, length, get_or, All, sym, ap, subst, append-nil, arith, fold, nat_lt}
use Rattle.kept_rows.proofs.Prelude.{All-append, All-cons, All-head, All-nil, All-tail, All-weaker, AllAdjacentBelow, AllPairs, IsAllAdjacentAnswer}
use Rattle.kept_rows.proofs.Prelude.{IsRising, OnTrue, Row, append_assoc, ltb-true, map_of, put, sort_key_of}
use Rattle.kept_rows.proofs.Lists.{pairs_head, pairs_tail}
use Rattle.kept_rows.proofs.SortKeys.{put_last}

abbrev Before : Row → Row → Type 0
Before a b = sort_key_of a < sort_key_of b

puts_behind : (front rows : List Row) → All (λ x. All (Before x) rows) front → AllPairs Before rows → fold put front rows ≡ front ++ rows
puts_behind front [] across rises = sym (append-nil front)
puts_behind front (r ∷ rows) across rises =
    let below = All-weaker (λ x. All (Before x) (r ∷ rows)) (λ x. Before x r) (λ x h. All-head (Before x) r rows h) front across in
    let more =
    All-append (λ x. All (Before x) rows) front (r ∷ [])
    (All-weaker (λ x. All (Before x) (r ∷ rows)) (λ x. All (Before x) rows) (λ x h. All-tail (Before x) r rows h) front across)
    (All-cons (λ x. All (Before x) rows) r [] (pairs_head Before r rows rises) (All-nil (λ x. All (Before x) rows))) in
    ap (λ (xs : List Row). fold put xs rows) (put_last front r below)
    ∙ puts_behind (front ++ r ∷ []) rows more (pairs_tail Before r rows rises) ∙ append_assoc front (r ∷ []) rows

pub map_of-risen : (rows : List Row) → IsRising rows → map_of rows ≡ rows
map_of-risen rows rising = puts_behind [] rows (All-nil (λ x. All (Before x) rows)) rising.apart

pub given_back : (rows given : List Row) → IsRising rows → given ≡ rows → map_of given ≡ rows
given_back rows given rising e = ap map_of e ∙ map_of-risen rows rising

steps : (rows : List Row) → AllAdjacentBelow (λ x y. true ≡ nat_lt (sort_key_of x) (sort_key_of y)) rows (length rows)
    → (i n : ℕ) (d : Row) → i + suc n < length rows → sort_key_of (get_or rows i d) < sort_key_of (get_or rows (i + suc n) d)
steps rows each i zero d within = ltb-true _ _ (sym (each i d within))
steps rows each i (suc n) d within =
    let before = steps rows each i n d (omega (arith, within)) in
    let next = ltb-true _ _ (sym (each (i + suc n) d (omega (arith, within)))) in
    let at : i + suc n + 1 ≡ i + suc (suc n) = omega arith in
    subst (λ k. sort_key_of (get_or rows i d) < sort_key_of (get_or rows k d)) at (omega (arith, before, next))

-- if each row is before the next, the rows rise
pub adjacent_rise : (rows : List Row) (b : Bool) → IsAllAdjacentAnswer (λ x y b. b ≡ nat_lt (sort_key_of x) (sort_key_of y)) rows b → OnTrue b (IsRising rows)
adjacent_rise rows true each = record {
  apart = λ i j d less within.
      let there : j ≡ i + suc (j - suc i) = omega (arith, less) in
      subst (λ k. sort_key_of (get_or rows i d) < sort_key_of (get_or rows k d)) (sym there) (steps rows each i (j - suc i) d (omega (arith, less, within)));
}
adjacent_rise rows false not_each = tt
