-- A book has no row in the table of recoveries.
use Rattle.std.proofs.Common.{◌≡◌, ℕ, ◌+◌, ◌*◌, ◌<◌, ◌≤◌, ◌^◌, false, List, [], ◌∷◌, ◌++◌, All, None, refl, sym, ap, ◌∙◌, append_assoc, arith, ◌==◌}
use Rattle.instance_keeper.proofs.Prelude.{All-append, All-head, All-tail, All-weaker, BookState, IsBook, Row, book_rows, row_in, sort_key_of}
use Rattle.instance_keeper.proofs.BookLaws.{first, last, last_low, second, third, to_third}

abbrev Elsewhere : ℕ → Row → Type 0
Elsewhere p r = (sort_key_of r == p) ≡ false

pub below : (p k : ℕ) → k < p → (k == p) ≡ false
below p k h = grind arith

pub above : (p k : ℕ) → p < k → (k == p) ≡ false
above p k h = grind arith

pub row_in-elsewhere : (rows : List Row) (p : ℕ) → All (Elsewhere p) rows → row_in rows p ≡ None
row_in-elsewhere [] p all = refl
row_in-elsewhere (r ∷ rows) p all = rw (All-head (Elsewhere p) r rows all) (row_in-elsewhere rows p (All-tail (Elsewhere p) r rows all))

pub no_recovery : (b : BookState) → IsBook b → (p : ℕ) → 4 * 2 ^ 65 ≤ p → p < 5 * 2 ^ 65 → row_in (book_rows b) p ≡ None
no_recovery b is p low high =
    let front : All (Elsewhere p) ((first b is ++ second b is) ++ third b is) =
    All-weaker (λ r. sort_key_of r < 3 * 2 ^ 65 + 2 ^ 32) (Elsewhere p) (λ r h. below p (sort_key_of r) (omega (arith, h, low))) ((first b is ++ second b is) ++ third b is) (to_third b is) in
    let back : All (Elsewhere p) (last b is) =
    All-weaker (λ r. 5 * 2 ^ 65 ≤ sort_key_of r) (Elsewhere p) (λ r h. above p (sort_key_of r) (omega (arith, h, high))) (last b is) (last_low b is (5 * 2 ^ 65) (omega arith)) in
    let all = All-append (Elsewhere p) ((first b is ++ second b is) ++ third b is) (last b is) front back in
    let rows : ((first b is ++ second b is) ++ third b is) ++ last b is ≡ book_rows b =
    ap (λ (xs : List Row). xs ++ last b is) (append_assoc (first b is) (second b is) (third b is))
    ∙ append_assoc (first b is) (second b is ++ third b is) (last b is)
    ∙ ap (λ (xs : List Row). first b is ++ xs) (append_assoc (second b is) (third b is) (last b is)) in
    ap (λ (xs : List Row). row_in xs p) (sym rows) ∙ row_in-elsewhere (((first b is ++ second b is) ++ third b is) ++ last b is) p all
