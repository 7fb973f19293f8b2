-- Lists and objects, item by item.
use Rattle.scenario_generator.proofs.Reading.{regroup}
use Rattle.std.proofs.Common.{◌≡◌, ◌∙◌, ◌≤◌, ℕ, suc, ◌+◌, ◌-◌, Bool, true, false, ◌||◌, ◌∷◌, List, [], ◌++◌, length, drop, sym, ap, ap₂, refl, arith, Some, nat_lt, slice_get, replicate}
use Rattle.scenario_dump.proofs.Prelude.{Data, comma_if, common_steps, compact_text, count_data, drop_all, items_of, items_text, slice_get-drop}

some_behind : (n : ℕ) → nat_lt 0 (n + 1) ≡ true
some_behind n = grind (arith, common_steps)

-- ---- lists

pub list_goes_on : {A : Type 0} (f : A → Data) (xs : List A) (n : ℕ) (x : A) (out new text whole : List ℕ) → slice_get xs n ≡ Some x → compact_text (f x) ≡ text → new ≡ out ++ (comma_if (nat_lt 0 n) ++ text)
    → out ++ items_text (nat_lt 0 n) (items_of f (drop n xs)) ≡ whole → new ++ items_text (nat_lt 0 (n + 1)) (items_of f (drop (n + 1) xs)) ≡ whole
list_goes_on f xs n x out new text whole there is added before =
    let more = drop (n + 1) xs in
    ap₂ (λ (v : List ℕ) (b : Bool). v ++ items_text b (items_of f more)) added (some_behind n)
    ∙ (regroup out (comma_if (nat_lt 0 n)) text (items_text true (items_of f more))
    ∙ (ap (λ (v : List ℕ). out ++ (comma_if (nat_lt 0 n) ++ (v ++ items_text true (items_of f more)))) (sym is)
    ∙ (ap (λ ys. out ++ items_text (nat_lt 0 n) (items_of f ys)) (sym (slice_get-drop xs n x there)) ∙ before)))

pub list_ends : {A : Type 0} (f : A → Data) (xs : List A) (n : ℕ) (out new whole : List ℕ) → length xs ≤ n → new ≡ out ++ 93 ∷ [] → out ++ items_text (nat_lt 0 n) (items_of f (drop n xs)) ≡ whole → new ≡ whole
list_ends f xs n out new whole all e before = e ∙ (ap (λ ys. out ++ items_text (nat_lt 0 n) (items_of f ys)) (sym (drop_all n xs all)) ∙ before)

-- ---- a count so many times

-- one of them, and the rest
pub repeated_goes_on : (count times n : ℕ) (later : Bool) (rest out new whole : List ℕ) → suc n ≤ times → new ≡ out ++ (comma_if (later || nat_lt 0 n) ++ compact_text (count_data count))
    → out ++ items_text (later || nat_lt 0 n) (items_of count_data (replicate (times - n) count ++ rest)) ≡ whole → new ++ items_text (later || nat_lt 0 (n + 1)) (items_of count_data (replicate (times - (n + 1)) count ++ rest)) ≡ whole
repeated_goes_on count times n later rest out new whole within added before =
    let one : times - n ≡ suc (times - (n + 1)) = omega arith in
    let more = items_of count_data (replicate (times - (n + 1)) count ++ rest) in
    let some : (later || nat_lt 0 (n + 1)) ≡ true = rw (some_behind n) (any_true later) in
    ap₂ (λ (v : List ℕ) (b : Bool). v ++ items_text b more) added some
    ∙ (regroup out (comma_if (later || nat_lt 0 n)) (compact_text (count_data count)) (items_text true more)
    ∙ (ap (λ k. out ++ items_text (later || nat_lt 0 n) (items_of count_data (replicate k count ++ rest))) (sym one) ∙ before))
  where
    any_true : (b : Bool) → (b || true) ≡ true
    any_true true = refl
    any_true false = refl
