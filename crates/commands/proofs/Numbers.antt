-- Numbers and durations.
use Rattle.server_words.proofs.GtidSets.RoundTrip.{same_digits as all_digits}
use Rattle.server_words.proofs.OrchBase.NameLemmas.{by_tests, own}
use Rattle.std.proofs.Common.{◌≡◌, ◌≢◌, ℕ, ◌-◌, ◌^◌, ◌≤◌, Bool, true, false, cond, eqb, List, [], ◌∷◌, ◌++◌, length, drop, take, Option, Some, None, Result, Bor, refl, sym, ap, subst, ◌∙◌, arith, leb, ltb, length-append, ◌&&◌, option_map, nat_le}
use Rattle.std.specs.Char.{is_ascii_digit}
use Rattle.std.specs.List.{list_all}
use Rattle.std.specs.Option.{MatchOption}
use Rattle.std.specs.Result.{result_ok}
use Rattle.std.specs.Str.{all_ascii_digits}
use Rattle.std.specs.Str.Parse.{ParsesUnsigned, digits_value}
use Rattle.std.specs.Cmp.Lexicographic.{pointwise, same_text, nat_list_eq_equiv}
use Rattle.std.proofs.lemmas.Bool.{and_parts, le-leb, leb-true, lt-ltb, ltb-true}
use Rattle.std.proofs.lemmas.List.{drop_at, take_at, take-append-drop}
use Rattle.std.proofs.lemmas.Str.Parse.{parse_digits}
use Rattle.commands.specs.Values.{before, number_at, within}

third_holds : (a b c : Bool) → b ≡ true → (a && c) ≡ (a && b && c)
third_holds true true c e = refl
third_holds false b c e = refl
third_holds true false c e = absurd cc

one_fails : (a b c : Bool) → b ≡ false → (a && b && c) ≡ false
one_fails true true c e = absurd cc
one_fails false b c e = refl
one_fails true false c e = refl

pub number_at-parse : {E : Type 0} (bs : List ℕ) (r : Result ℕ E) → list_all is_ascii_digit bs ≡ true → ParsesUnsigned 64 10 bs r → result_ok r ≡ number_at bs
number_at-parse bs r digits h =
    let all : all_ascii_digits bs ≡ true = sym (all_digits bs) ∙ digits in
    let tests = by_tests (leb 1 (length bs)) (ltb (digits_value 10 bs) (2 ^ 64)) (digits_value 10 bs) r _ (parse_digits own 64 bs r h all)
    (λ p. (le-leb _ _ (omega arith), lt-ltb _ _ (omega arith)))
    (λ some small. (omega (arith, leb-true _ _ some), omega (arith, ltb-true _ _ small))) in
    tests ∙ ap (λ (b : Bool). cond b (Some (digits_value 10 bs)) None) (third_holds (leb 1 (length bs)) (all_ascii_digits bs) (ltb (digits_value 10 bs) (2 ^ 64)) all)

-- a text with another byte is no number
pub number_at-other : (bs : List ℕ) → list_all is_ascii_digit bs ≡ false → number_at bs ≡ None
number_at-other bs other =
    ap (λ (b : Bool). cond b (Some (digits_value 10 bs)) None) (one_fails (leb 1 (length bs)) (all_ascii_digits bs) (ltb (digits_value 10 bs) (2 ^ 64)) (sym (all_digits bs) ∙ other))

-- ---- a letter at the end

fits : (x : List ℕ) (c n : ℕ) → length (x ++ c ∷ []) ≡ n → length x ≡ n - 1
fits x c n e = omega (arith, e, length-append x (c ∷ []))

-- a text that ends with the letter
ends : (c : ℕ) (x : List ℕ) → before c (x ++ c ∷ []) ≡ Some x
ends c x =
    let at : length x ≡ length (x ++ c ∷ []) - 1 = fits x c _ refl in
    let tail : drop (length (x ++ c ∷ []) - 1) (x ++ c ∷ []) ≡ c ∷ [] = drop_at x (c ∷ []) _ at in
    let front : take (length (x ++ c ∷ []) - 1) (x ++ c ∷ []) ≡ x = take_at x (c ∷ []) _ at in
    ap (λ (t : List ℕ). cond (pointwise eqb (c ∷ []) t) (Some (take (length (x ++ c ∷ []) - 1) (x ++ c ∷ []))) None) tail
    ∙ ap (λ (b : Bool). cond b (Some (take (length (x ++ c ∷ []) - 1) (x ++ c ∷ []))) None) (nat_list_eq_equiv.refl (c ∷ []))
    ∙ ap Some front

ends_not : (c : ℕ) (bs : List ℕ) (b : Bool) → pointwise eqb (c ∷ []) (drop (length bs - 1) bs) ≡ b → ((front : List ℕ) → bs ≢ front ++ (c ∷ [])) → cond b (Some (take (length bs - 1) bs)) None ≡ None
ends_not c bs false e none = refl
ends_not c bs true e none =
    let tail : c ∷ [] ≡ drop (length bs - 1) bs = same_text _ _ (sym e) in
    absurd (none (take (length bs - 1) bs) (sym (take-append-drop (length bs - 1) bs) ∙ ap (λ (t : List ℕ). take (length bs - 1) bs ++ t) (sym tail)))

pub before_strips : (c : ℕ) (bs : List ℕ) (r : Option (Bor (List ℕ))) → MatchOption r ((front : List ℕ) → bs ≢ front ++ (c ∷ [])) (λ x. bs ≡ x.now ++ (c ∷ [])) → option_map (λ s. s.now) r ≡ before c bs
before_strips c bs None h = sym (ends_not c bs _ refl h)
before_strips c bs (Some x) h = sym (ap (before c) h ∙ ends c x.now)

-- a number that is in a range lies in it
pub in_range : (low high n : ℕ) (o : Option ℕ) → within low high o ≡ Some n → (low ≤ n) × (n ≤ high)
in_range low high n None e = cc
in_range low high n (Some m) e = go (nat_le low m && nat_le m high) refl e
  where
    go : (b : Bool) → (nat_le low m && nat_le m high) ≡ b → cond b (Some m) None ≡ Some n → (low ≤ n) × (n ≤ high)
    go true is e =
        let parts = and_parts (nat_le low m) (nat_le m high) is in
        let same : m ≡ n = cc in
        subst (λ (k : ℕ). (low ≤ k) × (k ≤ high)) same (leb-true low m parts.0, leb-true m high parts.1)
    go false is e = cc
