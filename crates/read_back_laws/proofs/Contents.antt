-- The content of a string of a text that is UTF-8 is UTF-8.
use Rattle.std.proofs.Common.{◌≡◌, ◌∙◌, ◌<◌, ◌≤◌, ◌+◌, ◌*◌, ◌==◌, ◌||◌, ◌&&◌, ◌⊎◌, inl, inr, ℕ, zero, suc, Bool, true, false, cond, List, [], ◌∷◌, ◌++◌, length, get_or, Option, Some, None, IfSome, option_and_then, IsUtf8, refl, sym, ap, subst, arith, append_assoc, append-nil, length-append, eqb, ltb, leb, nat_le, nat_lt}
use Rattle.read_back_laws.proofs.Prelude.{IsCharBoundary-after_ascii, IsScalar, IsUtf8-append, IsUtf8-drop, IsUtf8-encode, IsUtf8-nil, after_backslash}
use Rattle.read_back_laws.proofs.Prelude.{after_high, after_u, and_parts, cases_lt, code_unit, content, digit_value, encode, encode_ascii, encode_utf8, encodes}
use Rattle.read_back_laws.proofs.Prelude.{eqb-true, inside_one, is_digit, is_high_surrogate, is_low_surrogate, le-leb, le-ltb, leb-true, len_utf8_bounds}
use Rattle.read_back_laws.proofs.Prelude.{length-encode, lt-ltb, ltb-true, nat_tests, ne_eqb, plain, prepend, scalar, scalars, short_escape, surrogate_pair}

-- what is after an ASCII byte
pub behind-ascii : (x : ℕ) (xs : List ℕ) → x < 128 → IsUtf8 (x ∷ xs) → IsUtf8 xs
behind-ascii x xs small u = IsUtf8-drop (x ∷ xs) 1 u (IsCharBoundary-after_ascii (x ∷ xs) 0 u (omega arith) small)

-- ---- a character that isn't ASCII

high_bytes : (c : ℕ) → 128 ≤ c → (k : ℕ) → k < length (encode c) → 128 ≤ get_or (encode c) k 0
high_bytes c big k below = elim (cases_lt (get_or (encode c) k 0) 128) [
  | inl low ↦ absurd (omega (arith, inside_one c [] (encode c) k (sym (append-nil (encode c))) below low))
  | inr high ↦ high
]

prepend-both : (a b : List ℕ) (r : Option (List ℕ)) → prepend a (prepend b r) ≡ prepend (a ++ b) r
prepend-both a b None = refl
prepend-both a b (Some s) = ap Some (sym (append_assoc a b s))

plain-high : (x : ℕ) (xs : List ℕ) → 128 ≤ x → content plain (x ∷ xs) ≡ prepend (x ∷ []) (content plain xs)
unfolding content
plain-high x xs big =
    let quote : eqb x 34 ≡ false = ne_eqb x 34 (λ e. omega arith) in
    let slash : eqb x 92 ≡ false = ne_eqb x 92 (λ e. omega arith) in
    let control : ltb x 32 ≡ false = le-ltb x 32 (omega arith) in
    rw (quote, slash, control) refl

plain-run : (bs rest : List ℕ) → ((k : ℕ) → k < length bs → 128 ≤ get_or bs k 0) → content plain (bs ++ rest) ≡ prepend bs (content plain rest)
plain-run [] rest high = sym (none (content plain rest))
  where
    none : (r : Option (List ℕ)) → prepend [] r ≡ r
    none None = refl
    none (Some s) = refl
plain-run (b ∷ bs) rest high =
    plain-high b (bs ++ rest) (high 0 (omega arith))
    ∙ (ap (prepend (b ∷ [])) (plain-run bs rest (λ k below. high (suc k) (omega arith))) ∙ prepend-both (b ∷ []) bs (content plain rest))

-- ---- parts of the content

abbrev pub Good : Option (List ℕ) → Type 0
Good o = IfSome o IsUtf8

prepend-good : (bytes : List ℕ) (o : Option (List ℕ)) → IsUtf8 bytes → Good o → Good (prepend bytes o)
prepend-good bytes None u good = tt
prepend-good bytes (Some s) u good = IsUtf8-append bytes s u good

one-good : (x : ℕ) → x < 128 → IsUtf8 (x ∷ [])
one-good x small = subst IsUtf8 (encode_ascii x small) (IsUtf8-encode x (grind (arith, nat_tests)))

-- both ways of a test
either-good : (b : Bool) (x y : Option (List ℕ)) → Good x → Good y → Good (cond b x y)
either-good true x y first second = first
either-good false x y first second = second

digit-ascii : (x : ℕ) → is_digit x 16 ≡ true → (x < 128) × (digit_value x < 16)
digit-ascii x e = (grind (arith, nat_tests), grind (arith, nat_tests))

-- four digits and the unit that they spell
record Spells (a b c d u : ℕ) : Type 0 where
  first : a < 128
  second : b < 128
  third : c < 128
  fourth : d < 128
  unit : u < 65536

spelt-by : (p q r s : Bool) (a b c d u : ℕ) → is_digit a 16 ≡ p → is_digit b 16 ≡ q → is_digit c 16 ≡ r → is_digit d 16 ≡ s
    → cond (p && q && r && s) (Some (digit_value a * 4096 + digit_value b * 256 + digit_value c * 16 + digit_value d)) None ≡ Some u → Spells a b c d u
spelt-by true true true true a b c d u p q r s e =
    let i = digit-ascii a p in
    let j = digit-ascii b q in
    let k = digit-ascii c r in
    let l = digit-ascii d s in
    let same : digit_value a * 4096 + digit_value b * 256 + digit_value c * 16 + digit_value d ≡ u = cc in
    record { first = i.0; second = j.0; third = k.0; fourth = l.0; unit = omega arith }
spelt-by _ _ _ _ a b c d u p q r s e = absurd (cc)

spelt : (a b c d u : ℕ) → code_unit a b c d ≡ Some u → Spells a b c d u
unfolding code_unit
spelt a b c d u e = spelt-by (is_digit a 16) (is_digit b 16) (is_digit c 16) (is_digit d 16) a b c d u refl refl refl refl e

behind-four : (a b c d : ℕ) (xs : List ℕ) (u : ℕ) → Spells a b c d u → IsUtf8 (a ∷ b ∷ c ∷ d ∷ xs) → IsUtf8 xs
behind-four a b c d xs u s text = behind-ascii d xs s.fourth (behind-ascii c _ s.third (behind-ascii b _ s.second (behind-ascii a _ s.first text)))

is_in : (low high u : ℕ) (b : Bool) → (nat_le low u && nat_lt u high) ≡ b → ((b ≡ true) → (low ≤ u) × (u < high)) × ((b ≡ false) → (u < low) ⊎ (high ≤ u))
is_in low high u b e = (λ t. let p = and_parts _ _ (e ∙ t) in (leb-true low u p.0, ltb-true u high p.1), λ f. out f)
  where
    out : b ≡ false → (u < low) ⊎ (high ≤ u)
    out f = elim (cases_lt u low) [
      | inl less ↦ inl less
      | inr least ↦ elim (cases_lt u high) [
        | inl less ↦ let yes : (leb low u && ltb u high) ≡ true = rw (le-leb low u least, lt-ltb u high less) refl in let never : true ≡ false = sym yes ∙ e ∙ f in cc
        | inr most ↦ inr most
      ]
    ]

unit-scalar : (u : ℕ) → u < 65536 → is_high_surrogate u ≡ false → is_low_surrogate u ≡ false → IsScalar u
unit-scalar u small high low =
    let first = (is_in 0xd800 0xdc00 u (is_high_surrogate u) refl).1 high in
    let second = (is_in 0xdc00 0xe000 u (is_low_surrogate u) refl).1 low in
    elim first [
      | inl below ↦ grind (arith, nat_tests)
      | inr above ↦ elim second [ inl between ↦ absurd (omega arith) | inr past ↦ grind (arith, nat_tests) ]
    ]

pair-scalar : (h l : ℕ) → is_high_surrogate h ≡ true → is_low_surrogate l ≡ true → IsScalar (surrogate_pair h l)
pair-scalar h l high low =
    let first = (is_in 0xd800 0xdc00 h (is_high_surrogate h) refl).0 high in
    let second = (is_in 0xdc00 0xe000 l (is_low_surrogate l) refl).0 low in
    let least : 65536 ≤ surrogate_pair h l = omega (arith, first.0, first.1, second.0, second.1) in
    let most : surrogate_pair h l < 1114112 = omega (arith, first.0, first.1, second.0, second.1) in
    grind (arith, nat_tests)

-- ---- the whole

and-then-good : (o : Option ℕ) (f : ℕ → Option (List ℕ)) → ((u : ℕ) → o ≡ Some u → Good (f u)) → Good (option_and_then f o)
and-then-good None f each = tt
and-then-good (Some u) f each = each u refl

AreAscii : ℕ → ℕ → Type 0
AreAscii c x = (c < 128) × (x < 128)

short-step : (b : Bool) (x k v c : ℕ) (rest : Option ℕ) → (x == k) ≡ b → k < 128 → v < 128 → cond b (Some v) rest ≡ Some c → (rest ≡ Some c → AreAscii c x) → AreAscii c x
unfolding AreAscii
short-step true x k v c rest is small fits e more = let there : x ≡ k = eqb-true x k is in let same : v ≡ c = cc in (omega arith, omega arith)
short-step false x k v c rest is small fits e more = more e

short-first : (p q r : Bool) (x c : ℕ) (rest : Option ℕ) → (x == 34) ≡ p → (x == 92) ≡ q → (x == 47) ≡ r → cond (p || q || r) (Some x) rest ≡ Some c → (rest ≡ Some c → AreAscii c x) → AreAscii c x
unfolding AreAscii
short-first true q r x c rest is is' is'' e more = let there : x ≡ 34 = eqb-true x 34 is in let same : x ≡ c = cc in (omega arith, omega arith)
short-first false true r x c rest is is' is'' e more = let there : x ≡ 92 = eqb-true x 92 is' in let same : x ≡ c = cc in (omega arith, omega arith)
short-first false false true x c rest is is' is'' e more = let there : x ≡ 47 = eqb-true x 47 is'' in let same : x ≡ c = cc in (omega arith, omega arith)
short-first false false false x c rest is is' is'' e more = more e

short-ascii : (x c : ℕ) → short_escape x ≡ Some c → AreAscii c x
unfolding short_escape
short-ascii x c e =
    short-first (x == 34) (x == 92) (x == 47) x c _ refl refl refl e
    (λ e. short-step (x == 98) x 98 8 c _ refl (omega arith) (omega arith) e
    (λ e. short-step (x == 102) x 102 12 c _ refl (omega arith) (omega arith) e
    (λ e. short-step (x == 110) x 110 10 c _ refl (omega arith) (omega arith) e
    (λ e. short-step (x == 114) x 114 13 c _ refl (omega arith) (omega arith) e
    (λ e. short-step (x == 116) x 116 9 c None refl (omega arith) (omega arith) e (λ e. absurd (cc)))))))

abbrev PlainGood : ℕ → Type 0
PlainGood n = (xs : List ℕ) → length xs ≤ n → IsUtf8 xs → Good (content plain xs)

module _ (n : ℕ) (rest-good : PlainGood n) where
  high-good : (h : ℕ) → is_high_surrogate h ≡ true → (xs : List ℕ) → length xs ≤ n → IsUtf8 xs → Good (content (after_high h) xs)
  unfolding content encode_utf8
  high-good h high [] few u = tt
  high-good h high (s ∷ []) few u = tt
  high-good h high (s ∷ v ∷ []) few u = tt
  high-good h high (s ∷ v ∷ a ∷ []) few u = tt
  high-good h high (s ∷ v ∷ a ∷ b ∷ []) few u = tt
  high-good h high (s ∷ v ∷ a ∷ b ∷ c ∷ []) few u = tt
  high-good h high (s ∷ v ∷ a ∷ b ∷ c ∷ d ∷ xs) few u = go (s == 92) (v == 117) refl refl
    where
      pair : IsUtf8 (a ∷ b ∷ c ∷ d ∷ xs) → (l : ℕ) → code_unit a b c d ≡ Some l → (t : Bool) → is_low_surrogate l ≡ t → Good (cond t (prepend (encode_utf8 (surrogate_pair h l)) (content plain xs)) None)
      pair text l e true low =
          prepend-good (encode_utf8 (surrogate_pair h l)) (content plain xs) (IsUtf8-encode (surrogate_pair h l) (pair-scalar h l high low))
          (rest-good xs (omega arith) (behind-four a b c d xs l (spelt a b c d l e) text))
      pair text l e false low = tt

      go : (p q : Bool) → (s == 92) ≡ p → (v == 117) ≡ q
          → Good (cond (p && q) (option_and_then (λ l. cond (is_low_surrogate l) (prepend (encode_utf8 (surrogate_pair h l)) (content plain xs)) None) (code_unit a b c d)) None)
      go true true is is' =
          let first : s ≡ 92 = eqb-true s 92 is in
          let second : v ≡ 117 = eqb-true v 117 is' in
          let text = behind-ascii v _ (omega arith) (behind-ascii s _ (omega arith) u) in
          and-then-good (code_unit a b c d) _ (λ l e. pair text l e (is_low_surrogate l) refl)
      go true false is is' = tt
      go false q is is' = tt

  unit-good : (xs : List ℕ) → length xs ≤ n → IsUtf8 xs → Good (content after_u xs)
  unfolding content encode_utf8
  unit-good [] few u = tt
  unit-good (a ∷ []) few u = tt
  unit-good (a ∷ b ∷ []) few u = tt
  unit-good (a ∷ b ∷ c ∷ []) few u = tt
  unit-good (a ∷ b ∷ c ∷ d ∷ xs) few u = and-then-good (code_unit a b c d) _ (λ v e. go v (spelt a b c d v e) (is_high_surrogate v) (is_low_surrogate v) refl refl)
    where
      go : (v : ℕ) → Spells a b c d v → (p q : Bool) → is_high_surrogate v ≡ p → is_low_surrogate v ≡ q → Good (cond p (content (after_high v) xs) (cond q None (prepend (encode_utf8 v) (content plain xs))))
      go v s true q high low = high-good v high xs (omega arith) (behind-four a b c d xs v s u)
      go v s false true high low = tt
      go v s false false high low =
          prepend-good (encode_utf8 v) (content plain xs) (IsUtf8-encode v (unit-scalar v s.unit high low)) (rest-good xs (omega arith) (behind-four a b c d xs v s u))

  escape-good : (xs : List ℕ) → length xs ≤ n → IsUtf8 xs → Good (content after_backslash xs)
  unfolding content AreAscii
  escape-good [] few u = tt
  escape-good (x ∷ xs) few u = go (x == 117) refl
    where
      go : (b : Bool) → (x == 117) ≡ b → Good (cond b (content after_u xs) (option_and_then (λ c. prepend (c ∷ []) (content plain xs)) (short_escape x)))
      go true is = let there : x ≡ 117 = eqb-true x 117 is in unit-good xs (omega arith) (behind-ascii x xs (omega arith) u)
      go false is =
          and-then-good (short_escape x) _
          (λ c e. let small = short-ascii x c e in prepend-good (c ∷ []) (content plain xs) (one-good c small.0) (rest-good xs (omega arith) (behind-ascii x xs small.1 u)))

  ascii-good : (x : ℕ) (xs : List ℕ) → x < 128 → length xs ≤ n → IsUtf8 (x ∷ xs) → Good (content plain (x ∷ xs))
  unfolding content
  ascii-good x xs small few u =
      let rest = behind-ascii x xs small u in
      either-good (x == 34) _ _ IsUtf8-nil
      (either-good (x == 92) _ _ (escape-good xs few rest) (either-good (nat_lt x 32) None _ tt (prepend-good (x ∷ []) (content plain xs) (one-good x small) (rest-good xs few rest))))

  wide-good : (cs : List ℕ) (x : ℕ) (xs : List ℕ) → scalars cs ≡ true → encodes cs ≡ x ∷ xs → 128 ≤ x → length xs ≤ n → Good (content plain (x ∷ xs))
  wide-good [] x xs ok e big few = cc
  wide-good (c ∷ ds) x xs ok e big few =
      let p = and_parts (scalar c) (scalars ds) ok in
      let wide : 128 ≤ c = elim (cases_lt c 128) [
        | inl small ↦
            let one : c ∷ encodes ds ≡ x ∷ xs = ap (λ bs. bs ++ encodes ds) (sym (encode_ascii c small)) ∙ e in
            let same : c ≡ x = ap (λ bs. get_or bs 0 0) one in
            absurd (omega arith)
        | inr most ↦ most
      ] in
      let long = ap length e in
      let some = len_utf8_bounds c in
      let short : length (encodes ds) ≤ n = omega (arith, long, length-append (encode c) (encodes ds), length-encode c, some.0) in
      let run : content plain (x ∷ xs) ≡ prepend (encode c) (content plain (encodes ds)) = ap (content plain) (sym e) ∙ plain-run (encode c) (encodes ds) (high_bytes c wide) in
      subst Good (sym run) (prepend-good (encode c) (content plain (encodes ds)) (IsUtf8-encode c p.0) (rest-good (encodes ds) short (ds, (p.1, refl))))

plain-good : (n : ℕ) → PlainGood n
unfolding content
plain-good n [] few u = tt
plain-good zero (x ∷ xs) few u = absurd (omega arith)
plain-good (suc n) (x ∷ xs) few u = elim (cases_lt x 128) [
  | inl small ↦ ascii-good n (plain-good n) x xs small (omega arith) u
  | inr big ↦ wide-good n (plain-good n) u.0 x xs u.1.0 u.1.1 big (omega arith)
]

pub content-utf8 : (xs : List ℕ) → IsUtf8 xs → Good (content plain xs)
content-utf8 xs u = plain-good (length xs) xs (omega arith) u
