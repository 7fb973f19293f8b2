-- The keys of an object.
use Rattle.std.proofs.Common.{◌≡◌, ℕ, Bool, true, false, eqb, is_eq, List, [], ◌∷◌, map, Some, None, Result, Ok, refl, sym, ap, ◌∙◌, Bor, ◌||◌, if◌then◌else◌, String, string_bytes}
use Rattle.scenario_values.proofs.Prelude.{Data, Equal, Fault, Global, Greater, Less, Members, Ordering, UnknownKey, Value, array, as_object, boolean}
use Rattle.scenario_values.proofs.Prelude.{fails, false≢true, get, get_member, has_none, has_none_at, is_eq-slice_cmp, is_key, keys_of, list_any}
use Rattle.scenario_values.proofs.Prelude.{match_ordering, member, members_view, nat_cmp, no_members, null, number, object, only_keys, pointwise}
use Rattle.scenario_values.proofs.Prelude.{same_text, slice_cmp, string, under}

pub any_now : (known : List (Bor (List ℕ))) (key : List ℕ) → list_any (λ (s : Bor (List ℕ)). pointwise eqb s.now key) known ≡ is_key (map (λ (s : Bor (List ℕ)). s.now) known) key
any_now [] key = refl
any_now (s ∷ ss) key = ap (λ (b : Bool). pointwise eqb s.now key || b) (any_now ss key)

-- these keys are known
abbrev pub keys_pass : List (List ℕ) → List (String Global) → Result (Unit {0}) Fault
keys_pass known [] = Ok tt
keys_pass known (k ∷ ks) = if is_key known (string_bytes k) then keys_pass known ks else under (string_bytes k) (fails UnknownKey)

pub only_keys-pass : (known : List (List ℕ)) (es : List (String Global × Value)) → only_keys known (members_view es) ≡ keys_pass known (keys_of es)
only_keys-pass known [] = refl
only_keys-pass known (e ∷ es) = ap (λ (r : Result (Unit {0}) Fault). if is_key known (string_bytes e.0) then r else under (string_bytes e.0) (fails UnknownKey)) (only_keys-pass known es)

-- ---- keys that an object lacks

-- none of these keys is among them
abbrev pub are_none : List (List ℕ) → List (String Global) → Bool
are_none keys [] = true
are_none keys (k ∷ ks) = if is_key keys (string_bytes k) then false else are_none keys ks

pub has_none-are : (keys : List (List ℕ)) (es : List (String Global × Value)) → has_none keys (members_view es) ≡ are_none keys (keys_of es)
has_none-are keys [] = refl
has_none-are keys (e ∷ es) = ap (λ (b : Bool). if is_key keys (string_bytes e.0) then false else b) (has_none-are keys es)

has_none-member : (keys : List (List ℕ)) (ms : Members) (key : List ℕ) → has_none keys ms ≡ true → is_key keys key ≡ true → get_member key ms ≡ None
has_none-member keys no_members key none known = refl
has_none-member keys (member l d ms) key none known = at (is_key keys l) refl none (λ f. has_none-member keys ms key f known)
  where
    apart : slice_cmp nat_cmp key l ≡ Equal → is_key keys l ≡ false → ⊥
    apart same other =
        let equal : key ≡ l = same_text key l (sym (sym (is_eq-slice_cmp key l) ∙ ap is_eq same)) in
        false≢true (sym other ∙ sym (ap (is_key keys) equal) ∙ known)

    go : (c : Ordering) → slice_cmp nat_cmp key l ≡ c → is_key keys l ≡ false → get_member key ms ≡ None → match_ordering c (get_member key ms) (Some d) (get_member key ms) ≡ None
    go Less is other rest = rest
    go Equal is other rest = absurd (apart is other)
    go Greater is other rest = rest

    at : (b : Bool) → is_key keys l ≡ b → (if b then false else has_none keys ms) ≡ true → (has_none keys ms ≡ true → get_member key ms ≡ None) → get_member key (member l d ms) ≡ None
    at true is e rest = absurd (false≢true e)
    at false is e rest = go (slice_cmp nat_cmp key l) refl is (rest e)

pub has_none-absent : (keys : List (List ℕ)) (d : Data) → has_none_at keys (as_object d) ≡ true → (key : List ℕ) → is_key keys key ≡ true → get key d ≡ None
has_none-absent keys null none key known = refl
has_none-absent keys (boolean b) none key known = refl
has_none-absent keys (number n) none key known = refl
has_none-absent keys (string s) none key known = refl
has_none-absent keys (array ds) none key known = refl
has_none-absent keys (object ms) none key known = has_none-member keys ms key none known
