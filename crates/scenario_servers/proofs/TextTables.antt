-- The texts that name servers, as they are kept.
use Rattle.std.proofs.Common.{◌≡◌, ℕ, suc, ◌+◌, arith, slice_get, Bool, true, false, cond, List, [], ◌∷◌, ◌++◌, Option, Some, None, Result, Ok, Err, refl, sym, ap, subst, ◌∙◌, String}
use Rattle.scenario_servers.proofs.NameTables.{first_named-push}
use Rattle.scenario_servers.proofs.Prelude.{AddsText, AreTexts, Fault, Global, HashMap, HostPort, IsFound, IsTableOf, NameFault, NameKey, ServerNo}
use Rattle.scenario_servers.proofs.Prelude.{bytes_eq, bytes_eq-Decides, first_named, get_by_text, is_named, name_at, name_in_text, name_or_fails}
use Rattle.scenario_servers.proofs.Prelude.{number_of_name, number_or_fails, option_or, read_name, same_Some, same_name_tells, text_named, text_number, update}
use Rattle.scenario_servers.proofs.Steps.{same_Ok}
use Rattle.server_words.specs.OrchBase.Gives.{◌>>=◌}

-- ---- the texts of one more server

pub adds_text : {S : Type 0} (old new : HashMap (String Global) ℕ S) (key text : List ℕ) (first : ℕ) → key ≡ text → ((other : List ℕ) → get_by_text new other ≡ update bytes_eq (get_by_text old) key (Some first) other)
    → AddsText old new (Some text) (Some first)
adds_text old new key text first same updates = subst (λ (t : List ℕ). AddsText old new (Some t) (Some first)) same (record { found = updates })

stays : (o last : Option ℕ) (n : ℕ) → number_or_fails o ≡ Ok (record { 0 = n }) → number_or_fails (option_or o last) ≡ Ok (record { 0 = n })
stays None last n e = cc
stays (Some m) last n e = e

named-push : (listed : List (Option HostPort)) (x : Option HostPort) (text : List ℕ) (n : ℕ) → text_named listed text ≡ Ok (record { 0 = n }) → text_named (listed ++ x ∷ []) text ≡ Ok (record { 0 = n })
named-push listed x text n e = go (name_or_fails (name_at text)) e
  where
    go : (r : Result HostPort Fault) → (r >>= λ name. number_or_fails (first_named name 0 listed)) ≡ Ok (record { 0 = n }) → (r >>= λ name. number_or_fails (first_named name 0 (listed ++ x ∷ []))) ≡ Ok (record { 0 = n })
    go (Ok name) e = rw (first_named-push name 0 listed x) (stays (first_named name 0 listed) _ n e)
    go (Err f) e = cc

named-first : {Z : Type 0} (listed : List (Option HostPort)) (numbers : HashMap NameKey ℕ Z) (text : List ℕ) (n : ℕ) (r : Result HostPort NameFault) → name_at text ≡ r → IsTableOf numbers listed
    → Some n ≡ number_of_name numbers (read_name r) → text_named listed text ≡ Ok (record { 0 = n })
named-first listed numbers text n (Ok name) reads table first =
    let named : first_named name 0 listed ≡ Some n = sym (first ∙ table name) in
    rw (reads, named) refl
named-first listed numbers text n (Err f) reads table first = cc

pub next_texts : {S Z : Type 0} (old new : HashMap (String Global) ℕ S) (numbers : HashMap NameKey ℕ Z) (listed after : List (Option HostPort)) (added : Option (List ℕ)) (x : Option HostPort) (first : Option ℕ) → after ≡ listed ++ x ∷ []
    → x ≡ name_in_text added → first ≡ number_of_name numbers x → IsTableOf numbers after → AddsText old new added first → AreTexts old listed → AreTexts new after
next_texts {S} {Z} old new numbers listed after added x first pushed is here table adds kept other n at = go added first is here (sym (adds.found other) ∙ at)
  where
    before : get_by_text old other ≡ Some n → text_named after other ≡ Ok (record { 0 = n })
    before e = rw pushed (named-push listed x other n (kept other n e))

    one : (text : List ℕ) (m : ℕ) → x ≡ read_name (name_at text) → Some m ≡ number_of_name numbers x → (b : Bool) → bytes_eq text other ≡ b → cond b (Some m) (get_by_text old other) ≡ Some n → text_named after other ≡ Ok (record { 0 = n })
    one text m is here true same e =
        let equal : text ≡ other = (bytes_eq-Decides text other).0 same in
        let told : m ≡ n = same_Some m n e in
        let first : Some m ≡ number_of_name numbers (read_name (name_at text)) = subst (λ (o : Option HostPort). Some m ≡ number_of_name numbers o) is here in
        subst (λ (t : List ℕ). text_named after t ≡ Ok (record { 0 = n })) equal
        (subst (λ (k : ℕ). text_named after text ≡ Ok (record { 0 = k })) told (named-first after numbers text m (name_at text) refl table first))
    one text m is here false same e = before e

    go : (t : Option (List ℕ)) (f : Option ℕ) → x ≡ name_in_text t → f ≡ number_of_name numbers x → text_number t f (get_by_text old) other ≡ Some n → text_named after other ≡ Ok (record { 0 = n })
    go None f is here e = before e
    go (Some text) None is here e = before e
    go (Some text) (Some m) is here e = one text m is here (bytes_eq text other) refl e

-- ---- the name of a text

first-get : (name : HostPort) (k n : ℕ) (xs : List (Option HostPort)) → first_named name k xs ≡ Some n → (j : ℕ) × (n ≡ k + j) × ((y : HostPort) → slice_get xs j ≡ Some (Some y) → y ≡ name)
first-get name k n [] e = cc
first-get name k n (x ∷ xs) e = at (is_named name x) refl e (first-get name (k + 1) n xs)
  where
    here : (o : Option HostPort) (y : HostPort) → is_named name o ≡ true → o ≡ Some y → y ≡ name
    here None y is e = cc
    here (Some z) y is e = subst (λ (w : HostPort). w ≡ name) (same_Some z y e) ((same_name_tells z name).0 is)

    at : (b : Bool) → is_named name x ≡ b → cond b (Some k) (first_named name (k + 1) xs) ≡ Some n
        → (first_named name (k + 1) xs ≡ Some n → (j : ℕ) × (n ≡ k + 1 + j) × ((y : HostPort) → slice_get xs j ≡ Some (Some y) → y ≡ name)) → (j : ℕ) × (n ≡ k + j) × ((y : HostPort) → slice_get (x ∷ xs) j ≡ Some (Some y) → y ≡ name)
    at true is e more = let at_k : k ≡ n = same_Some k n e in (0, (omega (arith, at_k)), λ y got. here x y is (same_Some x (Some y) got))
    at false is e more = let rest = more e in let on : n ≡ k + suc rest.0 = omega (arith, rest.1) in (suc rest.0, on, rest.2)

pub found : (listed : List (Option HostPort)) (text : List ℕ) (name : HostPort) (n : ℕ) → text_named listed text ≡ Ok (record { 0 = n }) → slice_get listed n ≡ Some (Some name) → IsFound listed text name n
found listed text name n named got = at (name_or_fails (name_at text)) refl named
  where
    first : (o : Option ℕ) → number_or_fails o ≡ Ok (record { 0 = n }) → o ≡ Some n
    first None e = cc
    first (Some m) e = ap Some (ap (λ (s : ServerNo). s.0) (same_Ok (record { 0 = m }) (record { 0 = n }) e))

    at : (r : Result HostPort Fault) → name_or_fails (name_at text) ≡ r → (r >>= λ m. number_or_fails (first_named m 0 listed)) ≡ Ok (record { 0 = n }) → IsFound listed text name n
    at (Err f) is e = cc
    at (Ok m) is e =
        let numbered : first_named m 0 listed ≡ Some n = first (first_named m 0 listed) e in
        let there = first-get m 0 n listed numbered in
        let at_n : n ≡ there.0 = omega (arith, there.1) in
        let same : name ≡ m = there.2 name (subst (λ (j : ℕ). slice_get listed j ≡ Some (Some name)) at_n got) in
        record { reads = is ∙ ap Ok (sym same); named = ap (λ (o : HostPort). first_named o 0 listed) same ∙ numbered }
