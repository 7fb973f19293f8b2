-- The table of the first server of each name, as names are listed one after the other.
use Rattle.std.proofs.Common.{◌≡◌, ℕ, suc, ◌+◌, ◌<◌, Bool, true, false, cond, List, [], ◌∷◌, ◌++◌, length, get_or, drop, Option, Some, None, refl, sym, ap, ◌∙◌, subst, append_assoc, add-zero, zero-add, arith, if◌then◌else◌, is_some}
use Rattle.scenario_servers.proofs.Prelude.{AddsName, HashMap, HostPort, IsTableOf, NameKey, Value, first_named, is_named, items_view, length_push}
use Rattle.scenario_servers.proofs.Prelude.{listed_name, listed_names, number_at, option_or, rest_at, same_name, same_name_tells, view}

-- ---- one more name

or_none : {X : Type 0} (o : Option X) → option_or o None ≡ o
or_none None = refl
or_none (Some x) = refl

pub absent : {X : Type 0} (o : Option X) → is_some o ≡ false → o ≡ None
absent None e = refl
absent (Some x) e = absurd (cc)

added_at : {S : Type 0} (old : HashMap NameKey ℕ S) (added name : HostPort) (number : ℕ) (b : Bool) → same_name added name ≡ b → is_some (number_at old added) ≡ false
    → cond b (Some number) (number_at old name) ≡ option_or (number_at old name) (cond b (Some number) None)
added_at old added name number true same none =
    let here : number_at old name ≡ None = subst (λ (n : HostPort). number_at old n ≡ None) ((same_name_tells added name).0 same) (absent (number_at old added) none) in
    rw here refl
added_at old added name number false same none = sym (or_none (number_at old name))

same_name-self : (name : HostPort) → same_name name name ≡ true
same_name-self name = (same_name_tells name name).1 refl

-- the number is at the name, and nothing else changed
abbrev pub Enters : {S : Type 0} → HashMap NameKey ℕ S → HashMap NameKey ℕ S → HostPort → ℕ → Type 0
Enters old new added number = (name : HostPort) → number_at new name ≡ cond (same_name added name) (Some number) (number_at old name)

pub adds_name : {S : Type 0} (old new : HashMap NameKey ℕ S) (key : NameKey) (named : HostPort) (added : Option HostPort) (number : ℕ) → added ≡ Some named → key.0 ≡ named → is_some (number_at old key.0) ≡ false
    → Enters old new key.0 number → AddsName old new added number (Some number)
adds_name old new key named added number some same none updates =
    let P : Option HostPort → Type 0 = λ o. AddsName old new o number (Some number) in
    subst P (ap (λ (n : HostPort). Some n) same ∙ sym some)
    (record {
      answer = sym (updates key.0 ∙ rw (same_name-self key.0) refl);
      found = λ name. updates name ∙ added_at old key.0 name number (same_name key.0 name) refl none;
    })

-- the name that another server has, found by writing its number and then the earlier one again
again_at : {S : Type 0} (old : HashMap NameKey ℕ S) (added name : HostPort) (number first : ℕ) (b : Bool) → same_name added name ≡ b → number_at old added ≡ Some first
    → cond b (Some first) (cond b (Some number) (number_at old name)) ≡ option_or (number_at old name) (cond b (Some number) None)
again_at old added name number first true same there =
    let here : number_at old name ≡ Some first = subst (λ (n : HostPort). number_at old n ≡ Some first) ((same_name_tells added name).0 same) there in
    rw here refl
again_at old added name number first false same there = sym (or_none (number_at old name))

pub adds_again : {S : Type 0} (old mid new : HashMap NameKey ℕ S) (key again : NameKey) (named : HostPort) (added : Option HostPort) (number first : ℕ) → added ≡ Some named → key.0 ≡ named → again.0 ≡ named → number_at old key.0 ≡ Some first
    → Enters old mid key.0 number → Enters mid new again.0 first → AddsName old new added number (Some first)
adds_again old mid new key again named added number first some same other there writes rewrites =
    let P : Option HostPort → Type 0 = λ o. AddsName old new o number (Some first) in
    subst P (ap (λ (n : HostPort). Some n) same ∙ sym some)
    (record {
      answer = sym (rewrites key.0 ∙ rw (other, sym same, same_name-self key.0) refl);
      found = λ name.
          let twice : same_name again.0 name ≡ same_name key.0 name = ap (λ (n : HostPort). same_name n name) (other ∙ sym same) in
          rewrites name
          ∙ ap (λ (b : Bool). cond b (Some first) (number_at mid name)) twice
          ∙ ap (λ (o : Option ℕ). cond (same_name key.0 name) (Some first) o) (writes name)
          ∙ again_at old key.0 name number first (same_name key.0 name) refl there;
    })

-- ---- the list

pub first_named-push : (name : HostPort) (n : ℕ) (xs : List (Option HostPort)) (x : Option HostPort)
    → first_named name n (xs ++ x ∷ []) ≡ option_or (first_named name n xs) (if is_named name x then Some (n + length xs) else None)
first_named-push name n [] x = rw add-zero refl
first_named-push name n (y ∷ ys) x = first_at (is_named name y) (is_named name x) n (length ys) (first_named name (n + 1) (ys ++ x ∷ [])) (first_named name (n + 1) ys) (first_named-push name (n + 1) ys x)
  where
    first_at : (here last : Bool) (n rest : ℕ) (all front : Option ℕ) → all ≡ option_or front (cond last (Some (n + 1 + rest)) None)
        → cond here (Some n) all ≡ option_or (cond here (Some n) front) (cond last (Some (n + suc rest)) None)
    first_at true last n rest all front e = refl
    first_at false last n rest all front e =
        let same : n + 1 + rest ≡ n + suc rest = omega arith in
        rw same at e

-- the servers before `at` are listed and tabled
pub record IsListedTo {S : Type 0} (vs : List Value) (at : ℕ) (listed : List (Option HostPort)) (numbers : HashMap NameKey ℕ S) : Type 0 where
  pub front : listed ++ listed_names (items_view (drop at vs)) ≡ listed_names (items_view vs)
  pub count : length listed ≡ at
  pub tabled : IsTableOf numbers listed

next_front : (vs : List Value) (at : ℕ) (v : Value) (x : Option HostPort) (listed : List (Option HostPort)) → at < length vs → v ≡ get_or vs at v → x ≡ listed_name (view v)
    → listed ++ listed_names (items_view (drop at vs)) ≡ listed_names (items_view vs) → (listed ++ x ∷ []) ++ listed_names (items_view (drop (at + 1) vs)) ≡ listed_names (items_view vs)
next_front vs at v x listed lt here is so_far =
    let rest : drop at vs ≡ v ∷ drop (at + 1) vs = rest_at vs at v lt here in
    let all : listed ++ (listed_name (view v) ∷ listed_names (items_view (drop (at + 1) vs))) ≡ listed_names (items_view vs) = rw rest at so_far in
    append_assoc listed (x ∷ []) (listed_names (items_view (drop (at + 1) vs))) ∙ rw is all

pub next_listed : {S : Type 0} (vs : List Value) (at : ℕ) (v : Value) (x added : Option HostPort) (number : ℕ) (first : Option ℕ) (listed after : List (Option HostPort)) (old new : HashMap NameKey ℕ S) → after ≡ listed ++ x ∷ [] → at < length vs → v ≡ get_or vs at v → x ≡ listed_name (view v) → added ≡ x
    → number ≡ length listed → AddsName old new added number first → IsListedTo vs at listed old → IsListedTo vs (at + 1) after new
next_listed vs at v x added number first listed after old new pushed lt here is same count adds so_far = record {
  front = rw pushed (next_front vs at v x listed lt here is so_far.front);
  count = let more : length after ≡ length listed + 1 = rw pushed (length_push listed x) in omega (arith, so_far.count);
  tabled = λ name. adds.found name ∙ sym (rw (pushed, sym same, first_named-push name 0 listed added, zero-add) (rw (so_far.tabled name, count) refl));
}
