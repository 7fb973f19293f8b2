-- What it means that reading succeeds, step by step.
use Rattle.std.proofs.Common.{◌≡◌, ℕ, ◌+◌, ◌≤◌, ◌⊎◌, inl, inr, Bool, true, false, leb, is_eq, List, [], ◌∷◌, length, refl, sym, ap, subst, ◌∙◌, Option, Some, None, Result, Ok, Err, All, arith, zero, suc, ◌&&◌, slice_get, if◌then◌else◌}
use Rattle.scenario_servers.proofs.Prelude.{All-cons, All-nil, BadNumber, Data, Equal, Fault, FaultCode, Greater, Items, Less, Members, Ordering}
use Rattle.scenario_servers.proofs.Prelude.{UnknownKey, and_parts, array, boolean, each_from, each_member, fails, false≢true, get, get_item}
use Rattle.scenario_servers.proofs.Prelude.{get_member, holds, is_eq-slice_cmp, is_key, item, item_count, leb-true, match_ordering, maybe, maybe_in}
use Rattle.scenario_servers.proofs.Prelude.{member, members_in, nat_cmp, needed, needed_in, no_items, no_members, null, number, number_in, object}
use Rattle.scenario_servers.proofs.Prelude.{only_keys, optional, optional_in, or_fails, same_Some, same_text, slice_cmp, string, under, under_item}
use Rattle.scenario_servers.proofs.Prelude.{whole_in, within}
use Rattle.server_words.specs.OrchBase.Gives.{◌>>=◌}

-- two readings answer the same
abbrev pub Same : {A : Type 0} → Result A Fault → Result A Fault → Type 0
Same r s = r ≡ s

pub same_Ok : {A : Type 0} (x y : A) → Same (Ok x) (Ok y) → x ≡ y
same_Ok x y e = cc

pub bind-ok : {A B F : Type 0} (r : Result A F) (f : A → Result B F) (y : B) → r >>= f ≡ Ok y → (x : A) × (r ≡ Ok x) × (f x ≡ Ok y)
bind-ok (Ok x) f y e = (x, refl, e)
bind-ok (Err g) f y e = cc

pub or_fails-ok : {A : Type 0} (code : FaultCode) (o : Option A) (x : A) → or_fails code o ≡ Ok x → o ≡ Some x
or_fails-ok code None x e = cc
or_fails-ok code (Some y) x e = ap Some (same_Ok y x e)

pub holds-ok : (code : FaultCode) (b : Bool) (u : Unit {0}) → holds code b ≡ Ok u → b ≡ true
holds-ok code true u e = refl
holds-ok code false u e = cc

pub under-ok : {A : Type 0} (key : List ℕ) (r : Result A Fault) (x : A) → under key r ≡ Ok x → r ≡ Ok x
under-ok key (Ok y) x e = e
under-ok key (Err f) x e = cc

pub needed-ok : {A : Type 0} (key : List ℕ) (read : Data → Result A Fault) (d : Data) (x : A) → needed key read d ≡ Ok x → (v : Data) × (get key d ≡ Some v) × (read v ≡ Ok x)
needed-ok {A} key read d x e = go (get key d) refl e
  where
    go : (o : Option Data) → get key d ≡ o → needed_in key read o ≡ Ok x → (v : Data) × (get key d ≡ Some v) × (read v ≡ Ok x)
    go None at e = cc
    go (Some v) at e = (v, at, under-ok key (read v) x e)

pub optional-ok : {A : Type 0} (key : List ℕ) (read : Data → Result A Fault) (default : A) (d : Data) (x : A) → optional key read default d ≡ Ok x
    → (x ≡ default) ⊎ ((v : Data) × (read v ≡ Ok x))
optional-ok {A} key read default d x e = go (get key d) e
  where
    go : (o : Option Data) → optional_in key read default o ≡ Ok x → (x ≡ default) ⊎ ((v : Data) × (read v ≡ Ok x))
    go None e = inl (sym (same_Ok default x e))
    go (Some v) e = inr (v, under-ok key (read v) x e)

pub optional-absent : {A : Type 0} (key : List ℕ) (read : Data → Result A Fault) (default : A) (d : Data) (x : A) → get key d ≡ None → optional key read default d ≡ Ok x → x ≡ default
optional-absent key read default d x none e = sym (same_Ok default x (sym (ap (optional_in key read default) none) ∙ e))

pub maybe-ok : {A : Type 0} (key : List ℕ) (read : Data → Result A Fault) (d : Data) (o : Option A) → maybe key read d ≡ Ok o
    → ((get key d ≡ None) × (o ≡ None)) ⊎ ((v : Data) × (x : A) × (o ≡ Some x) × (read v ≡ Ok x))
maybe-ok {A} key read d o e = go (get key d) refl e
  where
    there : (v : Data) (r : Result A Fault) → read v ≡ r → maybe_in key (λ w. r) (Some v) ≡ Ok o → (v : Data) × (x : A) × (o ≡ Some x) × (read v ≡ Ok x)
    there v (Ok x) is e = (v, x, sym (same_Ok (Some x) o e), is)
    there v (Err f) is e = cc

    go : (p : Option Data) → get key d ≡ p → maybe_in key read p ≡ Ok o → ((get key d ≡ None) × (o ≡ None)) ⊎ ((v : Data) × (x : A) × (o ≡ Some x) × (read v ≡ Ok x))
    go None at e = inl (at, sym (same_Ok None o e))
    go (Some v) at e = inr (there v (read v) refl e)

pub maybe-absent : {A : Type 0} (key : List ℕ) (read : Data → Result A Fault) (d : Data) (o : Option A) → get key d ≡ None → maybe key read d ≡ Ok o → o ≡ None
maybe-absent key read d o none e = sym (same_Ok None o (sym (ap (maybe_in key read) none) ∙ e))

-- ---- numbers

pub within-ok : (low high n m : ℕ) → within low high n ≡ Ok m → (low ≤ m) × (m ≤ high)
within-ok low high n m e = go (leb low n && leb n high) refl e
  where
    go : (b : Bool) → (leb low n && leb n high) ≡ b → Same (if b then Ok n else fails BadNumber) (Ok m) → (low ≤ m) × (m ≤ high)
    go true is e =
        let parts = and_parts (leb low n) (leb n high) is in
        let same : n ≡ m = same_Ok n m e in
        (omega (arith, leb-true low n parts.0), omega (arith, leb-true n high parts.1))
    go false is e = cc

pub number-ok : (low high : ℕ) (d : Data) (n : ℕ) → number_in low high d ≡ Ok n → (low ≤ n) × (n ≤ high)
unfolding number_in
number-ok low high d n e = let whole = bind-ok (whole_in d) (within low high) n e in within-ok low high whole.0 n whole.2

-- ---- keys

pub no_key : (known : List (List ℕ)) (ms : Members) (key : List ℕ) (u : Unit {0}) → only_keys known ms ≡ Ok u → is_key known key ≡ false → get_member key ms ≡ None
no_key known no_members key u e other = refl
no_key known (member l d ms) key u e other = at (is_key known l) refl e (λ f. no_key known ms key u f other)
  where
    apart : slice_cmp nat_cmp key l ≡ Equal → is_key known l ≡ true → ⊥
    apart same known_l =
        let equal : key ≡ l = same_text key l (sym (sym (is_eq-slice_cmp key l) ∙ ap is_eq same)) in
        false≢true (sym other ∙ ap (is_key known) equal ∙ known_l)

    go : (c : Ordering) → slice_cmp nat_cmp key l ≡ c → is_key known l ≡ true → get_member key ms ≡ None → match_ordering c (get_member key ms) (Some d) (get_member key ms) ≡ None
    go Less is known_l rest = rest
    go Equal is known_l rest = absurd (apart is known_l)
    go Greater is known_l rest = rest

    at : (b : Bool) → is_key known l ≡ b → (if b then only_keys known ms else under l (fails UnknownKey)) ≡ Ok u → (only_keys known ms ≡ Ok u → get_member key ms ≡ None) → get_member key (member l d ms) ≡ None
    at true is e rest = go (slice_cmp nat_cmp key l) refl is (rest e)
    at false is e rest = cc

pub members-ok : (d : Data) (ms : Members) (key : List ℕ) → members_in d ≡ Ok ms → get key d ≡ get_member key ms
members-ok null ms key e = cc
members-ok (boolean b) ms key e = cc
members-ok (number n) ms key e = cc
members-ok (string s) ms key e = cc
members-ok (array ds) ms key e = cc
members-ok (object os) ms key e = ap (get_member key) (same_Ok os ms e)

-- ---- items

pub each_from-ok : {A : Type 0} (read : ℕ → Data → Result A Fault) (n : ℕ) (d : Data) (ds : Items) (all : List A) → each_from read n (item d ds) ≡ Ok all
    → (x : A) × (xs : List A) × (read n d ≡ Ok x) × (each_from read (n + 1) ds ≡ Ok xs) × (x ∷ xs ≡ all)
each_from-ok read n d ds all e =
    let first = bind-ok (under_item n (read n d)) _ all e in
    let rest = bind-ok (each_from read (n + 1) ds) _ all first.2 in
    (first.0, rest.0, under-ok _ (read n d) first.0 first.1, rest.1, same_Ok _ all rest.2)

pub each_from-length : {A : Type 0} (read : ℕ → Data → Result A Fault) (n : ℕ) (ds : Items) (all : List A) → each_from read n ds ≡ Ok all → length all ≡ item_count ds
each_from-length read n no_items all e = sym (ap length (same_Ok [] all e))
each_from-length read n (item d ds) all e =
    let parts = each_from-ok read n d ds all e in
    let more : length parts.1 ≡ item_count ds = each_from-length read (n + 1) ds parts.1 parts.3 in
    let is : suc (length parts.1) ≡ length all = ap length parts.4 in
    omega arith

pub each_from-get : {A : Type 0} (read : ℕ → Data → Result A Fault) (n : ℕ) (ds : Items) (all : List A) → each_from read n ds ≡ Ok all
    → (k : ℕ) (x : A) → slice_get all k ≡ Some x → (d : Data) × (get_item k ds ≡ Some d) × (read (n + k) d ≡ Ok x)
each_from-get read n no_items all e k x at = absurd (nothing k x (ap (λ xs. slice_get xs k) (same_Ok [] all e) ∙ at))
  where
    nothing : {A : Type 0} (k : ℕ) (x : A) → slice_get [] k ≡ Some x → ⊥
    nothing k x h = cc
each_from-get read n (item d ds) all e zero x at =
    let parts = each_from-ok read n d ds all e in
    let same : parts.0 ≡ x = same_Some parts.0 x (ap (λ xs. slice_get xs 0) parts.4 ∙ at) in
    let here : n + 0 ≡ n = omega arith in
    (d, refl, ap (λ m. read m d) here ∙ parts.2 ∙ ap Ok same)
each_from-get read n (item d ds) all e (suc k) x at =
    let parts = each_from-ok read n d ds all e in
    let rest = each_from-get read (n + 1) ds parts.1 parts.3 k x (ap (λ xs. slice_get xs (suc k)) parts.4 ∙ at) in
    let on : n + suc k ≡ n + 1 + k = omega arith in
    (rest.0, rest.1, ap (λ m. read m rest.0) on ∙ rest.2)

pub each_from-all : {A : Type 0} (P : A → Type 0) (read : ℕ → Data → Result A Fault) → ((n : ℕ) (d : Data) (x : A) → read n d ≡ Ok x → P x)
    → (n : ℕ) (ds : Items) (all : List A) → each_from read n ds ≡ Ok all → All P all
each_from-all P read each n no_items all e = subst (All P) (same_Ok [] all e) (All-nil P)
each_from-all P read each n (item d ds) all e =
    let parts = each_from-ok read n d ds all e in
    subst (All P) parts.4 (All-cons P parts.0 parts.1 (each n d parts.0 parts.2) (each_from-all P read each (n + 1) ds parts.1 parts.3))

-- ---- members

pub each_member-all : {A : Type 0} (P : A → Type 0) (read : List ℕ → Data → Result A Fault) → ((key : List ℕ) (d : Data) (x : A) → read key d ≡ Ok x → P x)
    → (ms : Members) (all : List A) → each_member read ms ≡ Ok all → All P all
each_member-all P read each no_members all e = subst (All P) (same_Ok [] all e) (All-nil P)
each_member-all P read each (member key d ms) all e =
    let first = bind-ok (under key (read key d)) _ all e in
    let rest = bind-ok (each_member read ms) _ all first.2 in
    subst (All P) (same_Ok (first.0 ∷ rest.0) all rest.2)
    (All-cons P first.0 rest.0 (each key d first.0 (under-ok key (read key d) first.0 first.1)) (each_member-all P read each ms rest.0 rest.1))
