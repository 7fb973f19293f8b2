-- What a JSON text that is UTF-8 reads as: strings and keys are UTF-8, and the keys of each object rise.
use Rattle.std.proofs.Common.{◌≡◌, ◌∙◌, ◌<◌, ℕ, zero, suc, List, [], ◌∷◌, map, All, Option, Some, None, Result, Ok, Err, option_map, option_and_then, IsUtf8, refl, sym, ap, subst, arith}
use Rattle.std.specs.Prelude.{⊤, slice_get}
use Rattle.read_back_laws.proofs.Prelude.{All-cons, All-nil, Data, Equal, Fault, Greater, Items, Less, Members, Ordering, Token, array, bind-ok, boolean}
use Rattle.read_back_laws.proofs.Prelude.{each_from, each_from-ok, each_member, get, get_member, item, items_in, match_ordering, max_depth, maybe, maybe_in}
use Rattle.read_back_laws.proofs.Prelude.{member, members_in, nat_cmp, nat_list_cmp_total, no_items, no_members, null, number, number_of, object, of_items}
use Rattle.read_back_laws.proofs.Prelude.{of_json, of_members, optional, optional_in, ordering_reverse, put, read, same_Ok, same_Some, slice_cmp, string}
use Rattle.read_back_laws.proofs.Prelude.{text_in, tokens, under, under-ok}
use Rattle.read_back_laws.proofs.Prelude.json
use Rattle.read_back_laws.proofs.Tokens.{JsonItemsUtf8, JsonUtf8, JsonMembersUtf8, tokens-texts, value-texts}

-- a key before each of these
abbrev pub IsBefore : List ℕ → Members → Type 0
IsBefore k no_members = ⊤
IsBefore k (member l d ms) = (slice_cmp nat_cmp k l ≡ Less) × IsBefore k ms

abbrev mutual
  pub IsFromText : Data → Type 0
  IsFromText null = ⊤
  IsFromText (boolean b) = ⊤
  IsFromText (number n) = ⊤
  IsFromText (string s) = IsUtf8 s
  IsFromText (array ds) = ItemsFromText ds
  IsFromText (object ms) = MembersFromText ms

  pub ItemsFromText : Items → Type 0
  ItemsFromText no_items = ⊤
  ItemsFromText (item d ds) = IsFromText d × ItemsFromText ds

  pub MembersFromText : Members → Type 0
  MembersFromText no_members = ⊤
  MembersFromText (member k d ms) = IsUtf8 k × IsFromText d × IsBefore k ms × MembersFromText ms

-- ---- a member that is put in its place

turned : (k l : List ℕ) → slice_cmp nat_cmp k l ≡ Greater → slice_cmp nat_cmp l k ≡ Less
turned k l e = nat_list_cmp_total.antisymm l k ∙ ap ordering_reverse e

before-more : (k l : List ℕ) (ms : Members) → slice_cmp nat_cmp k l ≡ Less → IsBefore l ms → IsBefore k ms
before-more k l no_members less before = tt
before-more k l (member m d ms) less before = (nat_list_cmp_total.trans k l m less before.0, before-more k l ms less before.1)

before-put : (l k : List ℕ) (d : Data) (ms : Members) → slice_cmp nat_cmp l k ≡ Less → IsBefore l ms → IsBefore l (put k d ms)
before-put l k d no_members less before = (less, tt)
before-put l k d (member m e ms) less before = go (slice_cmp nat_cmp k m) (before-put l k d ms less before.1)
  where
    go : (c : Ordering) → IsBefore l (put k d ms) → IsBefore l (match_ordering c (member k d (member m e ms)) (member m d ms) (member m e (put k d ms)))
    go Less rest = (less, before)
    go Equal rest = before
    go Greater rest = (before.0, rest)

put-read : (k : List ℕ) (d : Data) (ms : Members) → IsUtf8 k → IsFromText d → MembersFromText ms → MembersFromText (put k d ms)
put-read k d no_members key value all = (key, value, tt, tt)
put-read k d (member l e ms) key value all = go (slice_cmp nat_cmp k l) refl (put-read k d ms key value all.3)
  where
    go : (c : Ordering) → slice_cmp nat_cmp k l ≡ c → MembersFromText (put k d ms) → MembersFromText (match_ordering c (member k d (member l e ms)) (member l d ms) (member l e (put k d ms)))
    go Less is rest = (key, value, (is, before-more k l ms is all.2), all)
    go Equal is rest = (all.0, value, all.2, all.3)
    go Greater is rest = (all.0, all.1, before-put l k d ms (turned k l is) all.2, rest)

-- ---- values

mapped-some : {A B : Type 0} (f : A → B) (o : Option A) (y : B) → option_map f o ≡ Some y → (x : A) × (o ≡ Some x) × (f x ≡ y)
mapped-some f None y e = absurd (cc)
mapped-some f (Some x) y e = (x, refl, same_Some (f x) y e)

then-some : {A B : Type 0} (f : A → Option B) (o : Option A) (y : B) → option_and_then f o ≡ Some y → (x : A) × (o ≡ Some x) × (f x ≡ Some y)
then-some f None y e = absurd (cc)
then-some f (Some x) y e = (x, refl, e)

mutual
  json-read : (j : json.Json) (d : Data) → JsonUtf8 j → of_json j ≡ Some d → IsFromText d
  json-read json.null d texts e = subst IsFromText (same_Some null d e) tt
  json-read (json.boolean b) d texts e = subst IsFromText (same_Some (boolean b) d e) tt
  json-read (json.number s) d texts e = let n = mapped-some number (number_of s) d e in subst IsFromText n.2 tt
  json-read (json.string s) d texts e = subst IsFromText (same_Some (string s) d e) texts
  json-read (json.array js) d texts e = let ds = mapped-some array (of_items js) d e in subst IsFromText ds.2 (items-read js ds.0 texts ds.1)
  json-read (json.object ms) d texts e = let os = mapped-some object (of_members ms no_members) d e in subst IsFromText os.2 (members-read ms no_members os.0 texts tt os.1)

  items-read : (js : json.Items) (ds : Items) → JsonItemsUtf8 js → of_items js ≡ Some ds → ItemsFromText ds
  items-read json.no_items ds texts e = subst ItemsFromText (same_Some no_items ds e) tt
  items-read (json.item j js) ds texts e =
      let first = then-some (λ d. option_map (item d) (of_items js)) (of_json j) ds e in
      let rest = mapped-some (item first.0) (of_items js) ds first.2 in
      subst ItemsFromText rest.2 (json-read j first.0 texts.0 first.1, items-read js rest.0 texts.1 rest.1)

  members-read : (ms : json.Members) (found all : Members) → JsonMembersUtf8 ms → MembersFromText found → of_members ms found ≡ Some all → MembersFromText all
  members-read json.no_members found all texts read e = subst MembersFromText (same_Some found all e) read
  members-read (json.member k j ms) found all texts read e =
      let first = then-some (λ d. of_members ms (put k d found)) (of_json j) all e in
      members-read ms (put k first.0 found) all texts.2 (put-read k first.0 found texts.0 (json-read j first.0 texts.1 first.1) read) first.2

last-is : (p : json.Json × List Token) (j : json.Json) → json.if_last p.0 p.1 ≡ Some j → p.0 ≡ j
last-is (i, []) j e = same_Some i j e
last-is (i, t ∷ ts) j e = absurd (cc)

-- what a text that is UTF-8 reads as
pub text-read : (text : List ℕ) (d : Data) → IsUtf8 text → read text ≡ Some d → IsFromText d
text-read text d u e =
    let j = then-some of_json (option_and_then (λ p. json.if_last p.0 p.1) (json.value max_depth (tokens text))) d e in
    let p = then-some (λ p. json.if_last p.0 p.1) (json.value max_depth (tokens text)) j.0 j.1 in
    let same = last-is p.0 j.0 p.2 in
    json-read j.0 d (subst JsonUtf8 same (value-texts max_depth (tokens text) p.0.0 p.0.1 (tokens-texts text u) p.1)) j.2

-- ---- parts of what was read

pub member-read : (key : List ℕ) (ms : Members) (v : Data) → MembersFromText ms → get_member key ms ≡ Some v → IsFromText v
member-read key no_members v all e = absurd (cc)
member-read key (member l d ms) v all e = go (slice_cmp nat_cmp key l) e (λ f. member-read key ms v all.3 f)
  where
    go : (c : Ordering) → match_ordering c (get_member key ms) (Some d) (get_member key ms) ≡ Some v → (get_member key ms ≡ Some v → IsFromText v) → IsFromText v
    go Less e rest = rest e
    go Equal e rest = subst IsFromText (same_Some d v e) all.1
    go Greater e rest = rest e

pub got-read : (key : List ℕ) (d v : Data) → IsFromText d → get key d ≡ Some v → IsFromText v
got-read key null v all e = absurd (cc)
got-read key (boolean b) v all e = absurd (cc)
got-read key (number n) v all e = absurd (cc)
got-read key (string s) v all e = absurd (cc)
got-read key (array ds) v all e = absurd (cc)
got-read key (object ms) v all e = member-read key ms v all e

pub text-is : (d : Data) (text : List ℕ) → IsFromText d → text_in d ≡ Ok text → IsUtf8 text
text-is null text all e = cc
text-is (boolean b) text all e = cc
text-is (number n) text all e = cc
text-is (string s) text all e = subst IsUtf8 (same_Ok s text e) all
text-is (array ds) text all e = cc
text-is (object ms) text all e = cc

pub items-are : (d : Data) (ds : Items) → IsFromText d → items_in d ≡ Ok ds → ItemsFromText ds
items-are null ds all e = cc
items-are (boolean b) ds all e = cc
items-are (number n) ds all e = cc
items-are (string s) ds all e = cc
items-are (array xs) ds all e = subst ItemsFromText (same_Ok xs ds e) all
items-are (object ms) ds all e = cc

pub members-are : (d : Data) (ms : Members) → IsFromText d → members_in d ≡ Ok ms → MembersFromText ms
members-are null ms all e = cc
members-are (boolean b) ms all e = cc
members-are (number n) ms all e = cc
members-are (string s) ms all e = cc
members-are (array xs) ms all e = cc
members-are (object os) ms all e = subst MembersFromText (same_Ok os ms e) all

-- ---- what is read at a key

-- the value at the key was read as this, or nothing is there
pub data IsAt {A : Type 0} (key : List ℕ) (read : Data → Result A Fault) (default : A) (d : Data) (x : A) : Type 0 where
  absent : x ≡ default → IsAt key read default d x
  there : (v : Data) → get key d ≡ Some v → read v ≡ Ok x → IsAt key read default d x

pub optional-at : {A : Type 0} (key : List ℕ) (read : Data → Result A Fault) (default : A) (d : Data) (x : A) → optional key read default d ≡ Ok x → IsAt key read default d x
optional-at {A} key read default d x e = go (get key d) refl e
  where
    go : (o : Option Data) → get key d ≡ o → optional_in key read default o ≡ Ok x → IsAt key read default d x
    go None at e = absent (sym (same_Ok default x e))
    go (Some v) at e = there v at (under-ok key (read v) x e)

pub data IsMaybe {A : Type 0} (key : List ℕ) (read : Data → Result A Fault) (d : Data) (o : Option A) : Type 0 where
  none : o ≡ None → IsMaybe key read d o
  some : (v : Data) (x : A) → get key d ≡ Some v → o ≡ Some x → read v ≡ Ok x → IsMaybe key read d o

pub maybe-at : {A : Type 0} (key : List ℕ) (read : Data → Result A Fault) (d : Data) (o : Option A) → maybe key read d ≡ Ok o → IsMaybe key read d o
maybe-at {A} key read d o e = go (get key d) refl e
  where
    found : (v : Data) → get key d ≡ Some v → (r : Result A Fault) → read v ≡ r → maybe_in key (λ w. r) (Some v) ≡ Ok o → IsMaybe key read d o
    found v at (Ok x) is e = some v x at (sym (same_Ok (Some x) o e)) is
    found v at (Err f) is e = cc

    go : (p : Option Data) → get key d ≡ p → maybe_in key read p ≡ Ok o → IsMaybe key read d o
    go None at e = none (sym (same_Ok None o e))
    go (Some v) at e = found v at (read v) refl e

-- ---- all items, and all members

pub each-item : {A : Type 0} (P : A → Type 0) (read : ℕ → Data → Result A Fault) → ((n : ℕ) (d : Data) (x : A) → IsFromText d → read n d ≡ Ok x → P x)
    → (n : ℕ) (ds : Items) (all : List A) → ItemsFromText ds → each_from read n ds ≡ Ok all → All P all
each-item P read each n no_items all texts e = subst (All P) (same_Ok [] all e) (All-nil P)
each-item P read each n (item d ds) all texts e =
    let parts = each_from-ok read n d ds all e in
    subst (All P) parts.4 (All-cons P parts.0 parts.1 (each n d parts.0 texts.0 parts.2) (each-item P read each (suc n) ds parts.1 texts.1 (ap (λ m. each_from read m ds) (omega arith) ∙ parts.3)))

pub each-value : {A : Type 0} (P : A → Type 0) (read : List ℕ → Data → Result A Fault) → ((key : List ℕ) (d : Data) (x : A) → IsUtf8 key → IsFromText d → read key d ≡ Ok x → P x)
    → (ms : Members) (all : List A) → MembersFromText ms → each_member read ms ≡ Ok all → All P all
each-value P read each no_members all texts e = subst (All P) (same_Ok [] all e) (All-nil P)
each-value P read each (member key d ms) all texts e =
    let first = bind-ok (under key (read key d)) _ all e in
    let rest = bind-ok (each_member read ms) _ all first.2 in
    subst (All P) (same_Ok _ all rest.2)
    (All-cons P first.0 rest.0 (each key d first.0 texts.0 texts.1 (under-ok key (read key d) first.0 first.1)) (each-value P read each ms rest.0 texts.3 rest.1))

-- ---- rising labels

abbrev pub AreBehind : List ℕ → List (List ℕ) → Type 0
AreBehind k [] = ⊤
AreBehind k (l ∷ ls) = (slice_cmp nat_cmp k l ≡ Less) × AreBehind k ls

abbrev pub Rise : List (List ℕ) → Type 0
Rise [] = ⊤
Rise (k ∷ ks) = AreBehind k ks × Rise ks

behind-at : (k : List ℕ) (ks : List (List ℕ)) (n : ℕ) (l : List ℕ) → AreBehind k ks → slice_get ks n ≡ Some l → slice_cmp nat_cmp k l ≡ Less
behind-at k [] n l all at = absurd (cc)
behind-at k (m ∷ ks) zero l all at = subst (λ x. slice_cmp nat_cmp k x ≡ Less) (same_Some m l at) all.0
behind-at k (m ∷ ks) (suc n) l all at = behind-at k ks n l all.1 at

pub rise-between : (ks : List (List ℕ)) → Rise ks → (i j : ℕ) (a b : List ℕ) → slice_get ks i ≡ Some a → slice_get ks j ≡ Some b → i < j → slice_cmp nat_cmp a b ≡ Less
rise-between [] all i j a b at at' less = absurd (cc)
rise-between (k ∷ ks) all zero zero a b at at' less = absurd (omega arith)
rise-between (k ∷ ks) all zero (suc j) a b at at' less = subst (λ x. slice_cmp nat_cmp x b ≡ Less) (same_Some k a at) (behind-at k ks j b all.0 at')
rise-between (k ∷ ks) all (suc i) zero a b at at' less = absurd (omega arith)
rise-between (k ∷ ks) all (suc i) (suc j) a b at at' less = rise-between ks all.1 i j a b at at' (omega arith)

-- what is read of members that have their keys rises as they do
module _ {A : Type 0} (label : A → List ℕ) (read : List ℕ → Data → Result A Fault) (own : (key : List ℕ) (d : Data) (x : A) → read key d ≡ Ok x → label x ≡ key) where
  member-parts : (key : List ℕ) (d : Data) (ms : Members) (all : List A) → each_member read (member key d ms) ≡ Ok all → (x : A) × (xs : List A) × (read key d ≡ Ok x) × (each_member read ms ≡ Ok xs) × (x ∷ xs ≡ all)
  member-parts key d ms all e =
      let first = bind-ok (under key (read key d)) _ all e in
      let rest = bind-ok (each_member read ms) _ all first.2 in
      (first.0, rest.0, under-ok key (read key d) first.0 first.1, rest.1, same_Ok _ all rest.2)

  values-behind : (k : List ℕ) (ms : Members) (all : List A) → IsBefore k ms → each_member read ms ≡ Ok all → AreBehind k (map label all)
  values-behind k no_members all before e = subst (λ xs. AreBehind k (map label xs)) (same_Ok [] all e) tt
  values-behind k (member l d ms) all before e =
      let parts = member-parts l d ms all e in
      let named : slice_cmp nat_cmp k (label parts.0) ≡ Less = subst (λ m. slice_cmp nat_cmp k m ≡ Less) (sym (own l d parts.0 parts.2)) before.0 in
      subst (λ xs. AreBehind k (map label xs)) parts.4 (named, values-behind k ms parts.1 before.1 parts.3)

  pub values-rise : (ms : Members) (all : List A) → MembersFromText ms → each_member read ms ≡ Ok all → Rise (map label all)
  values-rise no_members all texts e = subst (λ xs. Rise (map label xs)) (same_Ok [] all e) tt
  values-rise (member l d ms) all texts e =
      let parts = member-parts l d ms all e in
      let behind : AreBehind (label parts.0) (map label parts.1) = subst (λ m. AreBehind m (map label parts.1)) (sym (own l d parts.0 parts.2)) (values-behind l ms parts.1 texts.2 parts.3) in
      subst (λ xs. Rise (map label xs)) parts.4 (behind, values-rise ms parts.1 texts.3 parts.3)
