-- From a row back to the value that it was read from.
pub use Rattle.std.proofs.lemmas.Option.{cond_some as cond_back}
pub use Rattle.std.proofs.lemmas.Bool.{and_parts as both}
use Rattle.std.proofs.Common.{◌≡◌, ℕ, suc, Bool, true, ◌<◌, ◌^◌, List, [], ◌∷◌, ◌++◌, Option, Some, None, Result, Ok, Err, refl, sym, ap, ◌∙◌, subst, arith}
use Rattle.std.specs.Prelude.{◌&&◌, ⊤, IfSome, codes, nat_eq, nat_le, length, option_map, option_and_then}
use Rattle.row_texts.proofs.Prelude.{Data, Items, Members, Moment, RowFault, array, as_array, as_bool, as_number, as_object, as_str, as_u64, at}
use Rattle.row_texts.proofs.Prelude.{boolean, bytes_eq, empty_form, end_at, eqb-true, field_at, float, get_item, item, leb-true, maybe_data, member}
use Rattle.row_texts.proofs.Prelude.{moment_data, moment_form, named, negative, no_items, no_members, none_of, none_or, null, number, object, or_else}
use Rattle.row_texts.proofs.Prelude.{or_null, pair_of, same_text, shape_of, small_form, string, two_of, unsigned, up_to, whole, whole_form, with_list}
use Rattle.kept_rows.specs.OrchBase.Gives.{◌>>=◌}

-- ---- what a step that went on was

pub bound : {A B F : Type 0} (m : Result A F) (f : A → Result B F) (b : B) → (m >>= f) ≡ Ok b → (a : A) × (m ≡ Ok a) × (f a ≡ Ok b)
bound (Ok a) f b e = (a, refl, e)
bound (Err x) f b e = absurd cc

pub or_back : {A : Type 0} (f : RowFault) (o : Option A) (x : A) → or_else f o ≡ Ok x → o ≡ Some x
or_back f (Some y) x e = ap Some cc
or_back f None x e = absurd cc

pub then_back : {A B : Type 0} (o : Option A) (form : A → Option B) (b : B) → option_and_then form o ≡ Some b → (a : A) × (o ≡ Some a) × (form a ≡ Some b)
then_back (Some a) form b e = (a, refl, e)
then_back None form b e = absurd cc

pub ok_back : {A F : Type 0} (a b : A) → ◌≡◌ {A = Result A F} (Ok a) (Ok b) → a ≡ b
ok_back a b e = cc

pub map_back : {A B : Type 0} (f : A → B) (o : Option A) (b : B) → option_map f o ≡ Some b → (a : A) × (o ≡ Some a) × (f a ≡ b)
map_back f (Some a) b e = (a, refl, cc)
map_back f None b e = absurd cc

none_back : {A : Type 0} (f : RowFault) (o : Option A) (x : ⊤) → none_or f o ≡ Ok x → o ≡ None
none_back f None x e = refl
none_back f (Some y) x e = absurd cc

pub field_back : {A : Type 0} (form : Data → Option A) (n : ℕ) (list : Data) (x : A) → field_at form n list ≡ Ok x → (d : Data) × (at n list ≡ Some d) × (form d ≡ Some x)
unfolding field_at
field_back form n list x e = then_back (at n list) form x (or_back _ _ x e)

pub end_back : (n : ℕ) (list : Data) (x : ⊤) → end_at n list ≡ Ok x → at n list ≡ None
unfolding end_at
end_back n list x e = none_back _ (at n list) x e

-- ---- what has a form

pub whole_back : (d : Data) (n : ℕ) → option_and_then as_u64 (as_number d) ≡ Some n → d ≡ number (unsigned n)
whole_back null n e = absurd cc
whole_back (boolean b) n e = absurd cc
whole_back (number (unsigned m)) n e = ap (λ k. number (unsigned k)) cc
whole_back (number (negative z)) n e = absurd cc
whole_back (number (float x)) n e = absurd cc
whole_back (string s) n e = absurd cc
whole_back (array ds) n e = absurd cc
whole_back (object ms) n e = absurd cc

pub bool_back : (d : Data) (b : Bool) → as_bool d ≡ Some b → d ≡ boolean b
bool_back null b e = absurd cc
bool_back (boolean c) b e = ap boolean cc
bool_back (number n) b e = absurd cc
bool_back (string s) b e = absurd cc
bool_back (array ds) b e = absurd cc
bool_back (object ms) b e = absurd cc

pub str_back : (d : Data) (s : List ℕ) → as_str d ≡ Some s → d ≡ string s
str_back null s e = absurd cc
str_back (boolean b) s e = absurd cc
str_back (number n) s e = absurd cc
str_back (string t) s e = ap string cc
str_back (array ds) s e = absurd cc
str_back (object ms) s e = absurd cc

pub small_back : (d : Data) (n : ℕ) → small_form d ≡ Some n → (d ≡ whole n) × (n < 2 ^ 32)
small_back d n e =
    let w = then_back (whole_form d) (up_to 4294967295) n e in
    let c = cond_back (nat_le w.0 4294967295) w.0 n w.2 in
    let fits : w.0 < 2 ^ 32 = omega (arith, leb-true w.0 4294967295 c.0) in
    (whole_back d w.0 w.1 ∙ ap whole c.1, subst (λ (k : ℕ). k < 2 ^ 32) c.1 fits)

pub moment_back : (d : Data) (t : Moment) → moment_form d ≡ Some t → d ≡ moment_data t
moment_back d t e =
    let m = map_back (λ n. record { 0 = n }) (whole_form d) t e in
    whole_back d m.0 m.1 ∙ ap (λ (s : Moment). whole s.0) m.2

pub empty_back : (d : Data) (x : ⊤) → empty_form d ≡ Some x → d ≡ string []
empty_back d x e =
    let t = then_back (as_str d) none_of x e in
    str_back d t.0 t.1 ∙ ap string (nothing t.0 (cond_back (nat_eq (length t.0) 0) tt x t.2).0)
  where
    nothing : (s : List ℕ) → nat_eq (length s) 0 ≡ true → s ≡ []
    nothing [] e = refl
    nothing (b ∷ s) e = absurd (omega (arith, eqb-true (length (b ∷ s)) 0 e))

-- null, or what the form's value is
pub null_back : {A : Type 0} (form : Data → Option A) (w : A → Data) → ((d : Data) (x : A) → form d ≡ Some x → d ≡ w x) → (d : Data) (o : Option A) → or_null form d ≡ Some o → d ≡ maybe_data w o
null_back {A} form w back d o e = by_kind d e
  where
    there : (d : Data) → option_map (λ x. Some x) (form d) ≡ Some o → d ≡ maybe_data w o
    there d e =
        let m = map_back (λ x. Some x) (form d) o e in
        back d m.0 m.1 ∙ ap (maybe_data w) m.2

    absent : ◌≡◌ {A = Option (Option A)} (Some None) (Some o) → None ≡ o
    absent e = cc

    by_kind : (d : Data) → or_null form d ≡ Some o → d ≡ maybe_data w o
    by_kind null e = ap (maybe_data w) (absent e)
    by_kind (boolean b) e = there (boolean b) e
    by_kind (number n) e = there (number n) e
    by_kind (string s) e = there (string s) e
    by_kind (array ds) e = there (array ds) e
    by_kind (object ms) e = there (object ms) e

-- ---- a list by its items

-- what is at each number from this one on
abbrev pub Tells : ℕ → List Data → Items → Type 0
Tells n [] ds = get_item n ds ≡ None
Tells n (x ∷ xs) ds = (get_item n ds ≡ Some x) × Tells (suc n) xs ds

abbrev pub to_items : List Data → Items
to_items [] = no_items
to_items (x ∷ xs) = item x (to_items xs)

shift : (n : ℕ) (xs : List Data) (d : Data) (ds : Items) → Tells (suc n) xs (item d ds) → Tells n xs ds
shift n [] d ds t = t
shift n (x ∷ xs) d ds t = (t.0, shift (suc n) xs d ds t.1)

head_back : (d x : Data) → Some d ≡ Some x → d ≡ x
head_back d x e = cc

told : (xs : List Data) (ds : Items) → Tells 0 xs ds → ds ≡ to_items xs
told [] no_items t = refl
told [] (item d ds) t = absurd cc
told (x ∷ xs) no_items t = let e = t.0 in absurd cc
told (x ∷ xs) (item d ds) t =
    let here : d ≡ x = head_back d x t.0 in
    let rest : ds ≡ to_items xs = told xs ds (shift 0 xs d ds t.1) in
    rw (here, rest) refl

pub list_back : (list : Data) (ds : Items) (xs : List Data) → as_array list ≡ Some ds → Tells 0 xs ds → list ≡ array (to_items xs)
list_back null ds xs e t = absurd cc
list_back (boolean b) ds xs e t = absurd cc
list_back (number n) ds xs e t = absurd cc
list_back (string s) ds xs e t = absurd cc
list_back (array es) ds xs e t = let same : es ≡ ds = cc in ap array (same ∙ told xs ds t)
list_back (object ms) ds xs e t = absurd cc

-- in a list, `at` is `get_item`
pub at_list : (list : Data) (ds : Items) (n : ℕ) → as_array list ≡ Some ds → at n list ≡ get_item n ds
at_list null ds n e = absurd cc
at_list (boolean b) ds n e = absurd cc
at_list (number k) ds n e = absurd cc
at_list (string s) ds n e = absurd cc
at_list (array es) ds n e = let same : es ≡ ds = cc in ap (get_item n) same
at_list (object ms) ds n e = absurd cc

-- what holds of all that has the form, holds of the field
pub field_fact : {A : Type 0} (form : Data → Option A) (P : A → Type 0) → ((d : Data) (x : A) → form d ≡ Some x → P x) → (n : ℕ) (list : Data) (x : A) → field_at form n list ≡ Ok x → P x
field_fact form P h n list x e = let f = field_back form n list x e in h f.0 x f.2

pub null_fact : {A : Type 0} (form : Data → Option A) (P : A → Type 0) → ((d : Data) (x : A) → form d ≡ Some x → P x) → (d : Data) (o : Option A) → or_null form d ≡ Some o → IfSome o P
null_fact {A} form P h d o e = by_kind d e
  where
    there : (d : Data) → option_map (λ x. Some x) (form d) ≡ Some o → IfSome o P
    there d e =
        let m = map_back (λ x. Some x) (form d) o e in
        subst (λ (o : Option A). IfSome o P) m.2 (h d m.0 m.1)

    absent : ◌≡◌ {A = Option (Option A)} (Some None) (Some o) → None ≡ o
    absent e = cc

    by_kind : (d : Data) → or_null form d ≡ Some o → IfSome o P
    by_kind null e = subst (λ (o : Option A). IfSome o P) (absent e) tt
    by_kind (boolean b) e = there (boolean b) e
    by_kind (number n) e = there (number n) e
    by_kind (string s) e = there (string s) e
    by_kind (array ds) e = there (array ds) e
    by_kind (object ms) e = there (object ms) e

-- a field in this form, and what it is then
pub cell : {A : Type 0} (form : Data → Option A) (w : A → Data) → ((d : Data) (x : A) → form d ≡ Some x → d ≡ w x) → (n : ℕ) (list : Data) (ds : Items) (x : A)
    → as_array list ≡ Some ds → field_at form n list ≡ Ok x → get_item n ds ≡ Some (w x)
cell form w back n list ds x is e =
    let f = field_back form n list x e in
    sym (at_list list ds n is) ∙ (f.1 ∙ ap Some (back f.0 x f.2))

pub no_cell : (n : ℕ) (list : Data) (ds : Items) (x : ⊤) → as_array list ≡ Some ds → end_at n list ≡ Ok x → get_item n ds ≡ None
no_cell n list ds x is e = sym (at_list list ds n is) ∙ end_back n list x e

-- what is at each number from this one on, whatever is after
abbrev pub Begins : ℕ → List Data → Items → Type 0
Begins n [] ds = ⊤
Begins n (x ∷ xs) ds = (get_item n ds ≡ Some x) × Begins (suc n) xs ds

abbrev pub behind : ℕ → List Data → ℕ
behind n [] = n
behind n (x ∷ xs) = behind (suc n) xs

pub join : (n : ℕ) (xs ys : List Data) (ds : Items) → Begins n xs ds → Tells (behind n xs) ys ds → Tells n (xs ++ ys) ds
join n [] ys ds front t = t
join n (x ∷ xs) ys ds front t = (front.0, join (suc n) xs ys ds front.1 t)

-- ---- an object of two members

object_back : (d : Data) (ms : Members) → as_object d ≡ Some ms → d ≡ object ms
object_back null ms e = absurd cc
object_back (boolean b) ms e = absurd cc
object_back (number n) ms e = absurd cc
object_back (string s) ms e = absurd cc
object_back (array ds) ms e = absurd cc
object_back (object ns) ms e = ap object cc

pair_back : (ms : Members) (p : (List ℕ × Data) × (List ℕ × Data)) → pair_of ms ≡ Some p → ms ≡ member p.0.0 p.0.1 (member p.1.0 p.1.1 no_members)
pair_back no_members p e = absurd cc
pair_back (member k d no_members) p e = absurd cc
pair_back (member k d (member l f no_members)) p e =
    let same_pair : ((k, d), (l, f)) ≡ p = cc in
    ap (λ (q : (List ℕ × Data) × (List ℕ × Data)). member q.0.0 q.0.1 (member q.1.0 q.1.1 no_members)) same_pair
pair_back (member k d (member l f (member m g ms))) p e = absurd cc

two_back : (ms : Members) (p : Data × Data) → two_of ms ≡ Some p → ms ≡ member (codes "f") p.0 (member (codes "v") p.1 no_members)
unfolding two_of
two_back ms p e =
    let w = then_back (pair_of ms) named p e in
    let k = w.0.0.0 in
    let l = w.0.1.0 in
    let c = cond_back (bytes_eq k (codes "f") && bytes_eq l (codes "v")) (w.0.0.1, w.0.1.1) p w.2 in
    let keys = both (bytes_eq k (codes "f")) (bytes_eq l (codes "v")) c.0 in
    let first : k ≡ codes "f" = same_text k (codes "f") (sym keys.0) in
    let second : l ≡ codes "v" = same_text l (codes "v") (sym keys.1) in
    let values : member k w.0.0.1 (member l w.0.1.1 no_members) ≡ member (codes "f") w.0.0.1 (member (codes "v") w.0.1.1 no_members) = rw (first, second) refl in
    pair_back ms w.0 w.1 ∙ values ∙ ap (λ (q : Data × Data). member (codes "f") q.0 (member (codes "v") q.1 no_members)) c.1

pub shape_back : (d : Data) (p : Data × Data) → shape_of d ≡ Some p → (d ≡ object (member (codes "f") p.0 (member (codes "v") p.1 no_members))) × ((ds : Items) × (as_array p.0 ≡ Some ds))
unfolding shape_of
shape_back d p e =
    let w = then_back (option_and_then two_of (as_object d)) with_list p e in
    let a = then_back (as_array w.0.0) (λ ds. Some w.0) p w.2 in
    let same_pair : w.0 ≡ p = let f = a.2 in cc in
    let o = then_back (as_object d) two_of w.0 w.1 in
    let shape = object_back d o.0 o.1 ∙ ap object (two_back o.0 w.0 o.2) in
    subst (λ (q : Data × Data). (d ≡ object (member (codes "f") q.0 (member (codes "v") q.1 no_members))) × ((ds : Items) × (as_array q.0 ≡ Some ds))) same_pair (shape, (a.0, a.1))
