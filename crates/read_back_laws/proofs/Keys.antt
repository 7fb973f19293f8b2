-- What is at a key of an object whose members are there or not, and what is read of it.
use Rattle.std.proofs.Common.{◌≡◌, ◌∙◌, ℕ, Bool, true, false, List, [], ◌∷◌, Option, Some, None, Result, Ok, IfSome, refl, sym, ap, ◌&&◌, ◌||◌, is_none, if◌then◌else◌, option_map}
use Rattle.read_back_laws.proofs.Prelude.{Data, Equal, Fault, Greater, Less, Members, Ordering, get, get_member, is_key, match_ordering, maybe, maybe_in}
use Rattle.read_back_laws.proofs.Prelude.{member_for, member_if, nat_cmp, needed, needed_in, no_members, only_keys, option_or, optional, optional_in, slice_cmp}
use Rattle.read_back_laws.proofs.Prelude.{under}

-- a key, and the value that is there, if any
abbrev pub Field : Type 0
Field = List ℕ × Option Data

abbrev pub members_of : List Field → Members
members_of [] = no_members
members_of (r ∷ rs) = member_for r.0 r.1 (members_of rs)

-- a value that is there or not
abbrev pub when : Bool → Data → Option Data
when there d = if there then Some d else None

pub member_if-for : (there : Bool) (key : List ℕ) (d : Data) (rest : Members) → member_if there key d rest ≡ member_for key (when there d) rest
member_if-for true key d rest = refl
member_if-for false key d rest = refl

-- the value at a key
abbrev pub value_at : List ℕ → List Field → Option Data
value_at key [] = None
value_at key (r ∷ rs) = match_ordering (slice_cmp nat_cmp key r.0) (value_at key rs) (option_or r.1 (value_at key rs)) (value_at key rs)

get-for : (key k : List ℕ) (c : Ordering) (o r : Option Data) (ms : Members) → slice_cmp nat_cmp key k ≡ c → get_member key ms ≡ r → get_member key (member_for k o ms) ≡ match_ordering c r (option_or o r) r
get-for key k Less (Some d) r ms is rest = rw is rest
get-for key k Equal (Some d) r ms is rest = rw is refl
get-for key k Greater (Some d) r ms is rest = rw is rest
get-for key k _ _ r ms is rest = rest

pub get-members_of : (key : List ℕ) (rs : List Field) → get_member key (members_of rs) ≡ value_at key rs
get-members_of key [] = refl
get-members_of key (r ∷ rs) = get-for key r.0 (slice_cmp nat_cmp key r.0) r.1 (value_at key rs) (members_of rs) refl (get-members_of key rs)

pub or_none : (o : Option Data) → option_or o None ≡ o
or_none None = refl
or_none (Some d) = refl

-- ---- no other keys

-- each key that is there is one of these
abbrev pub are_known : List (List ℕ) → List Field → Bool
are_known known [] = true
are_known known (r ∷ rs) = (is_key known r.0 || is_none r.1) && are_known known rs

known-parts : (o : Option Data) (k rest : Bool) → ((k || is_none o) && rest) ≡ true → IfSome o (λ d. k ≡ true) × (rest ≡ true)
known-parts None true rest e = (tt, e)
known-parts None false rest e = (tt, e)
known-parts (Some d) true rest e = (refl, e)
known-parts (Some d) false rest e = absurd (cc)

known-for : (known : List (List ℕ)) (k : List ℕ) (o : Option Data) (ms : Members) → IfSome o (λ d. is_key known k ≡ true) → only_keys known ms ≡ Ok tt → only_keys known (member_for k o ms) ≡ Ok tt
known-for known k None ms own rest = rest
known-for known k (Some d) ms own rest = rw own rest

pub known-members : (known : List (List ℕ)) (rs : List Field) → are_known known rs ≡ true → only_keys known (members_of rs) ≡ Ok tt
known-members known [] e = refl
known-members known (r ∷ rs) e =
    let parts = known-parts r.1 (is_key known r.0) (are_known known rs) e in
    known-for known r.0 r.1 (members_of rs) parts.0 (known-members known rs parts.1)

-- ---- what is read at a key

pub needed-Ok : {A : Type 0} (key : List ℕ) (read : Data → Result A Fault) (d v : Data) (x : A) → get key d ≡ Some v → read v ≡ Ok x → needed key read d ≡ Ok x
needed-Ok key read d v x there e = ap (needed_in key read) there ∙ ap (under key) e

pub optional-Ok : {A : Type 0} (key : List ℕ) (read : Data → Result A Fault) (default : A) (d v : Data) (x : A) → get key d ≡ Some v → read v ≡ Ok x → optional key read default d ≡ Ok x
optional-Ok key read default d v x there e = ap (optional_in key read default) there ∙ ap (under key) e

-- if it is absent, the value is the default
pub optional-when : {A : Type 0} (key : List ℕ) (read : Data → Result A Fault) (default : A) (d v : Data) (x : A) (there : Bool) → get key d ≡ when there v → (there ≡ false → x ≡ default) → read v ≡ Ok x
    → optional key read default d ≡ Ok x
optional-when key read default d v x true at none e = ap (optional_in key read default) at ∙ ap (under key) e
optional-when key read default d v x false at none e = ap (optional_in key read default) at ∙ ap Ok (sym (none refl))

pub maybe-Ok : {A : Type 0} (key : List ℕ) (read : Data → Result A Fault) (write : A → Data) (d : Data) (o : Option A) → get key d ≡ option_map write o → IfSome o (λ x. read (write x) ≡ Ok x)
    → maybe key read d ≡ Ok o
maybe-Ok key read write d None at each = ap (maybe_in key read) at
maybe-Ok {A} key read write d (Some x) at each = ap (maybe_in key read) at ∙ some (read (write x)) each
  where
    some : (r : Result A Fault) → r ≡ Ok x → maybe_in key (λ v. r) (Some (write x)) ≡ Ok (Some x)
    some r e = ap (λ (q : Result A Fault). maybe_in key (λ v. q) (Some (write x))) e

pub maybe-None : {A : Type 0} (key : List ℕ) (read : Data → Result A Fault) (d : Data) → get key d ≡ None → maybe key read d ≡ Ok None
maybe-None key read d at = ap (maybe_in key read) at

-- a value that is given or not
abbrev pub given : {A : Type 0} → Bool → A → Option A
given there x = if there then Some x else None

pub maybe-when : {A : Type 0} (key : List ℕ) (read : Data → Result A Fault) (write : A → Data) (d : Data) (x : A) (there : Bool) → get key d ≡ when there (write x) → read (write x) ≡ Ok x
    → maybe key read d ≡ Ok (given there x)
maybe-when key read write d x true at e = maybe-Ok key read write d (Some x) at e
maybe-when key read write d x false at e = maybe-None key read d at
