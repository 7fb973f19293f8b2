-- Names and UUIDs of listed servers are found again.
use Rattle.std.proofs.Common.{◌≡◌, ◌∙◌, ◌≢◌, ◌<◌, ℕ, zero, suc, ◌+◌, ◌^◌, ◌==◌, Bool, true, false, List, [], ◌∷◌, map, take, Option, Some, Ok, refl, ap, arith, codes, nat_lt, slice_get}
use Rattle.read_back_laws.proofs.Prelude.{Data, HostPort, IsName, ServerInit, ServerNo, first_named, get, has_uuid, le-ltb, list_any, name_in, name_text}
use Rattle.read_back_laws.proofs.Prelude.{ne_eqb, number_or_fails, own_name, own_uuid, printed, same_Some, same_name, same_name_tells, server_named, string}
use Rattle.read_back_laws.proofs.Prelude.{uuid_text}
use Rattle.read_back_laws.proofs.Values.{name-reads, uuid-reads}

-- the servers' names and UUIDs, as they are looked up
abbrev pub listed_names_of : List ServerInit → List (Option HostPort)
listed_names_of = map (λ i. Some i.settings.name)

abbrev pub listed_uuids_of : List ServerInit → List (Option ℕ)
listed_uuids_of = map (λ i. Some i.settings.uuid)

-- no two have one name, or one UUID
abbrev pub NamesApart : List ServerInit → Type 0
NamesApart is = (m n : ℕ) (i j : ServerInit) → slice_get is m ≡ Some i → slice_get is n ≡ Some j → same_name i.settings.name j.settings.name ≡ true → m ≡ n

abbrev pub UuidsApart : List ServerInit → Type 0
UuidsApart is = (m n : ℕ) (i j : ServerInit) → slice_get is m ≡ Some i → slice_get is n ≡ Some j → i.settings.uuid ≡ j.settings.uuid → m ≡ n

told : (b : Bool) (P : Type 0) → (b ≡ true → P) → (P → ⊥) → b ≡ false
told true P means lacks = absurd (lacks (means refl))
told false P means lacks = refl

-- ---- names

first-from : (is : List ServerInit) (k n : ℕ) (i : ServerInit) → slice_get is n ≡ Some i → ((m : ℕ) (j : ServerInit) → slice_get is m ≡ Some j → same_name j.settings.name i.settings.name ≡ true → m ≡ n)
    → first_named i.settings.name k (listed_names_of is) ≡ Some (k + n)
first-from [] k n i at apart = absurd (cc)
first-from (j ∷ js) k zero i at apart =
    let here : j ≡ i = same_Some j i at in
    let same : same_name j.settings.name i.settings.name ≡ true = (same_name_tells j.settings.name i.settings.name).1 (ap (λ (x : ServerInit). x.settings.name) here) in
    rw same (ap Some (omega arith))
first-from (j ∷ js) k (suc n) i at apart =
    let other : same_name j.settings.name i.settings.name ≡ false = told (same_name j.settings.name i.settings.name) (0 ≡ suc n) (λ e. apart zero j refl e) (λ e. omega arith) in
    let more = first-from js (k + 1) n i at (λ m x e f. let next = apart (suc m) x e f in omega arith) in
    rw other (more ∙ ap Some (omega arith))

pub first-of : (is : List ServerInit) (n : ℕ) (i : ServerInit) → NamesApart is → slice_get is n ≡ Some i → first_named i.settings.name 0 (listed_names_of is) ≡ Some n
first-of is n i apart at = first-from is 0 n i at (λ m j e same. apart m n j i e at same) ∙ ap Some (omega arith)

-- a printed name is the server's
pub server-named : (is : List ServerInit) (n : ServerNo) (i : ServerInit) → NamesApart is → slice_get is n.0 ≡ Some i → IsName i.settings.name → server_named (listed_names_of is) (string (name_text is n.0)) ≡ Ok n
unfolding server_named
server-named is n i apart at name =
    let text : name_in (string (name_text is n.0)) ≡ Ok i.settings.name = rw at (name-reads i.settings.name name) in
    rw text (ap number_or_fails (first-of is n.0 i apart at))

pub own-name : (is : List ServerInit) (n : ℕ) (i : ServerInit) → NamesApart is → slice_get is n ≡ Some i → IsName i.settings.name → own_name (listed_names_of is) n (string (printed i.settings.name)) ≡ Ok i.settings.name
unfolding own_name
own-name is n i apart at name =
    let itself : nat_lt n n ≡ false = le-ltb n n (omega arith) in
    rw (name-reads i.settings.name name) (rw (first-of is n i apart at) (rw itself refl))

-- ---- UUIDs

new-from : (is : List ServerInit) (k : ℕ) (uuid : ℕ) → ((m : ℕ) (j : ServerInit) → m < k → slice_get is m ≡ Some j → j.settings.uuid ≢ uuid) → list_any (has_uuid uuid) (take k (listed_uuids_of is)) ≡ false
new-from [] zero uuid others = refl
new-from [] (suc k) uuid others = refl
new-from (j ∷ js) zero uuid others = refl
new-from (j ∷ js) (suc k) uuid others =
    let other : (j.settings.uuid == uuid) ≡ false = ne_eqb j.settings.uuid uuid (others zero j (omega arith) refl) in
    rw other (new-from js k uuid (λ m x less e. others (suc m) x (omega arith) e))

pub own-uuid : (is : List ServerInit) (n : ℕ) (i : ServerInit) (d : Data) → UuidsApart is → slice_get is n ≡ Some i → i.settings.uuid < 2 ^ 128 → get (codes "uuid") d ≡ Some (string (uuid_text i.settings.uuid))
    → own_uuid (listed_uuids_of is) n d ≡ Ok i.settings.uuid
unfolding own_uuid
own-uuid is n i d apart at fits there =
    let fresh = new-from is n i.settings.uuid (λ m j less e same. let one = apart m n j i e at same in omega arith) in
    rw there (rw (uuid-reads i.settings.uuid fits) (rw fresh refl))
