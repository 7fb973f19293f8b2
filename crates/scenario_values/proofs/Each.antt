-- Reading the items of a list, or the members of an object, one after the other, as a loop does.
use Rattle.std.proofs.Common.{◌≡◌, ℕ, suc, ◌+◌, ◌<◌, List, [], ◌∷◌, ◌++◌, length, get_or, drop, Result, Ok, Err, refl, sym, ap, ◌∙◌, append_assoc, add-one, drop-cons, String}
use Rattle.scenario_values.proofs.Prelude.{Data, Fault, Global, Value, each_from, each_member, item_count, items_view, members_view, under_item, view}
use Rattle.binlog_coords.specs.OrchBase.Gives.{◌>>=◌}

pub item_count_view : (vs : List Value) → item_count (items_view vs) ≡ length vs
item_count_view [] = refl
item_count_view (v ∷ vs) = rw add-one (ap suc (item_count_view vs))

-- what was read before, and what is still read
abbrev pub with_front : {A : Type 0} → List A → Result (List A) Fault → Result (List A) Fault
with_front front read = read >>= λ xs. Ok (front ++ xs)

-- the items before `at` were read as `front`
abbrev pub IsReadTo : {A : Type 0} → (ℕ → Data → Result A Fault) → List Value → ℕ → List A → Type 0
IsReadTo read vs at front = with_front front (each_from read at (items_view (drop at vs))) ≡ each_from read 0 (items_view vs)

regroup : {A : Type 0} (front : List A) (x : A) (read : Result (List A) Fault) → with_front front (read >>= λ xs. Ok (x ∷ xs)) ≡ with_front (front ++ x ∷ []) read
regroup front x (Ok xs) = ap (λ (ys : List _). Ok ys) (simp append_assoc)
regroup front x (Err f) = refl

pub rest_at : (vs : List Value) (at : ℕ) (v : Value) → at < length vs → v ≡ get_or vs at v → drop at vs ≡ v ∷ drop (at + 1) vs
rest_at vs at v lt here = rw add-one (drop-cons vs at v lt ∙ ap (λ (w : Value). w ∷ drop (suc at) vs) (sym here))

pub next_read : {A : Type 0} (read : ℕ → Data → Result A Fault) (vs : List Value) (at : ℕ) (v : Value) (x : A) (front : List A) → at < length vs → v ≡ get_or vs at v → under_item at (read at (view v)) ≡ Ok x
    → IsReadTo read vs at front → IsReadTo read vs (at + 1) (front ++ x ∷ [])
next_read read vs at v x front lt here ok so_far =
    let rest : drop at vs ≡ v ∷ drop (at + 1) vs = rest_at vs at v lt here in
    let one : with_front front (each_from read at (items_view (drop at vs))) ≡ with_front (front ++ x ∷ []) (each_from read (at + 1) (items_view (drop (at + 1) vs))) =
    rw (rest, ok) (regroup front x (each_from read (at + 1) (items_view (drop (at + 1) vs)))) in
    sym one ∙ so_far

-- ---- members

-- the members before these were read as `front`
abbrev pub AreReadTo : {A : Type 0} → (List ℕ → Data → Result A Fault) → List (String Global × Value) → List (String Global × Value) → List A → Type 0
AreReadTo read all rest front = with_front front (each_member read (members_view rest)) ≡ each_member read (members_view all)
