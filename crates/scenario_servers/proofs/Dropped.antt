-- Reading the items of a list, each of which is dropped once it is read.
use Rattle.std.proofs.Common.{◌≡◌, ℕ, Some, None, ◌+◌, List, [], ◌∷◌, ◌++◌, length, Option, MatchOption, Result, Ok, Err, refl, sym, ap, ◌∙◌, append_assoc, append-nil, subst}
use Rattle.scenario_servers.proofs.Prelude.{Data, Fault, Value, each_from, items_view, length_push, under_item, view, with_front}
use Rattle.std.specs.Prelude.{⊤}
use Rattle.server_words.specs.OrchBase.Gives.{◌>>=◌}

-- the items before the rest were read as `front`
abbrev pub IsReadOn : {A : Type 0} → (ℕ → Data → Result A Fault) → List Value → List Value → List A → Type 0
IsReadOn read all rest front = with_front front (each_from read (length front) (items_view rest)) ≡ each_from read 0 (items_view all)

regroup : {A : Type 0} (front : List A) (x : A) (read : Result (List A) Fault) → with_front front (read >>= λ xs. Ok (x ∷ xs)) ≡ with_front (front ++ x ∷ []) read
regroup front x (Ok xs) = ap (λ (ys : List _). Ok ys) (simp append_assoc)
regroup front x (Err f) = refl

pub next_on : {A : Type 0} (read : ℕ → Data → Result A Fault) (all was rest : List Value) (v : Value) (front : List A) (n : ℕ) (x : A) → was ≡ v ∷ rest → n ≡ length front → under_item n (read n (view v)) ≡ Ok x
    → IsReadOn read all was front → IsReadOn read all rest (front ++ x ∷ [])
next_on read all was rest v front n x steps at ok so_far =
    let here : under_item (length front) (read (length front) (view v)) ≡ Ok x = subst (λ k. under_item k (read k (view v)) ≡ Ok x) at ok in
    let one : with_front front (each_from read (length front) (items_view was)) ≡ with_front (front ++ x ∷ []) (each_from read (length front + 1) (items_view rest)) =
    rw (steps, here) (regroup front x (each_from read (length front + 1) (items_view rest))) in
    rw (length_push front x) (sym one ∙ so_far)

pub fails_on : {A : Type 0} (read : ℕ → Data → Result A Fault) (all was rest : List Value) (v : Value) (front : List A) (n : ℕ) (o : Option Fault) → was ≡ v ∷ rest → n ≡ length front
    → MatchOption o ⊤ (λ f. under_item n (read n (view v)) ≡ Err f) → IsReadOn read all was front → MatchOption o ⊤ (λ f. each_from read 0 (items_view all) ≡ Err f)
fails_on read all was rest v front n None steps at failed so_far = tt
fails_on read all was rest v front n (Some f) steps at failed so_far =
    let here : under_item (length front) (read (length front) (view v)) ≡ Err f = subst (λ k. under_item k (read k (view v)) ≡ Err f) at failed in
    let one : with_front front (each_from read (length front) (items_view was)) ≡ Err f = rw (steps, here) refl in
    sym so_far ∙ one

pub all_on : {A : Type 0} (read : ℕ → Data → Result A Fault) (all rest : List Value) (front : List A) → rest ≡ [] → IsReadOn read all rest front → each_from read 0 (items_view all) ≡ Ok front
all_on read all rest front none so_far =
    let one : with_front front (each_from read (length front) (items_view rest)) ≡ Ok front = rw none (ap (λ (ys : List _). Ok ys) (append-nil front)) in
    sym so_far ∙ one
