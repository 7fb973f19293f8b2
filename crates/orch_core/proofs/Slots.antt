-- A slot whose reading is stored and leaves it, or stays in it.
use Rattle.std.proofs.Common.{◌≡◌, ℕ, zero, suc, List, [], ◌∷◌, get_or, Option, None, sym, ap, subst, ◌∙◌, refl, Result, Ok, Err, OnOk, OnErr, slice_set}
use Rattle.orch_core.proofs.Prelude.{BookState, IsState, Observation, Reply, State, TurnFault, stored}
use Rattle.orch_core.proofs.States.{IsState-store}

set-own : {A : Type 0} (xs : List A) (n : ℕ) (x : A) → x ≡ get_or xs n x → slice_set xs n x ≡ xs
set-own [] n x h = refl
set-own (y ∷ ys) zero x h = ap (λ z. z ∷ ys) h
set-own (y ∷ ys) (suc n) x h = ap (λ zs. y ∷ zs) (set-own ys n x h)

-- if the book and the slot stay
pub slot-stays : (s : State) (p : ℕ) (b : BookState) (slot left : Option Observation) → slot ≡ get_or s.slots p slot → b ≡ s.book → left ≡ slot
    → record s { book = b; slots = slice_set s.slots p left } ≡ s
slot-stays s p b slot left at same stays =
    let own : slice_set s.slots p left ≡ s.slots = ap (slice_set s.slots p) stays ∙ set-own s.slots p slot at in
    ap (λ (x : BookState). record s { book = x; slots = slice_set s.slots p left }) same ∙ ap (λ (l : List (Option Observation)). record s { slots = l }) own

-- the state stays one, whether or not the reading was stored
pub slot-is : (s : State) (p : ℕ) (b : BookState) (slot left : Option Observation) (answer : Result Reply TurnFault) → IsState s → slot ≡ get_or s.slots p slot
    → OnOk answer (b ≡ stored s.book slot) → OnOk answer (left ≡ None) → OnErr answer (b ≡ s.book) → OnErr answer (left ≡ slot)
    → IsState (record s { book = b; slots = slice_set s.slots p left })
slot-is s p b slot left (Ok r) is at stores empty same stays = IsState-store s p b slot left is stores empty
slot-is s p b slot left (Err e) is at stores empty same stays = subst IsState (sym (slot-stays s p b slot left at same stays)) is
