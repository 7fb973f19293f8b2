-- Runs, one turn after another.
use Rattle.std.proofs.Common.{◌≡◌, ◌∙◌, ℕ, ◌+◌, ◌<◌, true, List, [], ◌∷◌, ◌++◌, length, take, get_or, refl, sym, ap, subst, Option, Some, None}
use Rattle.orch_core.proofs.Prelude.{Calls, Held, Machine, Ran, Reply, Row, State, StepsTo, Turn, TurnFault, WasCutOff, changed, engine, fold-append}
use Rattle.orch_core.proofs.Prelude.{get_or_from_slice_get, held_run, held_step, kept_by, recorder, reply_of, run_turns, step, take_more, turns_of}
use Rattle.orch_core.proofs.Prelude.fault

-- one more turn

turns_of-push : (xs : List (List Row × Turn)) (x : List Row × Turn) → turns_of (xs ++ x ∷ []) ≡ turns_of xs ++ x.1 ∷ []
turns_of-push [] x = refl
turns_of-push (y ∷ ys) x = ap (λ (ts : List Turn). y.1 ∷ ts) (turns_of-push ys x)

pub run_turns-push : {A : Type 0} (m : Machine A) (s : A) (xs : List (List Row × Turn)) (x : List Row × Turn) → run_turns m s (xs ++ x ∷ []) ≡ m.next x.0 (run_turns m s xs) x.1
run_turns-push m s [] x = refl
run_turns-push m s (y ∷ ys) x = run_turns-push m (m.next y.0 s y.1) ys x

held_run-push : {A : Type 0} (m : Machine A) (h : Held A) (ts : List Turn) (t : Turn) → held_run m h (ts ++ t ∷ []) ≡ held_step m (held_run m h ts) t
held_run-push m h ts t = fold-append (held_step m) h ts (t ∷ [])

-- no turn leads anywhere
pub Ran-nil : {A : Type 0} (m : Machine A) (kept : Option (List Row)) (s : A) → Ran m kept s [] kept s
Ran-nil m None s = record { state = ([], refl, refl); rows = refl }
Ran-nil m (Some rows) s = record { state = refl; rows = refl }

-- one more turn leads on
pub Ran-more : {A : Type 0} (m : Machine A) (kept kept' kept'' : Option (List Row)) (s s' s'' : A) (ts : List Turn) (t : Turn) → Ran m kept s ts kept' s' → StepsTo m kept' s' t s'' → kept'' ≡ kept_by m true kept' s' t
    → Ran m kept s (ts ++ t ∷ []) kept'' s''
Ran-more m None kept' kept'' s s' s'' ts t ran steps rows =
    let some = subst (λ k. StepsTo m k s' t s'') ran.rows steps in
    let xs = ran.state.0 in
    let x : List Row × Turn = (some.0, t) in
    record {
      state = (xs ++ x ∷ [], turns_of-push xs x ∙ ap (λ (us : List Turn). us ++ t ∷ []) ran.state.1, some.1 ∙ (ap (λ v. m.next some.0 v t) ran.state.2 ∙ sym (run_turns-push m s xs x)));
      rows = rows ∙ ap (λ k. kept_by m true k s' t) ran.rows;
    }
Ran-more {A = A} m (Some rows) kept' kept'' s s' s'' ts t ran steps kept =
    let h : Held A = record { rows = rows; state = s } in
    let steps' = subst (λ k. StepsTo m k s' t s'') ran.rows steps in
    let here : s'' ≡ m.next (held_run m h ts).rows (held_run m h ts).state t = steps' ∙ ap (λ (v : A). m.next (held_run m h ts).rows v t) ran.state in
    record {
      state = here ∙ ap (λ (g : Held A). g.state) (sym (held_run-push m h ts t));
      rows =
          kept ∙ ap (λ k. kept_by m true k s' t) ran.rows
          ∙ ap (λ (v : A). Some (changed (held_run m h ts).rows (m.changes (held_run m h ts).rows v t))) ran.state
          ∙ ap (λ (g : Held A). Some g.rows) (sym (held_run-push m h ts t));
    }

pub Ran-next : {A : Type 0} (m : Machine A) (kept kept' kept'' : Option (List Row)) (s s' s'' : A) (ts : List Turn) (i : ℕ) (d : Turn) → i < length ts → Ran m kept s (take i ts) kept' s' → StepsTo m kept' s' (get_or ts i d) s''
    → kept'' ≡ kept_by m true kept' s' (get_or ts i d) → Ran m kept s (take (i + 1) ts) kept'' s''
Ran-next m kept kept' kept'' s s' s'' ts i d within ran steps rows =
    subst (λ us. Ran m kept s us kept'' s'') (sym (take_more ts i d within)) (Ran-more m kept kept' kept'' s s' s'' (take i ts) (get_or ts i d) ran steps rows)

-- a turn gave up, and left all as it was
pub cut-at : {A : Type 0} (m : Machine A) (kept kept' kept'' : Option (List Row)) (s s' s'' : A) (ts : List Turn) (i : ℕ) (d : Turn) (why : TurnFault) → i < length ts → Ran m kept s (take i ts) kept' s' → s'' ≡ s' → kept'' ≡ kept'
    → (why ≡ fault.Keeper → Calls m s' (get_or ts i d)) → WasCutOff m kept s ts kept'' s'' why
cut-at {A = A} m kept kept' kept'' s s' s'' ts i d why within ran stays keeps calls = record {
  k = i;
  within = within;
  ran = subst (λ (v : A). Ran m kept s (take i ts) kept'' v) (sym stays) (subst (λ k. Ran m kept s (take i ts) k s') (sym keeps) ran);
  calls = λ failed t at. subst (λ (v : A). Calls m v t) (sym stays) (subst (Calls m s') (get_or_from_slice_get ts i t d at) (calls failed));
}

-- the journal beside

pub StepsTo-recorded : (kept : Option (List Row)) (s s' : State) (journal journal' : List (Turn × Reply)) (t : Turn) → StepsTo engine kept s t s' → journal' ≡ journal ++ (t, reply_of s t) ∷ []
    → StepsTo recorder kept (record { state = s; journal = journal }) t (record { state = s'; journal = journal' })
StepsTo-recorded None s s' journal journal' t steps joins = (steps.0, ap (λ (v : State). record { state = v; journal = journal' }) steps.1 ∙ ap (λ (j : List (Turn × Reply)). record { state = step steps.0 s t; journal = j }) joins)
StepsTo-recorded (Some rows) s s' journal journal' t steps joins = ap (λ (v : State). record { state = v; journal = journal' }) steps ∙ ap (λ (j : List (Turn × Reply)). record { state = step rows s t; journal = j }) joins
