-- What a scan begins it begins by itself.
use Rattle.std.proofs.Common.{◌≡◌, ◌∙◌, ◌++◌, Bool, true, false, not, List, [], ◌∷◌, Option, Some, None, refl, sym, ap, subst, inl, inr}
use Rattle.std.specs.Prelude.{All, slice_index_or, unwrap_or}
use Rattle.run_laws.proofs.Prelude.{Action, All-cons, All-head, All-map, All-nil, All-tail, AreTries, Begins, BookState, Code, Entry, IsUnasked, Left}
use Rattle.run_laws.proofs.Prelude.{Line, PassesFilter, Refusal, Scan, ScansBeginUnasked, ServerNo, State, action_checks, action_of, actionable_in}
use Rattle.run_laws.proofs.Prelude.{after_begun, attempt_in, code_at, code_checks, downtime_at, held_back, only_if, option_map, own_checks, same_Some}
use Rattle.run_laws.proofs.Prelude.{scan_in, tries, with_told, without_candidate, without_successor}
use Rattle.run_laws.proofs.Prelude.action
use Rattle.run_laws.proofs.Prelude.commands_refusal as refusal

-- each of these checks refuses nothing
abbrev Pass : List (Option Refusal) → Type 0
Pass xs = All (λ c. c ≡ None) xs

tail-pass : {y : Option Refusal} (ys : List (Option Refusal)) → Pass (y ∷ ys) → Pass ys
tail-pass {y} ys all = All-tail (λ c. c ≡ None) y ys all

none-mapped : {A B : Type 0} (f : A → B) (x : Option A) → option_map f x ≡ None → x ≡ None
none-mapped f None h = refl
none-mapped f (Some x) h = cc

passes-then : (b : Bool) (r : Refusal) → only_if (not b) r ≡ None → b ≡ true
passes-then true r h = refl
passes-then false r h = cc

module _ (s : State) (at : Left) (f : ServerNo) where
  abbrev book_then : BookState
  book_then = record s.book { leases = at.leases }

  -- those that hold back what begins by itself refuse nothing
  record IsFree (passes : Bool) : Type 0 where
    enabled : unwrap_or s.book.switch true ≡ true
    up : downtime_at s.book f (record { 0 = s.moment }) ≡ None
    passes_it : passes ≡ true

  own-free : (passes : Bool) (rest : List (Option Refusal)) → Pass (own_checks book_then (attempt_in s f) f passes ++ rest) → IsFree passes
  own-free passes rest all =
      let up = option_map refusal.Downtimed (downtime_at s.book f (record { 0 = s.moment })) in
      let first = only_if (not (unwrap_or s.book.switch true)) refusal.GloballyDisabled in
      let last = only_if (not passes) refusal.FilteredOut in
      let later = All-tail (λ c. c ≡ None) first (up ∷ last ∷ rest) all in
      record {
        enabled = passes-then (unwrap_or s.book.switch true) refusal.GloballyDisabled (All-head (λ c. c ≡ None) first (up ∷ last ∷ rest) all);
        up = none-mapped refusal.Downtimed (downtime_at s.book f (record { 0 = s.moment })) (All-head (λ c. c ≡ None) up (last ∷ rest) later);
        passes_it = passes-then passes refusal.FilteredOut (All-head (λ c. c ≡ None) last rest (All-tail (λ c. c ≡ None) up (last ∷ rest) later));
      }

  unasked-by : (code : Code) → code_at s.book f ≡ Some code → (passes : Bool) → (passes ≡ true → PassesFilter s f (action_of code)) → IsFree passes → IsUnasked s f
  unasked-by code is passes so free = record {
    enabled = λ off. off-not s.book.switch off free.enabled;
    up = free.up;
    passes = λ other at. subst (λ (k : Code). PassesFilter s f (action_of k)) (same_Some code other (sym is ∙ at)) (so free.passes_it);
  }
    where
      off-not : (x : Option Bool) → x ≡ Some false → unwrap_or x true ≡ true → ⊥
      off-not x off on = let bad : false ≡ true = sym (ap (λ (y : Option Bool). unwrap_or y true) off) ∙ on in cc

  by-action : (code : Code) → code_at s.book f ≡ Some code → (a : Action) → action_of code ≡ a → Pass (action_checks s.world book_then at.audit (attempt_in s f) f code a) → IsUnasked s f
  by-action code is action.Nothing same all = let bad : Some (refusal.NotActionable code) ≡ None = All-head (λ c. c ≡ None) (Some (refusal.NotActionable code)) [] all in cc
  by-action code is action.MasterRecovery same all =
      unasked-by code is (slice_index_or s.configuration.master f.0 false) (λ yes. subst (PassesFilter s f) (sym same) yes)
      (own-free (slice_index_or s.configuration.master f.0 false) (held_back book_then at.audit (attempt_in s f) f ∷ without_candidate s.world book_then (attempt_in s f) f ∷ []) all)
  by-action code is action.IntermediateRecovery same all =
      unasked-by code is (slice_index_or s.configuration.intermediate f.0 false) (λ yes. subst (PassesFilter s f) (sym same) yes)
      (own-free (slice_index_or s.configuration.intermediate f.0 false) (held_back book_then at.audit (attempt_in s f) f ∷ without_successor s.world book_then f ∷ []) all)

  by-code : (o : Option Code) → code_at s.book f ≡ o → Pass (code_checks s.world book_then at.audit (attempt_in s f) f o) → IsUnasked s f
  by-code None is all = let bad : Some refusal.UnknownInstance ≡ None = All-head (λ c. c ≡ None) (Some refusal.UnknownInstance) [] all in cc
  by-code (Some code) is all =
      by-action code is (action_of code) refl
      (tail-pass (action_checks s.world book_then at.audit (attempt_in s f) f code (action_of code)) all)

module _ (s : State) where
  abbrev scan : Scan
  scan = record { world = s.world; book = s.book; by = attempt_in s }

  abbrev Unasked : Begins → Type 0
  Unasked x = IsUnasked s x.job.failed

  tries-unasked : (at : Left) (es : List Entry) (xs : List Begins) (ls : List Line) → AreTries scan at es xs ls → All Unasked xs
  tries-unasked at [] [] ls are = All-nil Unasked
  tries-unasked at [] (x ∷ xs) [] are = absurd are
  tries-unasked at [] (x ∷ xs) (l ∷ ls) are = absurd are
  tries-unasked at (e ∷ es) [] ls are = All-nil Unasked
  tries-unasked at (e ∷ es) (x ∷ xs) [] are = absurd are
  tries-unasked at (e ∷ es) (x ∷ xs) (l ∷ ls) (inl (begun, rest)) =
      All-cons Unasked x xs (subst (IsUnasked s) (sym begun.failed) (by-code s at e.no (code_at s.book e.no) refl begun.passed)) (tries-unasked (after_begun at x) es xs ls rest)
  tries-unasked at (e ∷ es) (x ∷ xs) (l ∷ ls) (inr (refused, rest)) = tries-unasked at es (x ∷ xs) ls rest

pub scans-unasked : ScansBeginUnasked
scans-unasked s =
    All-map (λ (x : Begins). IsUnasked s x.job.failed) (with_told s.configuration s.book) (scan_in s).begun
    (tries-unasked s (record { leases = s.book.leases; audit = s.audit; last = s.last_job }) (actionable_in s.book) (scan_in s).begun (scan_in s).lines
    (tries s.world s.book (attempt_in s) s.configuration.wait s.audit s.last_job))
