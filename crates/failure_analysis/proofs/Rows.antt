-- Exactly one of the table's rows applies.
use Rattle.std.proofs.Common.{◌≡◌, ℕ, ◌≤◌, Bool, true, false, Option, None, Some, refl, sym, ◌∙◌, ap, arith}
use Rattle.std.specs.Prelude.{◌↔◌, All, count_by, find, unwrap_or}
use Rattle.failure_analysis.proofs.Prelude.{AreCounts, Code, Counts, NoProblem, action_by, action_of, code_of}
use Rattle.failure_analysis.proofs.Prelude.{conditions, false≢true, is_of_row, nat_tests, problems}
use Rattle.instance_keeper.proofs.OrchBase.Found.{found-passes, none-found, none-passes}

abbrev counts : Bool → Bool → ℕ → ℕ → ℕ → ℕ → Counts
counts h ok n v r l = record { has_source = h; valid = ok; replicas = n; valid_replicas = v; replicating = r; lagging = l }

one : (h ok : Bool) (n v r l : ℕ) → l ≤ r → r ≤ v → v ≤ n → count_by (λ b. b) (conditions (counts h ok n v r l)) ≡ 1
one true true n v r l a b d = grind (arith, nat_tests)
one true false n v r l a b d = grind (arith, nat_tests)
one false true n v r l a b d = grind (arith, nat_tests)
one false false n v r l a b d = grind (arith, nat_tests)

is-code : (code : Code) (h ok : Bool) (n v r l : ℕ) → l ≤ r → r ≤ v → v ≤ n → is_of_row code (counts h ok n v r l) ≡ true → code_of (counts h ok n v r l) ≡ code
unfolding code_of
is-code NoProblem h ok n v r l a b d e = absurd (false≢true e)
is-code _ true true n v r l a b d e = grind (arith, nat_tests)
is-code _ true false n v r l a b d e = grind (arith, nat_tests)
is-code _ false true n v r l a b d e = grind (arith, nat_tests)
is-code _ false false n v r l a b d e = grind (arith, nat_tests)

acts : (h ok : Bool) (n v r l : ℕ) → l ≤ r → r ≤ v → v ≤ n → action_of (code_of (counts h ok n v r l)) ≡ action_by (counts h ok n v r l)
unfolding code_of
acts true true n v r l a b d = grind (arith, nat_tests)
acts true false n v r l a b d = grind (arith, nat_tests)
acts false true n v r l a b d = grind (arith, nat_tests)
acts false false n v r l a b d = grind (arith, nat_tests)

-- any counts are some numbers
pub one-row : (c : Counts) → AreCounts c → count_by (λ b. b) (conditions c) ≡ 1
one-row c are = one c.has_source c.valid c.replicas c.valid_replicas c.replicating c.lagging are.lagging are.replicating are.valid

pub row-code : (c : Counts) (code : Code) → AreCounts c → is_of_row code c ≡ true → code_of c ≡ code
row-code c code are = is-code code c.has_source c.valid c.replicas c.valid_replicas c.replicating c.lagging are.lagging are.replicating are.valid

pub action-of : (c : Counts) → AreCounts c → action_of (code_of c) ≡ action_by c
action-of c are = acts c.has_source c.valid c.replicas c.valid_replicas c.replicating c.lagging are.lagging are.replicating are.valid

-- ---- the last row

pub last-row : (c : Counts) → (code_of c ≡ NoProblem) ↔ All (λ code. is_of_row code c ≡ false) problems
unfolding code_of
last-row c = (
  λ e. go (find (λ code. is_of_row code c) problems) refl e,
  λ all. ap (λ o. unwrap_or o NoProblem) (none-found (λ code. is_of_row code c) problems all),
)
  where
    go : (o : Option Code) → find (λ code. is_of_row code c) problems ≡ o → unwrap_or o NoProblem ≡ NoProblem → All (λ code. is_of_row code c ≡ false) problems
    go None f e = none-passes (λ code. is_of_row code c) problems f
    go (Some code) f e = absurd (false≢true (ap (λ k. is_of_row k c) (sym e) ∙ found-passes (λ k. is_of_row k c) problems code f))
