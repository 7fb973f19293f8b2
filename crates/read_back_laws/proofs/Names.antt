-- Drawn names are found by their numbers.
use Rattle.scenarios.proofs.OrchBase.SameNames.{same_as_itself as same_name_true}
use Rattle.std.proofs.Common.{◌≡◌, ◌∙◌, ◌≢◌, ◌<◌, ◌≤◌, ℕ, zero, suc, ◌+◌, ◌^◌, Bool, true, false, Some, Ok, refl, sym, ap, arith, inl, inr, IsTrue}
use Rattle.read_back_laws.proofs.Prelude.{HostPort, eqb_tells, first_named, name_in, name_of, name_reads, names_apart, names_from, same_name, same_name_tells}
use Rattle.read_back_laws.proofs.Prelude.{server_name, server_named, server_no, string}

told : (b : Bool) (P : Type 0) → (IsTrue b → P) → (P → ⊥) → b ≡ false
told true P means lacks = absurd (lacks (means refl))
told false P means lacks = refl

-- names of other numbers are others
other_name : (m n : ℕ) → m + 1 < 2 ^ 64 → n + 1 < 2 ^ 64 → m ≢ n → same_name (name_of m) (name_of n) ≡ false
other_name m n small small' other =
    told (same_name (name_of m) (name_of n)) (name_of m ≡ name_of n) (same_name_tells (name_of m) (name_of n)).0 (λ e. other (names_apart m n small small' (ap (λ (h : HostPort). h.host) e)))

pub first_of_names : (n count k : ℕ) → n ≤ k → k < n + count → n + count < 2 ^ 64 → first_named (name_of k) n (names_from n count) ≡ Some k
first_of_names n zero k low high small = absurd (omega arith)
first_of_names n (suc count) k low high small = elim (eqb_tells n k) [
  | inl here ↦ let same : same_name (name_of n) (name_of k) ≡ true = ap (λ m. same_name (name_of n) (name_of m)) (sym here.1) ∙ same_name_true (name_of n) in rw same (ap Some here.1)
  | inr other ↦ let apart : same_name (name_of n) (name_of k) ≡ false = other_name n k (omega arith) (omega arith) other.1 in
      rw apart (first_of_names (n + 1) count k (omega (arith, other.1)) (omega arith) (omega arith))
]

-- a drawn name as JSON names its server
pub named : (count k : ℕ) → k < count → count < 2 ^ 64 → server_named (names_from 0 count) (string (server_name k)) ≡ Ok (server_no k)
unfolding server_named name_in
named count k there small = rw (name_reads k (omega arith)) (rw (first_of_names 0 count k (omega arith) (omega arith) (omega arith)) refl)
