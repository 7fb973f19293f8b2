-- Rows of servers that aren't known.
use Rattle.std.proofs.Common.{◌≡◌, ℕ, ◌<◌, ◌^◌, false, ◌∷◌, List, Ok, Err, None, Result, refl, arith}
use Rattle.std.specs.Prelude.{MatchOption, ⊤}
use Rattle.std.proofs.lemmas.Bool.{le-ltb}
use Rattle.kept_rows.specs.declared.row.Row.{Row}
use Rattle.kept_rows.specs.Servers.{are_known}
use Rattle.row_texts.specs.declared.fault.RowFault.{RowFault}
use Rattle.row_texts.specs.declared.fault.RowFault.TheVariants as fault
use Rattle.row_texts.specs.Fields.{fault_of}
use Rattle.sql_keeper.specs.Counting.{unless_unknown}

-- the last number of all is no server's
pub of_none : (count : ℕ) (servers : List ℕ) → count < 2 ^ 32 → are_known count (4294967295 ∷ servers) ≡ false
of_none count servers few = rw (le-ltb 4294967295 count (omega arith)) refl

pub passed_over : (read : Result Row RowFault) → read ≡ Err fault.UnknownServer → unless_unknown read ≡ Ok None
passed_over read e = rw e refl

-- any other fault stays
pub passed_on : (f : RowFault) (read : Result Row RowFault) → (f ≡ fault.UnknownServer → ⊥)
    → MatchOption (fault_of f) ⊤ (λ g. read ≡ Err g) → MatchOption (fault_of f) ⊤ (λ g. unless_unknown read ≡ Err g)
passed_on fault.UnknownServer read other e = absurd (other refl)
passed_on fault.Memory read other e = tt
passed_on _ read other e = rw e refl
