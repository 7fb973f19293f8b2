-- Rows keep recoveries as they are.
use Rattle.std.proofs.Common.{◌≡◌, ℕ, true, Option, None, Some, refl, ap}
use Rattle.std.specs.Prelude.{is_some, unwrap_or}
use Rattle.kept_rows.proofs.Prelude.{Recovery, RecoveryRow, as_recovery, as_row, false≢true}

pub read-back : (period : ℕ) (r : Recovery) → as_recovery period (as_row r) ≡ r
read-back period r = refl

pub kept-back : (period : ℕ) (k : RecoveryRow) → is_some k.block ≡ true → as_row (as_recovery period k) ≡ k
kept-back period k h = ap (λ (o : Option ℕ). record k { block = o }) (go k.block h)
  where
    go : (o : Option ℕ) → is_some o ≡ true → Some (unwrap_or o period) ≡ o
    go None h = absurd (false≢true h)
    go (Some block) h = refl
