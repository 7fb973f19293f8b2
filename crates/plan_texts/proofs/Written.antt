-- What several calls wrote, one after another.
use Rattle.std.proofs.Common.{◌≡◌, ℕ, List, ◌++◌, Result, Ok, Err, OnOk, if◌then◌else◌, is_ok}

-- bytes that were added, if they were
pub appended : {T E : Type 0} (r : Result T E) (new old bytes : List ℕ) → new ≡ (if is_ok r then old ++ bytes else old) → OnOk r (new ≡ old ++ bytes)
appended (Ok x) new old bytes is = is
appended (Err e) new old bytes is = tt
