-- Servers that are known.
pub use Rattle.std.proofs.lemmas.Bool.{and_parts as both_true}
use Rattle.std.proofs.Common.{◌≡◌, ℕ, ◌<◌, true, List, ◌∷◌, nat_lt}
use Rattle.kept_rows.proofs.Prelude.{are_known, ltb-true}

-- a first server of known ones is known
pub head_known : (count n : ℕ) (ns : List ℕ) → are_known count (n ∷ ns) ≡ true → n < count
head_known count n ns h = ltb-true n count (both_true (nat_lt n count) (are_known count ns) h).0

pub rest_known : (count n : ℕ) (ns : List ℕ) → are_known count (n ∷ ns) ≡ true → are_known count ns ≡ true
rest_known count n ns h = (both_true (nat_lt n count) (are_known count ns) h).1
