-- A map's two entries are its first and its last.
use Rattle.std.proofs.Common.{◌≡◌, ◌≢◌, ◌-◌, List, [], ◌∷◌, length, Some, None, refl, String, string_bytes}
use Rattle.row_texts.proofs.Prelude.{Global, Value, members_view, pair_of, slice_get, view}

pub pair_none : (es : List (String Global × Value)) → length es ≢ 2 → pair_of (members_view es) ≡ None
pair_none [] other = refl
pair_none (a ∷ []) other = refl
pair_none (a ∷ b ∷ []) other = absurd (other refl)
pair_none (a ∷ b ∷ c ∷ es) other = refl

same_entry : (a p : String Global × Value) → Some a ≡ Some p → a ≡ p
same_entry a p e = cc

pub pair_some : (es : List (String Global × Value)) (p q : String Global × Value) → length es ≡ 2 → slice_get es 0 ≡ Some p → slice_get es (length es - 1) ≡ Some q
    → pair_of (members_view es) ≡ Some ((string_bytes p.0, view p.1), (string_bytes q.0, view q.1))
pair_some [] p q two first last = absurd cc
pair_some (a ∷ []) p q two first last = absurd cc
pair_some (a ∷ b ∷ []) p q two first last =
    let here : a ≡ p = same_entry a p first in
    let there : b ≡ q = same_entry b q last in
    rw (here, there) refl
pair_some (a ∷ b ∷ c ∷ es) p q two first last = absurd cc
