-- Lists of turns.
use Rattle.std.proofs.Common.{◌≡◌, ◌∙◌, ℕ, ◌+◌, ◌<◌, List, [], ◌∷◌, ◌++◌, length, get_or, take, sym, ap, append_assoc, append-nil}
use Rattle.unended_jobs.proofs.Prelude.{ServerNo, flat_map}
use Rattle.std.proofs.lemmas.Grind.{flat_map-append}
use Rattle.std.proofs.lemmas.List.{take_more}
use Rattle.turns.specs.declared.turn.Turn.{Turn}

-- two turns more for one server more
pub two-more : (f : ServerNo → List Turn) (old all one two : List Turn) (servers : List ServerNo) (i : ℕ) (d : ServerNo) (a b : Turn) → i < length servers → f (get_or servers i d) ≡ a ∷ b ∷ []
    → all ≡ old ++ flat_map f (take i servers) → one ≡ all ++ a ∷ [] → two ≡ one ++ b ∷ [] → two ≡ old ++ flat_map f (take (i + 1) servers)
two-more f old all one two servers i d a b within gives before first second =
    second ∙ ap (λ (ts : List Turn). ts ++ b ∷ []) (first ∙ ap (λ (ts : List Turn). ts ++ a ∷ []) before)
    ∙ joined old (flat_map f (take i servers)) a b
    ∙ ap (λ (ts : List Turn). old ++ ts)
    (ap (λ (ts : List Turn). flat_map f (take i servers) ++ ts) (sym gives ∙ sym (one-of (get_or servers i d)))
    ∙ sym (flat_map-append f (take i servers) (get_or servers i d ∷ [])) ∙ ap (flat_map f) (sym (take_more servers i d within)))
  where
    joined : (xs ys : List Turn) (a b : Turn) → ((xs ++ ys) ++ a ∷ []) ++ b ∷ [] ≡ xs ++ (ys ++ a ∷ b ∷ [])
    joined xs ys a b = simp append_assoc

    one-of : (n : ServerNo) → flat_map f (n ∷ []) ≡ f n
    one-of n = append-nil (f n)
