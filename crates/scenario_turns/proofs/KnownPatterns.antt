-- The answers of patterns that are kept are those that a pattern has.
use Rattle.std.proofs.Common.{◌≡◌, ℕ, Bool, true, false, cond, List, Some, Ok, refl, sym, subst, ◌∙◌, String}
use Rattle.scenario_turns.proofs.Prelude.{AreKnown, BadPattern, BTreeMap, Found, Global, IsKnown, bind-ok, bytes_eq, bytes_eq-Decides, found_in}
use Rattle.scenario_turns.proofs.Prelude.{found_of, get_by_text, holds, holds-ok, is_pattern, same_Ok, same_Some, update}

-- what is found is known
found-known : (printed : List (List ℕ)) (text : List ℕ) (f : Found) → found_in printed text ≡ Ok f → IsKnown text f.answers printed
unfolding found_in
found-known printed text f e =
    let good = bind-ok (holds BadPattern (is_pattern text)) _ f e in
    subst (λ (g : Found). IsKnown text g.answers printed) (same_Ok (found_of text printed) f good.2) (record { reads = holds-ok BadPattern _ good.0 good.1; told = refl })

-- what is known is found
pub known-found : (printed : List (List ℕ)) (text told : List ℕ) (answers all : List Bool) → told ≡ text → answers ≡ all → IsKnown text all printed → found_in printed text ≡ Ok (record { text = told; answers = answers })
unfolding found_in
known-found printed text told answers all same copied known = rw known.reads (rw (same, copied, known.told) refl)

-- one pattern more
pub known-more : (old new : BTreeMap (String Global) (List Bool)) (printed : List (List ℕ)) (text : List ℕ) (f : Found) → ((other : List ℕ) → get_by_text new other ≡ update bytes_eq (get_by_text old) text (Some f.answers) other)
    → found_in printed text ≡ Ok f → AreKnown old printed → AreKnown new printed
known-more old new printed text f updates found known other answers at = go (bytes_eq text other) refl (sym (updates other) ∙ at)
  where
    go : (b : Bool) → bytes_eq text other ≡ b → cond b (Some f.answers) (get_by_text old other) ≡ Some answers → IsKnown other answers printed
    go true is e =
        let same : text ≡ other = (bytes_eq-Decides text other).0 is in
        let told : f.answers ≡ answers = same_Some f.answers answers e in
        subst (λ (t : List ℕ). IsKnown t answers printed) same (subst (λ (a : List Bool). IsKnown text a printed) told (found-known printed text f found))
    go false is e = known other answers e
