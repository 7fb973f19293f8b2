-- Clusters that are judged by one filter after another.
use Rattle.std.proofs.Common.{◌≡◌, ◌∙◌, ℕ, ◌+◌, ◌<◌, Bool, true, false, ◌||◌, List, [], ◌∷◌, ◌++◌, length, map, take, get_or, refl, sym, ap}
use Rattle.std.proofs.lemmas.List.{map-append, take_more}
use Rattle.std.proofs.lemmas.List.Folds.{list_any-append}
use Rattle.cluster_filters.specs.Forms.{Form, form_matches, form_seen}
use Rattle.cluster_filters.specs.Judging.{judged, judged_by}
use Rattle.cluster_filters.specs.declared.filter.Filter.{Filter}
use Rattle.cluster_filters.specs.declared.judge.Judged.{Judged}

or_false : (b : Bool) → (b || false) ≡ b
or_false true = refl
or_false false = refl

-- by no filter none changes
pub judged_none : (clusters : List Judged) → map (judged []) clusters ≡ clusters
judged_none [] = refl
judged_none (c ∷ cs) = λ i. record c { matches = or_false c.matches i } ∷ judged_none cs i

or_last : (a b c : Bool) → ((a || b) || c) ≡ (a || (b || (c || false)))
or_last false false true = refl
or_last _ _ _ = refl

last_judges : (form : Form) (forms : List Form) (c : Judged) → judged_by form (judged forms c) ≡ judged (forms ++ form ∷ []) c
last_judges form forms c =
    let p : Form → Bool = form_matches c.name.now c.alias.now in
    let same = or_last c.matches _ (p form) ∙ ap (λ b. c.matches || b) (sym (list_any-append p forms (form ∷ []))) in
    λ i. record c { matches = same i }

pub judged_twice : (form : Form) (forms : List Form) (clusters : List Judged) → map (judged_by form) (map (judged forms) clusters) ≡ map (judged (forms ++ form ∷ [])) clusters
judged_twice form forms [] = refl
judged_twice form forms (c ∷ cs) = λ i. last_judges form forms c i ∷ judged_twice form forms cs i

-- one filter more
pub judged_more : (filters : List Filter) (i : ℕ) (d filter : Filter) (first before : List Judged) → i < length filters → filter ≡ get_or filters i d → before ≡ map (judged (map form_seen (take i filters))) first
    → map (judged_by (form_seen filter)) before ≡ map (judged (map form_seen (take (i + 1) filters))) first
judged_more filters i d filter first before within is so_far =
    let more = ap (map form_seen) (take_more filters i d within) ∙ map-append form_seen (take i filters) (get_or filters i d ∷ []) in
    ap (map (judged_by (form_seen filter))) so_far
    ∙ judged_twice (form_seen filter) (map form_seen (take i filters)) first
    ∙ ap (λ (f : Filter). map (judged (map form_seen (take i filters) ++ form_seen f ∷ [])) first) is
    ∙ ap (λ (forms : List Form). map (judged forms) first) (sym more)
