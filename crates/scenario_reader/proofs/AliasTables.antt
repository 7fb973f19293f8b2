-- Tables as they grow.
use Rattle.std.proofs.Common.{◌≡◌, ℕ, ◌+◌, ◌<◌, ◌||◌, Bool, true, false, cond, eqb, List, [], length, get_or, drop, map, Option, Some, Bor, refl, sym, ap, subst, ◌∙◌, add-one, drop-cons, All}
use Rattle.scenario_reader.proofs.Prelude.{All-map, All-weaker, Judged, ServerInit, alias_of, answered_list, bytes_eq-Decides, pointwise, update}
use Rattle.std.specs.HashMap.{HashMap, get_by}
use Rattle.std.specs.Option.{option_map_or}
use Rattle.std.specs.Str.{bytes_eq}
use Rattle.std.proofs.lemmas.Option.{same_Some}
use Rattle.cluster_filters.specs.Forms.{Form, some_matches}
use Rattle.cluster_filters.specs.Judging.{judged}
use Rattle.scenarios.specs.declared.filters.Alias.{Alias}
use Rattle.scenarios.specs.declared.filters.FilterList.{FilterList}
use Rattle.scenario_reader.specs.AliasTable.{alias_at, answered_by, AreKnown, AreUnjudged, IsAliasTable, IsAnswer}

-- the alias at a place, or one after it
alias_of-at : (aliases : List Alias) (n : ℕ) (a : Alias) (cluster : List ℕ) (test : Bool) → n < length aliases → a ≡ get_or aliases n a → test ≡ pointwise eqb a.cluster cluster
    → alias_of (drop n aliases) cluster ≡ cond test a.alias (alias_of (drop (n + 1) aliases) cluster)
alias_of-at aliases n a cluster test lt here is = rw (add-one, drop-cons aliases n a lt, ← here, ← is) refl

-- in the new table a text has this value, and the others have theirs
abbrev pub Adds : {X S : Type 0} → HashMap (Bor (List ℕ)) X S → HashMap (Bor (List ℕ)) X S → List ℕ → X → Type 0
Adds old new text x = (other : List ℕ) → get_by (λ k. bytes_eq other k.now) new ≡ update bytes_eq (λ t. get_by (λ k. bytes_eq t k.now) old) text (Some x) other

-- an alias before those of the table
pub alias-more : {S : Type 0} (old new : HashMap (Bor (List ℕ)) (Bor (List ℕ)) S) (aliases : List Alias) (n : ℕ) (a : Alias) (text : List ℕ) (alias : Bor (List ℕ)) → n < length aliases → a ≡ get_or aliases n a
    → text ≡ a.cluster → alias.now ≡ a.alias → Adds old new text alias → IsAliasTable old (drop (n + 1) aliases) → IsAliasTable new (drop n aliases)
alias-more old new aliases n a text alias lt here same told adds tabled = λ cluster.
    let at : alias_of (drop n aliases) cluster ≡ cond (bytes_eq text cluster) a.alias (alias_of (drop (n + 1) aliases) cluster) =
    alias_of-at aliases n a cluster (bytes_eq text cluster) lt here (ap (λ (t : List ℕ). bytes_eq t cluster) same) in
    ap (λ (o : Option (Bor (List ℕ))). option_map_or (λ (b : Bor (List ℕ)). b.now) o []) (adds cluster) ∙ go cluster (bytes_eq text cluster) ∙ sym at
  where
    go : (cluster : List ℕ) (b : Bool) → option_map_or (λ (x : Bor (List ℕ)). x.now) (cond b (Some alias) (get_by (λ k. bytes_eq cluster k.now) old)) [] ≡ cond b a.alias (alias_of (drop (n + 1) aliases) cluster)
    go cluster true = told
    go cluster false = tabled cluster

-- one answer more
pub answer-more : {S : Type 0} (old new : HashMap (Bor (List ℕ)) Bool S) (alias : List ℕ → List ℕ) (forms : List Form) (text : List ℕ) (b : Bool) → b ≡ some_matches text (alias text) forms → Adds old new text b
    → AreKnown old alias forms → AreKnown new alias forms
answer-more old new alias forms text b told adds known = λ cluster c at. go cluster c (bytes_eq text cluster) refl (sym (adds cluster) ∙ at)
  where
    go : (cluster : List ℕ) (c : Bool) (same : Bool) → bytes_eq text cluster ≡ same → cond same (Some b) (get_by (λ k. bytes_eq cluster k.now) old) ≡ Some c → c ≡ some_matches cluster (alias cluster) forms
    go cluster c true is e =
        let is_same : text ≡ cluster = (bytes_eq-Decides text cluster).0 is in
        sym (same_Some b c e) ∙ subst (λ (t : List ℕ). b ≡ some_matches t (alias t) forms) is_same told
    go cluster c false is e = known cluster c e

-- clusters that the filters judged have their answers
pub judged-answers : (alias : List ℕ → List ℕ) (forms : List Form) (clusters : List Judged) → AreUnjudged alias clusters → All (IsAnswer alias forms) (map (judged forms) clusters)
judged-answers alias forms clusters unjudged = All-map (IsAnswer alias forms) (judged forms) clusters (All-weaker
    (λ (c : Judged). (c.alias.now ≡ alias c.name.now) × (c.matches ≡ false)) (λ c. IsAnswer alias forms (judged forms c))
    (λ c h. ap (λ b. b || some_matches c.name.now c.alias.now forms) h.1 ∙ ap (λ a. some_matches c.name.now a forms) h.0) clusters unjudged)

-- answers by a table are those by the aliases
pub answered-same : {S : Type 0} (table : HashMap (Bor (List ℕ)) (Bor (List ℕ)) S) (aliases : List Alias) (texts : List (List ℕ)) (servers : List ServerInit) (l : FilterList) → IsAliasTable table aliases
    → l ≡ answered_by (alias_at table) texts servers → l ≡ answered_list texts aliases servers
answered-same table aliases texts servers l tabled e =
    let same : alias_at table ≡ alias_of aliases = λ i cluster. tabled cluster i in
    e ∙ ap (λ (f : List ℕ → List ℕ). answered_by f texts servers) same
