-- Rows that a book has are those that the code finds in it.
use Rattle.std.proofs.Common.{◌≡◌, ℕ, Bool, true, false, List, [], ◌∷◌, Option, None, Some, refl, sym, ap, subst, zero, suc, ◌==◌, ◌&&◌, ◌↔◌, IsTrue, nat_eq, slice_index_or, slice_set}
use Rattle.instance_keeper.proofs.Prelude.{BookState, Candidate, Downtime, Instance, Moment, Row, Rule, ServerNo, after_put, bool_is, both_true}
use Rattle.instance_keeper.proofs.Prelude.{eq_is, eq_refl, false≢true, had, has_row, instance_is, instance_refl, moment_eta, no_is, pointwise}
use Rattle.instance_keeper.proofs.Prelude.{same_bool, same_candidate, same_downtime, same_instance, same_rule, same_text}
use Rattle.instance_keeper.proofs.Prelude.row
use Rattle.instance_keeper.proofs.Prelude.rule

-- downtimes and candidates

text_refl : (xs : List ℕ) → pointwise nat_eq xs xs ≡ true
text_refl [] = refl
text_refl (x ∷ xs) = rw (eq_refl x, text_refl xs) refl

text_is : (xs ys : List ℕ) → pointwise nat_eq xs ys ≡ true → xs ≡ ys
text_is xs ys h = same_text xs ys (sym h)

downtime_of : ServerNo → Moment → Moment → List ℕ → List ℕ → Downtime
downtime_of number begun until owner reason = record { no = number; begun = begun; until = until; owner = owner; reason = reason }

downtime_eta : (a : Downtime) → downtime_of a.no a.begun a.until a.owner a.reason ≡ a
unfolding downtime_of
downtime_eta a = refl

downtime_refl : (a b : Downtime) → a ≡ b → same_downtime a b ≡ true
downtime_refl a b h = subst (λ c. same_downtime a c ≡ true) h (rw (eq_refl a.no.0, eq_refl a.begun.0, eq_refl a.until.0, text_refl a.owner, text_refl a.reason) refl)

pub downtime_is : (a b : Downtime) → same_downtime a b ≡ true → a ≡ b
downtime_is a b h =
    let e = both_true (a.no.0 == b.no.0) ((a.begun.0 == b.begun.0) && ((a.until.0 == b.until.0) && (pointwise nat_eq a.owner b.owner && pointwise nat_eq a.reason b.reason))) h in
    let f = both_true (a.begun.0 == b.begun.0) ((a.until.0 == b.until.0) && (pointwise nat_eq a.owner b.owner && pointwise nat_eq a.reason b.reason)) e.1 in
    let g = both_true (a.until.0 == b.until.0) (pointwise nat_eq a.owner b.owner && pointwise nat_eq a.reason b.reason) f.1 in
    let t = both_true (pointwise nat_eq a.owner b.owner) (pointwise nat_eq a.reason b.reason) g.1 in
    let no = no_is a.no b.no e.0 in
    let begun = eq_is a.begun.0 b.begun.0 f.0 in
    let until = eq_is a.until.0 b.until.0 g.0 in
    let owner = text_is a.owner b.owner t.0 in
    let reason = text_is a.reason b.reason t.1 in
    cc (downtime_eta a, downtime_eta b, moment_eta a.begun, moment_eta b.begun, moment_eta a.until, moment_eta b.until)

rule_refl : (a : Rule) → same_rule a a ≡ true
rule_refl rule.Prefer = refl
rule_refl _ = refl

rule_is : (a b : Rule) → same_rule a b ≡ true → a ≡ b
rule_is rule.Prefer rule.Prefer h = refl
rule_is rule.Neutral rule.Neutral h = refl
rule_is rule.PreferNot rule.PreferNot h = refl
rule_is rule.MustNot rule.MustNot h = refl
rule_is _ _ h = absurd (false≢true h)

candidate_of : ServerNo → Rule → Moment → Candidate
candidate_of number rule until = record { no = number; rule = rule; until = until }

candidate_eta : (a : Candidate) → candidate_of a.no a.rule a.until ≡ a
unfolding candidate_of
candidate_eta a = refl

candidate_refl : (a b : Candidate) → a ≡ b → same_candidate a b ≡ true
candidate_refl a b h = subst (λ c. same_candidate a c ≡ true) h (rw (eq_refl a.no.0, rule_refl a.rule, eq_refl a.until.0) refl)

pub candidate_is : (a b : Candidate) → same_candidate a b ≡ true → a ≡ b
candidate_is a b h =
    let e = both_true (a.no.0 == b.no.0) (same_rule a.rule b.rule && (a.until.0 == b.until.0)) h in
    let f = both_true (same_rule a.rule b.rule) (a.until.0 == b.until.0) e.1 in
    let no = no_is a.no b.no e.0 in
    let rule = rule_is a.rule b.rule f.0 in
    let until = eq_is a.until.0 b.until.0 f.1 in
    cc (candidate_eta a, candidate_eta b, moment_eta a.until, moment_eta b.until)

-- an answer that is true exactly for equal values is the test

told : {A : Type 0} (same : A → A → Bool) (a b : A) (answer : Bool) → (a ≡ b → same a b ≡ true) → (same a b ≡ true → a ≡ b) → IsTrue answer ↔ (a ≡ b) → answer ≡ same a b
told same a b true there back is = sym (there (is.0 refl))
told same a b false there back is = go (same a b) refl
  where
    go : (s : Bool) → same a b ≡ s → false ≡ s
    go true e = is.1 (back e)
    go false e = refl

pub told_instance : (a b : Instance) (answer : Bool) → IsTrue answer ↔ (a ≡ b) → answer ≡ same_instance a b
told_instance a b answer is = told same_instance a b answer (instance_refl a b) (instance_is a b) is

pub told_downtime : (a b : Downtime) (answer : Bool) → IsTrue answer ↔ (a ≡ b) → answer ≡ same_downtime a b
told_downtime a b answer is = told same_downtime a b answer (downtime_refl a b) (downtime_is a b) is

pub told_candidate : (a b : Candidate) (answer : Bool) → IsTrue answer ↔ (a ≡ b) → answer ≡ same_candidate a b
told_candidate a b answer is = told same_candidate a b answer (candidate_refl a b) (candidate_is a b) is

-- a row that the book has changes nothing

set_same : {A : Type 0} (xs : List (Option A)) (n : ℕ) (x : A) → slice_index_or xs n None ≡ Some x → slice_set xs n (Some x) ≡ xs
set_same [] n x h = refl
set_same (y ∷ xs) zero x h = ap (λ z. z ∷ xs) (sym h)
set_same (y ∷ xs) (suc n) x h = ap (λ zs. y ∷ zs) (set_same xs n x h)

had_is : {A : Type 0} (same : A → A → Bool) → ((a b : A) → same a b ≡ true → a ≡ b) → (kept : Option A) (x : A) → had same kept x ≡ true → kept ≡ Some x
had_is same is None x h = absurd (false≢true h)
had_is same is (Some k) x h = ap Some (is k x h)

pub had_row_stays : (b : BookState) (r : Row) → has_row b r ≡ true → after_put b r ≡ b
had_row_stays b (row.Instance i) h = ap (λ xs. record b { instances = xs }) (set_same b.instances i.no.0 i (had_is same_instance instance_is _ i h))
had_row_stays b (row.Downtime d) h = ap (λ xs. record b { downtimes = xs }) (set_same b.downtimes d.no.0 d (had_is same_downtime downtime_is _ d h))
had_row_stays b (row.Candidate c) h = ap (λ xs. record b { candidates = xs }) (set_same b.candidates c.no.0 c (had_is same_candidate candidate_is _ c h))
had_row_stays b (row.Recovery r) h = absurd (false≢true h)
had_row_stays b (row.Switch enabled) h = ap (λ x. record b { switch = x }) (sym (had_is same_bool bool_is b.switch enabled h))
had_row_stays b (row.Active node until) h = absurd (false≢true h)
