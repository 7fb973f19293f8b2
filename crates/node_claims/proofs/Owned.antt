-- Who is active has the kept claim.
use Rattle.std.proofs.Common.{◌≡◌, ◌≢◌, ℕ, ◌+◌, ◌<◌, ◌≤◌, Bool, true, false, cond, not, eqb, ltb, length, get_or, zero, suc, Option, Some, None, refl, sym, ap, subst, ◌∙◌, arith, ◌&&◌}
use Rattle.std.proofs.lemmas.Bool.{eqb-true, eqb-false, lt-ltb, ltb-true, ne_eqb}
use Rattle.std.proofs.lemmas.List.{get_or-set_other, get_or-set_same, length-set}
use Rattle.orch_base.specs.declared.server.Moment.{Moment}
use Rattle.node_claims.specs.declared.claims.ClaimAnswer.{ClaimAnswer}
use Rattle.node_claims.specs.declared.claims.ClaimAnswer.TheVariants as claim
use Rattle.node_claims.specs.declared.claims.ReleaseAnswer.TheVariants as release
use Rattle.node_claims.specs.Claims.{active, active_by, after_act, after_answer, after_claim, after_release, claim_answer, claim_by, is_later, is_of, made, may_act, release_answer, remembered_by, until_from, with_remembered, ClaimState, IsNode}
use Rattle.node_claims.specs.Reached.{IsActive, IsReached}
use Rattle.node_claims.specs.Reached.IsReached.{Made, Later, Claimed, Released, Acted}

-- ---- what nodes remember after a change

by_node : (P : Type 0) (m node : ℕ) (b : Bool) → eqb m node ≡ b → (m ≡ node → P) → (m ≢ node → P) → P
by_node P m node true is same differ = same (eqb-true m node is)
by_node P m node false is same differ = differ (eqb-false m node is)

remembered_alike : (s t : ClaimState) (m : ℕ) → t.remembered ≡ s.remembered → remembered_by t m ≡ remembered_by s m
remembered_alike s t zero e = refl
remembered_alike s t (suc k) e = ap (λ xs. get_or xs k None) e

set_here : (s : ClaimState) (node : ℕ) (u : Option Moment) → IsNode s node → remembered_by (with_remembered s node u) node ≡ u
set_here s zero u is = let first = is.first in absurd (omega (arith, first))
set_here s (suc k) u is = let last = is.last in get_or-set_same s.remembered k u None (omega (arith, last))

set_elsewhere : (s : ClaimState) (node m : ℕ) (u : Option Moment) → m ≢ node → remembered_by (with_remembered s node u) m ≡ remembered_by s m
set_elsewhere s zero m u differ = refl
set_elsewhere s (suc k) zero u differ = refl
set_elsewhere s (suc k) (suc j) u differ = get_or-set_other s.remembered k j u None (λ e. differ (ap suc e))

kept_still : (s : ClaimState) (node : ℕ) (u : Option Moment) → (with_remembered s node u).kept ≡ s.kept
kept_still s zero u = refl
kept_still s (suc k) u = refl

nothing_yet : (n m : ℕ) (kept : Option (ℕ × Moment)) → remembered_by (made n kept) m ≡ None
nothing_yet n zero kept = refl
nothing_yet zero (suc k) kept = refl
nothing_yet (suc n) (suc zero) kept = refl
nothing_yet (suc n) (suc (suc k)) kept = nothing_yet n (suc k) kept

-- ---- answers

pub taken_while_it_lasts : (s : ClaimState) (node now other : ℕ) (end : Moment) → s.kept ≡ Some (other, end) → other ≢ node → now < end.0 → claim_answer s node now ≡ claim.Taken other end
taken_while_it_lasts s node now other end is differ lasts =
    ap (λ k. claim_by k node now) is
    ∙ (λ i. cond (not (ne_eqb other node differ i) && lt-ltb now end.0 lasts i) (claim.Taken other end) (claim.Held (until_from now)))

held_if : (b : Bool) (other : ℕ) (end u until : Moment) → cond b (claim.Taken other end) (claim.Held u) ≡ claim.Held until → until ≡ u
held_if true other end u until e = absurd cc
held_if false other end u until e = cc

held_by : (k : Option (ℕ × Moment)) (node now : ℕ) (until : Moment) → claim_by k node now ≡ claim.Held until → until ≡ until_from now
held_by None node now until e = cc
held_by (Some kept) node now until e = held_if (not (eqb kept.0 node) && ltb now kept.1.0) kept.0 kept.1 (until_from now) until e

pub held_until : (s : ClaimState) (node now : ℕ) (until : Moment) → claim_answer s node now ≡ claim.Held until → until ≡ until_from now
held_until s node now until e = held_by s.kept node now until e

held_here : (s : ClaimState) (node : ℕ) (until : Moment) → IsNode s node → remembered_by (after_answer s node (claim.Held until)) node ≡ Some until
held_here s node until is =
    remembered_alike (with_remembered s node (Some until)) (after_answer s node (claim.Held until)) node refl ∙ set_here s node (Some until) is

held_elsewhere : (s : ClaimState) (node m : ℕ) (until : Moment) → m ≢ node → remembered_by (after_answer s node (claim.Held until)) m ≡ remembered_by s m
held_elsewhere s node m until differ =
    remembered_alike (with_remembered s node (Some until)) (after_answer s node (claim.Held until)) m refl ∙ set_elsewhere s node m (Some until) differ

-- ---- nodes stay

set_long : (s : ClaimState) (node : ℕ) (u : Option Moment) → length (with_remembered s node u).remembered ≡ length s.remembered
set_long s zero u = refl
set_long s (suc k) u = length-set s.remembered k u

pub answered_long : (s : ClaimState) (node : ℕ) (a : ClaimAnswer) → length (after_answer s node a).remembered ≡ length s.remembered
answered_long s node (claim.Taken other until) = refl
answered_long s node (claim.Held until) = set_long s node (Some until)

pub released_long : (s : ClaimState) (node : ℕ) (b : Bool) → length (cond b (record (with_remembered s node None) { kept = None }) s).remembered ≡ length s.remembered
released_long s node true = set_long s node None
released_long s node false = refl

pub acted_long : (s : ClaimState) (node : ℕ) (b : Bool) → length (cond b s (with_remembered s node None)).remembered ≡ length s.remembered
acted_long s node true = refl
acted_long s node false = set_long s node None

-- ---- other nodes

answered_elsewhere : (s : ClaimState) (node m : ℕ) (a : ClaimAnswer) → m ≢ node → remembered_by (after_answer s node a) m ≡ remembered_by s m
answered_elsewhere s node m (claim.Taken other until) differ = refl
answered_elsewhere s node m (claim.Held until) differ = held_elsewhere s node m until differ

pub claimed_elsewhere : (s : ClaimState) (node now m : ℕ) → m ≢ node → remembered_by (after_claim s node now) m ≡ remembered_by s m
claimed_elsewhere s node now m differ = answered_elsewhere s node m (claim_answer s node now) differ

released_beside : (s : ClaimState) (node m : ℕ) (b : Bool) → m ≢ node → remembered_by (cond b (record (with_remembered s node None) { kept = None }) s) m ≡ remembered_by s m
released_beside s node m true differ =
    remembered_alike (with_remembered s node None) (record (with_remembered s node None) { kept = None }) m refl ∙ set_elsewhere s node m None differ
released_beside s node m false differ = refl

pub released_elsewhere : (s : ClaimState) (node m : ℕ) → m ≢ node → remembered_by (after_release s node) m ≡ remembered_by s m
released_elsewhere s node m differ = released_beside s node m (is_of node s.kept) differ

acted_beside : (s : ClaimState) (node m : ℕ) (b : Bool) → m ≢ node → remembered_by (cond b s (with_remembered s node None)) m ≡ remembered_by s m
acted_beside s node m true differ = refl
acted_beside s node m false differ = set_elsewhere s node m None differ

pub acted_elsewhere : (s : ClaimState) (node now m : ℕ) → m ≢ node → remembered_by (after_act s node now) m ≡ remembered_by s m
acted_elsewhere s node now m differ = acted_beside s node m (may_act s node now) differ

kept_beside : (s : ClaimState) (node : ℕ) (b : Bool) → (cond b s (with_remembered s node None)).kept ≡ s.kept
kept_beside s node true = refl
kept_beside s node false = kept_still s node None

pub acted_kept : (s : ClaimState) (node now : ℕ) → (after_act s node now).kept ≡ s.kept
acted_kept s node now = kept_beside s node (may_act s node now)

pub acted_forgets : (s : ClaimState) (node now : ℕ) → IsNode s node → may_act s node now ≡ false → remembered_by (after_act s node now) node ≡ None
acted_forgets s node now is lapsed = ap (λ b. remembered_by (cond b s (with_remembered s node None)) node) lapsed ∙ set_here s node None is

-- ---- each call keeps the active node the owner

-- a node that remembers a moment that hasn't come has the kept claim, with that moment, and none remembers one more
-- than 60 seconds away
record IsOwned (s : ClaimState) (now : ℕ) : Type 0 where
  own : (node : ℕ) (until : Moment) → remembered_by s node ≡ Some until → now < until.0 → s.kept ≡ Some (node, until)
  short : (node : ℕ) (until : Moment) → remembered_by s node ≡ Some until → until.0 ≤ now + 60

one_moment : (a b : Moment) → Some a ≡ Some b → a ≡ b
one_moment a b e = cc

owned_made : (n : ℕ) (kept : Option (ℕ × Moment)) (now : ℕ) → IsOwned (made n kept) now
owned_made n kept now = record {
  own = λ m u is later. absurd (none m u is);
  short = λ m u is. absurd (none m u is);
}
  where
    none : (m : ℕ) (u : Moment) → remembered_by (made n kept) m ≡ Some u → ⊥
    none m u is = let yet = nothing_yet n m kept in absurd (cc)

owned_later : (s : ClaimState) (now later : ℕ) → now ≤ later → IsOwned s now → IsOwned s later
owned_later s now later up o = record {
  own = λ m u is before. o.own m u is (omega (arith, up, before));
  short = λ m u is. let near = o.short m u is in omega (arith, up, near);
}

owned_held : (s : ClaimState) (node now : ℕ) (until : Moment) → IsNode s node → claim_answer s node now ≡ claim.Held until → IsOwned s now → IsOwned (after_answer s node (claim.Held until)) now
owned_held s node now until is answer o = record { own = own; short = short }
  where
    after : ClaimState
    after = after_answer s node (claim.Held until)

    same_until : (m : ℕ) (u : Moment) → m ≡ node → remembered_by after m ≡ Some u → until ≡ u
    same_until m u same rem = one_moment until u (sym (held_here s node until is) ∙ ap (λ n. remembered_by after n) (sym same) ∙ rem)

    own_here : (m : ℕ) (u : Moment) → remembered_by after m ≡ Some u → m ≡ node → after.kept ≡ Some (m, u)
    own_here m u rem same = let e = same_until m u same rem in λ i. Some (sym same i, e i)

    own_elsewhere : (m : ℕ) (u : Moment) → remembered_by after m ≡ Some u → now < u.0 → m ≢ node → after.kept ≡ Some (m, u)
    own_elsewhere m u rem later differ =
        let kept = o.own m u (sym (held_elsewhere s node m until differ) ∙ rem) later in
        let taken = taken_while_it_lasts s node now m u kept differ later in
        absurd (cc)

    own : (m : ℕ) (u : Moment) → remembered_by after m ≡ Some u → now < u.0 → after.kept ≡ Some (m, u)
    own m u rem later = by_node (after.kept ≡ Some (m, u)) m node (eqb m node) refl (own_here m u rem) (own_elsewhere m u rem later)

    near : until.0 ≤ now + 60
    near = let e = ap (λ (x : Moment). x.0) (held_until s node now until answer) in omega (arith, e)

    short : (m : ℕ) (u : Moment) → remembered_by after m ≡ Some u → u.0 ≤ now + 60
    short m u rem =
        by_node (u.0 ≤ now + 60) m node (eqb m node) refl
        (λ same. subst (λ (x : Moment). x.0 ≤ now + 60) (same_until m u same rem) near)
        (λ differ. o.short m u (sym (held_elsewhere s node m until differ) ∙ rem))

owned_answered : (s : ClaimState) (node now : ℕ) (a : ClaimAnswer) → claim_answer s node now ≡ a → IsNode s node → IsOwned s now → IsOwned (after_answer s node a) now
owned_answered s node now (claim.Taken other until) e is o = o
owned_answered s node now (claim.Held until) e is o = owned_held s node now until is e o

-- what a node forgets, no other node does
owned_forgotten : (s t : ClaimState) (node now : ℕ) → t.remembered ≡ (with_remembered s node None).remembered → ((m : ℕ) (u : Moment) → m ≢ node → s.kept ≡ Some (m, u) → t.kept ≡ Some (m, u)) → IsNode s node → IsOwned s now → IsOwned t now
owned_forgotten s t node now left kept is o = record { own = own; short = short }
  where
    none_here : (m : ℕ) (u : Moment) → m ≡ node → remembered_by t m ≡ Some u → ⊥
    none_here m u same rem =
        let gone = remembered_alike (with_remembered s node None) t node left ∙ set_here s node None is in
        let here = ap (λ n. remembered_by t n) same in
        absurd (cc)

    still : (m : ℕ) (u : Moment) → m ≢ node → remembered_by t m ≡ Some u → remembered_by s m ≡ Some u
    still m u differ rem = sym (remembered_alike (with_remembered s node None) t m left ∙ set_elsewhere s node m None differ) ∙ rem

    own : (m : ℕ) (u : Moment) → remembered_by t m ≡ Some u → now < u.0 → t.kept ≡ Some (m, u)
    own m u rem later =
        by_node (t.kept ≡ Some (m, u)) m node (eqb m node) refl
        (λ same. absurd (none_here m u same rem))
        (λ differ. kept m u differ (o.own m u (still m u differ rem) later))

    short : (m : ℕ) (u : Moment) → remembered_by t m ≡ Some u → u.0 ≤ now + 60
    short m u rem =
        by_node (u.0 ≤ now + 60) m node (eqb m node) refl
        (λ same. absurd (none_here m u same rem))
        (λ differ. o.short m u (still m u differ rem))

owned_released : (s : ClaimState) (node now : ℕ) (b : Bool) → is_of node s.kept ≡ b → IsNode s node → IsOwned s now → IsOwned (cond b (record (with_remembered s node None) { kept = None }) s) now
owned_released s node now true own is o =
    owned_forgotten s (record (with_remembered s node None) { kept = None }) node now refl
    (λ m u differ kept. absurd (differ (eqb-true m node (sym (ap (λ k. is_of node k) kept) ∙ own)))) is o
owned_released s node now false own is o = o

owned_acted : (s : ClaimState) (node now : ℕ) (b : Bool) → IsNode s node → IsOwned s now → IsOwned (cond b s (with_remembered s node None)) now
owned_acted s node now true is o = o
owned_acted s node now false is o =
    owned_forgotten s (with_remembered s node None) node now refl (λ m u differ kept. kept_still s node None ∙ kept) is o

owned : (s : ClaimState) (now : ℕ) → IsReached s now → IsOwned s now
owned _ _ (Made nodes kept now) = owned_made nodes kept now
owned _ _ (Later s now later up reached) = owned_later s now later up (owned s now reached)
owned _ _ (Claimed s node now is reached) = owned_answered s node now (claim_answer s node now) refl is (owned s now reached)
owned _ _ (Released s node now is reached) = owned_released s node now (is_of node s.kept) refl is (owned s now reached)
owned _ _ (Acted s node now is reached) = owned_acted s node now (may_act s node now) is (owned s now reached)

-- ---- the laws

pub kept_of_active : (s : ClaimState) (now node : ℕ) → IsReached s now → (is : IsActive s node now) → s.kept ≡ Some (node, is.until)
kept_of_active s now node reached is = (owned s now reached).own node is.until is.remembered is.later

pub short_claims : (s : ClaimState) (now node : ℕ) → IsReached s now → (is : IsActive s node now) → is.until.0 ≤ now + 60
short_claims s now node reached is = (owned s now reached).short node is.until is.remembered

one_pair : (p q : ℕ × Moment) → Some p ≡ Some q → p.0 ≡ q.0
one_pair p q e =
    let same : p ≡ q = cc in
    ap (λ (x : ℕ × Moment). x.0) same

pub one_active : (s : ClaimState) (now a b : ℕ) → IsReached s now → IsActive s a now → IsActive s b now → a ≡ b
one_active s now a b reached first second =
    one_pair (a, first.until) (b, second.until) (sym (kept_of_active s now a reached first) ∙ kept_of_active s now b reached second)

active_acts : (s : ClaimState) (node now : ℕ) → IsActive s node now → may_act s node now ≡ true
active_acts s node now is = ap (λ o. is_later now o) is.remembered ∙ lt-ltb now is.until.0 is.later

acting_by : (s : ClaimState) (node now : ℕ) (o : Option Moment) → remembered_by s node ≡ o → is_later now o ≡ true → IsActive s node now
acting_by s node now None is later = absurd cc
acting_by s node now (Some until) is later = record { until = until; remembered = is; later = ltb-true now until.0 later }

pub acting_is_active : (s : ClaimState) (node now : ℕ) → may_act s node now ≡ true → IsActive s node now
acting_is_active s node now acts = acting_by s node now (remembered_by s node) refl acts

pub active_told : (s : ClaimState) (now node : ℕ) → IsReached s now → IsActive s node now → active s now ≡ Some node
active_told s now node reached is =
    ap (λ k. active_by s now k) (kept_of_active s now node reached is) ∙ ap (λ b. cond b (Some node) None) (active_acts s node now is)

told_if : (s : ClaimState) (now a node : ℕ) (b : Bool) → may_act s a now ≡ b → cond b (Some a) None ≡ Some node → may_act s node now ≡ true
told_if s now a node true is e =
    let same : a ≡ node = cc in
    subst (λ n. may_act s n now ≡ true) same is
told_if s now a node false is e = absurd cc

told_by : (s : ClaimState) (now node : ℕ) (k : Option (ℕ × Moment)) → active_by s now k ≡ Some node → may_act s node now ≡ true
told_by s now node None e = absurd cc
told_by s now node (Some kept) e = told_if s now kept.0 node (may_act s kept.0 now) refl e

pub told_truly : (s : ClaimState) (now node : ℕ) → active s now ≡ Some node → IsActive s node now
told_truly s now node e = acting_is_active s node now (told_by s now node s.kept e)

pub acting_told : (s : ClaimState) (now node : ℕ) → IsReached s now → may_act s node now ≡ true → (active s now ≡ Some node) × (after_act s node now ≡ s)
acting_told s now node reached acts =
    (active_told s now node reached (acting_is_active s node now acts), ap (λ b. cond b s (with_remembered s node None)) acts)

pub holder_lasts : (s : ClaimState) (node now : ℕ) (until : Moment) → claim_answer s node now ≡ claim.Held until → until.0 ≡ now + 60
holder_lasts s node now until answer = ap (λ (x : Moment). x.0) (held_until s node now until answer)

pub holder_is_active : (s : ClaimState) (node now : ℕ) (until : Moment) → IsNode s node → claim_answer s node now ≡ claim.Held until → IsActive (after_claim s node now) node now
holder_is_active s node now until is answer =
    let e = ap (λ (x : Moment). x.0) (held_until s node now until answer) in
    record {
      until = until;
      remembered = ap (λ a. remembered_by (after_answer s node a) node) answer ∙ held_here s node until is;
      later = omega (arith, e);
    }

released_if : (b : Bool) → cond b release.Released release.NotHeld ≡ release.Released → b ≡ true
released_if true e = refl
released_if false e = absurd cc

owner_by : (node : ℕ) (k : Option (ℕ × Moment)) → is_of node k ≡ true → (until : Moment) × (k ≡ Some (node, until))
owner_by node None own = absurd cc
owner_by node (Some kept) own = (kept.1, let e = eqb-true kept.0 node own in λ i. Some (e i, kept.1))

pub released_free : (s : ClaimState) (node : ℕ) → release_answer s node ≡ release.Released → ((after_release s node).kept ≡ None) × ((until : Moment) × (s.kept ≡ Some (node, until)))
released_free s node e =
    let own = released_if (is_of node s.kept) e in
    (ap (λ b. (cond b (record (with_remembered s node None) { kept = None }) s).kept) own, owner_by node s.kept own)
