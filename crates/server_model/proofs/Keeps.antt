-- What is kept of the servers stays right as one of them changes.
use Rattle.std.proofs.Common.{◌≡◌, ℕ, ◌+◌, ◌<◌, ◌≤◌, true, List, length, refl, sym, ◌∙◌, ap, subst, inl, inr, Option, Some, None, arith, get_or, slice_get, slice_set, sum_by, count_by}
use Rattle.server_model.proofs.Prelude.{Coord, Grown, HasPlaces, IsFit, IsKept, Laid-Grown, Log, Next, Server, StepFrom, ends_by}
use Rattle.server_model.proofs.Prelude.{get_or_from_slice_get, has_place, length-set, next_after, next_after-step, place, place-from, place-parts}
use Rattle.server_model.proofs.Prelude.{same_Some, slice_get_within, source_no, sum_by-set}
use Rattle.server_model.proofs.Prelude.next
use Rattle.server_model.proofs.Lists.{set_cases}

place-of : (log : Log) (c : Coord) → has_place log c ≡ true → place log c ≡ Some (count_by (ends_by c) log.entries)
place-of log c h = place-from log c (count_by (ends_by c) log.entries) h refl

has_place-at : (log : Log) (c : Coord) (k : ℕ) → place log c ≡ Some k → has_place log c ≡ true
has_place-at log c k p = (place-parts log c k p).0

-- the end of a log's step, if there is one
abbrev pub end_of_step : Next → Option Coord
end_of_step (next.Entry index to) = Some to
end_of_step (next.Rotate to) = Some to
end_of_step next.End = None

-- a step from a place ends at one
pub has_place-step : (log : Log) → Grown log → (c to : Coord) (x : Next) → has_place log c ≡ true → next_after log c ≡ x
    → end_of_step x ≡ Some to → has_place log to ≡ true
has_place-step log g c to x h is ends =
    let k = count_by (ends_by c) log.entries in
    go x ends (subst (λ (y : Next). StepFrom log c k y) is (next_after-step log (Laid-Grown log g) c k (place-of log c h)))
  where
    go : (y : Next) → end_of_step y ≡ Some to → StepFrom log c (count_by (ends_by c) log.entries) y → has_place log to ≡ true
    go (next.Entry i e) at step =
        subst (λ (d : Coord). has_place log d ≡ true) (same_Some e to at)
        (has_place-at log e (count_by (ends_by c) log.entries + 1) step.1)
    go (next.Rotate e) at step =
        subst (λ (d : Coord). has_place log d ≡ true) (same_Some e to at)
        (has_place-at log e (count_by (ends_by c) log.entries) step.0)
    go next.End at step = cc

-- what any change of one server owes
pub record IsAny (servers : List Server) (n : ℕ) (s s' : Server) (before after : ℕ) : Type 0 where
  pub stable : (c : Coord) (k : ℕ) → place s.log.log c ≡ Some k → place s'.log.log c ≡ Some k
  pub fit : IsFit s'
  pub apart : source_no s'.source ≡ Some n → ⊥
  pub places : (m : ℕ) (t : Server) → source_no s'.source ≡ Some m → slice_get servers m ≡ Some t → HasPlaces s' t
  pub errant : after + length s.history.txns ≤ before + length s'.history.txns

-- what a change owes that leaves the source, or takes it away
pub record IsChange (servers : List Server) (n : ℕ) (s s' : Server) (before after : ℕ) : Type 0 where
  pub source : (m : ℕ) → source_no s'.source ≡ Some m → source_no s.source ≡ Some m
  pub stable : (c : Coord) (k : ℕ) → place s.log.log c ≡ Some k → place s'.log.log c ≡ Some k
  pub fit : IsFit s'
  pub places : (m : ℕ) (t : Server) → source_no s'.source ≡ Some m → slice_get servers m ≡ Some t → HasPlaces s t → HasPlaces s' t
  pub errant : after + length s.history.txns ≤ before + length s'.history.txns

sum_by_written : (servers : List Server) (n : ℕ) (s s' : Server) → slice_get servers n ≡ Some s
    → sum_by (λ x. length x.history.txns) (slice_set servers n s') + length s.history.txns ≡ sum_by (λ x. length x.history.txns) servers + length s'.history.txns
sum_by_written servers n s s' here =
    let within : n < length servers = slice_get_within servers n s here in
    let is : get_or servers n s ≡ s = get_or_from_slice_get servers n s s here in
    ap (λ (x : Server). sum_by (λ x. length x.history.txns) (slice_set servers n s') + length x.history.txns) (sym is)
    ∙ sum_by-set (λ (x : Server). length x.history.txns) servers n s' s within

HasPlaces-source : (r s s' : Server) → ((c : Coord) (k : ℕ) → place s.log.log c ≡ Some k → place s'.log.log c ≡ Some k) → HasPlaces r s → HasPlaces r s'
HasPlaces-source r s s' stable old = record { exec = kept r.exec old.exec; read = kept r.read old.read }
  where
    kept : (c : Coord) → has_place s.log.log c ≡ true → has_place s'.log.log c ≡ true
    kept c h =
        let k = count_by (ends_by c) s.log.log.entries in
        has_place-at s'.log.log c k (stable c k (place-of s.log.log c h))

module _ (servers : List Server) (before after n : ℕ) (s s' : Server) (kept : IsKept servers before) (here : slice_get servers n ≡ Some s)
    (change : IsAny servers n s s' before after) where
  fit : (m : ℕ) (t : Server) → slice_get (slice_set servers n s') m ≡ Some t → IsFit t
  fit m t at = elim (set_cases servers n s s' here m t at) [
    | inl new ↦ subst (λ (x : Server). IsFit x) (sym new.1) change.fit
    | inr old ↦ kept.fit m t old.1
  ]

  apart : (m : ℕ) (t : Server) → slice_get (slice_set servers n s') m ≡ Some t → source_no t.source ≡ Some m → ⊥
  apart m t at from = elim (set_cases servers n s s' here m t at) [
    | inl new ↦ change.apart (ap (λ (x : Server). source_no x.source) (sym new.1) ∙ from ∙ ap Some new.0)
    | inr old ↦ kept.apart m t old.1 from
  ]

  places : (a b : ℕ) (r t : Server) → slice_get (slice_set servers n s') a ≡ Some r → source_no r.source ≡ Some b
      → slice_get (slice_set servers n s') b ≡ Some t → HasPlaces r t
  places a b r t at_a source at_b = elim (set_cases servers n s s' here a r at_a) [
    | inl new ↦
        let from : source_no s'.source ≡ Some b = ap (λ (x : Server). source_no x.source) (sym new.1) ∙ source in
        elim (set_cases servers n s s' here b t at_b) [
          | inl self ↦ absurd (change.apart (from ∙ ap Some self.0))
          | inr old ↦ subst (λ (x : Server). HasPlaces x t) (sym new.1) (change.places b t from old.1)
        ]
    | inr old ↦ elim (set_cases servers n s s' here b t at_b) [
      | inl new ↦
          subst (λ (x : Server). HasPlaces r x) (sym new.1)
          (HasPlaces-source r s s' change.stable (kept.places a n r s old.1 (source ∙ ap Some new.0) here))
      | inr both ↦ kept.places a b r t old.1 source both.1
    ]
  ]

  -- the change keeps what is kept
  pub IsKept-any : IsKept (slice_set servers n s') after
  IsKept-any = record {
    few = rw length-set kept.few;
    errant_few = let sums = sum_by_written servers n s s' here in let e = kept.errant_few in let f = change.errant in omega arith;
    fit = fit;
    apart = apart;
    places = places;
  }

pub IsKept-with : (servers : List Server) (before after n : ℕ) (s s' : Server) → IsKept servers before
    → slice_get servers n ≡ Some s → IsChange servers n s s' before after → IsKept (slice_set servers n s') after
IsKept-with servers before after n s s' kept here change =
    IsKept-any servers before after n s s' kept here
    (record {
      stable = change.stable;
      fit = change.fit;
      apart = λ from. kept.apart n s here (change.source n from);
      places = λ m t from at. change.places m t from at (kept.places n m s t here (change.source m from) at);
      errant = change.errant;
    })
