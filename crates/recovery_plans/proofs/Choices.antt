-- What is chosen is one of those that were drained, and logs.
use Rattle.std.proofs.Common.{◌≡◌, ℕ, Bool, true, List, [], ◌∷◌, map, refl, sym, ◌∙◌, ap, subst, Option, Some, None, ◌&&◌, ◌==◌, not}
use Rattle.recovery_plans.proofs.Prelude.{All, All-cons, All-contains, All-head, All-map, All-nil, All-tail, BookState, Drained, Moment, ServerNo}
use Rattle.recovery_plans.proofs.Prelude.{Stopped, World, advance_order, and_parts, better_of, chosen-first, chosen_of, drained_of, eqb-true}
use Rattle.recovery_plans.proofs.Prelude.{follower_of, found_passes, ground_of, is_barred, is_better, is_eligible, logs_at, most_advanced}
use Rattle.recovery_plans.proofs.Prelude.{nearer_order, rule_at, stopped_in}
use Rattle.operations.proofs.OrchBase.Found.{All-found}

pub same-no : (a b : ServerNo) → a.0 ≡ b.0 → a ≡ b
same-no a b h = ap (λ (n : ℕ). let m : ServerNo = record { 0 = n } in m) h

-- ---- the choice

module _ (w : World) (b : BookState) (now : Moment) (f : ServerNo) where
  -- whether a server may be promoted hangs on its number alone
  abbrev pub may_be : ServerNo → Bool
  may_be n = logs_at w n && not (is_barred (rule_at b n now))

  pub chosen-may : (xs : List Stopped) (p : Stopped) → chosen_of (ground_of w b now) f xs ≡ Some p → may_be p.no ≡ true
  chosen-may xs p h = go (most_advanced b.names (map (drained_of (ground_of w b now) f) xs)) refl h
    where
      go : (o : Option ServerNo) → most_advanced b.names (map (drained_of (ground_of w b now) f) xs) ≡ o → stopped_in xs o ≡ Some p → may_be p.no ≡ true
      go None e g = cc
      go (Some n) e g =
          let first = chosen-first (advance_order b.names) is_eligible (map (drained_of (ground_of w b now) f) xs) n e in
          let alike : is_eligible first.1 ≡ may_be first.1.no =
          All-contains (λ (d : Drained). is_eligible d ≡ may_be d.no) (map (drained_of (ground_of w b now) f) xs) first.1
          (All-map (λ (d : Drained). is_eligible d ≡ may_be d.no) (drained_of (ground_of w b now) f) xs (each xs)) (first.0, first.2, first.3) in
          let same : p.no ≡ n = same-no p.no n (eqb-true p.no.0 n.0 (found_passes (λ (s : Stopped). s.no.0 == n.0) xs p g)) in
          ap may_be same ∙ ap may_be (sym first.4.named) ∙ sym alike ∙ first.4.passes
        where
          each : (ys : List Stopped) → All (λ (s : Stopped). is_eligible (drained_of (ground_of w b now) f s) ≡ may_be s.no) ys
          each [] = All-nil (λ (s : Stopped). is_eligible (drained_of (ground_of w b now) f s) ≡ may_be s.no)
          each (y ∷ ys) = All-cons (λ (s : Stopped). is_eligible (drained_of (ground_of w b now) f s) ≡ may_be s.no) y ys refl (each ys)

  -- the chosen one is a drained one that logs
  pub All-chosen : (P : Stopped → Type 0) (xs : List Stopped) (p : Stopped) → All P xs → chosen_of (ground_of w b now) f xs ≡ Some p → P p
  All-chosen P xs p all h = go (most_advanced b.names (map (drained_of (ground_of w b now) f) xs)) h
    where
      go : (o : Option ServerNo) → stopped_in xs o ≡ Some p → P p
      go None g = cc
      go (Some n) g = All-found (λ (s : Stopped). s.no.0 == n.0) P xs p all g

  pub chosen-logs : (xs : List Stopped) (p : Stopped) → chosen_of (ground_of w b now) f xs ≡ Some p → logs_at w p.no ≡ true
  chosen-logs xs p h = (and_parts (logs_at w p.no) (not (is_barred (rule_at b p.no now))) (chosen-may xs p h)).0

  -- the better one is a follower that logs
  pub All-better : (P : ServerNo → Type 0) (p : ServerNo) (qs : List ServerNo) (q : ServerNo) → All P qs → better_of (ground_of w b now) f p qs ≡ Some q → P q × (logs_at w q ≡ true)
  All-better P p qs q all h =
      let of = follower_of (ground_of w b now) f p in
      let first = chosen-first (nearer_order b.names) (is_better of) (map (follower_of (ground_of w b now) f) qs) q h in
      let alike : P first.1.no × (is_better of first.1 ≡ true → logs_at w first.1.no ≡ true) =
      All-contains (λ (d : Drained). P d.no × (is_better of d ≡ true → logs_at w d.no ≡ true)) (map (follower_of (ground_of w b now) f) qs) first.1
      (All-map (λ (d : Drained). P d.no × (is_better of d ≡ true → logs_at w d.no ≡ true)) (follower_of (ground_of w b now) f) qs (each qs all)) (first.0, first.2, first.3) in
      (subst P first.4.named alike.0, ap (logs_at w) (sym first.4.named) ∙ alike.1 first.4.passes)
    where
      each : (ks : List ServerNo) → All P ks → All (λ (k : ServerNo). P k × (is_better (follower_of (ground_of w b now) f p) (follower_of (ground_of w b now) f k) ≡ true → logs_at w k ≡ true)) ks
      each [] ps = All-nil (λ (k : ServerNo). P k × (is_better (follower_of (ground_of w b now) f p) (follower_of (ground_of w b now) f k) ≡ true → logs_at w k ≡ true))
      each (k ∷ ks) ps =
          All-cons (λ (x : ServerNo). P x × (is_better (follower_of (ground_of w b now) f p) (follower_of (ground_of w b now) f x) ≡ true → logs_at w x ≡ true)) k ks
          (All-head P k ks ps, λ e. (and_parts (logs_at w k) _ e).0) (each ks (All-tail P k ks ps))
