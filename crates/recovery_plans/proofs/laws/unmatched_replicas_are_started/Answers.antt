use Rattle.std.proofs.Common.{◌≡◌, Bool, true, false, cond, List, [], ◌∷◌, ◌++◌, map, refl, sym, ◌∙◌, ap, subst, Some, arith, filter, option_map}
use Rattle.recovery_plans.proofs.Prelude.{All, All-cons, All-contains, All-nil, All-weaker, Contains, Contains-append_left, Contains-append_right}
use Rattle.recovery_plans.proofs.Prelude.{LostReplica, Purpose, ServerNo, Why, expels, is_reached, releases, told_why, why_of}
use Rattle.recovery_plans.proofs.Prelude.task
use Rattle.recovery_plans.proofs.laws.unmatched_replicas_are_started.Goals as goal

module _ (p : ServerNo → Bool) where
  -- the server is to be started, among these
  abbrev Starts : List ServerNo → ServerNo → Type 0
  Starts ns n = Contains (map task.Releasing (filter p ns)) (task.Releasing n)

  one-more : (k : ServerNo) (ks : List ServerNo) (n : ServerNo) → Starts ks n → Starts (k ∷ ks) n
  one-more k ks n h = go (p k)
    where
      go : (b : Bool) → Contains (map task.Releasing (cond b (k ∷ filter p ks) (filter p ks))) (task.Releasing n)
      go true = Contains-append_right (task.Releasing k ∷ []) (map task.Releasing (filter p ks)) (task.Releasing n) h
      go false = h

  first : (k : ServerNo) (ks : List ServerNo) → p k ≡ true → Starts (k ∷ ks) k
  first k ks e = subst (λ (b : Bool). Contains (map task.Releasing (cond b (k ∷ filter p ks) (filter p ks))) (task.Releasing k)) (sym e) (0, omega arith, refl)

  each-starts : (ns : List ServerNo) → All (λ n. p n ≡ true → Starts ns n) ns
  each-starts [] = All-nil (λ (n : ServerNo). p n ≡ true → Starts [] n)
  each-starts (k ∷ ks) =
      All-cons (λ (n : ServerNo). p n ≡ true → Starts (k ∷ ks) n) k ks (first k ks)
      (All-weaker (λ (n : ServerNo). p n ≡ true → Starts ks n) (λ (n : ServerNo). p n ≡ true → Starts (k ∷ ks) n) (λ n h e. one-more k ks n (h e)) ks (each-starts ks))

pub returns-clause-started : goal.returns-clause-started
returns-clause-started c r n m is has missed =
    let p = λ (k : ServerNo). releases r.purpose (why_of r.outcome.lost k) in
    let out = filter (λ (k : ServerNo). expels r.purpose (why_of r.outcome.lost k)) r.replicas in
    let yes : releases r.purpose (why_of r.outcome.lost n) ≡ true = ap (λ (u : Purpose). releases u (why_of r.outcome.lost n)) is ∙ ap is_reached missed in
    Contains-append_right (map task.Expelling out) (map task.Releasing (filter p r.replicas) ++ r.queue) (task.Releasing n)
    (Contains-append_left (map task.Releasing (filter p r.replicas)) r.queue (task.Releasing n)
    (All-contains (λ (k : ServerNo). p k ≡ true → Starts p r.replicas k) r.replicas n (each-starts p r.replicas) has yes))

pub returns-clause-told : goal.returns-clause-told
returns-clause-told c o l m found missed =
    ap (option_map (λ (x : LostReplica). told_why x.no x.detached x.why)) found ∙ ap (λ (y : Why). Some (told_why l.no l.detached y)) missed
