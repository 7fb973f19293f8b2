-- What a turn observes is a status of a server that is there.
use Rattle.std.proofs.Common.{◌≡◌, ℕ, ◌<◌, true, List, [], ◌∷◌, length, refl, sym, ◌∙◌, subst, Option, Some, arith, All, IfSome, nat_lt}
use Rattle.unended_jobs.proofs.Prelude.{All-head, Attempt, Attempts, BookState, Deed, IsNamedRecovery, IsOpOf, Job, Moment, Observation, Op, Recovery}
use Rattle.unended_jobs.proofs.Prelude.{ServerNo, World, acted, and_parts, are_named, attempted-observes, attempts, by_deed, by_ops, decided}
use Rattle.unended_jobs.proofs.Prelude.{decided-of, deed_of, ground_of, is_named, observed, settled, spoken_to, taken, turned}
use Rattle.unended_jobs.proofs.Prelude.deed
use Rattle.unended_jobs.proofs.Prelude.doing

abbrev pub IsSightOf : World → ℕ → Moment → Observation → Type 0
IsSightOf w read now o = (n : ServerNo) × (o ≡ observed w read now n) × (n.0 < length w.servers)

module _ (w : World) (read : ℕ) (now : Moment) (j : Job) (rest : List Op) where
  abbrev Sees : Attempt → Type 0
  Sees a = IfSome (settled j a).observation (IsSightOf w read now)

  sees-by : (d : Deed) (a : Attempt) → Attempts w read now j rest d a → IfSome (spoken_to d) (λ n. n.0 < length w.servers) → Sees a
  sees-by d a (doing.Misses n from c why) within = (n, refl, within)
  sees-by d a (doing.Reads n from s seen is) within = (n, refl, within)
  sees-by d a _ within = tt

  -- by the operation that is due, if the server that it speaks with is there
  deed-sees : (d : Deed) → IfSome (spoken_to d) (λ n. n.0 < length w.servers) → Sees (by_deed w read now j rest d)
  deed-sees d within = sees-by d (by_deed w read now j rest d) (attempts w read now j rest d) within

below-by : (m k : ℕ) → nat_lt m k ≡ true → m < k
below-by m k e = grind arith

named-speaks : (count : ℕ) (d : Deed) → is_named count d ≡ true → IfSome (spoken_to d) (λ n. n.0 < count)
named-speaks count (deed.Look n from) h = below-by n.0 count h
named-speaks count (deed.Request n a) h = below-by n.0 count h
named-speaks count (deed.Until n to) h = below-by n.0 count h
named-speaks count (deed.Await n to) h = below-by n.0 count h
named-speaks count (deed.AwaitSet n m) h = below-by n.0 count h
named-speaks count (deed.Settle n) h = below-by n.0 count h
named-speaks count (deed.Cross c a b) h = below-by a.0 count h
named-speaks count (deed.Same n) h = below-by n.0 count h
named-speaks count (deed.Auto n m) h = below-by n.0 count h
named-speaks count (deed.Match n m every) h = tt
named-speaks count (deed.CrossMatch n m) h = below-by n.0 count h
named-speaks count (deed.Finish lines) h = tt

at-some : {X : Type 0} (P : X → Type 0) (o : Option X) (x : X) → o ≡ Some x → IfSome o P → P x
at-some P o x is h = subst (λ (y : Option _). IfSome y P) is h

pub plan-sees : (w : World) (read : ℕ) (now : Moment) (j : Job) (o : Observation) → are_named (length w.servers) j.ops ≡ true → (turned w read now j).observation ≡ Some o → IsSightOf w read now o
plan-sees w read now j o named is = at-some (IsSightOf w read now) (turned w read now j).observation o is (go j.ops named)
  where
    go : (ops : List Op) → are_named (length w.servers) ops ≡ true → IfSome (settled j (by_ops w read now j ops)).observation (IsSightOf w read now)
    go [] named = tt
    go (op ∷ rest) named =
        deed-sees w read now j rest (deed_of op)
        (named-speaks (length w.servers) (deed_of op) (and_parts (is_named (length w.servers) (deed_of op)) (are_named (length w.servers) rest) named).0)

abbrev IsThere : ℕ → ℕ → Type 0
IsThere count n = n < count

pub recovery-sees : (w : World) (b : BookState) (read : ℕ) (now : Moment) (r : Recovery) (o : Observation) → IsNamedRecovery (length w.servers) r → (taken w b read now r).observation ≡ Some o → IsSightOf w read now o
recovery-sees w b read now r o named is = go (decided (ground_of w b now) r).core.ops (decided-of (IsThere (length w.servers)) (IsThere (length w.servers)) r.core.id (λ n h. h) w b now r named).ops is
  where
    x : Recovery
    x = decided (ground_of w b now) r

    go : (ops : List Op) → All (IsOpOf (IsThere (length w.servers)) (IsThere (length w.servers))) ops → (acted w read now (decided (ground_of w b now) r) ops).observation ≡ Some o → IsSightOf w read now o
    go [] all h = cc
    go (op ∷ rest) all h =
        at-some (IsSightOf w read now) (settled x.core (by_deed w read now x.core rest (deed_of op))).observation o
        (sym (attempted-observes w x op x.core (by_deed w read now x.core rest (deed_of op))) ∙ h)
        (deed-sees w read now x.core rest (deed_of op) (All-head (IsOpOf (IsThere (length w.servers)) (IsThere (length w.servers))) op rest all).1)
