-- The servers of recoveries that begin.
use Rattle.std.proofs.Common.{◌≡◌, ℕ, List, [], ◌∷◌, ◌++◌, map, refl, not, subst, ◌==◌}
use Rattle.recovery_plans.proofs.Prelude.{All, All-append, All-cons, All-filter, All-map, All-nil, AreSourcesOf, Follower, IsListOf, IsOf, IsOpOf}
use Rattle.recovery_plans.proofs.Prelude.{IsTaskOf, Means, Purpose, ServerNo, Stopped, Task, begun_recovery, but, changed_by, first_ops, first_source}
use Rattle.recovery_plans.proofs.Prelude.{first_stage, first_tasks}
use Rattle.recovery_plans.proofs.Prelude.purpose
use Rattle.recovery_plans.proofs.Prelude.task

-- a fact of each task with which a recovery begins
module _ (P : Task → Type 0) (choosing : P task.Choosing) (handing : P task.Handing) (sorting : P task.Sorting) where
  marked : (t : ServerNo → Task) (ns : List ServerNo) (ts : List Task) → All (λ n. P (t n)) ns → All P ts → All P (map t ns ++ ts)
  marked t ns ts each all = All-append P (map t ns) ts (All-map P t ns each) all

  pub first-all : (u : Purpose) (ns : List ServerNo) → ((s : ServerNo) → u ≡ purpose.Intermediate s → P (task.Reading s)) → All (λ n. P (task.Draining n)) ns
      → ((d : ServerNo) → All (λ n. P (task.Trailing n)) (but ns d)) → ((d : ServerNo) → u ≡ purpose.Takeover d → P task.Yielding) → All P (first_tasks u ns)
  first-all purpose.Regroup ns reads drains trails yields = marked task.Draining ns (task.Choosing ∷ task.Sorting ∷ []) drains (All-cons P task.Choosing (task.Sorting ∷ []) choosing (All-cons P task.Sorting [] sorting (All-nil P)))
  first-all purpose.Master ns reads drains trails yields = marked task.Draining ns (task.Choosing ∷ task.Sorting ∷ []) drains (All-cons P task.Choosing (task.Sorting ∷ []) choosing (All-cons P task.Sorting [] sorting (All-nil P)))
  first-all (purpose.Intermediate s) ns reads drains trails yields =
      All-cons P (task.Reading s) (map task.Draining ns ++ task.Handing ∷ task.Sorting ∷ []) (reads s refl)
      (marked task.Draining ns (task.Handing ∷ task.Sorting ∷ []) drains (All-cons P task.Handing (task.Sorting ∷ []) handing (All-cons P task.Sorting [] sorting (All-nil P))))
  first-all (purpose.Takeover d) ns reads drains trails yields = marked task.Trailing (but ns d) (task.Yielding ∷ []) (trails d) (All-cons P task.Yielding [] (yields d refl) (All-nil P))

module _ (P Q : ℕ → Type 0) where
  first-changed : (u : Purpose) (f : ServerNo) → IsListOf P Q u f → All (λ n. P n.0) (changed_by (first_stage u f))
  first-changed (purpose.Takeover d) f h = All-cons (λ (n : ServerNo). P n.0) f (d ∷ []) h.0 (All-cons (λ (n : ServerNo). P n.0) d [] h.1 (All-nil (λ n. P n.0)))
  first-changed _ f h = All-nil (λ n. P n.0)

  first-changes : (u : Purpose) (f : ServerNo) → Q f.0 → All (IsOpOf P Q) (first_ops u f)
  first-changes purpose.Regroup f q = All-nil (IsOpOf P Q)
  first-changes _ f q = All-cons (IsOpOf P Q) _ [] (tt, q) (All-nil (IsOpOf P Q))

  first-sources : (u : Purpose) (f : ServerNo) → IsListOf P Q u f → AreSourcesOf P Q u f (first_source u)
  first-sources purpose.Regroup f h = tt
  first-sources purpose.Master f h = tt
  first-sources (purpose.Intermediate s) f h = h
  first-sources (purpose.Takeover d) f h = h.0

  first-of : (u : Purpose) (f : ServerNo) (ns : List ServerNo) → All (λ n. P n.0) ns → IsListOf P Q u f → All (IsTaskOf P Q f) (first_tasks u ns)
  first-of u f ns all h =
      first-all (IsTaskOf P Q f) tt tt tt u ns
      (λ s e. let listed : IsListOf P Q (purpose.Intermediate s) f = subst (λ (v : Purpose). IsListOf P Q v f) e h in listed) all
      (λ d. All-filter (λ (n : ServerNo). not (n.0 == d.0)) (λ n. P n.0) ns all)
      (λ d e. let listed : IsListOf P Q (purpose.Takeover d) f = subst (λ (v : Purpose). IsListOf P Q v f) e h in listed.0)

  pub begun-of : (u : Purpose) (by : Means) (id wait : ℕ) (f : ServerNo) (ns order : List ServerNo) → All (λ n. P n.0) ns → Q f.0 → IsListOf P Q u f → IsOf P Q id (begun_recovery u by id wait f ns order)
  begun-of u by id wait f ns order all q h = record {
    number = refl;
    ops = first-changes u f q;
    hands = All-nil (λ n. P n.0);
    stage = first-changed u f h;
    queue = first-of u f ns all h;
    failed = q;
    replicas = all;
    drained = All-nil (λ (s : Stopped). P s.no.0);
    sources = first-sources u f h;
    lead = tt;
    followers = All-nil (λ (x : Follower). P x.no.0);
  }
