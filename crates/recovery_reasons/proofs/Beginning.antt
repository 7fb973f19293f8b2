-- A recovery begins on its way.
use Rattle.std.proofs.Common.{◌≡◌, ℕ, Bool, true, false, cond, not, List, [], ◌∷◌, ◌++◌, map, refl, sym, ◌∙◌, ap, subst, None, inl, inr, arith, ◌==◌}
use Rattle.recovery_reasons.proofs.Prelude.{All, All-append, All-cons, All-nil, Contains, Contains-append_right, IsOnWay, Means, Purpose, ServerNo}
use Rattle.recovery_reasons.proofs.Prelude.{SwapOf, Task, begun_recovery, but, false≢true, first_source, first_stage, is_master, same_Some}
use Rattle.recovery_reasons.proofs.Prelude.op
use Rattle.recovery_reasons.proofs.Prelude.purpose
use Rattle.recovery_reasons.proofs.Prelude.stage
use Rattle.recovery_reasons.proofs.Prelude.task
use Rattle.recovery_reasons.proofs.Fates.{IsFitLost}
use Rattle.recovery_reasons.proofs.OnWay.{made}
use Rattle.recovery_reasons.proofs.Tasks.{AreBusy, Suits, busy-map, busy-more, busy-none, calm, gives, gives-so, meets-so, no-bridge, no-meeting, pauses-append, swap_in}

busy-beside : (d : ServerNo) (ns : List ServerNo) → AreBusy (purpose.Takeover d) (map task.Trailing (but ns d))
busy-beside d [] = busy-none (purpose.Takeover d)
busy-beside d (n ∷ ns) = go (not (n.0 == d.0)) refl (busy-beside d ns)
  where
    go : (a : Bool) → not (n.0 == d.0) ≡ a → AreBusy (purpose.Takeover d) (map task.Trailing (but ns d)) → AreBusy (purpose.Takeover d) (map task.Trailing (cond a (n ∷ but ns d) (but ns d)))
    go true e rest = busy-more (purpose.Takeover d) (task.Trailing n) (map task.Trailing (but ns d)) refl e rest
    go false e rest = rest

busy-drains : (u : Purpose) (ns : List ServerNo) → AreBusy u (map task.Draining ns)
busy-drains u ns = busy-map u task.Draining (λ n. refl) (λ n. refl) ns

first-in : (t : Task) (ts : List Task) → Contains (t ∷ ts) t
first-in t ts = (0, omega arith, refl)

reads-first : (f : ServerNo) → All (λ x. x ≡ op.Status f None) (op.Status f None ∷ [])
reads-first f = All-cons (λ x. x ≡ op.Status f None) (op.Status f None) [] refl (All-nil (λ x. x ≡ op.Status f None))

-- it begins so
begun-swap : (u : Purpose) (f : ServerNo) → SwapOf u (first_stage u f) (first_source u) (first_source u) (is_master u)
begun-swap u f = record { first = λ m e. refl; taking = λ p q e. absurd (calm (first_stage u f) (first-calm u) p q e); closed = λ m y. absurd (false≢true (sym (first-gives u) ∙ gives-so (first_stage u f) y)) }
  where
    first-calm : (v : Purpose) → swap_in (first_stage v f) ≡ None
    first-calm purpose.Regroup = refl
    first-calm _ = refl

    first-gives : (v : Purpose) → gives (first_stage v f) ≡ false
    first-gives purpose.Regroup = refl
    first-gives _ = refl

pub begun-way : (u : Purpose) (by : Means) (id wait : ℕ) (f : ServerNo) (ns order : List ServerNo) → IsOnWay (begun_recovery u by id wait f ns order)
begun-way purpose.Regroup by id wait f ns order =
    let busy = busy-drains purpose.Regroup ns in
    let none = busy.none in
    let sum = pauses-append (map task.Draining ns) (task.Choosing ∷ task.Sorting ∷ []) in
    made _ (record {
      few = omega (arith, none, sum);
      suited =
          All-append (Suits purpose.Regroup) (map task.Draining ns) (task.Choosing ∷ task.Sorting ∷ []) busy.suited
          (All-cons (Suits purpose.Regroup) task.Choosing (task.Sorting ∷ []) refl (All-cons (Suits purpose.Regroup) task.Sorting [] refl (All-nil (Suits purpose.Regroup))));
      chosen = λ c e. Contains-append_right (map task.Draining ns) (task.Choosing ∷ task.Sorting ∷ []) task.Choosing (first-in task.Choosing (task.Sorting ∷ []));
      yields = λ over. absurd (false≢true over);
      named = λ n e. cc;
      over = λ m e. cc;
    }) (record {
      first = inl refl;
      meets = λ m d e. absurd (no-meeting (m, d) (meets-so stage.Idle m d e));
      lead = λ d x over e. absurd (no-bridge x e);
      apart = λ n x e at same. no-bridge x e;
    }) (begun-swap purpose.Regroup f) (λ n e. cc) (All-nil IsFitLost) (λ h. refl)
begun-way purpose.Master by id wait f ns order =
    let busy = busy-drains purpose.Master ns in
    let none = busy.none in
    let sum = pauses-append (map task.Draining ns) (task.Choosing ∷ task.Sorting ∷ []) in
    made _ (record {
      few = omega (arith, none, sum);
      suited =
          All-append (Suits purpose.Master) (map task.Draining ns) (task.Choosing ∷ task.Sorting ∷ []) busy.suited
          (All-cons (Suits purpose.Master) task.Choosing (task.Sorting ∷ []) refl (All-cons (Suits purpose.Master) task.Sorting [] refl (All-nil (Suits purpose.Master))));
      chosen = λ c e. Contains-append_right (map task.Draining ns) (task.Choosing ∷ task.Sorting ∷ []) task.Choosing (first-in task.Choosing (task.Sorting ∷ []));
      yields = λ over. absurd (false≢true over);
      named = λ n e. cc;
      over = λ m e. absurd (false≢true (sym e));
    }) (record {
      first = inr (reads-first f);
      meets = λ m d e. absurd (no-meeting (m, d) (meets-so stage.Check m d e));
      lead = λ d x over e. absurd (no-bridge x e);
      apart = λ n x e at same. no-bridge x e;
    }) (begun-swap purpose.Master f) (λ n e. cc) (All-nil IsFitLost) (λ h. cc)
begun-way (purpose.Intermediate s) by id wait f ns order =
    let u = purpose.Intermediate s in
    let busy = busy-drains u ns in
    let none = busy.none in
    let sum = pauses-append (map task.Draining ns) (task.Handing ∷ task.Sorting ∷ []) in
    made _ (record {
      few = omega (arith, none, sum);
      suited =
          All-cons (Suits u) (task.Reading s) (map task.Draining ns ++ task.Handing ∷ task.Sorting ∷ []) refl
          (All-append (Suits u) (map task.Draining ns) (task.Handing ∷ task.Sorting ∷ []) busy.suited
          (All-cons (Suits u) task.Handing (task.Sorting ∷ []) refl (All-cons (Suits u) task.Sorting [] refl (All-nil (Suits u)))));
      chosen = λ c e. absurd (false≢true c);
      yields = λ over. absurd (false≢true over);
      named = λ n e. ap first_source e;
      over = λ m e. cc;
    }) (record {
      first = inr (reads-first f);
      meets = λ m d e. absurd (no-meeting (m, d) (meets-so stage.Check m d e));
      lead = λ d x over e. absurd (no-bridge x e);
      apart = λ n x e at same. no-bridge x e;
    }) (begun-swap u f) (λ n e. inr (inl (map task.Draining ns ++ task.Handing ∷ task.Sorting ∷ [], ap (λ (k : ServerNo). task.Reading k ∷ (map task.Draining ns ++ task.Handing ∷ task.Sorting ∷ [])) (same_Some s n (ap first_source e))))) (All-nil IsFitLost) (λ h. cc)
begun-way (purpose.Takeover d) by id wait f ns order =
    let u = purpose.Takeover d in
    let busy = busy-beside d ns in
    let none = busy.none in
    let sum = pauses-append (map task.Trailing (but ns d)) (task.Yielding ∷ []) in
    made _ (record {
      few = omega (arith, none, sum);
      suited =
          All-append (Suits u) (map task.Trailing (but ns d)) (task.Yielding ∷ []) busy.suited (All-cons (Suits u) task.Yielding [] refl (All-nil (Suits u)));
      chosen = λ c e. absurd (false≢true c);
      yields = λ over. inl (Contains-append_right (map task.Trailing (but ns d)) (task.Yielding ∷ []) task.Yielding (first-in task.Yielding []));
      named = λ n e. cc;
      over = λ m e. cc;
    }) (record {
      first = inr (reads-first f);
      meets = λ m k e.
          subst (λ (x : ServerNo × ServerNo). (x.0 ≡ f) × (purpose.Takeover d ≡ purpose.Takeover x.1)) (same_Some (f, d) (m, k) (meets-so (stage.Meet f d) m k e)) (refl, refl);
      lead = λ k x over e. absurd (no-bridge x e);
      apart = λ n x e at same. no-bridge x e;
    }) (begun-swap u f) (λ n e. cc) (All-nil IsFitLost) (λ h. cc)
