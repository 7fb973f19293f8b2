-- What a look at a recovery's job foretells for the recovery.
use Rattle.std.proofs.Common.{◌≡◌, ℕ, ◌<◌, Bool, true, false, cond, List, [], ◌∷◌, length, Option, Some, None, IfSome, refl, sym, ◌∙◌, ap, subst}
use Rattle.std.specs.Prelude.{is_some, unwrap_or}
use Rattle.recovery_turns.proofs.Prelude.{All, All-head, All-tail, AllAllowed, Attempt, BookState, CanEnd, CanTake, Cause, Deed, Fits, IsNamed}
use Rattle.recovery_turns.proofs.Prelude.{IsNamedRecovery, IsOpOf, IsSpare, IsTaskOf, Look, Moment, Op, Recovery, RecoveryLook, Taken, Task, World}
use Rattle.recovery_turns.proofs.Prelude.{acted, are_named, at_end, attempted, barred_by, both, by_deed, by_ops, decided, decided-of, decided_on}
use Rattle.recovery_turns.proofs.Prelude.{deed_of, ending_at, ends, entered, fails, false≢true, foretold as look_told, goes_on, going_unless}
use Rattle.recovery_turns.proofs.Prelude.{ground_of, is_named, is_waiting, looked_by, lt-ltb, moved, on_going, once, once-of, progressed}
use Rattle.recovery_turns.proofs.Prelude.{progressed_by, renumbered, server_of, settled, spoken_to, stepped_by, taken, taken-allowed, taken-of}
use Rattle.recovery_turns.proofs.Prelude.{turned, turned_by}
use Rattle.recovery_turns.proofs.Prelude.Acts.{foretold}
use Rattle.recovery_turns.proofs.Prelude.attempt
use Rattle.recovery_turns.proofs.Prelude.cause
use Rattle.recovery_turns.proofs.Prelude.deed

progress-is : (r : Recovery) (o : Op) (b : Bool) → progressed_by r (ends r.stage (deed_of o)) b ≡ progressed r o b
progress-is r o true = refl
progress-is r o false = go (ends r.stage (deed_of o))
  where
    go : (e : Bool) → at_end (stepped_by r e) (stepped_by r e).core.ops ≡ at_end (cond e (entered r (moved r.stage)) r) (cond e (entered r (moved r.stage)) r).core.ops
    go true = refl
    go false = refl

attempt-is : (w : World) (r : Recovery) (o : Op) (a : Attempt) → turned_by w r (ends r.stage (deed_of o)) (attempt.settled r.core a) ≡ attempted w r o a
attempt-is w r o (attempt.Goes ob es j) = go (barred_by r.stage r.failed j.seen)
  where
    go : (c : Option Cause) → going_unless w r (ends r.stage (deed_of o)) ob es j c ≡ on_going w r o ob es j c
    go None = ap (goes_on ob es) (progress-is (record r { core = j }) o (is_waiting j))
    go (Some c) = refl
attempt-is w r o (attempt.Stops c ob) = refl
attempt-is w r o (attempt.Ends lines) = refl

-- what the look foretells for an operation that is due is what the turn makes of it
pub look-is : (w : World) (read : ℕ) (now : Moment) (r : Recovery) (o : Op) (rest : List Op) (l : Look) → r.core.ops ≡ o ∷ rest → foretold r.core l ≡ turned w read now r.core
    → looked_by w r (ends r.stage (deed_of o)) l ≡ settled w read now r
look-is w read now r o rest l due told =
    ap (turned_by w r (ends r.stage (deed_of o))) (told ∙ ap (λ (ops : List Op). attempt.settled r.core (by_ops w read now r.core ops)) due)
    ∙ attempt-is w r o (by_deed w read now r.core rest (deed_of o))
    ∙ sym (ap (acted w read now r) due)

-- ---- names

deed-named : (count : ℕ) (d : Deed) → IfSome (spoken_to d) (λ n. n.0 < count) → is_named count d ≡ true
deed-named count (deed.Look n from) h = lt-ltb n.0 count h
deed-named count (deed.Request n a) h = lt-ltb n.0 count h
deed-named count (deed.Until n to) h = lt-ltb n.0 count h
deed-named count (deed.Await n to) h = lt-ltb n.0 count h
deed-named count (deed.AwaitSet n m) h = lt-ltb n.0 count h
deed-named count (deed.Settle n) h = lt-ltb n.0 count h
deed-named count (deed.Cross c a b) h = lt-ltb a.0 count h
deed-named count (deed.Same n) h = lt-ltb n.0 count h
deed-named count (deed.Auto n m) h = lt-ltb n.0 count h
deed-named count (deed.Match n m every) h = refl
deed-named count (deed.CrossMatch n m) h = lt-ltb n.0 count h
deed-named count (deed.Finish lines) h = refl

ops-named : (count : ℕ) (ops : List Op) → All (IsOpOf (λ n. n < count) (λ n. n < count)) ops → are_named count ops ≡ true
ops-named count [] h = refl
ops-named count (o ∷ ops) h =
    both (is_named count (deed_of o)) (are_named count ops) (deed-named count (deed_of o) (All-head (IsOpOf (λ n. n < count) (λ n. n < count)) o ops h).1)
    (ops-named count ops (All-tail (IsOpOf (λ n. n < count) (λ n. n < count)) o ops h))

-- a named recovery's job names servers that are there
pub job-named : (count : ℕ) (r : Recovery) → IsNamedRecovery count r → IsNamed count r.core
job-named count r has = record { ops = ops-named count r.core.ops has.ops; hands = has.hands }

-- ---- recoveries of one number

-- a recovery that is the same, of as many servers
pub same-named : (m n : ℕ) (r s : Recovery) → s ≡ r → m ≡ n → IsNamedRecovery m r → IsNamedRecovery n s
same-named m n r s same count has = subst (λ (k : ℕ). IsNamedRecovery k s) count (subst (λ (x : Recovery). IsNamedRecovery m x) (sym same) has)

pub once-named : (n : ℕ) (w : World) (b : BookState) (now : Moment) (r s : Recovery) → s ≡ once (ground_of w b now) r → IsNamedRecovery n r → IsNamedRecovery n s
once-named n w b now r s same has =
    subst (λ (x : Recovery). IsNamedRecovery n x) (sym same)
    (renumbered (λ k. k < n) (λ k. k < n) r.core.id (once (ground_of w b now) r) (once-of (λ k. k < n) (λ k. k < n) r.core.id (λ k h. h) w b now r has))

pub decided-named : (n : ℕ) (w : World) (b : BookState) (now : Moment) (r s : Recovery) → s ≡ decided (ground_of w b now) r → IsNamedRecovery n r → IsNamedRecovery n s
decided-named n w b now r s same has =
    subst (λ (x : Recovery). IsNamedRecovery n x) (sym same)
    (renumbered (λ k. k < n) (λ k. k < n) r.core.id (decided (ground_of w b now) r) (decided-of (λ k. k < n) (λ k. k < n) r.core.id (λ k h. h) w b now r has))

-- without the task that begins
pub begun-named : (n : ℕ) (r s : Recovery) (t : Task) (ts : List Task) → r.queue ≡ t ∷ ts → s ≡ record r { queue = ts } → IsNamedRecovery n r → IsNamedRecovery n s
begun-named n r s t ts queue same has = subst (λ (x : Recovery). IsNamedRecovery n x) (sym same) (record {
  number = has.number;
  ops = has.ops;
  hands = has.hands;
  stage = has.stage;
  queue = All-tail (IsTaskOf (λ k. k < n) (λ k. k < n) r.failed) t ts (subst (All (IsTaskOf (λ k. k < n) (λ k. k < n) r.failed)) queue has.queue);
  failed = has.failed;
  replicas = has.replicas;
  drained = has.drained;
  sources = has.sources;
  lead = has.lead;
  followers = has.followers;
})

-- a turn that was looked up may be taken
pub can-take : (w : World) (b : BookState) (read : ℕ) (now : Moment) (r : Recovery) (l : RecoveryLook) → look_told r l ≡ taken w b read now r → IsNamedRecovery (length w.servers) r
    → IsSpare l → Fits r l.decided → CanEnd (decided_on r l.decided) l.then → CanTake w r l
can-take w b read now r l told named spare fits ends = record {
  servers =
      subst (λ (t : Taken). All (λ e. server_of e < length w.servers) t.exchanges) (sym told)
      (taken-of (λ n. n < length w.servers) (λ n. n < length w.servers) r.core.id (λ n h. h) w b read now r named).exchanges;
  allowed = subst (λ (t : Taken). AllAllowed w t.exchanges) (sym told) (taken-allowed w b read now r);
  spare = spare;
  fits = fits;
  ends = ends;
}

-- what the look foretells, if an operation is due that ends the stage or doesn't
pub look-ends : (w : World) (read : ℕ) (now : Moment) (r : Recovery) (e : Bool) (l : Look) → ending_at r r.core.ops ≡ Some e → foretold r.core l ≡ turned w read now r.core
    → looked_by w r e l ≡ settled w read now r
look-ends w read now r e l due told = go r.core.ops refl due
  where
    go : (ops : List Op) → r.core.ops ≡ ops → ending_at r ops ≡ Some e → looked_by w r e l ≡ settled w read now r
    go [] is h = absurd (false≢true (ap is_some h))
    go (o ∷ rest) is h =
        ap (λ (b : Bool). looked_by w r b l) (sym (ap (λ (x : Option Bool). unwrap_or x e) h)) ∙ look-is w read now r o rest l is told

-- and if none is due
pub none-ends : (w : World) (read : ℕ) (now : Moment) (r : Recovery) → ending_at r r.core.ops ≡ None → fails w r cause.NoCandidate None ≡ settled w read now r
none-ends w read now r due = go r.core.ops refl due
  where
    go : (ops : List Op) → r.core.ops ≡ ops → ending_at r ops ≡ None → fails w r cause.NoCandidate None ≡ settled w read now r
    go [] is h = sym (ap (acted w read now r) is)
    go (o ∷ rest) is h = absurd (false≢true (sym (ap is_some h)))
