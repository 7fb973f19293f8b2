-- An operation reads no server but the one that it speaks with.
use Rattle.std.proofs.Common.{◌≡◌, ℕ, Bool, cond, List, refl, sym, ◌∙◌, ap, Some}
use Rattle.recovery_reasons.proofs.Prelude.{Attempt, Attempts, Deed, IsMove, IsWaitFor, Job, Moment, Op, ServerNo, Status, World, attempts, by_deed}
use Rattle.recovery_reasons.proofs.Prelude.{ne_eqb, position_of, same_Some, seen-at, seen_of, spoken_to, with_seen}
use Rattle.recovery_reasons.proofs.Prelude.attempt
use Rattle.recovery_reasons.proofs.Prelude.doing

-- what was seen of a server stays
abbrev pub SeesOnly : Job → ℕ → Attempt → Type 0
SeesOnly j m (attempt.Goes o es k) = seen_of k.seen m ≡ seen_of j.seen m
SeesOnly j m (attempt.Stops c o) = Unit {0}
SeesOnly j m (attempt.Ends lines) = Unit {0}

-- the server that a wait, or a change of source, speaks with
pub wait-speaks : (n : ServerNo) (d : Deed) → IsWaitFor n d → spoken_to d ≡ Some n
wait-speaks n d (doing.Awaits to) = refl
wait-speaks n d _ = refl

pub move-speaks : (n : ServerNo) (d : Deed) → IsMove n d → spoken_to d ≡ Some n
move-speaks n d (doing.Crosses c b) = refl
move-speaks n d _ = refl

module _ (w : World) (read : ℕ) (now : Moment) (j : Job) (rest : List Op) (n : ServerNo) (m : ℕ) (apart : m ≡ n.0 → ⊥) where
  saw-other : (k : ServerNo) → Some k ≡ Some n → (s : Status) → seen_of (with_seen j.seen k (position_of s)) m ≡ seen_of j.seen m
  saw-other k e s =
      seen-at j.seen k (position_of s) m
      ∙ ap (λ (b : Bool). cond b (Some (position_of s)) (seen_of j.seen m)) (ne_eqb k.0 m (λ same. apart (sym same ∙ ap (λ (x : ServerNo). x.0) (same_Some k n e))))

  sees-by : (d : Deed) (a : Attempt) → Attempts w read now j rest d a → spoken_to d ≡ Some n → SeesOnly j m a
  sees-by d a (doing.Misses k from c why) e = tt
  sees-by d a (doing.Fails x c why) e = tt
  sees-by d a (doing.Reads k from s seen is) e = saw-other k e s
  sees-by d a (doing.Waits k x s is seen short more) e = saw-other k (sym (wait-speaks k x is) ∙ e) s
  sees-by d a (doing.Reaches k x s is seen over) e = saw-other k (sym (wait-speaks k x is) ∙ e) s
  sees-by d a (doing.Finishes lines) e = tt
  sees-by d a _ e = refl

pub deed-sees : (w : World) (read : ℕ) (now : Moment) (j : Job) (rest : List Op) (d : Deed) (n : ServerNo) (m : ℕ) → spoken_to d ≡ Some n → (m ≡ n.0 → ⊥) → SeesOnly j m (by_deed w read now j rest d)
deed-sees w read now j rest d n m on apart = sees-by w read now j rest n m apart d (by_deed w read now j rest d) (attempts w read now j rest d) on
