-- The operations that are left after a turn were left before it.
use Rattle.std.proofs.Common.{◌≡◌, ℕ, List, [], ◌∷◌, refl, subst}
use Rattle.operations.proofs.Prelude.{Attempt, Deed, Job, Moment, Op, World, by_ops, deed_of, settled, turned}
use Rattle.operations.proofs.Attempts.{Attempts, attempts}
use Rattle.operations.proofs.Attempts as doing

left-by : (P : List Op → Type 0) → P [] → (w : World) (read : ℕ) (now : Moment) (j : Job) (rest : List Op) → P rest → P j.ops → (d : Deed) (a : Attempt) → Attempts w read now j rest d a → P (settled j a).job.ops
left-by P none w read now j rest left all d a (doing.Misses n from c why) = none
left-by P none w read now j rest left all d a (doing.Fails x c why) = none
left-by P none w read now j rest left all d a (doing.Waits n x s is seen short more) = all
left-by P none w read now j rest left all d a (doing.Finishes lines) = none
left-by P none w read now j rest left all d a _ = left

-- what holds of a list of operations, and then of what is after its first and of none, holds of what a turn leaves
pub turn-left : (P : List Op → Type 0) → P [] → ((op : Op) (ops : List Op) → P (op ∷ ops) → P ops) → (w : World) (read : ℕ) (now : Moment) (j : Job) → P j.ops → P (turned w read now j).job.ops
turn-left P none behind w read now j all = go j.ops refl
  where
    go : (ops : List Op) → j.ops ≡ ops → P (settled j (by_ops w read now j ops)).job.ops
    go [] is = none
    go (op ∷ rest) is = left-by P none w read now j rest (behind op rest (subst P is all)) all (deed_of op) _ (attempts w read now j rest (deed_of op))
