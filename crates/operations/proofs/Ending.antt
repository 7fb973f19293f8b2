-- A turn ends an operation or is one more wait.
use Rattle.std.proofs.Common.{◌≡◌, ℕ, ◌+◌, ◌<◌, ◌≤◌, List, [], ◌∷◌, refl, ◌∙◌, ap, Option, None, arith}
use Rattle.operations.proofs.Prelude.{Attempt, Cause, Deed, Exchange, Job, Moment, MovesOn, Observation, Op, World, by_ops, deed_of, failed}
use Rattle.operations.proofs.Prelude.{false≢true, going, ltb-true, settled, turned, turns_for}
use Rattle.operations.proofs.Attempts.{Attempts, attempts}
use Rattle.operations.proofs.Attempts as doing

module _ (w : World) (read : ℕ) (now : Moment) (j : Job) (rest : List Op) (counted : j.waited ≤ j.wait) (count : turns_for j.wait j.ops ≡ (j.wait + 1) + turns_for j.wait rest) where
  failed-moves : (c : Cause) (o : Option Observation) → MovesOn j (failed j c o)
  failed-moves c o = record { waited = counted; wait = refl; fewer = λ h. absurd (false≢true h) }

  next-moves : (o : Option Observation) (es : List Exchange) (k : Job) → k.ops ≡ rest → k.waited ≡ 0 → k.wait ≡ j.wait → MovesOn j (going o es k)
  next-moves o es k left none same = record {
    waited = omega (arith, none);
    wait = same;
    fewer = λ h. let e : turns_for k.wait k.ops ≡ turns_for j.wait rest = ap (λ n. turns_for n k.ops) same ∙ ap (turns_for j.wait) left in omega (arith, e, none, counted, count);
  }

  moves-by : (d : Deed) (a : Attempt) → Attempts w read now j rest d a → MovesOn j (settled j a)
  moves-by d a (doing.Misses n from c why) = failed-moves c _
  moves-by d a (doing.Fails x c why) = failed-moves c None
  moves-by d a (doing.Waits n x s is seen short more) =
      let less : j.waited + 1 < j.wait = ltb-true (j.waited + 1) j.wait more in
      record { waited = omega (arith, less); wait = refl; fewer = λ h. omega (arith, less, counted, count) }
  moves-by d a (doing.Finishes lines) = record { waited = counted; wait = refl; fewer = λ h. absurd (false≢true h) }
  moves-by d a _ = next-moves _ _ _ refl refl refl

pub turn-moves : (w : World) (read : ℕ) (now : Moment) (j : Job) → j.waited ≤ j.wait → MovesOn j (turned w read now j)
turn-moves w read now j counted = go j.ops refl
  where
    go : (ops : List Op) → j.ops ≡ ops → MovesOn j (settled j (by_ops w read now j ops))
    go [] is = record { waited = counted; wait = refl; fewer = λ h. absurd (false≢true h) }
    go (op ∷ rest) is = moves-by w read now j rest counted (ap (turns_for j.wait) is) (deed_of op) _ (attempts w read now j rest (deed_of op))
