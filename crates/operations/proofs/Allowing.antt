-- Each exchange of a turn is allowed in the world to which those before it led.
use Rattle.std.proofs.Common.{ℕ, List, [], ◌∷◌}
use Rattle.operations.proofs.Prelude.{AllAllowed, Attempt, Deed, Job, Moment, Op, Request, ServerNo, World, after, by_ops, deed_of, restarts, settled}
use Rattle.operations.proofs.Prelude.{turned}
use Rattle.operations.proofs.Prelude.asking
use Rattle.operations.proofs.Targets.{can-allowed}
use Rattle.operations.proofs.Attempts.{Attempts, attempts}
use Rattle.operations.proofs.Attempts as doing

pub restarts-allowed : (w : World) (hands : List ServerNo) → AllAllowed w (restarts hands)
restarts-allowed w [] = tt
restarts-allowed w (n ∷ ns) = (tt, restarts-allowed (after w (Request n.0 asking.Start)) ns)

allowed-by : (w : World) (read : ℕ) (now : Moment) (j : Job) (rest : List Op) (d : Deed) (a : Attempt) → Attempts w read now j rest d a → AllAllowed w (settled j a).exchanges
allowed-by w read now j rest d a (doing.Misses n from c why) = restarts-allowed w j.hands
allowed-by w read now j rest d a (doing.Fails x c why) = restarts-allowed w j.hands
allowed-by w read now j rest d a (doing.Asks n b) = (tt, tt)
allowed-by w read now j rest d a (doing.Begins n to c until) = (tt, tt)
allowed-by w read now j rest d a (doing.Attaches n x e is made of can done) = (can-allowed w e can, tt)
allowed-by w read now j rest d a _ = tt

pub turn-allowed : (w : World) (read : ℕ) (now : Moment) (j : Job) → AllAllowed w (turned w read now j).exchanges
turn-allowed w read now j = go j.ops
  where
    go : (ops : List Op) → AllAllowed w (settled j (by_ops w read now j ops)).exchanges
    go [] = tt
    go (op ∷ rest) = allowed-by w read now j rest (deed_of op) _ (attempts w read now j rest (deed_of op))
