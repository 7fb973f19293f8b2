-- What a turn observes is what a status shows.
use Rattle.std.proofs.Common.{◌≡◌, ℕ, List, [], ◌∷◌, sym, Some}
use Rattle.job_laws.proofs.Prelude.{Attempt, Attempts, Deed, Job, Moment, Observation, Op, ServerNo, World, attempts, by_deed, by_ops, deed_of}
use Rattle.job_laws.proofs.Prelude.{observed, same_Some, settled, turned}
use Rattle.job_laws.proofs.Prelude.doing

observes-by : (w : World) (read : ℕ) (now : Moment) (j : Job) (rest : List Op) (d : Deed) (a : Attempt) → Attempts w read now j rest d a → (o : Observation)
    → (settled j a).observation ≡ Some o → (n : ServerNo) × (o ≡ observed w read now n)
observes-by w read now j rest d a (doing.Misses n from c why) o h = (n, same_Some o (observed w read now n) (sym h))
observes-by w read now j rest d a (doing.Reads n from s seen is) o h = (n, same_Some o (observed w read now n) (sym h))
observes-by w read now j rest d a _ o h = cc

-- by whatever operation is due
pub deed-observes : (w : World) (read : ℕ) (now : Moment) (j : Job) (rest : List Op) (d : Deed) (o : Observation) → (settled j (by_deed w read now j rest d)).observation ≡ Some o → (n : ServerNo) × (o ≡ observed w read now n)
deed-observes w read now j rest d o h = observes-by w read now j rest d (by_deed w read now j rest d) (attempts w read now j rest d) o h

pub turn-observes : (w : World) (read : ℕ) (now : Moment) (j : Job) (o : Observation) → (turned w read now j).observation ≡ Some o → (n : ServerNo) × (o ≡ observed w read now n)
turn-observes w read now j o h = go j.ops h
  where
    go : (ops : List Op) → (settled j (by_ops w read now j ops)).observation ≡ Some o → (n : ServerNo) × (o ≡ observed w read now n)
    go [] h = cc
    go (op ∷ rest) h = deed-observes w read now j rest (deed_of op) o h
