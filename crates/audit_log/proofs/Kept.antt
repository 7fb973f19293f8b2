-- What a change keeps of a recovery.
use Rattle.std.proofs.Common.{◌≡◌, ℕ, Bool, true, false, cond, List, refl}
use Rattle.audit_log.proofs.Prelude.{Moment, Recovery, acknowledged_for, ended_so, interrupted, is_of, is_unended}
use Rattle.audit_log.proofs.Prelude.ending

pub interrupted-id : (at : Moment) (r : Recovery) → (interrupted at r).id ≡ r.id
interrupted-id at r = go (is_unended r)
  where
    go : (b : Bool) → (cond b (ended_so at ending.Interrupted r) r).id ≡ r.id
    go true = refl
    go false = refl

pub acknowledged-id : (cluster : List ℕ) (r : Recovery) → (acknowledged_for cluster r).id ≡ r.id
acknowledged-id cluster r = go (is_of cluster r)
  where
    go : (b : Bool) → (cond b (record r { acked = true }) r).id ≡ r.id
    go true = refl
    go false = refl

pub interrupted-block : (at : Moment) (r : Recovery) → (interrupted at r).block ≡ r.block
interrupted-block at r = go (is_unended r)
  where
    go : (b : Bool) → (cond b (ended_so at ending.Interrupted r) r).block ≡ r.block
    go true = refl
    go false = refl

pub acknowledged-block : (cluster : List ℕ) (r : Recovery) → (acknowledged_for cluster r).block ≡ r.block
acknowledged-block cluster r = go (is_of cluster r)
  where
    go : (b : Bool) → (cond b (record r { acked = true }) r).block ≡ r.block
    go true = refl
    go false = refl
