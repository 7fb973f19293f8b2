-- A job changes only servers that are leased to it, and keeps what leases it needs.
use Rattle.std.proofs.Common.{ℕ}
use Rattle.job_laws.proofs.Prelude.{HasLeases, IsLeased, Job, KeepsLeases, Leases, Moment, World, turn-stays, turned}

pub turn-leased : (L : Leases) (w : World) (read : ℕ) (now : Moment) (j : Job) → HasLeases L j → KeepsLeases L j.id (turned w read now j)
turn-leased L w read now j has =
    let stays = turn-stays (IsLeased L j.id) w read now j has.ops has.hands in
    record { id = stays.id; ops = stays.ops; hands = stays.hands; exchanges = stays.exchanges }
