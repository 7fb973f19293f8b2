-- A recovery changes only servers that are leased to it.
use Rattle.std.proofs.Common.{ℕ, List, sym, subst}
use Rattle.recovery_laws.proofs.Prelude.{All, All-weaker, BookState, HasLeases, IsAny, IsLeased, IsLeasedList, IsOpOf, KeepsLeased, LeasedRecovery}
use Rattle.recovery_laws.proofs.Prelude.{Leases, MayChange, Means, Moment, Purpose, Recovery, ServerNo, World, begun-of, begun_recovery, taken}
use Rattle.recovery_laws.proofs.Prelude.{taken-of}

pub taken-leased : (l : Leases) (id : ℕ) (w : World) (b : BookState) (read : ℕ) (now : Moment) (r : Recovery) → LeasedRecovery l id r → KeepsLeased l id (taken w b read now r)
taken-leased l id w b read now r has = taken-of (IsLeased l id) IsAny id (λ n h. tt) w b read now r has

-- its job has what leases it needs
pub job-leased : (l : Leases) (id : ℕ) (r : Recovery) → LeasedRecovery l id r → HasLeases l r.core
job-leased l id r has = record {
  ops = subst (λ (i : ℕ). All (MayChange l i) r.core.ops) (sym has.number) (All-weaker (IsOpOf (IsLeased l id) IsAny) (MayChange l id) (λ o h. h.0) r.core.ops has.ops);
  hands = subst (λ (i : ℕ). All (λ n. IsLeased l i n.0) r.core.hands) (sym has.number) has.hands;
}

pub begun-leased : (l : Leases) (u : Purpose) (by : Means) (id wait : ℕ) (f : ServerNo) (ns order : List ServerNo) → All (λ n. IsLeased l id n.0) ns → IsLeasedList l id u f
    → LeasedRecovery l id (begun_recovery u by id wait f ns order)
begun-leased l u by id wait f ns order all h = begun-of (IsLeased l id) IsAny u by id wait f ns order all tt h
