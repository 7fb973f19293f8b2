-- Recoveries that count began in time, and so the moment to which they raise.
use Rattle.std.proofs.Common.{◌≡◌, ℕ, ◌≤◌, ◌^◌, Bool, true, false, List, [], ◌∷◌, Option, Some, None, refl, subst, sym, arith, All, ◌&&◌, filter, map, max, nat_le, if◌then◌else◌}
use Rattle.orch_core.proofs.Prelude.{All-cons, All-head, All-nil, All-tail, AuditState, IsAudit, IsAudit-map, Moment, Recovery, RecoveryRow, Row}
use Rattle.orch_core.proofs.Prelude.{acknowledged, acknowledged-block, acknowledged-id, acknowledged_for, are_known, both_true, closed, counted}
use Rattle.orch_core.proofs.Prelude.{counts, end_or, ended_so, greatest, interrupted, interrupted-block, interrupted-id, is_block_in_range}
use Rattle.orch_core.proofs.Prelude.{is_end_in_range, is_in_range, is_of, is_unended, latest, latest_recovery, leb-true, loaded_by, map_of, raised}
use Rattle.orch_core.proofs.Prelude.{recoveries_in, recovery_raised, servers_of}
use Rattle.orch_core.proofs.Prelude.ending
use Rattle.orch_core.proofs.Prelude.row

-- each recovery began by 2^63
abbrev pub HasBegun : List Recovery → Type 0
HasBegun rs = All (λ r. r.begun.0 ≤ 2 ^ 63) rs

-- and is ended by then, if it is
record IsInTime (r : Recovery) : Type 0 where
  begun : r.begun.0 ≤ greatest
  ended : is_end_in_range r.ended ≡ true

max-most : (a b most : ℕ) → a ≤ most → b ≤ most → max a b ≤ most
max-most a b most first second = omega arith

at_most : (n most : ℕ) → nat_le n most ≡ true → n ≤ most
at_most n most h = leb-true n most h

ended-most : (now : ℕ) (ended : Option Moment) → now ≤ greatest → is_end_in_range ended ≡ true → end_or now ended ≤ greatest
ended-most now None most is = most
ended-most now (Some ended) most is = max-most now ended.0 greatest most (at_most ended.0 greatest is)

in-time : (period : List ℕ → ℕ) (last : ℕ) (k : RecoveryRow) → is_in_range last (row.Recovery k) ≡ true → IsInTime (loaded_by period k)
in-time period last k is =
    let moments = (both_true (nat_le 1 k.id && nat_le k.id last) (nat_le k.begun.0 greatest && (is_end_in_range k.ended && is_block_in_range k.block)) is).1 in
    let parts = both_true (nat_le k.begun.0 greatest) (is_end_in_range k.ended && is_block_in_range k.block) moments in
    record { begun = at_most k.begun.0 greatest parts.0; ended = (both_true (is_end_in_range k.ended) (is_block_in_range k.block) parts.1).0 }

recovery-most : (now : ℕ) (r : Recovery) → now ≤ greatest → IsInTime r → recovery_raised now r ≤ greatest
recovery-most now r most is = ended-most (max now r.begun.0) r.ended (max-most now r.begun.0 greatest most is.begun) is.ended

-- ---- the recoveries of rows that count

module _ (period : List ℕ → ℕ) (count last : ℕ) where
  abbrev counting : List Row → List Recovery
  counting rows = recoveries_in period (filter (counts count last) rows)

  of-row : (r : Row) → is_in_range last r ≡ true → (rest : List Row) → All IsInTime (recoveries_in period rest) → All IsInTime (recoveries_in period (r ∷ rest))
  of-row (row.Recovery k) is rest all = All-cons IsInTime (loaded_by period k) (recoveries_in period rest) (in-time period last k is) all
  of-row _ is rest all = all

  all-in-time : (rows : List Row) → All IsInTime (counting rows)
  all-in-time [] = All-nil IsInTime
  all-in-time (r ∷ rows) = go (counts count last r) refl (all-in-time rows)
    where
      go : (b : Bool) → counts count last r ≡ b → All IsInTime (counting rows) → All IsInTime (recoveries_in period (if b then r ∷ filter (counts count last) rows else filter (counts count last) rows))
      go true is rest = of-row r (both_true (are_known count (servers_of r)) (is_in_range last r) is).1 (filter (counts count last) rows) rest
      go false is rest = rest

begun-in-time : (rs : List Recovery) → All IsInTime rs → HasBegun rs
begun-in-time [] all = All-nil _
begun-in-time (r ∷ rs) all = All-cons (λ (x : Recovery). x.begun.0 ≤ 2 ^ 63) r rs (All-head IsInTime r rs all).begun (begun-in-time rs (All-tail IsInTime r rs all))

pub counted-begun : (period : List ℕ → ℕ) (count last : ℕ) (rows : List Row) → HasBegun (recoveries_in period (counted count last rows))
counted-begun period count last rows = begun-in-time (recoveries_in period (counted count last rows)) (all-in-time period count last (map_of rows))

most-of : (now : ℕ) (rs : List Recovery) → now ≤ greatest → All IsInTime rs → latest_recovery now rs ≤ greatest
most-of now [] most all = most
most-of now (r ∷ rs) most all = most-of (recovery_raised now r) rs (recovery-most now r most (All-head IsInTime r rs all)) (All-tail IsInTime r rs all)

-- no recovery that counts is later than the end of time
pub reloaded-most : (period : List ℕ → ℕ) (count last now : ℕ) (rows : List Row) → now ≤ greatest → latest_recovery now (recoveries_in period (counted count last rows)) ≤ greatest
reloaded-most period count last now rows most = most-of now (recoveries_in period (counted count last rows)) most (all-in-time period count last (map_of rows))

-- ---- changes of an audit leave when recoveries began

module _ (f : Recovery → Recovery) (same : (r : Recovery) → (f r).begun ≡ r.begun) where
  pub mapped-begun : (rs : List Recovery) → HasBegun rs → HasBegun (map f rs)
  mapped-begun [] all = All-nil _
  mapped-begun (r ∷ rs) all =
      All-cons (λ (x : Recovery). x.begun.0 ≤ 2 ^ 63) (f r) (map f rs)
      (subst (λ (m : Moment). m.0 ≤ 2 ^ 63) (sym (same r)) (All-head (λ (x : Recovery). x.begun.0 ≤ 2 ^ 63) r rs all)) (mapped-begun rs (All-tail (λ (x : Recovery). x.begun.0 ≤ 2 ^ 63) r rs all))

interrupted-begun : (at : Moment) (r : Recovery) → (interrupted at r).begun ≡ r.begun
interrupted-begun at r = go (is_unended r)
  where
    go : (b : Bool) → (if b then ended_so at ending.Interrupted r else r).begun ≡ r.begun
    go true = refl
    go false = refl

acknowledged-begun : (cluster : List ℕ) (r : Recovery) → (acknowledged_for cluster r).begun ≡ r.begun
acknowledged-begun cluster r = go (is_of cluster r)
  where
    go : (b : Bool) → (if b then record r { acked = true } else r).begun ≡ r.begun
    go true = refl
    go false = refl

pub closed-begun : (a : AuditState) (at : Moment) → HasBegun a.recoveries → HasBegun (closed a at).recoveries
closed-begun a at all = mapped-begun (interrupted at) (interrupted-begun at) a.recoveries all

pub closed-is : (a : AuditState) (at : Moment) → IsAudit a → IsAudit (closed a at)
closed-is a at is = IsAudit-map (interrupted at) (interrupted-id at) (interrupted-block at) a is

pub acked-is : (a : AuditState) (cluster : List ℕ) → IsAudit a → IsAudit (acknowledged a cluster)
acked-is a cluster is = IsAudit-map (acknowledged_for cluster) (acknowledged-id cluster) (acknowledged-block cluster) a is

pub acked-begun : (a : AuditState) (cluster : List ℕ) → HasBegun a.recoveries → HasBegun (acknowledged a cluster).recoveries
acked-begun a cluster all = mapped-begun (acknowledged_for cluster) (acknowledged-begun cluster) a.recoveries all

-- ---- the moment of an opening

raised-most : (last now : ℕ) (r : Row) → now ≤ greatest → is_in_range last r ≡ true → raised now r ≤ greatest
raised-most last now (row.Downtime d) most is = max-most now d.begun.0 greatest most (at_most d.begun.0 greatest (both_true (nat_le d.begun.0 greatest) (nat_le d.until.0 greatest) is).0)
raised-most last now (row.Recovery k) most is = let none : List ℕ → ℕ = λ c. 0 in recovery-most now (loaded_by none k) most (in-time none last k is)
raised-most last now _ most is = most

filtered-most : (count last now : ℕ) (rows : List Row) → now ≤ greatest → latest now (filter (counts count last) rows) ≤ greatest
filtered-most count last now [] most = most
filtered-most count last now (r ∷ rows) most = go (counts count last r) refl (filtered-most count last now rows most) (λ later. filtered-most count last (raised now r) rows later)
  where
    go : (b : Bool) → counts count last r ≡ b → latest now (filter (counts count last) rows) ≤ greatest → (raised now r ≤ greatest → latest (raised now r) (filter (counts count last) rows) ≤ greatest)
        → latest now (if b then r ∷ filter (counts count last) rows else filter (counts count last) rows) ≤ greatest
    go true is rest more = more (raised-most last now r most (both_true (are_known count (servers_of r)) (is_in_range last r) is).1)
    go false is rest more = rest

-- no row that counts is later than the end of time
pub latest-most : (count last now : ℕ) (rows : List Row) → now ≤ greatest → latest now (counted count last rows) ≤ greatest
latest-most count last now rows most = filtered-most count last now (map_of rows) most
