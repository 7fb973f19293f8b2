-- Recoveries of a cluster don't overlap.
use Rattle.std.specs.Prelude.{◌≡◌, ℕ, ◌+◌, ◌-◌, ◌<◌, ◌≤◌, ◌&&◌, ◌⊎◌, true, false, List, count_by, Ok}
use Rattle.kept_rows.specs.declared.recovery.Recovery.{Recovery}
use Rattle.audit_log.specs.declared.held.Held.{Held}
use Rattle.audit_log.specs.declared.held.Held.TheVariants as held
use Rattle.audit_log.specs.Audits.{AuditState, is_of, is_unended, longest_block, may_begin, IsAudit}

-- a recovery of the cluster holds none back: it is ended, and is acknowledged or began at least its own block period
-- ago
abbrev pub IsClear : List ℕ → ℕ → Recovery → Type 0
IsClear cluster now r = r.cluster ≡ cluster → (is_unended r ≡ false) × ((r.acked ≡ true) ⊎ (r.block ≤ now - r.begun.0))

-- a recovery of the cluster that doesn't block others
abbrev pub IsFree : List ℕ → ℕ → Recovery → Type 0
IsFree cluster now r = r.cluster ≡ cluster → (r.acked ≡ true) ⊎ (r.block ≤ now - r.begun.0)

-- a recovery that may begin, with a block period that isn't too long
pub record MayBegin (a : AuditState) (r : Recovery) : Type 0 where
  pub answered : may_begin a r.cluster r.begun.0 ≡ Ok r.id
  pub short : r.block ≤ longest_block

-- how many recoveries of a cluster are unended
abbrev pub count_unended : List ℕ → List Recovery → ℕ
count_unended cluster recoveries = count_by (λ r. is_of cluster r && is_unended r) recoveries

-- each cluster has at most one unended recovery, and ids rise, below the next one
pub record IsApart (a : AuditState) : Type 0 where
  pub one : (cluster : List ℕ) → count_unended cluster a.recoveries ≤ 1
  pub audit : IsAudit a

-- a recovery of the cluster that holds others back, and how
abbrev pub IsHeldBack : List ℕ → ℕ → Held → Recovery → Type 0
IsHeldBack cluster now (held.Unended id) r = (r.cluster ≡ cluster) × (r.id ≡ id) × (is_unended r ≡ true)
IsHeldBack cluster now (held.Blocked id until) r =
    (r.cluster ≡ cluster) × (r.id ≡ id) × (until.0 ≡ r.begun.0 + r.block) × (r.acked ≡ false) × (now - r.begun.0 < r.block)
