-- The index that finds the recoveries of a cluster. No definition of the audit uses it.
use Rattle.std.specs.Prelude.{◌≡◌, ℕ, ◌+◌, ◌*◌, ◌%◌, ◌<◌, ◌≤◌, ◌&&◌, ◌⊎◌, ◌++◌, ◌∷◌, [], not, true, false, Bool, List, fold, length, slice_get, slice_index_or, IfSome, Option, None, Some}
use Rattle.std.specs.List.{AllWithin, HoldsAt}
use Rattle.kept_rows.specs.declared.recovery.Recovery.{Recovery}
use Rattle.audit_log.specs.Apart.{IsClear}
use Rattle.audit_log.specs.Audits.{AuditState, is_unended, IsAudit}
use Rattle.audit_log.specs.declared.index.Index.{Index}
use Rattle.audit_log.specs.declared.index.Link.{Link}

-- ---- buckets of labels

-- the number of a label's first bytes, with one more
unfoldable pub mixed : ℕ → ℕ → ℕ
mixed number byte = (number * 257 + byte) % 4294967291

-- the bucket of a label
unfoldable pub bucket_of : List ℕ → ℕ
bucket_of label = fold mixed 0 label % 4096

-- ---- what is passed over

-- it is acknowledged and ended: it holds none back, and an acknowledgement leaves it as it is
abbrev pub is_done : Recovery → Bool
is_done r = r.acked && not (is_unended r)

-- a recovery of the bucket is done
abbrev pub DoneIn : ℕ → Recovery → Type 0
DoneIn bucket r = bucket_of r.cluster ≡ bucket → is_done r ≡ true

-- a recovery of the cluster is done
abbrev pub DoneOf : List ℕ → Recovery → Type 0
DoneOf cluster r = r.cluster ≡ cluster → is_done r ≡ true

-- The recovery at this place is the last one of the cluster before the end that may not be so. None: all of them are.
abbrev pub IsLastBut : (Recovery → Type 0) → List ℕ → List Recovery → ℕ → Option ℕ → Type 0
IsLastBut So cluster recoveries end None = AllWithin So recoveries 0 end
IsLastBut So cluster recoveries end (Some i) =
    (i < end) × HoldsAt (λ r. r.cluster ≡ cluster) recoveries i × AllWithin So recoveries (i + 1) end

-- ---- the index

-- The link of a place is right about the recoveries before it. From its start on each one of the bucket is done. From
-- its moment on none of the cluster holds others back.
pub record IsLink (recoveries : List Recovery) (i : ℕ) (link : Link) : Type 0 where
  pub done : (d : Recovery) → AllWithin (DoneIn (bucket_of (slice_index_or recoveries i d).cluster)) recoveries link.before i
  pub clear : (d : Recovery) → IfSome link.clear (λ from. (now : ℕ) → from ≤ now →
      AllWithin (IsClear (slice_index_or recoveries i d).cluster now) recoveries 0 i)

-- From the head of a bucket on each recovery of it is done, and the links are right.
pub record IsIndex (recoveries : List Recovery) (index : Index) : Type 0 where
  pub few : length index.links.items ≤ length recoveries
  pub heads : (bucket d : ℕ) → bucket < length index.heads.items →
      AllWithin (DoneIn bucket) recoveries (slice_index_or index.heads.items bucket d) (length recoveries)
  pub links : (i : ℕ) (d : Link) → i < length index.links.items →
      IsLink recoveries i (slice_index_or index.links.items i d)

-- an audit, and an index of its recoveries
pub record IsFound (a : AuditState) (by : Index) : Type 0 where
  pub audit : IsAudit a
  pub index : IsIndex a.recoveries by

-- the links with one more at a place, or as they were
abbrev pub IsLinked : List Link → List Link → ℕ → Link → Type 0
IsLinked old new place link = (new ≡ old) ⊎ ((length old ≡ place) × (new ≡ old ++ link ∷ []))

-- the moment of a place's link
abbrev pub clear_in : Option Link → Option ℕ
clear_in None = None
clear_in (Some link) = link.clear

abbrev pub clear_at : List Link → ℕ → Option ℕ
clear_at links i = clear_in (slice_get links i)

-- ---- what is found

-- the place of the first one that passes a test
abbrev pub IsFirst : (Recovery → Bool) → List Recovery → Option ℕ → Type 0
IsFirst test recoveries None = AllWithin (λ r. test r ≡ false) recoveries 0 (length recoveries)
IsFirst test recoveries (Some i) =
    (i < length recoveries) × HoldsAt (λ r. test r ≡ true) recoveries i × AllWithin (λ r. test r ≡ false) recoveries 0 i

-- the place of the last one that passes a test
abbrev pub IsLast : (Recovery → Bool) → List Recovery → Option ℕ → Type 0
IsLast test recoveries None = AllWithin (λ r. test r ≡ false) recoveries 0 (length recoveries)
IsLast test recoveries (Some i) =
    (i < length recoveries) × HoldsAt (λ r. test r ≡ true) recoveries i
    × AllWithin (λ r. test r ≡ false) recoveries (i + 1) (length recoveries)
