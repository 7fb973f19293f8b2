-- What an index knows.
use Rattle.std.proofs.Common.{◌≡◌, ℕ, ◌+◌, ◌-◌, ◌<◌, ◌≤◌, ◌⊎◌, true, false, List, length, get_or, refl, sym, ap, subst, Option, Some, None, inl, inr, arith, All, IfSome, slice_get}
use Rattle.audit_log.proofs.Prelude.{AllWithin, DoneOf, IfSome_then, Index, IsClear, IsIndex, IsLastBut, IsLink, Link, Recovery, at_read, clear_at}
use Rattle.audit_log.proofs.Prelude.{clear_in, get_or_from_slice_get, is_unended, slice_get_within}
use Rattle.audit_log.proofs.Indexing.{done-clear}
use Rattle.audit_log.proofs.Walking.{some-of}
use Rattle.audit_log.proofs.Within.{within-join, within-one, within-weaker}

pub clear-of_done : (cluster : List ℕ) (now : ℕ) (xs : List Recovery) (low high : ℕ) → AllWithin (DoneOf cluster) xs low high → AllWithin (IsClear cluster now) xs low high
clear-of_done cluster now xs low high = within-weaker (DoneOf cluster) (IsClear cluster now) xs low high (done-clear cluster now)

-- the last one that isn't done is the last one that isn't clear
pub but-clear : (cluster : List ℕ) (now : ℕ) (xs : List Recovery) (end : ℕ) (o : Option ℕ) → IsLastBut (DoneOf cluster) cluster xs end o → IsLastBut (IsClear cluster now) cluster xs end o
but-clear cluster now xs end None is = clear-of_done cluster now xs 0 end is
but-clear cluster now xs end (Some i) is = (is.0, is.1, clear-of_done cluster now xs (i + 1) end is.2)

module _ (xs : List Recovery) (index : Index) (is : IsIndex xs index) where
  pub link-is : (i : ℕ) (link : Link) → slice_get index.links.items i ≡ Some link → IsLink xs i link
  link-is i link e =
      subst (λ l. IsLink xs i l) (get_or_from_slice_get index.links.items i link link e) (is.links i link (slice_get_within index.links.items i link e))

  pub clear-linked : (cluster : List ℕ) (now i from : ℕ) (link : Link) (x : Recovery) → slice_get index.links.items i ≡ Some link → link.clear ≡ Some from
      → (get_or xs i x).cluster ≡ cluster → from ≤ now → AllWithin (IsClear cluster now) xs 0 i
  clear-linked cluster now i from link x e known of late =
      subst (λ (c : List ℕ). AllWithin (IsClear c now) xs 0 i) of
      (subst (λ o. IfSome o (λ f. (n : ℕ) → f ≤ n → AllWithin (IsClear (get_or xs i x).cluster n) xs 0 i)) known ((link-is i link e).clear x) now late)

  pub clear-known : (cluster : List ℕ) (now i from : ℕ) (x : Recovery) → clear_at index.links.items i ≡ Some from → (get_or xs i x).cluster ≡ cluster → from ≤ now
      → AllWithin (IsClear cluster now) xs 0 i
  clear-known cluster now i from x known of late = go (slice_get index.links.items i) refl known
    where
      go : (o : Option Link) → slice_get index.links.items i ≡ o → clear_in o ≡ Some from → AllWithin (IsClear cluster now) xs 0 i
      go None e h = cc
      go (Some link) e h = clear-linked cluster now i from link x e h of late

  -- one more that is ended, and is acknowledged or blocked until then
  pub clear-more : (now i from : ℕ) (x : Recovery) → i < length xs → x ≡ get_or xs i x → clear_at index.links.items i ≡ Some from
      → is_unended x ≡ false → (x.acked ≡ true) ⊎ (x.begun.0 + x.block ≤ now) → from ≤ now → AllWithin (IsClear x.cluster now) xs 0 (i + 1)
  clear-more now i from x within at known closed free late =
      within-join (IsClear x.cluster now) xs 0 i (i + 1)
      (clear-known x.cluster now i from x known (ap (λ (r : Recovery). r.cluster) (sym at)) late)
      (within-one (IsClear x.cluster now) xs i (at_read xs (IsClear x.cluster now) i x within at (λ here. (closed, by free))))
    where
      by : (x.acked ≡ true) ⊎ (x.begun.0 + x.block ≤ now) → (x.acked ≡ true) ⊎ (x.block ≤ now - x.begun.0)
      by (inl acked) = inl acked
      by (inr past) = inr (omega (arith, past))

  -- all of the cluster of its last one
  pub clear-all : (cluster : List ℕ) (i : ℕ) (known : Option ℕ) → IsLastBut (DoneOf cluster) cluster xs (length xs) (Some i)
      → ((d : Recovery) → IfSome known (λ from. (now : ℕ) → from ≤ now → AllWithin (IsClear (get_or xs i d).cluster now) xs 0 (i + 1)))
      → IfSome known (λ from. (now : ℕ) → from ≤ now → All (IsClear cluster now) xs)
  clear-all cluster i known last h =
      let before = last.0 in
      let x = some-of xs (omega (arith, before)) in
      IfSome_then known (h x) (λ from all now late k d within.
      within-join (IsClear cluster now) xs 0 (i + 1) (length xs)
      (subst (λ (c : List ℕ). AllWithin (IsClear c now) xs 0 (i + 1)) (last.1 x) (all now late))
      (clear-of_done cluster now xs (i + 1) (length xs) last.2) k d (omega arith) within)
