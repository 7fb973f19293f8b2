-- A set that grows at its end.
use Rattle.std.proofs.Common.{◌≡◌, ℕ, ◌+◌, ◌<◌, ◌≤◌, List, [], ◌∷◌, ◌++◌, length, get_or, sym, subst, arith, length-append}
use Rattle.gtid_sets.proofs.Prelude.{All, All-push, AllPairs, Interval, IsInterval, IsSet, all_pairs_push, get_or-append, get_or-append_seam, high}
use Rattle.gtid_sets.proofs.Prelude.{low}
use Rattle.gtid_sets.proofs.Line.{point_rises}

pub record Front (ys : List Interval) (l : Interval) : Type 0 where
  pub front : IsSet ys
  pub below : All (λ s. high s + 1 < low l) ys
  pub last : IsInterval l

All-front : {X : Type 0} (P : X → Type 0) (ys : List X) (l : X) → All P (ys ++ l ∷ []) → All P ys
All-front P ys l all = λ k d h. subst P (get_or-append ys (l ∷ []) d k h) (all k d (omega (arith, length-append ys (l ∷ []))))

All-end : {X : Type 0} (P : X → Type 0) (ys : List X) (l : X) → All P (ys ++ l ∷ []) → P l
All-end P ys l all = subst P (get_or-append_seam ys l [] l) (all (length ys) l (omega (arith, length-append ys (l ∷ []))))

pub front_of : (ys : List Interval) (l : Interval) → IsSet (ys ++ l ∷ []) → Front ys l
front_of ys l is =
    let R : Interval → Interval → Type 0 = λ s t. high s + 1 < low t in
    let long : length (ys ++ l ∷ []) ≡ length ys + 1 = length-append ys (l ∷ []) in
    let pairs : AllPairs R ys = λ i j d less h.
    subst (λ (s : Interval). R s (get_or ys j d)) (get_or-append ys (l ∷ []) d i (omega arith))
    (subst (R (get_or (ys ++ l ∷ []) i d)) (get_or-append ys (l ∷ []) d j h) (is.apart i j d less (omega arith))) in
    let below : All (λ s. high s + 1 < low l) ys = λ k d h.
    subst (λ (s : Interval). R s l) (get_or-append ys (l ∷ []) d k h)
    (subst (R (get_or (ys ++ l ∷ []) k d)) (get_or-append_seam ys l [] d) (is.apart k (length ys) d h (omega arith))) in
    record {
      front = record { each = All-front IsInterval ys l is.each; apart = pairs };
      below = below;
      last = All-end IsInterval ys l is.each;
    }

set_push : (ys : List Interval) (t : Interval) → IsSet ys → IsInterval t → All (λ s. high s + 1 < low t) ys → IsSet (ys ++ t ∷ [])
set_push ys t is it below = record {
  each = All-push IsInterval ys t is.each it;
  apart = all_pairs_push (λ s t. high s + 1 < low t) ys t is.apart below;
}

-- the last interval gives way to one that begins at its start
pub joined_set : (xs ys zs : List Interval) (l j : Interval) → IsSet xs → xs ≡ ys ++ l ∷ [] → IsInterval j → low j ≡ low l → zs ≡ ys ++ j ∷ [] → IsSet zs
joined_set xs ys zs l j is e ij same z =
    let f = front_of ys l (subst IsSet e is) in
    subst IsSet (sym z) (set_push ys j f.front ij (λ k d h. let b = f.below k d h in omega arith))

-- an interval after the last one
pub apart_set : (xs ys ws zs : List Interval) (l t : Interval) → IsSet xs → xs ≡ ys ++ l ∷ [] → IsInterval t → high l + 1 < low t
    → ws ≡ ys ++ l ∷ [] → zs ≡ ws ++ t ∷ [] → IsSet zs
apart_set xs ys ws zs l t is e it gap w z =
    let f = front_of ys l (subst IsSet e is) in
    let rises : low l ≤ high l = point_rises l.uuid l.first l.last f.last.rises in
    let whole : IsSet ws = subst IsSet (sym w) (subst IsSet e is) in
    let below : All (λ s. high s + 1 < low t) (ys ++ l ∷ []) = All-push (λ s. high s + 1 < low t) ys l (λ k d h. let b = f.below k d h in omega arith) gap in
    subst IsSet (sym z) (set_push ws t whole it (subst (All (λ s. high s + 1 < low t)) (sym w) below))

pub joined_order : (xs ys zs : List Interval) (l j : Interval) (at bound : ℕ) → xs ≡ ys ++ l ∷ [] → All (λ s. low s ≤ at) xs → low j ≡ low l → zs ≡ ys ++ j ∷ []
    → at ≤ bound → All (λ s. low s ≤ bound) zs
joined_order xs ys zs l j at bound e all same z le =
    let whole = subst (All (λ s. low s ≤ at)) e all in
    let last = All-end (λ s. low s ≤ at) ys l whole in
    let front = All-front (λ s. low s ≤ at) ys l whole in
    subst (All (λ s. low s ≤ bound)) (sym z) (All-push (λ s. low s ≤ bound) ys j (λ k d h. let b = front k d h in omega arith) (omega arith))
