-- An index stays right.
use Rattle.std.proofs.Common.{◌≡◌, ℕ, ◌+◌, ◌<◌, ◌≤◌, ◌⊎◌, Bool, true, false, cond, not, List, [], ◌∷◌, ◌++◌, length, get_or, set, refl, sym, ◌∙◌, ap, subst, inl, inr, arith, IfSome}
use Rattle.audit_log.proofs.Prelude.{AllWithin, DoneIn, DoneOf, Ending, IfSome_then, Index, IsClear, IsIndex, IsLink, IsLinked, Link, Moment}
use Rattle.audit_log.proofs.Prelude.{Recovery, acked_so, acknowledged_for, and_parts, bucket_of, cases_eq, cases_lt, ended_so, false≢true}
use Rattle.audit_log.proofs.Prelude.{get_or-append_seam, get_or-set_other, get_or-set_same, get_or_append_left, is_done, is_of, is_unended}
use Rattle.audit_log.proofs.Prelude.{length-append, length-set, not-true}
use Rattle.audit_log.proofs.Within.{within-append, within-none, within-push}

-- ---- one that is done

pub done-clear : (cluster : List ℕ) (now : ℕ) (r : Recovery) → DoneOf cluster r → IsClear cluster now r
done-clear cluster now r done here =
    let parts = and_parts r.acked (not (is_unended r)) (done here) in
    (not-true (is_unended r) parts.1, inl parts.0)

pub acked-of : (r : Recovery) → is_done r ≡ true → r.acked ≡ true
acked-of r done = (and_parts r.acked (not (is_unended r)) done).0

-- ---- a change that keeps what the index knows of a recovery

pub record Stays (old new : Recovery) : Type 0 where
  pub cluster : new.cluster ≡ old.cluster
  pub done : is_done old ≡ true → is_done new ≡ true
  pub clear : (cluster : List ℕ) (now : ℕ) → IsClear cluster now old → IsClear cluster now new

abbrev pub AllStay : List Recovery → List Recovery → Type 0
AllStay xs ys = (k : ℕ) (d : Recovery) → k < length xs → Stays (get_or xs k d) (get_or ys k d)

module _ (xs ys : List Recovery) (long : length ys ≡ length xs) (stay : AllStay xs ys) where
  done-stays : (bucket low high : ℕ) → high ≤ length xs → AllWithin (DoneIn bucket) xs low high → AllWithin (DoneIn bucket) ys low high
  done-stays bucket low high short all k d from below here =
      let s = stay k d (omega (arith, short, below)) in
      s.done (all k d from below (ap bucket_of (sym s.cluster) ∙ here))

  clear-stays : (cluster : List ℕ) (now high : ℕ) → high ≤ length xs → AllWithin (IsClear cluster now) xs 0 high → AllWithin (IsClear cluster now) ys 0 high
  clear-stays cluster now high short all k d from below =
      (stay k d (omega (arith, short, below))).clear cluster now (all k d from below)

  link-stays : (i : ℕ) (link : Link) → i < length xs → IsLink xs i link → IsLink ys i link
  link-stays i link within is = record {
    done = λ d.
        let same = ap bucket_of (sym (stay i d within).cluster) in
        subst (λ b. AllWithin (DoneIn b) ys link.before i) same
        (done-stays (bucket_of (get_or xs i d).cluster) link.before i (omega (arith, within)) (is.done d));
    clear = λ d. IfSome_then link.clear (is.clear d) (λ from all now late.
        subst (λ (c : List ℕ). AllWithin (IsClear c now) ys 0 i) (sym (stay i d within).cluster)
        (clear-stays (get_or xs i d).cluster now i (omega (arith, within)) (all now late)));
  }

  pub index-stays : (index : Index) → IsIndex xs index → IsIndex ys index
  index-stays index is = record {
    few = omega (arith, long, is.few);
    heads = λ bucket d within.
        subst (λ n. AllWithin (DoneIn bucket) ys (get_or index.heads.items bucket d) n) (sym long)
        (done-stays bucket (get_or index.heads.items bucket d) (length xs) (omega arith) (is.heads bucket d within));
    links = λ i d within. link-stays i (get_or index.links.items i d) (omega (arith, within, is.few)) (is.links i d within);
  }

pub stays-itself : (r : Recovery) → Stays r r
stays-itself r = record { cluster = refl; done = λ e. e; clear = λ cluster now e. e }

pub set-stays : (xs : List Recovery) (i : ℕ) (new : Recovery) → ((d : Recovery) → i < length xs → Stays (get_or xs i d) new) → AllStay xs (set xs i new)
set-stays xs i new stay k d within = elim (cases_eq k i) [
  | inl e ↦
      let short : i < length xs = omega (arith, e, within) in
      subst (λ n. Stays (get_or xs n d) (get_or (set xs i new) n d)) (sym e)
      (subst (λ r. Stays (get_or xs i d) r) (sym (get_or-set_same xs i new d short)) (stay d short))
  | inr other ↦ subst (λ r. Stays (get_or xs k d) r) (sym (get_or-set_other xs i k new d other)) (stays-itself (get_or xs k d))
]

-- ---- changes of one

pub acked-stays : (r : Recovery) → Stays r (acked_so r)
acked-stays r = record {
  cluster = refl;
  done = λ e. (and_parts r.acked (not (is_unended r)) e).1;
  clear = λ cluster now clear here. ((clear here).0, inl refl);
}

pub acknowledged-stays : (cluster : List ℕ) (r : Recovery) → Stays r (acknowledged_for cluster r)
acknowledged-stays cluster r = go (is_of cluster r)
  where
    go : (b : Bool) → Stays r (cond b (acked_so r) r)
    go true = acked-stays r
    go false = stays-itself r

pub ended-stays : (at : Moment) (outcome : Ending) (r : Recovery) → is_unended r ≡ true → Stays r (ended_so at outcome r)
ended-stays at outcome r unended = record {
  cluster = refl;
  done = λ e. absurd (false≢true (sym (not-true (is_unended r) (and_parts r.acked (not (is_unended r)) e).1) ∙ unended));
  clear = λ cluster now clear here. absurd (false≢true (sym (clear here).0 ∙ unended));
}

-- ---- one more recovery

module _ (xs : List Recovery) (next : Recovery) where
  abbrev grown : List Recovery
  grown = xs ++ next ∷ []

  abbrev IsNext : Link → Type 0
  IsNext link = AllWithin (DoneIn (bucket_of next.cluster)) xs link.before (length xs)
      × IfSome link.clear (λ from. (now : ℕ) → from ≤ now → AllWithin (IsClear next.cluster now) xs 0 (length xs))

  link-grown : (i : ℕ) (link : Link) → i < length xs → IsLink xs i link → IsLink grown i link
  link-grown i link within is = record {
    done = λ d.
        subst (λ (r : Recovery). AllWithin (DoneIn (bucket_of r.cluster)) grown link.before i) (sym (get_or_append_left xs (next ∷ []) d i within))
        (within-append (DoneIn (bucket_of (get_or xs i d).cluster)) xs (next ∷ []) link.before i (omega (arith, within)) (is.done d));
    clear = λ d. IfSome_then link.clear (is.clear d) (λ from all now late.
        subst (λ (r : Recovery). AllWithin (IsClear r.cluster now) grown 0 i) (sym (get_or_append_left xs (next ∷ []) d i within))
        (within-append (IsClear (get_or xs i d).cluster now) xs (next ∷ []) 0 i (omega (arith, within)) (all now late)));
  }

  link-next : (link : Link) → IsNext link → IsLink grown (length xs) link
  link-next link is = record {
    done = λ d.
        subst (λ (r : Recovery). AllWithin (DoneIn (bucket_of r.cluster)) grown link.before (length xs)) (sym (get_or-append_seam xs next [] d))
        (within-append (DoneIn (bucket_of next.cluster)) xs (next ∷ []) link.before (length xs) (omega arith) is.0);
    clear = λ d. IfSome_then link.clear is.1 (λ from all now late.
        subst (λ (r : Recovery). AllWithin (IsClear r.cluster now) grown 0 (length xs)) (sym (get_or-append_seam xs next [] d))
        (within-append (IsClear next.cluster now) xs (next ∷ []) 0 (length xs) (omega arith) (all now late)));
  }

  module _ (index : Index) (is : IsIndex xs index) where
    links-grown : (links : List Link) (link : Link) → IsNext link → IsLinked index.links.items links (length xs) link
        → (length links ≤ length grown) × ((i : ℕ) (d : Link) → i < length links → IsLink grown i (get_or links i d))
    links-grown links link so (inl same) = (
      omega (arith, is.few, ap length same, length-append xs (next ∷ [])),
      λ i d within.
          let short : i < length index.links.items = omega (arith, within, ap length same) in
          subst (λ (ls : List Link). IsLink grown i (get_or ls i d)) (sym same)
          (link-grown i (get_or index.links.items i d) (omega (arith, short, is.few)) (is.links i d short)),
    )
    links-grown links link so (inr (full, more)) = (
      omega (arith, full, ap length more, length-append index.links.items (link ∷ []), length-append xs (next ∷ [])),
      λ i d within.
          subst (λ (ls : List Link). IsLink grown i (get_or ls i d)) (sym more)
          (elim (cases_lt i (length xs)) [
            | inl short ↦
                let early : i < length index.links.items = omega (arith, short, full) in
                subst (λ l. IsLink grown i l) (sym (get_or_append_left index.links.items (link ∷ []) d i early))
                (link-grown i (get_or index.links.items i d) short (is.links i d early))
            | inr late ↦
                let last : i ≡ length index.links.items = omega (arith, late, full, within, ap length more, length-append index.links.items (link ∷ [])) in
                let place : i ≡ length xs = omega (arith, last, full) in
                subst (λ n. IsLink grown n (get_or (index.links.items ++ link ∷ []) i d)) (sym place)
                (subst (λ n. IsLink grown (length xs) (get_or (index.links.items ++ link ∷ []) n d)) (sym last)
                (subst (λ l. IsLink grown (length xs) l) (sym (get_or-append_seam index.links.items link [] d)) (link-next link so)))
          ]),
    )

    -- one that is done leaves the heads as they are
    pub heads-done : (links : List Link) → is_done next ≡ true → (bucket d : ℕ) → bucket < length index.heads.items
        → AllWithin (DoneIn bucket) grown (get_or index.heads.items bucket d) (length grown)
    heads-done links done bucket d within =
        within-push (DoneIn bucket) xs next (get_or index.heads.items bucket d) (is.heads bucket d within) (λ here. done)

    pub heads-set : (bucket d : ℕ) → bucket < length (set index.heads.items (bucket_of next.cluster) (length xs + 1))
        → AllWithin (DoneIn bucket) grown (get_or (set index.heads.items (bucket_of next.cluster) (length xs + 1)) bucket d) (length grown)
    heads-set bucket d within =
        let short : bucket < length index.heads.items = omega (arith, within, length-set index.heads.items (bucket_of next.cluster) (length xs + 1)) in
        elim (cases_eq bucket (bucket_of next.cluster)) [
          | inl here ↦
              let read : get_or (set index.heads.items (bucket_of next.cluster) (length xs + 1)) bucket d ≡ length xs + 1 =
              ap (λ n. get_or (set index.heads.items (bucket_of next.cluster) (length xs + 1)) n d) here
              ∙ get_or-set_same index.heads.items (bucket_of next.cluster) (length xs + 1) d (omega (arith, here, short)) in
              within-none (DoneIn bucket) grown (get_or (set index.heads.items (bucket_of next.cluster) (length xs + 1)) bucket d) (length grown)
              (omega (arith, read, length-append xs (next ∷ [])))
          | inr other ↦
              subst (λ n. AllWithin (DoneIn bucket) grown n (length grown)) (sym (get_or-set_other index.heads.items (bucket_of next.cluster) bucket (length xs + 1) d other))
              (within-push (DoneIn bucket) xs next (get_or index.heads.items bucket d) (is.heads bucket d short) (λ here. absurd (other (sym here))))
        ]

    -- with one more, which is done or is its bucket's head
    pub index-grown : (new : Index) (link : Link) → IsNext link → IsLinked index.links.items new.links.items (length xs) link
        → ((is_done next ≡ true) × (new.heads.items ≡ index.heads.items)) ⊎ (new.heads.items ≡ set index.heads.items (bucket_of next.cluster) (length xs + 1))
        → IsIndex grown new
    index-grown new link so linked heads =
        let links = links-grown new.links.items link so linked in
        record { few = links.0; heads = go heads; links = links.1 }
      where
        go : ((is_done next ≡ true) × (new.heads.items ≡ index.heads.items)) ⊎ (new.heads.items ≡ set index.heads.items (bucket_of next.cluster) (length xs + 1))
            → (bucket d : ℕ) → bucket < length new.heads.items → AllWithin (DoneIn bucket) grown (get_or new.heads.items bucket d) (length grown)
        go (inl (done, same)) = subst (λ (hs : List ℕ). (bucket d : ℕ) → bucket < length hs → AllWithin (DoneIn bucket) grown (get_or hs bucket d) (length grown)) (sym same) (heads-done new.links.items done)
        go (inr same) = subst (λ (hs : List ℕ). (bucket d : ℕ) → bucket < length hs → AllWithin (DoneIn bucket) grown (get_or hs bucket d) (length grown)) (sym same) heads-set

    -- with no heads it knows of no bucket
    pub index-blind : length index.heads.items ≡ 0 → IsIndex grown index
    index-blind none = record {
      few = omega (arith, is.few, length-append xs (next ∷ []));
      heads = λ bucket d within. absurd (omega (arith, within, none));
      links = λ i d within. link-grown i (get_or index.links.items i d) (omega (arith, within, is.few)) (is.links i d within);
    }
