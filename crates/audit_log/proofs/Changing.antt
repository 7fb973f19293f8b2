-- What changes an audit leaves its index right.
use Rattle.std.proofs.Common.{◌≡◌, ℕ, ◌<◌, Bool, true, false, cond, List, [], length, get_or, set, map, refl, sym, ◌∷◌, ◌∙◌, ap, subst, Some, arith, ◌==◌, AllPairs, find, IsSomeAnd}
use Rattle.audit_log.proofs.Prelude.{AuditState, Ending, Index, IsAudit, IsFound, IsIndex, Moment, Recovery, acked_so, at_read, ended_so, finished}
use Rattle.audit_log.proofs.Prelude.{finished_so, is_unended, length-set}
use Rattle.audit_log.proofs.Changes.{found-at, IsAudit-map, one-changed}
use Rattle.audit_log.proofs.Indexing.{acked-stays, ended-stays, index-stays, set-stays, Stays}

pub index-empty : (index : Index) → index.links.items ≡ [] → IsIndex [] index
index-empty index links = record {
  few = omega (arith, ap length links);
  heads = λ bucket d within k e from below. absurd (omega (arith, below));
  links = λ i d within. absurd (omega (arith, within, ap length links));
}

-- one in its place
pub index-set : (xs : List Recovery) (i : ℕ) (x new : Recovery) (index : Index) → x ≡ get_or xs i x → Stays x new → IsIndex xs index → IsIndex (set xs i new) index
index-set xs i x new index at stay is =
    index-stays xs (set xs i new) (length-set xs i new)
    (set-stays xs i new (λ d within. at_read xs (λ r. Stays r new) i x within at stay d)) index is

stays-then : (a b c : Recovery) → Stays a b → Stays b c → Stays a c
stays-then a b c first second = record {
  cluster = second.cluster ∙ first.cluster;
  done = λ e. second.done (first.done e);
  clear = λ cluster now e. second.clear cluster now (first.clear cluster now e);
}

pub finished-stays : (at : Moment) (outcome : Ending) (acked : Bool) (r : Recovery) → is_unended r ≡ true → Stays r (finished_so at outcome acked r)
finished-stays at outcome true r e = stays-then r (ended_so at outcome r) (acked_so (ended_so at outcome r)) (ended-stays at outcome r e) (acked-stays (ended_so at outcome r))
finished-stays at outcome false r e = ended-stays at outcome r e

-- the recovery of this id isn't ended, if that is required
pub unended-there : (id : ℕ) (xs : List Recovery) (i : ℕ) (x : Recovery) → AllPairs (λ (x y : Recovery). x.id < y.id) xs → i < length xs → x ≡ get_or xs i x → (get_or xs i x).id ≡ id
    → IsSomeAnd (find (λ r. r.id == id) xs) (λ r. is_unended r ≡ true) → is_unended x ≡ true
unended-there id xs i x rising within at has h =
    let there : find (λ r. r.id == id) xs ≡ Some x = found-at id xs i x rising within has ∙ ap Some (sym at) in
    subst (λ o. IsSomeAnd o (λ (r : Recovery). is_unended r ≡ true)) there h

-- an end and an acknowledgement at once are one after the other
finished-map : (id : ℕ) (at : Moment) (outcome : Ending) (xs : List Recovery)
    → map (λ r. cond (r.id == id) (acked_so (ended_so at outcome r)) r) xs ≡ map (λ r. cond (r.id == id) (acked_so r) r) (map (λ r. cond (r.id == id) (ended_so at outcome r) r) xs)
finished-map id at outcome [] = refl
finished-map id at outcome (x ∷ xs) = λ i. one x i ∷ finished-map id at outcome xs i
  where
    one : (r : Recovery) → cond (r.id == id) (acked_so (ended_so at outcome r)) r
        ≡ cond ((cond (r.id == id) (ended_so at outcome r) r).id == id) (acked_so (cond (r.id == id) (ended_so at outcome r) r)) (cond (r.id == id) (ended_so at outcome r) r)
    one r = go (r.id == id) refl
      where
        go : (b : Bool) → (r.id == id) ≡ b → cond b (acked_so (ended_so at outcome r)) r ≡ cond ((cond b (ended_so at outcome r) r).id == id) (acked_so (cond b (ended_so at outcome r) r)) (cond b (ended_so at outcome r) r)
        go true e = ap (λ t. cond t (acked_so (ended_so at outcome r)) (ended_so at outcome r)) (sym e)
        go false e = ap (λ t. cond t (acked_so r) r) (sym e)

pub finished-is : (a : AuditState) (id : ℕ) (at : Moment) (outcome : Ending) (acked : Bool)
    → record a { recoveries = map (λ r. cond (r.id == id) (finished_so at outcome acked r) r) a.recoveries } ≡ finished a id at outcome acked
finished-is a id at outcome true = λ i. record a { recoveries = finished-map id at outcome a.recoveries i }
finished-is a id at outcome false = refl

pub finished-id : (at : Moment) (outcome : Ending) (acked : Bool) (r : Recovery) → (finished_so at outcome acked r).id ≡ r.id
finished-id at outcome true r = refl
finished-id at outcome false r = refl

pub finished-block : (at : Moment) (outcome : Ending) (acked : Bool) (r : Recovery) → (finished_so at outcome acked r).block ≡ r.block
finished-block at outcome true r = refl
finished-block at outcome false r = refl

module _ (id : ℕ) (f : Recovery → Recovery) (same : (r : Recovery) → (f r).id ≡ r.id) (lasts : (r : Recovery) → (f r).block ≡ r.block) where
  at-id : (r : Recovery) → (cond (r.id == id) (f r) r).id ≡ r.id
  at-id r = go (r.id == id)
    where
      go : (b : Bool) → (cond b (f r) r).id ≡ r.id
      go true = same r
      go false = refl

  at-block : (r : Recovery) → (cond (r.id == id) (f r) r).block ≡ r.block
  at-block r = go (r.id == id)
    where
      go : (b : Bool) → (cond b (f r) r).block ≡ r.block
      go true = lasts r
      go false = refl

  -- the one of this id, changed in its place
  pub found-set : (a : AuditState) (i : ℕ) (x new : Recovery) (index : Index) → IsFound a index → i < length a.recoveries → x ≡ get_or a.recoveries i x → (get_or a.recoveries i x).id ≡ id
      → new ≡ f x → Stays x (f x) → IsFound (record a { recoveries = set a.recoveries i new }) index
  found-set a i x new index is within at has so stay =
      let changed : set a.recoveries i new ≡ map (λ r. cond (r.id == id) (f r) r) a.recoveries =
      ap (set a.recoveries i) (so ∙ ap f at) ∙ one-changed id f a.recoveries i x is.audit.rising within has in
      record {
        audit = subst (λ (xs : List Recovery). IsAudit (record a { recoveries = xs })) (sym changed) (IsAudit-map (λ r. cond (r.id == id) (f r) r) at-id at-block a is.audit);
        index = index-set a.recoveries i x new index at (subst (Stays x) (sym so) stay) is.index;
      }
