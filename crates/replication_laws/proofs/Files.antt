-- New files: each takes one from the room of its server's log.
use Rattle.std.proofs.Common.{◌≡◌, ℕ, ◌+◌, ◌≤◌, Bool, true, false, cond, not, List, [], ◌∷◌, ◌++◌, take, refl, sym, ap, subst, inl, inr, Option, Some, None, arith, zero, suc, count_by, ◌==◌, slice_get}
use Rattle.replication_laws.proofs.Prelude.{Exchange, HasFiles, Index, Rotate, Server, Txn, World, after, end_of, flush, is_rotate, nat_tests}
use Rattle.replication_laws.proofs.Prelude.{own_txn, push, rotate_answer, run, same_Some, server_at, sum_by-cons, took, with_server}
use Rattle.replication_laws.proofs.Prelude.rotating
use Rattle.server_model.proofs.Changes as changes
use Rattle.replication_laws.proofs.Histories.{tick}
use Rattle.replication_laws.proofs.Keeping.{at_cases}
use Rattle.replication_laws.proofs.Moves.{Same-asked, Same-befallen}
use Rattle.server_model.proofs.Changes.{Becomes, Leaves, leaves}

flushes-took : (s : Server) (t : Txn) → (took s t).log.flushes ≡ s.log.flushes
flushes-took s t = go s.settings.logs
  where
    go : (b : Bool) → (cond b (record s.log { log = push s.log.log t.size; txns = s.log.txns ++ t ∷ [] }) s.log).flushes ≡ s.log.flushes
    go true = refl
    go false = refl

-- if each server has room for so many new files, and at a rotation for one more
module _ (k : ℕ) (w : World) where
  HasFiles-with : (n : ℕ) (s s' : Server) → server_at w n ≡ Some s → HasFiles k w → k ≤ s'.log.flushes → HasFiles k (with_server w n s')
  HasFiles-with n s s' here has room = λ m t at.
      elim (at_cases w n s s' here m t at) [
        | inl new ↦ subst (λ (x : Server). k ≤ x.log.flushes) (sym new.1) room
        | inr old ↦ has m t old.1
      ]

  HasFiles-kept : (n : ℕ) (s s' : Server) → server_at w n ≡ Some s → HasFiles k w → s'.log.flushes ≡ s.log.flushes → HasFiles k (with_server w n s')
  HasFiles-kept n s s' here has same = HasFiles-with n s s' here has (omega (arith, same, has n s here))

  HasFiles-fewer : (more : ℕ) → HasFiles (k + more) w → HasFiles k w
  HasFiles-fewer more has = λ n s at. omega (arith, has n s at)

  HasFiles-becomes : (n : ℕ) (s : Server) → server_at w n ≡ Some s → (e : Exchange) (t : Server) → HasFiles (k + tick (is_rotate e)) w → Becomes w n s e t → HasFiles k (with_server w n t)
  HasFiles-becomes n s at e t has (changes.Executes x to is) = HasFiles-kept n s t at (HasFiles-fewer 0 has) (flushes-took s x)
  HasFiles-becomes n s at e t has (changes.Asks a x does) = HasFiles-kept n s t at (HasFiles-fewer 0 has) (ap (λ (l : Index). l.flushes) (Same-asked a s x does).log)
  HasFiles-becomes n s at e t has (changes.Befalls x y does) = HasFiles-kept n s t at (HasFiles-fewer 0 has) (ap (λ (l : Index). l.flushes) (Same-befallen x s y does).log)
  HasFiles-becomes n s at e t has (changes.Rotates end is) = HasFiles-with n s t at (HasFiles-fewer 1 has) (omega (arith, has n s at))
  HasFiles-becomes n s at e t has _ = HasFiles-kept n s t at (HasFiles-fewer 0 has) refl

  HasFiles-leaves : (e : Exchange) (w' : World) → HasFiles (k + tick (is_rotate e)) w → Leaves w e w' → HasFiles k w'
  HasFiles-leaves e w' has changes.Still = HasFiles-fewer (tick (is_rotate e)) has
  HasFiles-leaves e w' has (changes.Writes n size s seq at is) = HasFiles-kept n s (took s (own_txn n seq size)) at (HasFiles-fewer 0 has) (flushes-took s (own_txn n seq size))
  HasFiles-leaves e w' has (changes.Puts n s t at change) = HasFiles-becomes n s at e t has change

HasFiles-after : (k : ℕ) (w : World) (e : Exchange) → HasFiles (k + tick (is_rotate e)) w → HasFiles k (after w e)
HasFiles-after k w e has = HasFiles-leaves k w e (after w e) has (leaves w e)

not_full-rotate : (w : World) (n : ℕ) (o : Option Server) → server_at w n ≡ o → HasFiles 1 w → rotate_answer o ≡ rotating.Full → ⊥
not_full-rotate w n None at has h = cc
not_full-rotate w n (Some s) at has h = go s.up s.settings.logs (s.log.flushes == 0) refl h
  where
    go : (up logs none : Bool) → (s.log.flushes == 0) ≡ none
        → cond (not up) rotating.Down (cond (not logs) rotating.NotLogging (cond none rotating.Full (rotating.Done (end_of (flush s.log.log))))) ≡ rotating.Full → ⊥
    go false logs none is e = cc
    go true false none is e = cc
    go true true false is e = cc
    go true true true is e = let some : 1 ≤ s.log.flushes = has n s at in grind (arith, nat_tests)

pub not_full-files : (es : List Exchange) (k n : ℕ) (w : World) → HasFiles (count_by is_rotate es) w → slice_get es k ≡ Some (Rotate n)
    → rotate_answer (server_at (run w (take k es)) n) ≡ rotating.Full → ⊥
not_full-files [] k n w has h full = cc
not_full-files (x ∷ es) zero n w has h full =
    let is : tick (is_rotate x) ≡ 1 = ap (λ y. tick (is_rotate y)) (same_Some x (Rotate n) h) in
    not_full-rotate w n (server_at w n) refl (λ m s at. omega (arith, has m s at, is, sum_by-cons (λ y. tick (is_rotate y)) x es)) full
not_full-files (x ∷ es) (suc k) n w has h full =
    not_full-files es k n (after w x)
    (HasFiles-after (count_by is_rotate es) w x (λ m s at. omega (arith, has m s at, sum_by-cons (λ y. tick (is_rotate y)) x es)))
    h full
