-- Writes: how each server goes on, and what stays safe.
use Rattle.std.proofs.Common.{◌≡◌, ℕ, ◌+◌, ◌<◌, Bool, true, false, not, cond, List, [], ◌∷◌, ◌++◌, length, refl, sym, ◌∙◌, ap, subst, inl, Option, Some, None, arith, nat_le}
use Rattle.replication_laws.proofs.Prelude.{Attached, AttachedWell, Detached, Grows, IsQuiet, KeepsFrom-took, Placed, Safe, Server, SourceState}
use Rattle.replication_laws.proofs.Prelude.{StandsIn, Txn, Without, World, WriteAnswer, after_write, count_own, has_source, histories, history_of}
use Rattle.replication_laws.proofs.Prelude.{own_txn, same_txn, server_at, source_no, took, with_server, write_answer}
use Rattle.replication_laws.proofs.Prelude.wrote
use Rattle.replication_laws.proofs.Worlds.{at_with_same, at_with_other}
use Rattle.replication_laws.proofs.Histories.{Extends, IsKin-extended, IsKin-fresh}
use Rattle.replication_laws.proofs.Keeping.{Grows-refl, Grows-with, Standing-well, Standing-placed, Linked-safe, Safe-linked, Linked-placed, Placed-linked, Linked-keeps, Linked-errant}
use Rattle.replication_laws.proofs.Logs.{GoesOn-took, LaysOut-took}

-- one more transaction in one history
pub Extends-with : (w : World) (n : ℕ) (s s' : Server) (t : Txn) → server_at w n ≡ Some s → s'.history.txns ≡ s.history.txns ++ t ∷ []
    → Extends (histories w) (histories (with_server w n s')) n t
Extends-with w n s s' t here grew = record {
  here = ap history_of (at_with_same w n s s' here) ∙ grew ∙ ap (λ xs. xs ++ t ∷ []) (sym (ap history_of here));
  others = λ m apart. ap history_of (at_with_other w n s s' here m apart);
}

-- the transaction that a write makes
abbrev written : ℕ → ℕ → Server → Txn
written n size s = own_txn n (count_own n s.history.txns + 1) size

-- the answer by the three tests
abbrev answered : ℕ → Server → Bool → Bool → Bool → WriteAnswer
answered n s up read_only full = cond (not up) wrote.Down (cond read_only wrote.ReadOnly (cond full wrote.Full (wrote.Done (count_own n s.history.txns + 1))))

Safe-wrote : (w : World) (n size errant : ℕ) (s : Server) → Safe w → server_at w n ≡ Some s → 0 < size → source_no s.source ≡ None
    → Safe (record (with_server w n (took s (written n size s))) { errant = errant })
Safe-wrote w n size errant s safe here some free =
    Safe-linked (record (with_server w n (took s (written n size s))) { errant = errant })
    (Linked-errant AttachedWell (with_server w n (took s (written n size s))) errant
    (Linked-keeps AttachedWell Standing-well w n s (took s (written n size s)) (Linked-safe w safe) here (record {
      goes_on = GoesOn-took s (written n size s) some (safe.laid n s here);
      source = refl;
      laid = LaysOut-took s (written n size s) some (safe.laid n s here);
      kept = KeepsFrom-took s (written n size s) (safe.kept n s here);
      stands = λ m t from at_m stood. absurd (contradiction m from);
    })))
    (IsKin-extended (histories w) (histories (with_server w n (took s (written n size s)))) n (written n size s) (Extends-with w n s (took s (written n size s)) (written n size s) here refl) safe.kin
    (λ b j y g same. absurd (IsKin-fresh (histories w) safe.kin n size b j y g
    (subst (λ (xs : List Txn). same_txn (own_txn n (count_own n xs + 1) size) y ≡ true) (sym (ap history_of here)) same)))
    (ap (λ xs. count_own n xs + 1) (sym (ap history_of here)))
    (inl refl))
  where
    contradiction : (m : ℕ) → source_no s.source ≡ Some m → ⊥
    contradiction m from = cc

free_source : (source : SourceState) → has_source source ≡ false → source_no source ≡ None
free_source Without h = refl
free_source (Attached m) h = cc
free_source (Detached m) h = cc

-- write keeps a world `Safe` if it has no errant writes
pub Safe-write : (w : World) (n size : ℕ) (o : Option Server) → server_at w n ≡ o → 0 < size → Safe w
    → IsQuiet (after_write w n size o (write_answer n o)) → Safe (after_write w n size o (write_answer n o))
Safe-write w n size None at some safe quiet = safe
Safe-write w n size (Some s) at some safe quiet = go s.up s.read_only (nat_le s.history.room (length s.history.txns)) quiet
  where
    done : (source : Bool) → has_source s.source ≡ source → cond source (w.errant + 1) w.errant ≡ 0
        → Safe (record (with_server w n (took s (written n size s))) { errant = cond source (w.errant + 1) w.errant })
    done true has q = absurd (omega arith)
    done false has q = Safe-wrote w n size w.errant s safe at some (free_source s.source has)

    go : (a b c : Bool) → IsQuiet (after_write w n size (Some s) (answered n s a b c)) → Safe (after_write w n size (Some s) (answered n s a b c))
    go true false false q = done (has_source s.source) refl q
    go _ _ _ q = safe

-- each server goes on at a write, errant or not, and `Placed` stays
module _ (w : World) (n size : ℕ) (some : 0 < size) (placed : Placed w) where
  pub Grows-write : (o : Option Server) → server_at w n ≡ o → (a : WriteAnswer) → Grows w (after_write w n size o a)
  Grows-write (Some s) at (wrote.Done seq) =
      Grows-with w n s (took s (own_txn n seq size)) at (GoesOn-took s (own_txn n seq size) some (placed.laid n s at))
  Grows-write _ at _ = Grows-refl w

  Placed-wrote : (seq errant : ℕ) (s : Server) → server_at w n ≡ Some s → Placed (record (with_server w n (took s (own_txn n seq size))) { errant = errant })
  Placed-wrote seq errant s here =
      Placed-linked (record (with_server w n (took s (own_txn n seq size))) { errant = errant })
      (Linked-errant StandsIn (with_server w n (took s (own_txn n seq size))) errant
      (Linked-keeps StandsIn Standing-placed w n s (took s (own_txn n seq size)) (Linked-placed w placed) here (record {
        goes_on = GoesOn-took s (own_txn n seq size) some (placed.laid n s here);
        source = refl;
        laid = LaysOut-took s (own_txn n seq size) some (placed.laid n s here);
        kept = KeepsFrom-took s (own_txn n seq size) (placed.kept n s here);
        stands = λ m t from at_m stood. record { exec_place = stood.exec_place; read_place = stood.read_place; order = stood.order };
      })))

  pub Placed-write : (o : Option Server) → server_at w n ≡ o → (a : WriteAnswer) → Placed (after_write w n size o a)
  Placed-write (Some s) at (wrote.Done seq) = Placed-wrote seq (cond (has_source s.source) (w.errant + 1) w.errant) s at
  Placed-write _ at _ = placed
