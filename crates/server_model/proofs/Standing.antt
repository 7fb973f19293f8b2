-- What is kept of servers, and beside them, is right.
use Rattle.std.proofs.Common.{◌≡◌, ℕ, ◌≤◌, Bool, true, false, cond, List, [], ◌∷◌, length, refl, sym, ◌∙◌, ap, subst, Some, arith, zero, suc, slice_get, map}
use Rattle.server_model.proofs.Prelude.{AreGtids, CanStand, HasPlaces, IsKept, IsSetOf, Reserved, Server, StandsIn, Txn, place-parts, purged_txns}
use Rattle.server_model.proofs.Prelude.{reserved_set, same_Some, set_of, source_no, uuids_in}

module _ (servers : List Server) (stand : CanStand servers) where
  -- both coordinates of a server have places in its source's log
  places-standing : (n m : ℕ) (r s : Server) → slice_get servers n ≡ Some r → source_no r.source ≡ Some m → slice_get servers m ≡ Some s → HasPlaces r s
  places-standing n m r s at from above =
      let source = stand.sources n m r at from in
      let stands : StandsIn r s = subst (λ (x : Server). StandsIn r x) (same_Some source.source s (sym source.there ∙ above)) source.stands in
      record {
        exec = (place-parts s.log.log r.exec stands.exec_place.0 stands.exec_place.1).0;
        read = (place-parts s.log.log r.read stands.read_place.0 stands.read_place.1).0;
      }

  pub IsKept-standing : IsKept servers 0
  IsKept-standing = record {
    few = stand.few;
    errant_few = omega arith;
    fit = λ n s at. (stand.each n s at).fit;
    apart = λ n s at from. (stand.sources n n s at from).apart refl;
    places = places-standing;
  }

  pub AreGtids-standing : (gtid : Bool)
      → AreGtids servers (map (λ s. reserved_set gtid (uuids_in servers) s.history.room s.history.txns) servers)
      (map (λ s. reserved_set gtid (uuids_in servers) s.history.room (purged_txns s)) servers) gtid
  AreGtids-standing gtid = record {
    paired = length-made (λ s. reserved_set gtid (uuids_in servers) s.history.room s.history.txns) servers;
    purged_paired = length-made (λ s. reserved_set gtid (uuids_in servers) s.history.room (purged_txns s)) servers;
    apart = stand.uuids;
    numbered = λ n s at. (stand.each n s at).numbered;
    logged = λ n s at. (stand.each n s at).logged;
    kept = λ n s e at by. set_at (λ s. s.history.txns) n s e at by;
    purges = λ n s e at by. set_at purged_txns n s e at by;
  }
    where
      length-made : (f : Server → Reserved) (ss : List Server) → length (map f ss) ≡ length ss
      length-made f [] = refl
      length-made f (s ∷ ss) = ap suc (length-made f ss)

      made-at : (f : Server → Reserved) (ss : List Server) (n : ℕ) (s : Server) → slice_get ss n ≡ Some s → slice_get (map f ss) n ≡ Some (f s)
      made-at f [] n s h = cc
      made-at f (x ∷ ss) zero s h = ap (λ (y : Server). Some (f y)) (same_Some x s h)
      made-at f (x ∷ ss) (suc n) s h = made-at f ss n s h

      set_in : (b : Bool) (uuid : ℕ → ℕ) (room : ℕ) (txns : List Txn) → (reserved_set b uuid room txns).intervals ≡ cond b (set_of uuid txns) []
      set_in true uuid room txns = refl
      set_in false uuid room txns = refl

      set_at : (some : Server → List Txn) (n : ℕ) (s : Server) (e : Reserved) → slice_get servers n ≡ Some s
          → slice_get (map (λ x. reserved_set gtid (uuids_in servers) x.history.room (some x)) servers) n ≡ Some e → IsSetOf gtid (uuids_in servers) s (some s) e
      set_at some n s e at by =
          let is : e ≡ reserved_set gtid (uuids_in servers) s.history.room (some s) =
          same_Some e (reserved_set gtid (uuids_in servers) s.history.room (some s)) (sym by ∙ made-at (λ x. reserved_set gtid (uuids_in servers) x.history.room (some x)) servers n s at) in
          subst (λ (x : Reserved). IsSetOf gtid (uuids_in servers) s (some s) x) (sym is) (record {
            set = set_in gtid (uuids_in servers) s.history.room (some s);
            room = λ on. subst (λ b. s.history.room ≤ (reserved_set b (uuids_in servers) s.history.room (some s)).room) (sym on) (omega arith);
          })
