-- A world with `Placed` and `IsTrim` has `IsTidy`.
use Rattle.std.proofs.Common.{◌≡◌, ℕ, ◌+◌, ◌*◌, ◌≤◌, length, refl, sym, ◌∙◌, ap, subst, Option, Some, None, arith, true}
use Rattle.tidy_laws.proofs.Prelude.{All-weaker, Attached, Clusters, Coord, Detached, HasOwnOf, IsOf, IsTarget, IsTidy, IsTidyServer, IsTrim}
use Rattle.tidy_laws.proofs.Prelude.{IsWritten, Placed, Server, SourceState, Txn, Without, World, cluster_in, file_start, has_place, place-parts}
use Rattle.tidy_laws.proofs.Prelude.{same_Some, server_at, source_no}
use Rattle.tidy_laws.proofs.Positions.{Lies, lies-laid, written-placed}

-- the first position of a log
pub written-first : (c : Coord) → c ≡ file_start 1 → IsWritten c
written-first c is = subst IsWritten (sym is) (record { file = omega arith; files = omega arith; start = omega arith; pos = omega arith })

module _ (c : Clusters) (w : World) (placed : Placed w) (trim : IsTrim c w) where
  -- how far the log of a server that logs goes
  pub lies-at : (n : ℕ) (s : Server) → server_at w n ≡ Some s → s.settings.logs ≡ true → Lies (4 + 1000000 * length s.history.txns) s.log.log
  lies-at n s at logs = lies-laid s.history.txns s.log.log (placed.laid n s at logs) (trim.own n s at).sizes

  few-files : (n : ℕ) (s : Server) → server_at w n ≡ Some s → s.log.log.files ≤ 8000001
  few-files n s at =
      let own = trim.own n s at in
      let a = own.high in let b = own.within in let d = own.entries in let e = own.files in
      omega arith

  low-positions : (n : ℕ) (s : Server) → server_at w n ≡ Some s → 4 + 1000000 * length s.history.txns ≤ 4000000000004
  low-positions n s at =
      let own = trim.own n s at in
      let a = own.high in let b = own.within in
      omega arith

  pub written-at : (n : ℕ) (s : Server) (to : Coord) → server_at w n ≡ Some s → s.settings.logs ≡ true → has_place s.log.log to ≡ true → IsWritten to
  written-at n s to at logs h =
      written-placed (4 + 1000000 * length s.history.txns) s.log.log (lies-at n s at logs) (few-files n s at) (low-positions n s at) to h

  -- what has a place in the log of a server can be printed
  pub written-target : (n : ℕ) (to : Coord) → IsTarget w n to → IsWritten to
  written-target n to target = written-at n target.target to target.there target.logs target.place

  -- the position of a server can be printed
  module _ (n : ℕ) (s : Server) (at : server_at w n ≡ Some s) where
    under : (m : ℕ) → source_no s.source ≡ Some m → IsWritten s.exec × IsWritten s.read
    under m from =
        let source = placed.logging n m s at from in
        let stands = placed.stands n m s source.0 at from source.1 in (
          written-at m source.0 s.exec source.1 source.2 (place-parts source.0.log.log s.exec stands.exec_place.0 stands.exec_place.1).0,
          written-at m source.0 s.read source.1 source.2 (place-parts source.0.log.log s.read stands.read_place.0 stands.read_place.1).0,
        )

    pub written-coords : IsWritten s.exec × IsWritten s.read
    written-coords = go s.source refl
      where
        go : (x : SourceState) → s.source ≡ x → IsWritten s.exec × IsWritten s.read
        go Without is = let none = (trim.replicates n s at).bare is in (written-first s.exec none.exec, written-first s.read none.read)
        go (Attached m) is = under m.0 (ap source_no is)
        go (Detached m) is = under m.0 (ap source_no is)

    own : HasOwnOf c n s
    own = trim.own n s at

    -- a server of the same cluster
    of-same : (m : ℕ) → c m ≡ c n → IsOf w s.settings.cluster m
    of-same m same = go (server_at w m) refl
      where
        go : (o : Option Server) → server_at w m ≡ o → IsOf w s.settings.cluster m
        go None is =
            let none : None ≡ Some s.settings.cluster = sym (ap cluster_in is) ∙ trim.clusters m ∙ same ∙ own.cluster in cc
        go (Some t) is = record {
          server = t;
          there = is;
          same = same_Some t.settings.cluster s.settings.cluster (sym (ap cluster_in is) ∙ trim.clusters m ∙ same ∙ own.cluster);
        }

    tidy-server : IsTidyServer w s
    tidy-server =
        let replicates = trim.replicates n s at in
        record {
          bare = λ none.
              let x = replicates.bare none in
              record { exec = x.exec; read = x.read; auto = x.auto; receiver = x.receiver; applier = x.applier; until = x.until };
          auto = replicates.auto;
          printed = record { exec = written-coords.0; read = written-coords.1; until = replicates.until };
          sizes = own.sizes;
          limit = own.limit;
          unlogged = own.unlogged;
          told = own.told;
          source = λ m from. of-same m (replicates.source m from);
          origins = All-weaker (λ (t : Txn). c t.origin.0 ≡ c n) (λ (t : Txn). IsOf w s.settings.cluster t.origin.0) (λ t same. of-same t.origin.0 same) s.history.txns own.origins;
        }

  pub tidied : IsTidy w
  unfolding IsTidy
  tidied = λ n s at. tidy-server n s at
