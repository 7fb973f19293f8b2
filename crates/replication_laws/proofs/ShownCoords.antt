-- What a status shows has places, for good.
use Rattle.std.proofs.Common.{◌≡◌, ℕ, Bool, true, false, cond, List, [], refl, sym, ◌∙◌, ap, subst, Option, Some, None, Ok, Err, count_by, ◌&&◌, option_map}
use Rattle.replication_laws.proofs.Prelude.{AllAllowed, Allowed, Coord, Exchange, Grows, HasExecuted, Interval, IsPosition, IsTarget, Laid-Grown}
use Rattle.replication_laws.proofs.Prelude.{Placed, Server, Settings, Shows, SourceState, Status, World, after, end_of, ends_by, executed_set}
use Rattle.replication_laws.proofs.Prelude.{false≢true, has_place, has_place-of_end, holds, is_at_or_before, own_end_of, place-from, place-parts, run}
use Rattle.replication_laws.proofs.Prelude.{same_Some, server_at, shown, shown_of, source_no, status, status_in}
use Rattle.replication_laws.proofs.Prelude.seeing
use Rattle.replication_laws.proofs.Logs.{LaysOut-Grown}
use Rattle.replication_laws.proofs.Runs.{Grows-after, Grows-run}
use Rattle.replication_laws.proofs.SeenSets.{executed-after, executed-run}

-- ---- what stays

-- a coordinate that has a place in a log has one as the log grows
Target-on : (w w' : World) (n : ℕ) (c : Coord) → Grows w w' → IsTarget w n c → IsTarget w' n c
Target-on w w' n c grows t =
    let on = grows n t.target t.there in
    let count = count_by (ends_by c) t.target.log.log.entries in
    let kept = on.2.places c count (place-from t.target.log.log c count t.place refl) in
    record {
      target = on.0;
      there = on.1;
      logs = ap (λ (x : Settings). x.logs) on.2.settings ∙ t.logs;
      place = (place-parts on.0.log.log c count kept).0;
    }

Position-on : (w w' : World) (n : ℕ) (own : Option Coord) (source : SourceState) (exec : Coord) (set : List Interval) → Grows w w' → HasExecuted w' n set
    → IsPosition w n own source exec set → IsPosition w' n own source exec set
Position-on w w' n own source exec set grows executed s = record {
  own = λ c e. Target-on w w' n c grows (s.own c e);
  logs = λ t at logs.
      let on = grows n s.set.server s.set.there in
      let same : on.0 ≡ t = same_Some on.0 t (sym on.1 ∙ at) in
      s.logs s.set.server s.set.there (sym (ap (λ (x : Settings). x.logs) on.2.settings) ∙ ap (λ (x : Server). x.settings.logs) same ∙ logs);
  under = λ m e. Target-on w w' m exec grows (s.under m e);
  set = executed;
}

pub Position-run : (w : World) (es : List Exchange) (n : ℕ) (own : Option Coord) (source : SourceState) (exec : Coord) (set : List Interval) → Placed w → AllAllowed w es
    → IsPosition w n own source exec set → IsPosition (run w es) n own source exec set
Position-run w es n own source exec set placed allowed s =
    Position-on w (run w es) n own source exec set (Grows-run w es placed allowed) (executed-run w es n set placed allowed s.set) s

Shows-on : (w w' : World) (n : ℕ) (seen : Status) → Grows w w' → HasExecuted w' n seen.set → Shows w n seen → Shows w' n seen
Shows-on w w' n seen grows set s = record {
  at = Position-on w w' n seen.own_end seen.source seen.exec seen.set grows set s.at;
  read = λ m e. Target-on w w' m seen.read grows (s.read m e);
  order = s.order;
}

pub Shows-after : (w : World) (e : Exchange) (n : ℕ) (seen : Status) → Placed w → Allowed w e → Shows w n seen → Shows (after w e) n seen
Shows-after w e n seen placed allowed s = Shows-on w (after w e) n seen (Grows-after w e placed allowed) (executed-after w e n seen.set placed allowed s.at.set) s

pub Shows-run : (w : World) (es : List Exchange) (n : ℕ) (seen : Status) → Placed w → AllAllowed w es → Shows w n seen → Shows (run w es) n seen
Shows-run w es n seen placed allowed s = Shows-on w (run w es) n seen (Grows-run w es placed allowed) (executed-run w es n seen.set placed allowed s.at.set) s

-- ---- what is observed

module _ (w : World) (n : ℕ) (s : Server) (placed : Placed w) (at : server_at w n ≡ Some s) where
  own-target : (c : Coord) → own_end_of s ≡ Some c → IsTarget w n c
  own-target c h = go s.settings.logs refl h
    where
      go : (b : Bool) → s.settings.logs ≡ b → cond b (Some (end_of s.log.log)) None ≡ Some c → IsTarget w n c
      go true logs k = record {
        target = s;
        there = at;
        logs = logs;
        place =
            ap (has_place s.log.log) (sym (same_Some (end_of s.log.log) c k))
            ∙ has_place-of_end s.log.log (Laid-Grown s.log.log (LaysOut-Grown s.history.txns s.log.log (placed.laid n s at logs)));
      }
      go false logs k = cc

  own-there : (t : Server) → server_at w n ≡ Some t → t.settings.logs ≡ true → (c : Coord) × (own_end_of s ≡ Some c)
  own-there t there logs =
      let same : t ≡ s = same_Some t s (sym there ∙ at) in
      (end_of s.log.log, ap (λ b. cond b (Some (end_of s.log.log)) None) (sym (ap (λ (x : Server). x.settings.logs) same) ∙ logs))

  exec-target : (m : ℕ) → source_no s.source ≡ Some m → IsTarget w m s.exec
  exec-target m from =
      let source = placed.logging n m s at from in
      let stands = placed.stands n m s source.0 at from source.1 in
      record {
        target = source.0;
        there = source.1;
        logs = source.2;
        place = (place-parts source.0.log.log s.exec stands.exec_place.0 stands.exec_place.1).0;
      }

  read-target : (m : ℕ) → source_no s.source ≡ Some m → IsTarget w m s.read
  read-target m from =
      let source = placed.logging n m s at from in
      let stands = placed.stands n m s source.0 at from source.1 in
      record {
        target = source.0;
        there = source.1;
        logs = source.2;
        place = (place-parts source.0.log.log s.read stands.read_place.0 stands.read_place.1).0;
      }

  in-order : (m : ℕ) → source_no s.source ≡ Some m → is_at_or_before s.exec s.read ≡ true
  in-order m from = let source = placed.logging n m s at from in (placed.stands n m s source.0 at from source.1).order

  executed : HasExecuted w n (shown_of w s).set
  executed = record { server = s; there = at; within = λ u k h. go w.gtid u k h }
    where
      go : (gtid : Bool) (u k : ℕ) → holds (cond gtid (executed_set w s) []) u k ≡ true → holds (executed_set w s) u k ≡ true
      go true u k h = h
      go false u k h = absurd (false≢true h)

  Shows-server : Shows w n (shown_of w s)
  Shows-server = record {
    at = record { own = own-target; logs = own-there; under = exec-target; set = executed };
    read = read-target;
    order = in-order;
  }

pub Shows-shown : (w : World) (n : ℕ) (seen : Status) → Placed w → shown w n ≡ Some seen → Shows w n seen
Shows-shown w n seen placed h = go (server_at w n) refl h
  where
    go : (o : Option Server) → server_at w n ≡ o → option_map (shown_of w) o ≡ Some seen → Shows w n seen
    go None at e = cc
    go (Some s) at e = subst (Shows w n) (same_Some (shown_of w s) seen e) (Shows-server w n s placed at)

pub Shows-seen : (w : World) (n : ℕ) (seen : Status) → Placed w → status w n ≡ Ok seen → Shows w n seen
Shows-seen w n seen placed h = Shows-shown w n seen placed (go (server_at w n) h)
  where
    by : (s : Server) (b : Bool) → cond b (Ok (shown_of w s)) (Err seeing.Unreachable) ≡ Ok seen → Some (shown_of w s) ≡ Some seen
    by s true k = cc
    by s false k = cc

    go : (o : Option Server) → status_in w o ≡ Ok seen → option_map (shown_of w) o ≡ Some seen
    go None k = cc
    go (Some s) k = by s (s.up && s.desk) k
