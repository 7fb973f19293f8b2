-- A right bridge stays right, and which reattachments it justifies.
use Rattle.std.proofs.Common.{◌≡◌, ℕ, ◌≤◌, Bool, true, false, cond, List, ◌++◌, length, take, drop, refl, sym, ◌∙◌, ap, subst, Option, Some, None, Ok, Err, arith, ◌&&◌, ◌==◌}
use Rattle.replication_laws.proofs.Prelude.{Attach, Attached, AttachedWell, Bridges, Coord, Detached, GoesOn, Grows, IsJunction, JoinsWell}
use Rattle.replication_laws.proofs.Prelude.{Laid-Grown, LaysOut, Log, Safe, Server, ServerNo, Settings, SourceState, Stands, Status, Txn, Without}
use Rattle.replication_laws.proofs.Prelude.{World, and_parts, end_of, eqb-true, length-take, live_spot, own_end_of, place, place-of_end, same_coord}
use Rattle.replication_laws.proofs.Prelude.{same_coord-true, same_Some, same_spot, server_at, shown_of, source_no, spot_below, status, status_in}
use Rattle.replication_laws.proofs.Prelude.{take-append-drop, take-append-le, take-length}
use Rattle.replication_laws.proofs.Prelude.seeing
use Rattle.replication_laws.proofs.Prelude.spot
use Rattle.replication_laws.proofs.Logs.{LaysOut-Grown, LaysOut-length}

-- the first part of a list that goes on
take-prefix : (k : ℕ) (xs ys : List Txn) → take (length xs) ys ≡ xs → k ≤ length xs → take k ys ≡ take k xs
take-prefix k xs ys p le =
    let parts : xs ++ drop (length xs) ys ≡ ys = ap (λ front. front ++ drop (length xs) ys) (sym p) ∙ take-append-drop (length xs) ys in
    ap (take k) (sym parts) ∙ take-append-le k xs (drop (length xs) ys) le

length-prefix : (xs ys : List Txn) → take (length xs) ys ≡ xs → length xs ≤ length ys
length-prefix xs ys p = omega (arith, ap length p, length-take (length xs) ys)

Bridges-on : (x x' s s' : Server) (own exec : Coord) → GoesOn x x' → GoesOn s s' → Bridges x s own exec → Bridges x' s' own exec
Bridges-on x x' s s' own exec on_x on_s b = record {
  count = b.count;
  own_place = on_x.places own b.count b.own_place;
  exec_place = on_s.places exec b.count b.exec_place;
  own_within = omega (arith, b.own_within, length-prefix x.history.txns x'.history.txns on_x.prefix);
  exec_within = omega (arith, b.exec_within, length-prefix s.history.txns s'.history.txns on_s.prefix);
  alike =
      take-prefix b.count x.history.txns x'.history.txns on_x.prefix b.own_within ∙ b.alike
      ∙ sym (take-prefix b.count s.history.txns s'.history.txns on_s.prefix b.exec_within);
  own_logs = ap (λ (y : Settings). y.logs) on_x.settings ∙ b.own_logs;
  exec_logs = ap (λ (y : Settings). y.logs) on_s.settings ∙ b.exec_logs;
}

-- a right bridge stays right
pub Stands-grows : (w w' : World) (x s : ℕ) (own exec : Coord) → Grows w w' → Stands w x s own exec → Stands w' x s own exec
Stands-grows w w' x s own exec grows b =
    let a = grows x b.replica b.replica_at in
    let c = grows s b.source b.source_at in
    record { replica = a.0; source = c.0; replica_at = a.1; source_at = c.1; bridges = Bridges-on b.replica a.0 b.source c.0 own exec a.2 c.2 b.bridges }

end-place : (s : Server) → LaysOut s.history.txns s.log.log → place s.log.log (end_of s.log.log) ≡ Some (length s.history.txns)
end-place s laid = place-of_end s.log.log (Laid-Grown s.log.log (LaysOut-Grown s.history.txns s.log.log laid)) ∙ ap Some (LaysOut-length s.history.txns s.log.log laid)

-- a replica that logs and its source have a bridge at the replica's position
Stands-replica : (w : World) (n m : ℕ) (r : Server) → Safe w → server_at w n ≡ Some r → source_no r.source ≡ Some m → r.settings.logs ≡ true → Stands w n m (end_of r.log.log) r.exec
Stands-replica w n m r safe at_n from logs =
    let source = safe.logging n m r at_n from in
    let well = safe.well n m r source.0 at_n from source.1 in
    record {
      replica = r;
      source = source.0;
      replica_at = at_n;
      source_at = source.1;
      bridges = record {
        count = length r.history.txns;
        own_place = end-place r (safe.laid n r at_n logs);
        exec_place = well.exec_place;
        own_within = omega arith;
        exec_within = length-prefix r.history.txns source.0.history.txns well.prefix;
        alike = take-length r.history.txns ∙ sym well.prefix;
        own_logs = logs;
        exec_logs = source.2;
      };
    }

-- the status of a server that is reached
pub seen-of : (w : World) (n : ℕ) (seen : Status) (o : Option Server) → server_at w n ≡ o → status_in w o ≡ Ok seen → (s : Server) × (server_at w n ≡ Some s) × (shown_of w s ≡ seen)
seen-of w n seen None at h = cc
seen-of w n seen (Some s) at h = (s, at, go (s.up && s.desk) h)
  where
    go : (b : Bool) → cond b (Ok (shown_of w s)) (Err seeing.Unreachable) ≡ Ok seen → shown_of w s ≡ seen
    go true k = cc
    go false k = cc

end-of_own : (s : Server) (own : Coord) → own_end_of s ≡ Some own → (s.settings.logs ≡ true) × (end_of s.log.log ≡ own)
end-of_own s own h = go s.settings.logs refl h
  where
    go : (b : Bool) → s.settings.logs ≡ b → cond b (Some (end_of s.log.log)) None ≡ Some own → (s.settings.logs ≡ true) × (end_of s.log.log ≡ own)
    go true logs k = (logs, same_Some (end_of s.log.log) own k)
    go false logs k = cc

pub Stands-seen : (w : World) (n m : ℕ) (seen : Status) (own : Coord) → Safe w → status w n ≡ Ok seen → source_no seen.source ≡ Some m → seen.own_end ≡ Some own → Stands w n m own seen.exec
Stands-seen w n m seen own safe is from end =
    let s = seen-of w n seen (server_at w n) refl is in
    let parts = end-of_own s.0 own (ap (λ (x : Status). x.own_end) s.2 ∙ end) in
    let source : source_no s.0.source ≡ Some m = ap (λ (x : Status). source_no x.source) s.2 ∙ from in
    subst (λ (c : Coord). Stands w n m own c) (ap (λ (x : Status). x.exec) s.2)
    (subst (λ (c : Coord). Stands w n m c s.0.exec) parts.1 (Stands-replica w n m s.0 safe s.1 source parts.0))

same_count : (log : Log) (c : Coord) (k m : ℕ) → place log c ≡ Some k → place log c ≡ Some m → k ≡ m
same_count log c k m p q = same_Some k m (sym p ∙ q)

-- a replica that is at the bridge's executed coordinate of the source goes to the own coordinate of x
junction-down : (r x s : Server) (own exec : Coord) → Bridges x s own exec → AttachedWell r s → r.exec ≡ exec → IsJunction r x own
junction-down r x s own exec b well at =
    let k : b.count ≡ length r.history.txns = same_count s.log.log exec b.count (length r.history.txns) b.exec_place (ap (place s.log.log) (sym at) ∙ well.exec_place) in
    record {
      prefix = ap (λ n. take n x.history.txns) (sym k) ∙ b.alike ∙ ap (λ n. take n s.history.txns) k ∙ well.prefix;
      place = b.own_place ∙ ap Some k;
    }

-- a replica that is at the own coordinate of x goes to the executed coordinate of the source
junction-up : (r x s : Server) (own exec : Coord) → Bridges x s own exec → AttachedWell r x → r.exec ≡ own → IsJunction r s exec
junction-up r x s own exec b well at =
    let k : b.count ≡ length r.history.txns = same_count x.log.log own b.count (length r.history.txns) b.own_place (ap (place x.log.log) (sym at) ∙ well.exec_place) in
    record {
      prefix = ap (λ n. take n s.history.txns) (sym k) ∙ sym b.alike ∙ ap (λ n. take n x.history.txns) k ∙ well.prefix;
      place = b.exec_place ∙ ap Some k;
    }

-- the source itself, if its end is the bridge's executed coordinate, goes below x
junction-about : (x s : Server) (own exec : Coord) → Bridges x s own exec → LaysOut s.history.txns s.log.log → end_of s.log.log ≡ exec → IsJunction s x own
junction-about x s own exec b laid at =
    let k : b.count ≡ length s.history.txns = same_count s.log.log exec b.count (length s.history.txns) b.exec_place (ap (place s.log.log) (sym at) ∙ end-place s laid) in
    record {
      prefix = ap (λ n. take n x.history.txns) (sym k) ∙ b.alike ∙ ap (λ n. take n s.history.txns) k ∙ take-length s.history.txns;
      place = b.own_place ∙ ap Some k;
    }

-- x itself, if its end is the bridge's own coordinate, goes below the source
junction-back : (x s : Server) (own exec : Coord) → Bridges x s own exec → LaysOut x.history.txns x.log.log → end_of x.log.log ≡ own → IsJunction x s exec
junction-back x s own exec b laid at =
    let k : b.count ≡ length x.history.txns = same_count x.log.log own b.count (length x.history.txns) b.own_place (ap (place x.log.log) (sym at) ∙ end-place x laid) in
    record {
      prefix = ap (λ n. take n s.history.txns) (sym k) ∙ sym b.alike ∙ ap (λ n. take n x.history.txns) k ∙ take-length x.history.txns;
      place = b.exec_place ∙ ap Some k;
    }

-- if the live position is the expected one, the replica is below that server, at that coordinate
at_spot : (r : Server) (m : ServerNo) (c : Coord) (source : SourceState) → same_spot (spot.At m c) (spot_below r source) ≡ true → (source_no source ≡ Some m.0) × (r.exec ≡ c)
at_spot r m c Without h = cc
at_spot r m c (Attached k) h = let parts = and_parts (m.0 == k.0) (same_coord c r.exec) h in (ap Some (sym (eqb-true m.0 k.0 parts.0)), sym (same_coord-true c r.exec parts.1))
at_spot r m c (Detached k) h = let parts = and_parts (m.0 == k.0) (same_coord c r.exec) h in (ap Some (sym (eqb-true m.0 k.0 parts.0)), sym (same_coord-true c r.exec parts.1))

at_end : (s : Server) (c : Coord) → same_spot (spot.OwnEnd c) (live_spot s (spot.OwnEnd c)) ≡ true → end_of s.log.log ≡ c
at_end s c h = go s.settings.logs h
  where
    go : (b : Bool) → same_spot (spot.OwnEnd c) (cond b (spot.OwnEnd (end_of s.log.log)) spot.Nowhere) ≡ true → end_of s.log.log ≡ c
    go true k = sym (same_coord-true c (end_of s.log.log) k)
    go false k = cc

pub joins-down : (w : World) (n : ℕ) (x s : ServerNo) (own exec : Coord) → Safe w → Stands w x.0 s.0 own exec → JoinsWell w (Attach n (spot.At s exec) x own)
joins-down w n x s own exec safe b r t here there is =
    let stood = at_spot r s exec r.source is in
    let same : b.replica ≡ t = same_Some b.replica t (sym b.replica_at ∙ there) in
    subst (λ (y : Server). IsJunction r y own) same (junction-down r b.replica b.source own exec b.bridges (safe.well n s.0 r b.source here stood.0 b.source_at) stood.1)

pub joins-up : (w : World) (n : ℕ) (x s : ServerNo) (own exec : Coord) → Safe w → Stands w x.0 s.0 own exec → JoinsWell w (Attach n (spot.At x own) s exec)
joins-up w n x s own exec safe b r t here there is =
    let stood = at_spot r x own r.source is in
    let same : b.source ≡ t = same_Some b.source t (sym b.source_at ∙ there) in
    subst (λ (y : Server). IsJunction r y exec) same (junction-up r b.replica b.source own exec b.bridges (safe.well n x.0 r b.replica here stood.0 b.replica_at) stood.1)

pub joins-about : (w : World) (x s : ServerNo) (own exec : Coord) → Safe w → Stands w x.0 s.0 own exec → JoinsWell w (Attach s.0 (spot.OwnEnd exec) x own)
joins-about w x s own exec safe b r t here there is =
    let same : b.replica ≡ t = same_Some b.replica t (sym b.replica_at ∙ there) in
    let self : b.source ≡ r = same_Some b.source r (sym b.source_at ∙ here) in
    let end : end_of b.source.log.log ≡ exec = ap (λ (y : Server). end_of y.log.log) self ∙ at_end r exec is in
    subst (λ (y : Server). IsJunction y t own) self
    (subst (λ (y : Server). IsJunction b.source y own) same (junction-about b.replica b.source own exec b.bridges (safe.laid s.0 b.source b.source_at b.bridges.exec_logs) end))

pub joins-back : (w : World) (x s : ServerNo) (own exec : Coord) → Safe w → Stands w x.0 s.0 own exec → JoinsWell w (Attach x.0 (spot.OwnEnd own) s exec)
joins-back w x s own exec safe b r t here there is =
    let same : b.source ≡ t = same_Some b.source t (sym b.source_at ∙ there) in
    let self : b.replica ≡ r = same_Some b.replica r (sym b.replica_at ∙ here) in
    let end : end_of b.replica.log.log ≡ own = ap (λ (y : Server). end_of y.log.log) self ∙ at_end r own is in
    subst (λ (y : Server). IsJunction y t exec) self
    (subst (λ (y : Server). IsJunction b.replica y exec) same (junction-back b.replica b.source own exec b.bridges (safe.laid x.0 b.replica b.replica_at b.bridges.own_logs) end))
