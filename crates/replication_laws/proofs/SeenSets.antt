-- What a server has executed it has executed for good.
use Rattle.std.proofs.Common.{◌≡◌, ℕ, ◌<◌, Bool, true, false, cond, List, [], ◌∷◌, ◌++◌, length, take, drop, refl, sym, ◌∙◌, ap, subst, Option, Some, None, Ok, arith, ◌||◌}
use Rattle.replication_laws.proofs.Prelude.{AllAllowed, Allowed, AttachAuto, Exchange, Grows, HasExecuted, Interval, JoinsWell, Placed, Server}
use Rattle.replication_laws.proofs.Prelude.{ServerNo, Settings, Status, Txn, World, after, executed_set, false≢true, holds, holds-set_of, is_gtid}
use Rattle.replication_laws.proofs.Prelude.{list_any, list_any-append, run, same_Some, server-there, server_at, servers-after, set_of-same}
use Rattle.replication_laws.proofs.Prelude.{slice_get_within, status, take-append-drop, uuid_of, uuids}
use Rattle.replication_laws.proofs.BridgeLaws.{seen-of}
use Rattle.replication_laws.proofs.Runs.{Grows-after, Placed-after}

module _ (w w' : World) (grows : Grows w w') (count : length w'.servers ≡ length w.servers) where
  -- UUIDs stay
  uuids-grown : (k : ℕ) → uuids w k ≡ uuids w' k
  uuids-grown k = go (server_at w k) (server_at w' k) refl refl
    where
      go : (o o' : Option Server) → server_at w k ≡ o → server_at w' k ≡ o' → uuids w k ≡ uuids w' k
      go None None at at' = ap uuid_of at ∙ sym (ap uuid_of at')
      go None (Some t) at at' =
          let within : k < length w'.servers = slice_get_within w'.servers k t at' in
          let s = server-there w.servers k (omega (arith, within, count)) in
          let none : None ≡ Some s.0 = sym at ∙ s.1 in cc
      go (Some s) o at at' =
          let later = grows k s at in
          ap uuid_of at ∙ sym (ap (λ (x : Settings). x.uuid) later.2.settings) ∙ sym (ap uuid_of later.1)

  any-longer : (q : Txn → Bool) (xs ys : List Txn) → take (length xs) ys ≡ xs → list_any q xs ≡ true → list_any q ys ≡ true
  any-longer q xs ys front h =
      let parts : xs ++ drop (length xs) ys ≡ ys = ap (λ zs. zs ++ drop (length xs) ys) (sym front) ∙ take-append-drop (length xs) ys in
      sym (ap (list_any q) parts) ∙ list_any-append q xs (drop (length xs) ys) ∙ ap (λ b. b || list_any q (drop (length xs) ys)) h

  executed-grown : (n : ℕ) (set : List Interval) → HasExecuted w n set → HasExecuted w' n set
  executed-grown n set has =
      let later = grows n has.server has.there in
      record {
        server = later.0;
        there = later.1;
        within = λ u k h.
            ap (λ xs. holds xs u k) (sym (set_of-same (uuids w) (uuids w') uuids-grown later.0.history.txns))
            ∙ holds-set_of (uuids w) later.0.history.txns u k
            ∙ any-longer (is_gtid (uuids w) u k) has.server.history.txns later.0.history.txns later.2.prefix
            (sym (holds-set_of (uuids w) has.server.history.txns u k) ∙ has.within u k h);
      }

pub executed-after : (w : World) (e : Exchange) (n : ℕ) (set : List Interval) → Placed w → Allowed w e → HasExecuted w n set → HasExecuted (after w e) n set
executed-after w e n set placed allowed has = executed-grown w (after w e) (Grows-after w e placed allowed) (servers-after w e) n set has

pub executed-run : (w : World) (es : List Exchange) (n : ℕ) (set : List Interval) → Placed w → AllAllowed w es → HasExecuted w n set → HasExecuted (run w es) n set
executed-run w [] n set placed allowed has = has
executed-run w (e ∷ es) n set placed allowed has =
    executed-run (after w e) es n set (Placed-after w e placed allowed.0) allowed.1 (executed-after w e n set placed allowed.0 has)

-- what a status shows
pub executed-seen : (w : World) (n : ℕ) (seen : Status) → status w n ≡ Ok seen → HasExecuted w n seen.set
executed-seen w n seen is =
    let s = seen-of w n seen (server_at w n) refl is in
    record {
      server = s.0;
      there = s.1;
      within = λ u k h. shown s.0 w.gtid u k (ap (λ (x : Status). holds x.set u k) s.2 ∙ h);
    }
  where
    shown : (s : Server) (gtid : Bool) (u k : ℕ) → holds (cond gtid (executed_set w s) []) u k ≡ true → holds (executed_set w s) u k ≡ true
    shown s true u k h = h
    shown s false u k h = absurd (false≢true h)

pub joins-auto : (w : World) (n : ℕ) (set : List Interval) (to : ServerNo) → HasExecuted w to.0 set → JoinsWell w (AttachAuto n set to)
joins-auto w n set to has = λ t at u k h.
    let is : has.server ≡ t = same_Some has.server t (sym has.there ∙ at) in
    subst (λ (x : Server). holds (executed_set w x) u k ≡ true) is (has.within u k h)
