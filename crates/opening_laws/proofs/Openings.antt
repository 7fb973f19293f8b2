-- Opened worlds are safe.
use Rattle.std.proofs.Common.{◌≡◌, ℕ, ◌+◌, Bool, true, false, cond, List, [], ◌∷◌, ◌++◌, length, take, refl, sym, ◌∙◌, ap, subst, Option, Some, None, append_assoc, zero, suc, count_by, ◌==◌, slice_get, All}
use Rattle.opening_laws.proofs.Prelude.{All-head, All-tail, AttachedWell, Coord, HasSize, IsChecked, IsKin, IsSound, IsSource, IsUnder, KeepFiles}
use Rattle.opening_laws.proofs.Prelude.{KeepsFrom, LaysOut, Log, Opened, Safe, Server, ServerInit, ServerNo, Txn, World, append-nil, count_at}
use Rattle.opening_laws.proofs.Prelude.{count_under, exec_of, flushed_at, flushed_times, given-opened, histories, history_at, history_of}
use Rattle.opening_laws.proofs.Prelude.{is_at_or_before, keeps-opened, laid, laid_after, listed_history, log_at, log_at-is, log_by, number_of, opened}
use Rattle.opening_laws.proofs.Prelude.{opened_server, opened_world, parts_at, place, push, read_of, root_of, server_at, server_at-opened, sized}
use Rattle.opening_laws.proofs.Prelude.{sound_checked, source-given, source_no, source_state}
use Rattle.opening_laws.proofs.Prelude.ServerModel.{Grounded}
use Rattle.opening_laws.proofs.Prelude.Worlds.{source_of, sources}
use Rattle.opening_laws.proofs.Prelude.layout
use Rattle.opening_laws.proofs.Prelude.listed
use Rattle.opening_laws.proofs.OpeningKin.{IsKin-opening}

-- a log that is laid out lays out its history

LaysOut-flushed_times : (history : List Txn) (n : ℕ) (log : Log) → LaysOut history log → LaysOut history (flushed_times n log)
LaysOut-flushed_times history zero log l = l
LaysOut-flushed_times history (suc n) log l = layout.Flushed history (flushed_times n log) (LaysOut-flushed_times history n log l)

LaysOut-laid_after : (flushes : List ℕ) (history : List Txn) (count : ℕ) (log : Log) (ts : List Txn) → All HasSize ts → LaysOut history log → LaysOut (history ++ ts) (laid_after flushes count log ts)
LaysOut-laid_after flushes history count log [] sized l =
    subst (λ (xs : List Txn). LaysOut xs (flushed_at flushes count log)) (sym (append-nil history)) (LaysOut-flushed_times history (count_by (λ k. k == count) flushes) log l)
LaysOut-laid_after flushes history count log (t ∷ ts) sized l =
    let before = flushed_at flushes count log in
    subst (λ (xs : List Txn). LaysOut xs (laid_after flushes (count + 1) (push before t.size) ts)) (append_assoc history (t ∷ []) ts)
    (LaysOut-laid_after flushes (history ++ t ∷ []) (count + 1) (push before t.size) ts (All-tail HasSize t ts sized)
    (layout.Took history before t (All-head HasSize t ts sized).0 (LaysOut-flushed_times history (count_by (λ k. k == count) flushes) log l)))

LaysOut-log_by : (i : ServerInit) (history : List Txn) → All HasSize history → i.settings.logs ≡ true → LaysOut history (log_by i history)
LaysOut-log_by i history sized logs =
    subst (λ (b : Bool). LaysOut history (cond b (laid i.settings.limit i.flushes history) (opened i.settings.limit))) (sym logs)
    (LaysOut-laid_after i.flushes [] 0 (opened i.settings.limit) history sized (layout.Opened i.settings.limit))

-- what an opened server has of its source
source_no-state : (detached : Bool) (source : Option ServerNo) → source_no (source_state detached source) ≡ number_of source
source_no-state detached None = refl
source_no-state true (Some m) = refl
source_no-state false (Some m) = refl

module _ (o : Opened) (room flushes : ℕ) where
  abbrev the_world : World
  the_world = opened_world o room flushes

  not_there : (n : ℕ) → slice_get o.servers n ≡ None → server_at the_world n ≡ None
  not_there n none = go (server_at the_world n) refl
    where
      go : (s : Option Server) → server_at the_world n ≡ s → server_at the_world n ≡ None
      go None at = at
      go (Some s) at = let g = given-opened o room flushes n s at in let there : None ≡ Some g.init = sym none ∙ g.place in cc

  history-opened : (n : ℕ) (i : Option ServerInit) → slice_get o.servers n ≡ i → histories the_world n ≡ history_at o.servers n
  history-opened n None none =
      ap history_of (not_there n none) ∙ sym (ap (λ i. take (count_at i) (listed_history (parts_at (slice_get o.servers (root_of o.servers n))))) none)
  history-opened n (Some i) at = ap history_of (server_at-opened o room flushes n i at)

  -- the histories and the sources of the world are those of the opening
  histories-opened : histories the_world ≡ history_at o.servers
  histories-opened = λ k n. history-opened n (slice_get o.servers n) refl k

  source-opened : (n : ℕ) (i : Option ServerInit) → slice_get o.servers n ≡ i → sources the_world n ≡ listed.sources o.servers n
  source-opened n None none = ap source_of (not_there n none) ∙ sym (ap listed.source_of none)
  source-opened n (Some i) at = ap source_of (server_at-opened o room flushes n i at) ∙ source_no-state i.detached i.source ∙ sym (ap listed.source_of at)

  sources-opened : sources the_world ≡ listed.sources o.servers
  sources-opened = λ k n. source-opened n (slice_get o.servers n) refl k

  module _ (checked : IsChecked o) where
    sound : IsSound o.servers
    sound = sound_checked o checked

    laid-opened : (n : ℕ) (s : Server) → server_at the_world n ≡ Some s → s.settings.logs ≡ true → LaysOut s.history.txns s.log.log
    laid-opened n s at =
        let g = given-opened o room flushes n s at in
        subst (λ (x : Server). x.settings.logs ≡ true → LaysOut x.history.txns x.log.log) (sym g.is_opened)
        (λ logs. LaysOut-log_by g.init (history_at o.servers n) (sized o checked.listed n) logs)

    kept-opened : KeepFiles the_world
    kept-opened n s at =
        let g = given-opened o room flushes n s at in
        subst (λ (x : Server). KeepsFrom x.settings.logs x.log.log x.first) (sym g.is_opened) (keeps-opened o.servers sound n g.init g.place)

    well-opened : (n m : ℕ) (r s : Server) → server_at the_world n ≡ Some r → source_no r.source ≡ Some m → server_at the_world m ≡ Some s → AttachedWell r s
    well-opened n m r s at_n from at_m =
        let g = given-opened o room flushes n r at_n in
        let h = given-opened o room flushes m s at_m in
        let given = source-given g.init.detached g.init.source m (ap (λ (x : Server). source_no x.source) (sym g.is_opened) ∙ from) in
        let u : IsUnder o.servers given.0.0 g.init = sound.under n g.init given.0 g.place given.1 in
        let executed : ℕ = g.init.executed in
        let history : r.history.txns ≡ history_at o.servers n = ap (λ (x : Server). x.history.txns) g.is_opened in
        let above : s.history.txns ≡ history_at o.servers m = ap (λ (x : Server). x.history.txns) h.is_opened in
        let log : log_at o.servers given.0.0 ≡ s.log.log =
        ap (log_at o.servers) given.2 ∙ log_at-is o.servers m h.init h.place ∙ ap (λ (x : Server). x.log.log) (sym h.is_opened) in
        let exec : r.exec ≡ exec_of o.servers g.init = ap (λ (x : Server). x.exec) g.is_opened in
        let read : r.read ≡ read_of o.servers g.init = ap (λ (x : Server). x.read) g.is_opened in
        let count : length r.history.txns ≡ executed = ap length history ∙ sound.counts n g.init g.place ∙ ap (count_under g.init) given.1 in
        record {
          prefix =
              ap (λ k. take k s.history.txns) count ∙ ap (take executed) above ∙ ap (λ x. take executed (history_at o.servers x)) (sym given.2)
              ∙ sym (sound.begins n g.init given.0 g.place given.1) ∙ sym history;
          exec_place = ap (place s.log.log) exec ∙ ap (λ (x : Log). place x (exec_of o.servers g.init)) (sym log) ∙ u.exec_place ∙ ap Some (sym count);
          read_place = (u.read_place.0, ap (place s.log.log) read ∙ ap (λ (x : Log). place x (read_of o.servers g.init)) (sym log) ∙ u.read_place.1);
          order = ap (λ (c : Coord). is_at_or_before c r.read) exec ∙ ap (is_at_or_before (exec_of o.servers g.init)) read ∙ u.order;
        }

    logging-opened : (n m : ℕ) (r : Server) → server_at the_world n ≡ Some r → source_no r.source ≡ Some m → IsSource the_world m
    logging-opened n m r at from =
        let g = given-opened o room flushes n r at in
        let given = source-given g.init.detached g.init.source m (ap (λ (x : Server). source_no x.source) (sym g.is_opened) ∙ from) in
        let u : IsUnder o.servers given.0.0 g.init = sound.under n g.init given.0 g.place given.1 in
        (opened_server o.servers room flushes m u.source, server_at-opened o room flushes m u.source (ap (slice_get o.servers) (sym given.2) ∙ u.there), u.logs)

    pub Safe-opened : Safe the_world
    Safe-opened = record {
      laid = laid-opened;
      kept = kept-opened;
      well = well-opened;
      logging = logging-opened;
      kin = subst IsKin (sym histories-opened) (IsKin-opening o.servers sound);
      grounded = λ n. subst (λ (up : ℕ → Option ℕ). Grounded up n) (sym sources-opened) (sound.ends n);
      uuids = λ m n s t at_m at_n same.
          let g = given-opened o room flushes m s at_m in
          let h = given-opened o room flushes n t at_n in
          checked.listed.uuids m n g.init h.init g.place h.place
          (sym (ap (λ (x : Server). x.settings.uuid) g.is_opened) ∙ same ∙ ap (λ (x : Server). x.settings.uuid) h.is_opened);
    }
