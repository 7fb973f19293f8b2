-- The servers of an opening can be in a world.
use Rattle.std.proofs.Common.{◌≡◌, ℕ, ◌+◌, ◌≤◌, true, false, Bool, cond, List, length, take, refl, sym, ◌∙◌, ap, subst, Option, Some, None, arith, get_or}
use Rattle.std.specs.Prelude.{slice_get, All, unwrap_or, ◌==◌}
use Rattle.world_openings.proofs.Prelude.{CanStand, Coord, Fits, HasSize, IsAlone, IsChecked, IsFit, IsListed, IsNumbered, IsPlacedIn, IsServer}
use Rattle.world_openings.proofs.Prelude.{IsSound, IsSourceOf, IsUnder, KeepsFrom, Log, Opened, Server, ServerInit, ServerNo, Txn, count_at}
use Rattle.world_openings.proofs.Prelude.{count_by-le-length, count_own, exec_in, exec_of, file_start, get_or_from_slice_get, history_at}
use Rattle.world_openings.proofs.Prelude.{history_numbered, history_of, is_at_or_before, laid, length-listed_history, length-take, listed_history}
use Rattle.world_openings.proofs.Prelude.{log_at, log_by, log_in, not_self, number_of, opened, opened_from, opened_server, parts_at, parts_of, place}
use Rattle.world_openings.proofs.Prelude.{place-monotone, read_in, read_of, root_of, same_Some, slice_get-get_or, slice_get_within, sound_checked}
use Rattle.world_openings.proofs.Prelude.{source_no, source_of, source_state, sources, transactions}
use Rattle.world_openings.proofs.LaidLogs.{IsLaid, IsLaid-log_by, entries-log_by}
use Rattle.world_openings.proofs.Opened.{given-opened, server_at-opened, length-opened_from}

-- what every transaction of a history has
pub sized : (o : Opened) → IsListed o → (n : ℕ) → All HasSize (history_at o.servers n)
sized o listed n = λ k d h.
    let t = get_or (history_at o.servers n) k d in
    let is = history_of o listed n k t (slice_get-get_or (history_at o.servers n) k d h) in
    (is.some, is.size)

pub Fits-at : (o : Opened) (room flushes n : ℕ) (i : ServerInit) → Fits o room flushes → slice_get o.servers n ≡ Some i → (transactions (parts_of i) ≤ room) × (length i.flushes ≤ flushes)
Fits-at o room flushes n i fits at =
    let within = slice_get_within o.servers n i at in
    let is = get_or_from_slice_get o.servers n i i at in (
      subst (λ (x : ServerInit). transactions (parts_of x) ≤ room) is (fits.histories n i within),
      subst (λ (x : ServerInit). length x.flushes ≤ flushes) is (fits.flush_points n i within),
    )

-- no history is longer than the room
parts-few : (o : Opened) (room flushes : ℕ) → Fits o room flushes → (n : ℕ) (at : Option ServerInit) → slice_get o.servers n ≡ at → transactions (parts_at at) ≤ room
parts-few o room flushes fits n None at = omega arith
parts-few o room flushes fits n (Some i) at = (Fits-at o room flushes n i fits at).0

pub length-history_at : (o : Opened) (room flushes n : ℕ) → Fits o room flushes → length (history_at o.servers n) ≤ room
length-history_at o room flushes n fits =
    let root = slice_get o.servers (root_of o.servers n) in
    let few : transactions (parts_at root) ≤ room = parts-few o room flushes fits (root_of o.servers n) root refl in
    let listed = length-listed_history (parts_at root) in
    let front = length-take (count_at (slice_get o.servers n)) (listed_history (parts_at root)) in
    omega (arith, few, listed, front)

-- the source that is given
pub source-given : (detached : Bool) (source : Option ServerNo) (m : ℕ) → source_no (source_state detached source) ≡ Some m → (number : ServerNo) × (source ≡ Some number) × (number.0 ≡ m)
source-given detached None m h = cc
source-given true (Some number) m h = (number, refl, same_Some number.0 m h)
source-given false (Some number) m h = (number, refl, same_Some number.0 m h)

-- coordinates under a source

pub exec_of-under : (servers : List ServerInit) (i : ServerInit) (m : ServerNo) → i.source ≡ Some m → exec_of servers i ≡ exec_in (log_at servers m.0) i
exec_of-under servers i m under = rw under refl

pub read_of-under : (servers : List ServerInit) (i : ServerInit) (m : ServerNo) → i.source ≡ Some m → read_of servers i ≡ read_in (log_at servers m.0) i
read_of-under servers i m under = ap (unwrap_or i.read) (exec_of-under servers i m under)

pub exec_of-root : (servers : List ServerInit) (i : ServerInit) → i.source ≡ None → exec_of servers i ≡ file_start 1
exec_of-root servers i none = rw none refl

pub read_of-root : (servers : List ServerInit) (i : ServerInit) → i.source ≡ None → IsAlone i → read_of servers i ≡ file_start 1
read_of-root servers i none alone = ap (λ r. unwrap_or r (exec_of servers i)) alone.read ∙ exec_of-root servers i none

pub log_at-is : (servers : List ServerInit) (n : ℕ) (i : ServerInit) → slice_get servers n ≡ Some i → log_at servers n ≡ log_by i (history_at servers n)
log_at-is servers n i at = ap (log_in servers n) at

-- a server keeps its log from its first kept file on
pub keeps-opened : (servers : List ServerInit) → IsSound servers → (n : ℕ) (i : ServerInit) → slice_get servers n ≡ Some i → KeepsFrom i.settings.logs (log_by i (history_at servers n)) i.purged
keeps-opened servers sound n i at =
    let kept = sound.kept n i at in
    let history = history_at servers n in
    let files : (log_at servers n).files ≡ (log_by i history).files = ap (λ (l : Log). l.files) (log_at-is servers n i at) in
    record {
      low = kept.0;
      high = omega (arith, kept.1);
      unlogged = λ silent.
          let empty : log_by i history ≡ opened i.settings.limit = ap (λ b. cond b (laid i.settings.limit i.flushes history) (opened i.settings.limit)) silent in
          let one : (log_by i history).files ≡ 1 = ap (λ (l : Log). l.files) empty in
          (omega (arith, kept.0, kept.1), ap (λ (l : Log). l.entries) empty);
    }

pub placed-under : (servers : List ServerInit) (i : ServerInit) (m : ServerNo) → i.source ≡ Some m → IsUnder servers m.0 i → IsPlacedIn (log_at servers m.0) i
placed-under servers i m under u = record {
  exec = ap (place (log_at servers m.0)) (sym (exec_of-under servers i m under)) ∙ u.exec_place;
  last = u.read_place.0;
  read = ap (place (log_at servers m.0)) (sym (read_of-under servers i m under)) ∙ u.read_place.1;
  order = place-monotone (log_at servers m.0) (exec_of servers i) (read_of servers i) i.executed u.read_place.0 u.order u.exec_place u.read_place.1;
}

module _ (o : Opened) (room flushes : ℕ) (checked : IsChecked o) (fits : Fits o room flushes) (few : room ≤ 4000000) (small : flushes ≤ 4000000) where
  sound : IsSound o.servers
  sound = sound_checked o checked

  laid-out : (n : ℕ) (i : ServerInit) → IsLaid (log_by i (history_at o.servers n)) (history_at o.servers n) (length i.flushes)
  laid-out n i = IsLaid-log_by i (history_at o.servers n) (sized o checked.listed n)

  fit : (n : ℕ) (s : Server) → slice_get (opened_from o.servers room flushes 0 o.servers) n ≡ Some s → IsFit s
  fit n s at =
      let g = given-opened o room flushes n s at in
      let l = laid-out n g.init in
      let points = (Fits-at o room flushes n g.init fits g.place).1 in
      let files = l.files in
      subst (λ (x : Server). IsFit x) (sym g.is_opened) (record {
        high = few;
        room = omega arith;
        within = length-history_at o room flushes n fits;
        entries = l.entries;
        sizes = sized o checked.listed n;
        grown = l.grown;
        files = omega arith;
        kept = keeps-opened o.servers sound n g.init g.place;
      })

  -- each transaction has a GTID of one of the servers
  numbered : (n : ℕ) → All (IsNumbered (length o.servers)) (history_at o.servers n)
  numbered n = λ k d h.
      let t = get_or (history_at o.servers n) k d in
      let at = slice_get-get_or (history_at o.servers n) k d h in
      let is = history_of o checked.listed n k t at in
      let number : t.seq ≡ count_own t.origin.0 (take k (history_at o.servers n)) + 1 = history_numbered o.servers n k t at in
      let short = count_by-le-length (λ (x : Txn). x.origin.0 == t.origin.0) (take k (history_at o.servers n)) in
      let front = length-take k (history_at o.servers n) in
      let long = length-history_at o room flushes n fits in
      record { origin = is.origin; some = omega (arith, number); few = omega (arith, number, short, front, long) }

  each : (n : ℕ) (s : Server) → slice_get (opened_from o.servers room flushes 0 o.servers) n ≡ Some s → IsServer (length (opened_from o.servers room flushes 0 o.servers)) s
  each n s at =
      let g = given-opened o room flushes n s at in
      subst (λ k. IsServer k s) (sym (length-opened_from o.servers room flushes 0 o.servers))
      (subst (λ (x : Server). IsServer (length o.servers) x) (sym g.is_opened) (record {
        fit = subst (λ (x : Server). IsFit x) g.is_opened (fit n s at);
        log_room = refl;
        numbered = numbered n;
        logged = entries-log_by g.init (history_at o.servers n);
      }))

  uuids : (m n : ℕ) (s t : Server) → slice_get (opened_from o.servers room flushes 0 o.servers) m ≡ Some s → slice_get (opened_from o.servers room flushes 0 o.servers) n ≡ Some t
      → s.settings.uuid ≡ t.settings.uuid → m ≡ n
  uuids m n s t at_m at_n e =
      let g = given-opened o room flushes m s at_m in
      let h = given-opened o room flushes n t at_n in
      checked.listed.uuids m n g.init h.init g.place h.place
      (sym (ap (λ (x : Server). x.settings.uuid) g.is_opened) ∙ e ∙ ap (λ (x : Server). x.settings.uuid) h.is_opened)

  from_source : (n m : ℕ) (r : Server) → slice_get (opened_from o.servers room flushes 0 o.servers) n ≡ Some r → source_no r.source ≡ Some m
      → IsSourceOf (opened_from o.servers room flushes 0 o.servers) n m r
  from_source n m r at from =
      let g = given-opened o room flushes n r at in
      let given = source-given g.init.detached g.init.source m (ap (λ (x : Server). source_no x.source) (sym g.is_opened) ∙ from) in
      let u : IsUnder o.servers given.0.0 g.init = sound.under n g.init given.0 g.place given.1 in
      let there : slice_get o.servers m ≡ Some u.source = ap (slice_get o.servers) (sym given.2) ∙ u.there in
      let source : Server = opened_server o.servers room flushes m u.source in
      let log : log_at o.servers given.0.0 ≡ source.log.log = ap (log_at o.servers) given.2 ∙ log_at-is o.servers m u.source there in
      let exec : r.exec ≡ exec_of o.servers g.init = ap (λ (x : Server). x.exec) g.is_opened in
      let read : r.read ≡ read_of o.servers g.init = ap (λ (x : Server). x.read) g.is_opened in
      record {
        source = source;
        there = server_at-opened o room flushes m u.source there;
        apart = λ same.
            not_self (sources o.servers) n (sound.ends n) (ap source_of g.place ∙ ap number_of given.1 ∙ ap Some (given.2 ∙ sym same));
        logs = u.logs;
        stands = record {
          exec_place = (g.init.executed, ap (place source.log.log) exec ∙ ap (λ (x : Log). place x (exec_of o.servers g.init)) (sym log) ∙ u.exec_place);
          read_place = (u.read_place.0, ap (place source.log.log) read ∙ ap (λ (x : Log). place x (read_of o.servers g.init)) (sym log) ∙ u.read_place.1);
          order = ap (λ (c : Coord). is_at_or_before c r.read) exec ∙ ap (is_at_or_before (exec_of o.servers g.init)) read ∙ u.order;
        };
      }

  -- the servers of an opening can be in a world
  pub CanStand-opened : CanStand (opened_from o.servers room flushes 0 o.servers)
  CanStand-opened = record {
    few = let f = checked.listed.few in rw length-opened_from f;
    each = each;
    uuids = uuids;
    sources = from_source;
  }
