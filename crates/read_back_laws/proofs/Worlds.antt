-- A dump opens to the world that was dumped.
use Rattle.std.proofs.Common.{◌≡◌, ◌∙◌, ◌&&◌, ℕ, ◌+◌, ◌-◌, cond, List, [], ◌∷◌, length, map, refl, sym, ap, Option, Some, None, arith, suc, zero-add, is_some, slice_get}
use Rattle.read_back_laws.proofs.Prelude.{Attached, Detached, IsBare, IsQuiet, IsTidy, Safe, Server, ServerInit, ServerNo, Settings, SourceState, Without}
use Rattle.read_back_laws.proofs.Prelude.{World, history_at, init_by, init_of, is_detached, logged_by, opened_from, opened_server, opened_world, opening_of}
use Rattle.read_back_laws.proofs.Prelude.{refitted, refitted_server, server_at, source_in, source_state}
use Rattle.read_back_laws.proofs.Histories.{history-own}
use Rattle.read_back_laws.proofs.Inits.{init-flushes, init-purged, init-settings, inits}
use Rattle.read_back_laws.proofs.Logs.{bare-own, exec-own, log-own, read-own}

-- ---- what is said of replication

state-by : (s : Server) (x : SourceState) → s.source ≡ x → source_state (init_by s (source_in x)).detached (init_by s (source_in x)).source ≡ x
state-by s Without from = refl
state-by s (Attached m) from = ap (λ y. source_state (is_detached y) (Some m)) from
state-by s (Detached m) from = ap (λ y. source_state (is_detached y) (Some m)) from

init-state : (s : Server) → source_state (init_of s).detached (init_of s).source ≡ s.source
unfolding init_of
init-state s = state-by s s.source refl

auto-by : (s : Server) (o : Option ServerNo) → (o ≡ None → IsBare s) → (init_by s o).auto ≡ s.auto
auto-by s None bare = sym (bare refl).auto
auto-by s (Some m) bare = refl

receiver-by : (s : Server) (o : Option ServerNo) → (o ≡ None → IsBare s) → (is_some (init_by s o).source && (init_by s o).io) ≡ s.receiver
receiver-by s None bare = sym (bare refl).receiver
receiver-by s (Some m) bare = refl

applier-by : (s : Server) (o : Option ServerNo) → (o ≡ None → IsBare s) → (is_some (init_by s o).source && (init_by s o).sql) ≡ s.applier
applier-by s None bare = sym (bare refl).applier
applier-by s (Some m) bare = refl

until-by : (s : Server) (o : Option ServerNo) → (o ≡ None → IsBare s) → (init_by s o).until ≡ s.until
until-by s None bare = sym (bare refl).until
until-by s (Some m) bare = refl

-- it replicates as it did
record RepliesAs (s : Server) (i : ServerInit) : Type 0 where
  auto : i.auto ≡ s.auto
  receiver : (is_some i.source && i.io) ≡ s.receiver
  applier : (is_some i.source && i.sql) ≡ s.applier
  until : i.until ≡ s.until

replies : (s : Server) → (source_in s.source ≡ None → IsBare s) → RepliesAs s (init_of s)
unfolding init_of
replies s bare = record {
  auto = auto-by s (source_in s.source) bare;
  receiver = receiver-by s (source_in s.source) bare;
  applier = applier-by s (source_in s.source) bare;
  until = until-by s (source_in s.source) bare;
}

-- it is as reachable as it was
record StandsAs (s : Server) (i : ServerInit) : Type 0 where
  read_only : i.read_only ≡ s.read_only
  up : i.up ≡ s.up
  desk : i.desk ≡ s.desk
  feed : i.feed ≡ s.feed

stands-by : (s : Server) (o : Option ServerNo) → StandsAs s (init_by s o)
stands-by s None = record { read_only = refl; up = refl; desk = refl; feed = refl }
stands-by s (Some m) = record { read_only = refl; up = refl; desk = refl; feed = refl }

stands : (s : Server) → StandsAs s (init_of s)
unfolding init_of
stands s = stands-by s (source_in s.source)

-- ---- all servers

opened_from-map : (servers : List ServerInit) (room flushes k : ℕ) (ss : List Server)
    → ((j : ℕ) (s : Server) → slice_get ss j ≡ Some s → opened_server servers room flushes (k + j) (init_of s) ≡ refitted_server room flushes s)
    → opened_from servers room flushes k (map init_of ss) ≡ map (refitted_server room flushes) ss
opened_from-map servers room flushes k [] each = refl
opened_from-map servers room flushes k (s ∷ ss) each =
    let here : k ≡ k + 0 = omega arith in
    let first : opened_server servers room flushes k (init_of s) ≡ refitted_server room flushes s =
    ap (λ n. opened_server servers room flushes n (init_of s)) here ∙ each 0 s refl in
    let rest = opened_from-map servers room flushes (k + 1) ss
    (λ j x at. let number : k + 1 + j ≡ k + suc j = omega arith in
    ap (λ n. opened_server servers room flushes n (init_of x)) number ∙ each (suc j) x at) in
    ap (λ x. x ∷ opened_from servers room flushes (k + 1) (map init_of ss)) first ∙ ap (λ xs. refitted_server room flushes s ∷ xs) rest

module _ (w : World) (safe : Safe w) (tidy : IsTidy w) where
  told-own : (n : ℕ) (s : Server) → server_at w n ≡ Some s → logged_by (init_of s) (history_at (inits w) n) ≡ s.log.txns
  unfolding IsTidy
  told-own n s at =
      let history = history_at (inits w) n in
      ap (λ (x : Settings). cond x.logs history []) (init-settings s)
      ∙ ap (λ xs. cond s.settings.logs xs []) (history-own w safe n s at) ∙ sym (tidy n s at).told

  server-opened : (room flushes n : ℕ) (s : Server) → server_at w n ≡ Some s → opened_server (inits w) room flushes n (init_of s) ≡ refitted_server room flushes s
  server-opened room flushes n s at =
      let settings = init-settings s in
      let history = history-own w safe n s at in
      let log = log-own w safe tidy n s at in
      let told = told-own n s at in
      let points = init-flushes s in
      let first = init-purged s in
      let source = init-state s in
      let exec = exec-own w safe tidy n s at in
      let read = read-own w safe tidy n s at in
      let r = replies s (bare-own w safe tidy n s at) in
      let t = stands s in
      λ k. record {
        settings = settings k;
        history = record { txns = history k; room = room };
        log = record { log = log k; txns = told k; room = room; flushes = flushes - length (points k) };
        first = first k;
        source = source k;
        exec = exec k;
        read = read k;
        auto = r.auto k;
        receiver = r.receiver k;
        applier = r.applier k;
        until = r.until k;
        read_only = t.read_only k;
        up = t.up k;
        desk = t.desk k;
        feed = t.feed k;
      }

  servers-opened : (room flushes : ℕ) → opened_from (inits w) room flushes 0 (inits w) ≡ map (refitted_server room flushes) w.servers
  servers-opened room flushes =
      opened_from-map (inits w) room flushes 0 w.servers
      (λ j s at. ap (λ n. opened_server (inits w) room flushes n (init_of s)) (zero-add j) ∙ server-opened room flushes j s at)

  -- a dump opens to the very world
  pub world-opened : (room flushes : ℕ) → IsQuiet w → opened_world (opening_of w) room flushes ≡ refitted room flushes w
  unfolding opening_of refitted
  world-opened room flushes quiet =
      let servers = servers-opened room flushes in
      λ k. record { servers = servers k; gtid = w.gtid; errant = sym quiet k }
