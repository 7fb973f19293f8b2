-- The servers of an opening, made one after another.
use Rattle.world_openings.proofs.Prelude.{AreBare, ArePlaced, Coord, HaveLogs, Index, Opened, Server, ServerInit, bare_server, cases_eq, cases_lt}
use Rattle.world_openings.proofs.Prelude.{exec_of, get-push_new as slice_get-last, length-set, log_at, opened_from, placed_by, read_of, same_Some}
use Rattle.world_openings.proofs.Prelude.{set_other, set_same, slice_get_within}
use Rattle.std.proofs.Common.{◌≡◌, ℕ, ◌+◌, ◌<◌, List, [], ◌∷◌, ◌++◌, length, length-append, refl, sym, ◌∙◌, ap, inl, inr, Option, Some, None, arith, zero, suc, option_map, slice_get, slice_set}
use Rattle.world_openings.proofs.Opened.{server_at-opened, length-opened_from}
use Rattle.world_openings.proofs.OpenedWorlds.{log_at-is}
use Rattle.server_words.proofs.OrchBase.Lists.{slice_get-there as there}

-- lists with the same elements are the same
same-by_index : {X : Type 0} (xs ys : List X) → length xs ≡ length ys → ((k : ℕ) (x : X) → slice_get xs k ≡ Some x → slice_get ys k ≡ Some x) → xs ≡ ys
same-by_index [] [] len each = refl
same-by_index [] (y ∷ ys) len each = absurd (omega arith)
same-by_index (x ∷ xs) [] len each = absurd (omega arith)
same-by_index (x ∷ xs) (y ∷ ys) len each =
    let head : y ≡ x = same_Some y x (each 0 x refl) in
    let tail : xs ≡ ys = same-by_index xs ys (omega arith) (λ k z h. each (suc k) z h) in
    ap (λ z. z ∷ xs) (sym head) ∙ ap (λ zs. y ∷ zs) tail

-- what a list with one more element has
slice_get-before : {X : Type 0} (xs : List X) (y : X) (k : ℕ) → k < length xs → slice_get (xs ++ y ∷ []) k ≡ slice_get xs k
slice_get-before [] y k h = absurd (omega arith)
slice_get-before (x ∷ xs) y zero h = refl
slice_get-before (x ∷ xs) y (suc k) h = slice_get-before xs y k (omega arith)

pub AreBare-more : (o : Opened) (room flushes n : ℕ) (servers : List Server) (i : ServerInit) → slice_get o.servers n ≡ Some i → AreBare o room flushes n servers
    → AreBare o room flushes (n + 1) (servers ++ bare_server o.servers room flushes n i ∷ [])
AreBare-more o room flushes n servers i at bare = record {
  count = let c = bare.count in let e = length-append servers (bare_server o.servers room flushes n i ∷ []) in omega arith;
  each = λ k j at_k h. elim (cases_eq k n) [
    | inl here ↦
        let same : i ≡ j = same_Some i j (sym at ∙ ap (slice_get o.servers) (sym here) ∙ at_k) in
        ap (slice_get (servers ++ bare_server o.servers room flushes n i ∷ [])) (here ∙ sym bare.count)
        ∙ slice_get-last servers (bare_server o.servers room flushes n i)
        ∙ ap (λ (x : ServerInit). Some (bare_server o.servers room flushes n x)) same
        ∙ ap (λ m. Some (bare_server o.servers room flushes m j)) (sym here)
    | inr apart ↦
        let c = bare.count in
        slice_get-before servers (bare_server o.servers room flushes n i) k (omega arith) ∙ bare.each k j at_k (omega arith)
  ];
}

-- they have their settings and logs
pub HaveLogs-bare : (o : Opened) (room flushes : ℕ) (servers : List Server) → AreBare o room flushes (length o.servers) servers → HaveLogs o.servers servers
HaveLogs-bare o room flushes servers bare = record {
  count = bare.count;
  settings = λ k i s at here. ap (λ (x : Server). x.settings) (is k i s at here);
  each = λ k i s at here. ap (λ (x : Server). x.log.log) (is k i s at here) ∙ sym (log_at-is o.servers k i at);
}
  where
    is : (k : ℕ) (i : ServerInit) (s : Server) → slice_get o.servers k ≡ Some i → slice_get servers k ≡ Some s → s ≡ bare_server o.servers room flushes k i
    is k i s at here = same_Some s (bare_server o.servers room flushes k i) (sym here ∙ bare.each k i at (slice_get_within o.servers k i at))

-- one server more has its coordinates
pub ArePlaced-none : (inits : List ServerInit) (servers : List Server) → ArePlaced inits 0 servers servers
ArePlaced-none inits servers = record { count = refl; done = λ k i s at here h. absurd (omega arith); rest = λ k s here h. here }

pub ArePlaced-more : (inits : List ServerInit) (n : ℕ) (before servers : List Server) (i : ServerInit) (s : Server) (exec read : Coord) → slice_get inits n ≡ Some i
    → slice_get servers n ≡ Some s → exec ≡ exec_of inits i → read ≡ read_of inits i → ArePlaced inits n before servers
    → ArePlaced inits (n + 1) before (slice_set servers n (record s { exec = exec; read = read }))
ArePlaced-more inits n before servers i s exec read at here is_exec is_read placed =
    let new : Server = record s { exec = exec; read = read } in
    let is : new ≡ placed_by inits i s = ap (λ (c : Coord). record s { exec = c; read = read }) is_exec ∙ ap (λ (c : Coord). record s { exec = exec_of inits i; read = c }) is_read in
    record {
      count = length-set servers n new ∙ placed.count;
      done = λ k j t at_k was h. elim (cases_eq k n) [
        | inl same ↦
            let init : i ≡ j = same_Some i j (sym at ∙ ap (slice_get inits) (sym same) ∙ at_k) in
            let old : s ≡ t = same_Some s t (sym here ∙ ap (slice_get servers) (sym same) ∙ placed.rest k t was (omega arith)) in
            ap (slice_get (slice_set servers n new)) same ∙ set_same servers n s new here
            ∙ ap Some is ∙ ap (λ (x : ServerInit). Some (placed_by inits x s)) init ∙ ap (λ (x : Server). Some (placed_by inits j x)) old
        | inr apart ↦ set_other servers n s new here k apart ∙ placed.done k j t at_k was (omega arith)
      ];
      rest = λ k t was h. set_other servers n s new here k (λ same. absurd (omega arith)) ∙ placed.rest k t was (omega arith);
    }

-- a server with its coordinates keeps its settings and its log
record Was (before : List Server) (k : ℕ) (s : Server) : Type 0 where
  was : Server
  at : slice_get before k ≡ Some was
  settings : s.settings ≡ was.settings
  log : s.log ≡ was.log

was-at : (inits : List ServerInit) (n : ℕ) (before servers : List Server) → ArePlaced inits n before servers → (k : ℕ) (i : ServerInit) (s : Server) → slice_get inits k ≡ Some i
    → slice_get servers k ≡ Some s → Was before k s
was-at inits n before servers placed k i s at here =
    let within = slice_get_within servers k s here in
    let count = placed.count in
    let t = there before k (omega arith) in
    elim (cases_lt k n) [
      | inl done ↦ like (placed_by inits i t.0) t.0 t.1 (same_Some s (placed_by inits i t.0) (sym here ∙ placed.done k i t.0 at t.1 done)) refl refl
      | inr after ↦ like t.0 t.0 t.1 (same_Some s t.0 (sym here ∙ placed.rest k t.0 t.1 after)) refl refl
    ]
  where
    like : (x t : Server) → slice_get before k ≡ Some t → s ≡ x → x.settings ≡ t.settings → x.log ≡ t.log → Was before k s
    like x t at is settings log = record { was = t; at = at; settings = ap (λ (y : Server). y.settings) is ∙ settings; log = ap (λ (y : Server). y.log) is ∙ log }

pub HaveLogs-placed : (inits : List ServerInit) (n : ℕ) (before servers : List Server) → HaveLogs inits before → ArePlaced inits n before servers → HaveLogs inits servers
HaveLogs-placed inits n before servers logs placed = record {
  count = placed.count ∙ logs.count;
  settings = λ k i s at here. kept k i s at (was-at inits n before servers placed k i s at here);
  each = λ k i s at here. laid k i s at (was-at inits n before servers placed k i s at here);
}
  where
    kept : (k : ℕ) (i : ServerInit) (s : Server) → slice_get inits k ≡ Some i → Was before k s → s.settings ≡ i.settings
    kept k i s at w = w.settings ∙ logs.settings k i w.was at w.at

    laid : (k : ℕ) (i : ServerInit) (s : Server) → slice_get inits k ≡ Some i → Was before k s → s.log.log ≡ log_at inits k
    laid k i s at w = ap (λ (x : Index). x.log) w.log ∙ logs.each k i w.was at w.at

-- all servers, with their coordinates
pub ArePlaced-all : (o : Opened) (room flushes : ℕ) (before servers : List Server) → AreBare o room flushes (length o.servers) before → ArePlaced o.servers (length o.servers) before servers
    → servers ≡ opened_from o.servers room flushes 0 o.servers
ArePlaced-all o room flushes before servers bare placed =
    same-by_index servers (opened_from o.servers room flushes 0 o.servers) (placed.count ∙ bare.count ∙ sym (length-opened_from o.servers room flushes 0 o.servers))
    (λ k s here.
    let within = slice_get_within servers k s here in
    let count = placed.count in
    let few = bare.count in
    let init = there o.servers k (omega arith) in
    server_at-opened o room flushes k init.0 init.1
    ∙ sym (placed.done k init.0 (bare_server o.servers room flushes k init.0) init.1 (bare.each k init.0 init.1 (omega arith)) (omega arith)) ∙ here)

-- a listed server, by what is found of it
pub listed-by : (inits : List ServerInit) (n : ℕ) (f g : ServerInit → Coord) (exec read : Coord) → option_map f (slice_get inits n) ≡ Some exec → option_map g (slice_get inits n) ≡ Some read
    → (i : ServerInit) × (slice_get inits n ≡ Some i) × (exec ≡ f i) × (read ≡ g i)
listed-by inits n f g exec read is_exec is_read = go (slice_get inits n) refl is_exec is_read
  where
    go : (o : Option ServerInit) → slice_get inits n ≡ o → option_map f o ≡ Some exec → option_map g o ≡ Some read
        → (i : ServerInit) × (slice_get inits n ≡ Some i) × (exec ≡ f i) × (read ≡ g i)
    go None at e r = cc
    go (Some i) at e r = (i, at, sym (same_Some (f i) exec e), sym (same_Some (g i) read r))
