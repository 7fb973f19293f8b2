-- What drawn servers have executed.
use Rattle.std.proofs.Common.{◌≡◌, ◌∙◌, ◌<◌, ◌≤◌, ℕ, zero, suc, ◌∷◌, List, [], length, replicate, take, Option, Some, None, refl, sym, ap, arith, inl, inr, get_or, slice_get}
use Rattle.read_back_laws.proofs.Prelude.{ArePlaced, DrawnServer, Given, Part, Replica, ServerNo, Txn, count_at, follow_on, get-append, get-replicate, given_of}
use Rattle.read_back_laws.proofs.Prelude.{givens_from, history_at, inits_from_drawn, joined_by-each, length-listed_history, length-take-le, listed_history}
use Rattle.read_back_laws.proofs.Prelude.{next_txn, parts_at, reached_from, reached_from-root, root_of, server_no, singles, slice_get-get_or, slice_get-take}
use Rattle.read_back_laws.proofs.Prelude.{slice_get_within, take_all}
use Rattle.scenario_generator.specs.declared.server.DrawnServer.TheVariants.{Root}
use Rattle.scenario_reader.specs.ScenarioServers.Openings.{init_of}
use Rattle.scenario_reader.specs.Openings.Servers.{number_of, parts_of, source_of as source_at, sources}
use Rattle.read_back_laws.proofs.Prelude.Drawn.{source_of}
use Rattle.read_back_laws.proofs.Prelude.drawn
use Rattle.read_back_laws.proofs.DrawnFlaws.{count_is, init_source, length-inits, opens_there, source_below}

-- ---- what a root lists

abbrev pub own_parts : ℕ → List Part
own_parts n = record { origin = server_no n; size = 100; count = 20 } ∷ []

pub own_count : (n : ℕ) → length (listed_history (own_parts n)) ≡ 20
own_count n = length-listed_history (own_parts n)

-- a transaction of this origin
pub record IsOwn (n : ℕ) (t : Txn) : Type 0 where
  pub origin : t.origin.0 ≡ n
  pub size : t.size ≡ 100

own_next : (n : ℕ) (before : List Txn) (x : ServerNo × ℕ) → x ≡ (server_no n, 100) → IsOwn n (next_txn before x)
own_next n before x is = record { origin = ap (λ (y : ServerNo × ℕ). y.0.0) is; size = ap (λ (y : ServerNo × ℕ). y.1) is }

own_single : (n k : ℕ) (x : ServerNo × ℕ) → slice_get (singles (own_parts n)) k ≡ Some x → x ≡ (server_no n, 100)
own_single n k x e = elim (get-append (replicate 20 (server_no n, 100)) [] x k e) [
  | inl here ↦ get-replicate 20 (server_no n, 100) x k here
  | inr there ↦ absurd (no_more there.0 there.1)
]
  where
    no_more : (j : ℕ) → slice_get [] j ≡ Some x → ⊥
    no_more j h = cc

pub own_txn : (n k : ℕ) (t : Txn) → slice_get (listed_history (own_parts n)) k ≡ Some t → IsOwn n t
own_txn n k t e = joined_by-each (IsOwn n) [] (singles (own_parts n)) (λ j u h. absurd (cc)) (λ before j x h. own_next n before x (own_single n j x h)) k t e

-- ---- the root above a server

-- a chain that falls ends, at or before its start
ends_on : (up : ℕ → Option ℕ) (go : ℕ → ℕ) (n : ℕ) (o : Option ℕ) → up n ≡ o → ((a b : ℕ) → up a ≡ Some b → b < a) → ((m : ℕ) → m < n → (up (go m) ≡ None) × (go m ≤ m))
    → (up (follow_on go n o) ≡ None) × (follow_on go n o ≤ n)
ends_on up go n None is down below = (is, omega arith)
ends_on up go n (Some m) is down below = let less : m < n = down n m is in let h = below m less in (h.0, omega (arith, h.1))

bottom : (up : ℕ → Option ℕ) (n : ℕ) (o : Option ℕ) → up n ≡ o → ((a b : ℕ) → up a ≡ Some b → b < a) → n ≤ 0 → up n ≡ None
bottom up n None is down low = is
bottom up n (Some m) is down low = let less : m < n = down n m is in absurd (omega arith)

ends : (up : ℕ → Option ℕ) (steps n : ℕ) → ((a b : ℕ) → up a ≡ Some b → b < a) → n ≤ steps → (up (reached_from up steps n) ≡ None) × (reached_from up steps n ≤ n)
ends up zero n down few = (bottom up n (up n) refl down few, omega arith)
ends up (suc steps) n down few = ends_on up (λ m. reached_from up steps m) n (up n) refl down (λ m less. ends up steps m down (omega arith))

sources_drawn : (ss : List DrawnServer) (n : ℕ) (s : DrawnServer) → slice_get ss n ≡ Some s → sources (inits_from_drawn ss) n ≡ number_of (source_of s)
sources_drawn ss n s there = ap source_at (opens_there ss n s there) ∙ ap number_of (init_source ss n s)

parts_drawn : (gs : List Given) (n : ℕ) (s : DrawnServer) → number_of (source_of s) ≡ None → parts_of (init_of gs n (given_of n s)) ≡ own_parts n
parts_drawn gs n Root alone = refl
parts_drawn gs n (Replica source executed) alone = absurd (cc)

-- it lists its own
pub root_lists : (ss : List DrawnServer) → ArePlaced ss → (n : ℕ) → n < length ss
    → parts_at (slice_get (inits_from_drawn ss) (root_of (inits_from_drawn ss) n)) ≡ own_parts (root_of (inits_from_drawn ss) n)
root_lists ss are n there =
    let inits = inits_from_drawn ss in
    let r = root_of inits n in
    let top = ends (sources inits) (length inits) n (source_below ss are) (omega (arith, length-inits (givens_from 0 ss) 0 ss)) in
    let within : r < length ss = omega (arith, top.1) in
    let s = get_or ss r Root in
    let at : slice_get ss r ≡ Some s = slice_get-get_or ss r Root within in
    ap parts_at (opens_there ss r s at) ∙ parts_drawn (givens_from 0 ss) r s (sym (sources_drawn ss r s at) ∙ top.0)

-- ---- histories

root_count : (ss : List DrawnServer) → ArePlaced ss → (n : ℕ) → n < length ss
    → length (listed_history (parts_at (slice_get (inits_from_drawn ss) (root_of (inits_from_drawn ss) n)))) ≡ 20
root_count ss are n there =
    ap (λ ps. length (listed_history ps)) (root_lists ss are n there) ∙ own_count (root_of (inits_from_drawn ss) n)

-- as many transactions as the server counts
pub history_count : (ss : List DrawnServer) → ArePlaced ss → ((m : ℕ) → drawn.count_at ss m ≤ 20) → (n : ℕ) (s : DrawnServer) → slice_get ss n ≡ Some s
    → length (history_at (inits_from_drawn ss) n) ≡ drawn.count_of s
history_count ss are few n s there =
    let inits = inits_from_drawn ss in
    let listed = listed_history (parts_at (slice_get inits (root_of inits n))) in
    let counted : count_at (slice_get inits n) ≡ drawn.count_of s = ap count_at (opens_there ss n s there) ∙ count_is ss n s in
    let small : drawn.count_at ss n ≡ drawn.count_of s = ap drawn.count_in there in
    let long : length listed ≡ 20 = root_count ss are n (slice_get_within ss n s there) in
    length-take-le (count_at (slice_get inits n)) listed (omega (arith, counted, small, long, few n)) ∙ counted

-- of the root above it
pub history_own : (ss : List DrawnServer) → ArePlaced ss → (n : ℕ) → n < length ss → (k : ℕ) (t : Txn) → slice_get (history_at (inits_from_drawn ss) n) k ≡ Some t
    → IsOwn (root_of (inits_from_drawn ss) n) t
history_own ss are n there k t e =
    let inits = inits_from_drawn ss in
    let r = root_of inits n in
    own_txn r k t (sym (ap (λ ps. slice_get (listed_history ps) k) (root_lists ss are n there)) ∙ slice_get-take (listed_history (parts_at (slice_get inits r))) (count_at (slice_get inits n)) k t e)

-- a root's is what it lists
pub root_history : (ss : List DrawnServer) (n : ℕ) → slice_get ss n ≡ Some Root → history_at (inits_from_drawn ss) n ≡ listed_history (own_parts n)
root_history ss n there =
    let inits = inits_from_drawn ss in
    let at = opens_there ss n Root there in
    let itself : root_of inits n ≡ n = reached_from-root (sources inits) (length inits) n (sources_drawn ss n Root there) in
    ap (λ c. take c (listed_history (parts_at (slice_get inits (root_of inits n))))) (ap count_at at)
    ∙ (ap (λ r. take 20 (listed_history (parts_at (slice_get inits r)))) itself
    ∙ (ap (λ o. take 20 (listed_history (parts_at o))) at ∙ take_all 20 (listed_history (own_parts n)) (omega (arith, own_count n))))
