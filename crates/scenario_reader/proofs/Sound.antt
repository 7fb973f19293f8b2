-- What is read as a scenario meets the condition of the calls that take one.
pub use Rattle.scenario_servers.proofs.Reading.{length-listed_names as length-names}
use Rattle.scenario_reader.proofs.Prelude.{All-nil as none_of, All-weaker, AllPass-from_list_all, AreHooks, Block, Data, Given, Head, Hook, Hooks}
use Rattle.scenario_reader.proofs.Prelude.{HostPort, IsChecked, IsGiven, IsHook, IsListed, IsListedTurn, IsScenario, IsTurn, IsTurnOf, Items}
use Rattle.scenario_reader.proofs.Prelude.{MAX_SCENARIO_LEN, NamesOneOf, Opened, Scenario, ServerInit, TooLarge, TooLong, Turn, and_parts, bind-ok}
use Rattle.scenario_reader.proofs.Prelude.{block_in, blocks_in, bounded, each, each_from, each_from-all, each_from-length, each_member-all, eq-eqb}
use Rattle.scenario_reader.proofs.Prelude.{expanded, expanded-are, false≢true, head_in, holds, holds-ok, hook_in, hook_list_in, hooks_in, in_order}
use Rattle.scenario_reader.proofs.Prelude.{inits_of, is_hook_text, is_printable, is_small, is_write, items_in, json_in, known_of, label_or_fails}
use Rattle.scenario_reader.proofs.Prelude.{leb-true, length-inits_from as length-inits, length-map, list_all, listed_count, listed_in, listed_names}
use Rattle.scenario_reader.proofs.Prelude.{listed_uuids, members_in, no_hooks, number-ok, number_in, opening, opening_in, optional, optional-ok}
use Rattle.scenario_reader.proofs.Prelude.{order_within, period_in, printed, printed_of, read_given, rules_of, same_Ok, scenario_from, scenario_in}
use Rattle.scenario_reader.proofs.Prelude.{scenario_with, server_in, server_names, servers_in, turn-has, turn_in, turns_in, under, under-ok}
use Rattle.std.proofs.Common.{◌≡◌, ℕ, ◌+◌, ◌*◌, ◌≤◌, ◌⊎◌, inl, inr, ◌∙◌, Bool, true, eqb, leb, List, [], length, All, Option, Ok, refl, ap, subst, sym, arith, ◌&&◌, count_by, codes, not}
use Rattle.scenario_reader.proofs.Parts.{from-ok, head-ok, hook-ok, hooks-ok, made_of, opening-ok, with-ok}

-- ---- turns

-- turns of so many servers, few of them, within the room of what is listed
record AreTurns (servers : List ServerInit) (nodes : ℕ) (ts : List Turn) : Type 0 where
  turns : All (IsTurn (length servers)) ts
  named : All (NamesOneOf nodes) ts
  few : length ts ≤ 1000000
  room : length servers * (listed_count servers + count_by is_write ts) ≤ 4000000

bounded-have : (servers : List ServerInit) (nodes : ℕ) (made ts : List Turn) → All (IsTurnOf (length servers) nodes) made → bounded servers made ≡ Ok ts → AreTurns servers nodes ts
unfolding bounded
bounded-have servers nodes made ts are e =
    let few = bind-ok (holds TooLarge (leb (length made) 1000000)) _ ts e in
    let small = bind-ok (holds TooLarge (is_small (length servers) (listed_count servers + count_by is_write made))) _ ts few.2 in
    subst (AreTurns servers nodes) (same_Ok made ts small.2)
    (record {
      turns = λ k d less. (are k d less).0;
      named = λ k d less. (are k d less).1;
      few = leb-true (length made) 1000000 (holds-ok TooLarge _ few.0 few.1);
      room = leb-true _ 4000000 (holds-ok TooLarge _ small.0 small.1);
    })

-- a printed name for each server
printed_count : (servers : List ServerInit) → length (printed_of servers) ≡ length servers
printed_count servers = length-map (server_names servers) printed ∙ length-map servers (λ (i : ServerInit). i.settings.name)

turns-have : (names : List (Option HostPort)) (servers : List ServerInit) (nodes : ℕ) (items : Items) (ts : List Turn) → length names ≡ length servers → turns_in names servers nodes items ≡ Ok ts
    → AreTurns servers nodes ts
unfolding turns_in
turns-have names servers nodes items ts count e =
    let texts = printed_of servers in
    let counts : length texts ≡ length names = printed_count servers ∙ sym count in
    let listed = bind-ok (under (codes "turns") (each (turn_in names texts nodes) items)) _ ts e in
    let ok : each (turn_in names texts nodes) items ≡ Ok listed.0 = under-ok (codes "turns") _ listed.0 listed.1 in
    let are : All (IsListedTurn (length names) nodes) listed.0 =
    each_from-all (IsListedTurn (length names) nodes) (λ n d. turn_in names texts nodes d) (λ n d t f. turn-has names texts nodes d t counts f) 0 items listed.0 ok in
    bounded-have servers nodes (expanded (in_order servers) listed.0) ts
    (expanded-are (length servers) nodes (in_order servers) (order_within servers) listed.0 (subst (λ n. All (IsListedTurn n nodes) listed.0) count are))
    listed.2

-- ---- the servers

-- a name for each server
names-of : (gtid : Bool) (d : Data) (given : List (Option HostPort) × List Given) → servers_in gtid d ≡ Ok given → length given.0 ≡ length (inits_of given.1)
unfolding servers_in
names-of gtid d given e =
    let listed = bind-ok (listed_in d) _ given e in
    let servers = bind-ok (each_from (server_in gtid (listed_names listed.0) (listed_uuids 0 listed.0)) 0 listed.0) _ given listed.2 in
    let is : (listed_names listed.0, servers.0) ≡ given = same_Ok (listed_names listed.0, servers.0) given servers.2 in
    let counts : length (listed_names listed.0) ≡ length (inits_of servers.0) =
    length-names listed.0 ∙ sym (each_from-length _ 0 listed.0 servers.0 servers.1) ∙ sym (length-inits servers.0 0 servers.0) in
    subst (λ (p : List (Option HostPort) × List Given). length p.0 ≡ length (inits_of p.1)) is counts

-- ---- the opening

record IsOpened (servers : List ServerInit) (o : Opened) : Type 0 where
  checked : IsChecked o
  same : o.servers ≡ servers

opening-has : (servers : List ServerInit) (gtid : Bool) (o : Opened) → IsGiven gtid servers → opening_in servers gtid ≡ Ok o → IsOpened servers o
opening-has servers gtid o given e =
    let r = opening-ok servers gtid o e in
    let listed : IsListed (opening servers gtid) = record {
      some = given.some;
      few = given.few;
      listed = leb-true _ 4000000 r.small;
      each = given.each;
      names = given.names;
      uuids = given.uuids;
    } in
    subst (IsOpened servers) r.is (record { checked = record { listed = listed; sound = r.sound }; same = refl })

-- ---- the keys before the servers

record AreSmall (h : Head) : Type 0 where
  moment : h.moment ≤ 1000000000000000
  pseudo : h.pseudo ≤ 1000000
  some_node : 1 ≤ h.nodes
  few_nodes : h.nodes ≤ 16
  block : h.block ≤ 1000000000
  blocks : All (λ b. b.seconds ≤ 1000000000) h.blocks
  hooks : AreHooks h.hooks

-- each block period is short
block-has : (label : List ℕ) (d : Data) (b : Block) → block_in label d ≡ Ok b → b.seconds ≤ 1000000000
unfolding block_in
block-has label d b e =
    let cluster = bind-ok (label_or_fails label) _ b e in
    let seconds = bind-ok (period_in d) _ b cluster.2 in
    subst (λ (c : Block). c.seconds ≤ 1000000000) (same_Ok (record { cluster = cluster.0; seconds = seconds.0 }) b seconds.2) (number-ok 0 1000000000 d seconds.0 seconds.1).1

blocks-have : (d : Data) (bs : List Block) → blocks_in d ≡ Ok bs → All (λ b. b.seconds ≤ 1000000000) bs
unfolding blocks_in
blocks-have d bs e =
    let members = bind-ok (members_in d) _ bs e in
    each_member-all (λ b. b.seconds ≤ 1000000000) block_in block-has members.0 bs members.2

-- each hook has its range
printable : (b : ℕ) → is_printable b ≡ true → (32 ≤ b) × ¬ (b ≡ 127)
printable b e =
    let parts = and_parts (leb 32 b) (not (eqb b 127)) e in
    (leb-true 32 b parts.0, λ same. false≢true (sym (ap not (eq-eqb b 127 same)) ∙ parts.1))

hook-is : (h : Hook) → is_hook_text h.text ≡ true → IsHook h
hook-is h e =
    let some = and_parts (leb 1 (length h.text)) (leb (length h.text) 1000 && list_all is_printable h.text) e in
    let few = and_parts (leb (length h.text) 1000) (list_all is_printable h.text) some.1 in
    record {
      some = leb-true 1 (length h.text) some.0;
      few = leb-true (length h.text) 1000 few.0;
      printable = All-weaker (λ b. is_printable b ≡ true) (λ b. (32 ≤ b) × ¬ (b ≡ 127)) printable h.text (AllPass-from_list_all is_printable h.text few.1);
    }

hook-has : (d : Data) (h : Hook) → hook_in d ≡ Ok h → IsHook h
hook-has d h e = hook-is h (hook-ok d h e).is_text

list-has : (d : Data) (hs : List Hook) → hook_list_in d ≡ Ok hs → All IsHook hs
unfolding hook_list_in
list-has d hs e =
    let items = bind-ok (items_in d) _ hs e in
    each_from-all IsHook (λ n v. hook_in v) (λ n v h f. hook-has v h f) 0 items.0 hs items.2

list-at : (key : List ℕ) (d : Data) (hs : List Hook) → optional key hook_list_in [] d ≡ Ok hs → All IsHook hs
list-at key d hs e = go (optional-ok key hook_list_in [] d hs e)
  where
    go : (hs ≡ []) ⊎ ((v : Data) × (hook_list_in v ≡ Ok hs)) → All IsHook hs
    go (inl none) = subst (All IsHook) (sym none) (none_of IsHook)
    go (inr there) = list-has there.0 hs there.1

hooks-have : (d : Data) (h : Hooks) → hooks_in d ≡ Ok h → AreHooks h
hooks-have d h e =
    let r = hooks-ok d h e in
    record {
      pre_failover = list-at (codes "pre_failover") d h.pre_failover r.pre_failover;
      post_failover = list-at (codes "post_failover") d h.post_failover r.post_failover;
      post_unsuccessful = list-at (codes "post_unsuccessful") d h.post_unsuccessful r.post_unsuccessful;
    }

head-has : (d : Data) (h : Head) → head_in d ≡ Ok h → AreSmall h
head-has d h e =
    let r = head-ok d h e in
    let of = of_nodes h.nodes (optional-ok (codes "nodes") (number_in 1 16) 1 d h.nodes r.nodes) in
    record {
      moment = by 1000000000000000 0 h.moment (omega arith) (optional-ok (codes "now") (number_in 0 1000000000000000) 0 d h.moment r.moment);
      pseudo = by 1000000 0 h.pseudo (omega arith) (optional-ok (codes "pseudo") (number_in 0 1000000) 0 d h.pseudo r.pseudo);
      some_node = of.0;
      few_nodes = of.1;
      block = by 1000000000 3600 h.block (omega arith) (optional-ok (codes "block") period_in 3600 d h.block r.block);
      blocks = listed h.blocks (optional-ok (codes "blocks") blocks_in [] d h.blocks r.blocks);
      hooks = hooked h.hooks (optional-ok (codes "hooks") hooks_in no_hooks d h.hooks r.hooks);
    }
  where
    by : (most default n : ℕ) → default ≤ most → (n ≡ default) ⊎ ((v : Data) × (number_in 0 most v ≡ Ok n)) → n ≤ most
    by most default n few (inl same) = omega arith
    by most default n few (inr there) = (number-ok 0 most there.0 n there.1).1

    hooked : (hs : Hooks) → (hs ≡ no_hooks) ⊎ ((v : Data) × (hooks_in v ≡ Ok hs)) → AreHooks hs
    hooked hs (inl none) = subst AreHooks (sym none) (record { pre_failover = none_of IsHook; post_failover = none_of IsHook; post_unsuccessful = none_of IsHook })
    hooked hs (inr there) = hooks-have there.0 hs there.1

    of_nodes : (n : ℕ) → (n ≡ 1) ⊎ ((v : Data) × (number_in 1 16 v ≡ Ok n)) → (1 ≤ n) × (n ≤ 16)
    of_nodes n (inl same) = (omega arith, omega arith)
    of_nodes n (inr there) = number-ok 1 16 there.0 n there.1

    listed : (bs : List Block) → (bs ≡ []) ⊎ ((v : Data) × (blocks_in v ≡ Ok bs)) → All (λ b. b.seconds ≤ 1000000000) bs
    listed bs (inl none) = subst (All (λ (b : Block). b.seconds ≤ 1000000000)) (sym none) (none_of (λ (b : Block). b.seconds ≤ 1000000000))
    listed bs (inr there) = blocks-have there.0 bs there.1

-- ---- the whole

scenario_with-sound : (head : Head) (given : List (Option HostPort) × List Given) (items : Items) (s : Scenario) → AreSmall head → IsGiven head.gtid (inits_of given.1)
    → length given.0 ≡ length (inits_of given.1) → scenario_with head given items ≡ Ok s → IsScenario s
scenario_with-sound head given items s early are names e =
    let r = with-ok head given items s e in
    let opened = opening-has (inits_of given.1) head.gtid r.opened are r.opens in
    let count : length given.0 ≡ length r.opened.servers = names ∙ ap length (sym opened.same) in
    let turns = turns-have given.0 r.opened.servers head.nodes items r.turns count r.lists in
    let known : length (known_of given.1) ≡ length r.opened.servers = length-map given.1 (λ (g : Given). g.known) ∙ sym (length-inits given.1 0 given.1) ∙ ap length (sym opened.same) in
    let rules : length (rules_of given.1) ≡ length r.opened.servers = length-map given.1 (λ (g : Given). g.rule) ∙ sym (length-inits given.1 0 given.1) ∙ ap length (sym opened.same) in
    subst IsScenario {x = made_of head given.1 r.opened r.turns} r.is (record {
      checked = opened.checked;
      moment = early.moment;
      pseudo = early.pseudo;
      some_node = early.some_node;
      few_nodes = early.few_nodes;
      block = early.block;
      blocks = early.blocks;
      turns = turns.turns;
      named = turns.named;
      few = turns.few;
      room = turns.room;
      known = known;
      rules = rules;
      master = length-map _ _;
      intermediate = length-map _ _;
      hooks = early.hooks;
    })

scenario_from-sound : (d : Data) (s : Scenario) → scenario_from d ≡ Ok s → IsScenario s
scenario_from-sound d s e =
    let r = from-ok d s e in
    scenario_with-sound r.head r.given r.items s (head-has d r.head r.heads) (read_given r.head.gtid r.servers r.given r.gives) (names-of r.head.gtid r.servers r.given r.gives) r.whole

-- what bytes are read as
pub scenario_in_sound : (bytes : List ℕ) (s : Scenario) → scenario_in bytes ≡ Ok s → IsScenario s
unfolding scenario_in
scenario_in_sound bytes s e =
    let short = bind-ok (holds TooLong (leb (length bytes) MAX_SCENARIO_LEN)) _ s e in
    let d = bind-ok (json_in bytes) scenario_from s short.2 in
    scenario_from-sound d.0 s d.2
