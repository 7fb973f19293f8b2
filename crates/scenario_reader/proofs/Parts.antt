-- The parts of what is read as a scenario.
use Rattle.std.proofs.Common.{◌≡◌, ℕ, Bool, true, List, [], ◌∷◌, length, Option, Some, None, Ok, refl, sym, ap, subst, codes, decimal}
use Rattle.scenario_reader.proofs.Prelude.{BadHook, Data, FaultCode, Flaw, Given, Head, Hook, Hooks, HostPort, Items, Opened, Scenario, ServerInit}
use Rattle.scenario_reader.proofs.Prelude.{TooLarge, Turn, aliases_in, answered, bind-ok, blocks_in, bool_in, code_of, exit_or_fails, fails_at}
use Rattle.scenario_reader.proofs.Prelude.{filters_in, flaw_in, found_of, get, head_in, holds, holds-ok, hook_in, hook_keys, hook_list_in, hooks_in}
use Rattle.scenario_reader.proofs.Prelude.{inits_of, is_hook_text, is_small, items_in, keys_in, keys_of, known_of, listed_count, members_in, needed}
use Rattle.scenario_reader.proofs.Prelude.{needed-ok, no_filters, no_hooks, no_items, number_in, one_in, only_keys, opening, opening_in, opening_or}
use Rattle.scenario_reader.proofs.Prelude.{opening_or_fails, optional, period_in, rules_of, same_Ok, scenario_from, scenario_with, servers_in}
use Rattle.scenario_reader.proofs.Prelude.{text_in, turns_in, two_of, under-ok, under_item, value_at, whole_of}

-- ---- hooks

pub record ReadsHook (d : Data) (h : Hook) : Type 0 where
  pub items : Items
  pub lists : items_in d ≡ Ok items
  pub parts : Data × Data
  pub two : two_of items ≡ Ok parts
  pub text : under_item 0 (text_in parts.0) ≡ Ok h.text
  pub is_text : is_hook_text h.text ≡ true
  pub whole : Option ℕ
  pub exit : exit_or_fails whole ≡ Ok h.exit

pub hook-ok : (d : Data) (h : Hook) → hook_in d ≡ Ok h → ReadsHook d h
unfolding hook_in
hook-ok d h e =
    let items = bind-ok (items_in d) _ h e in
    let parts = bind-ok (two_of items.0) _ h items.2 in
    let text = bind-ok (under_item 0 (text_in parts.0.0)) _ h parts.2 in
    let good = bind-ok (holds BadHook (is_hook_text text.0)) _ h text.2 in
    let whole = bind-ok (under_item 1 (whole_of parts.0.1)) _ h good.2 in
    let exit = bind-ok (exit_or_fails whole.0) _ h whole.2 in
    subst (ReadsHook d) (same_Ok (record { text = text.0; exit = exit.0 }) h exit.2) (record {
      items = items.0;
      lists = items.1;
      parts = parts.0;
      two = parts.1;
      text = text.1;
      is_text = holds-ok BadHook _ good.0 good.1;
      whole = whole.0;
      exit = exit.1;
    })

pub record ReadsHooks (d : Data) (h : Hooks) : Type 0 where
  pub pre_failover : optional (codes "pre_failover") hook_list_in [] d ≡ Ok h.pre_failover
  pub post_failover : optional (codes "post_failover") hook_list_in [] d ≡ Ok h.post_failover
  pub post_unsuccessful : optional (codes "post_unsuccessful") hook_list_in [] d ≡ Ok h.post_unsuccessful

pub hooks-ok : (d : Data) (h : Hooks) → hooks_in d ≡ Ok h → ReadsHooks d h
unfolding hooks_in
hooks-ok d h e =
    let members = bind-ok (members_in d) _ h e in
    let keys = bind-ok (only_keys hook_keys members.0) _ h members.2 in
    let pre_failover = bind-ok (optional (codes "pre_failover") hook_list_in [] d) _ h keys.2 in
    let post_failover = bind-ok (optional (codes "post_failover") hook_list_in [] d) _ h pre_failover.2 in
    let post_unsuccessful = bind-ok (optional (codes "post_unsuccessful") hook_list_in [] d) _ h post_failover.2 in
    subst (ReadsHooks d)
    (same_Ok (record { pre_failover = pre_failover.0; post_failover = post_failover.0; post_unsuccessful = post_unsuccessful.0 }) h post_unsuccessful.2)
    (record { pre_failover = pre_failover.1; post_failover = post_failover.1; post_unsuccessful = post_unsuccessful.1 })

-- ---- the keys before the servers

pub record ReadsHead (d : Data) (h : Head) : Type 0 where
  pub moment : optional (codes "now") (number_in 0 1000000000000000) 0 d ≡ Ok h.moment
  pub pseudo : optional (codes "pseudo") (number_in 0 1000000) 0 d ≡ Ok h.pseudo
  pub nodes : optional (codes "nodes") (number_in 1 16) 1 d ≡ Ok h.nodes
  pub block : optional (codes "block") period_in 3600 d ≡ Ok h.block
  pub blocks : optional (codes "blocks") blocks_in [] d ≡ Ok h.blocks
  pub aliases : optional (codes "aliases") aliases_in [] d ≡ Ok h.aliases
  pub filters : optional (codes "filters") filters_in no_filters d ≡ Ok h.filters
  pub hooks : optional (codes "hooks") hooks_in no_hooks d ≡ Ok h.hooks

pub head-ok : (d : Data) (h : Head) → head_in d ≡ Ok h → ReadsHead d h
unfolding head_in
head-ok d h e =
    let version = bind-ok (needed (codes "version") one_in d) _ h e in
    let moment = bind-ok (optional (codes "now") (number_in 0 1000000000000000) 0 d) _ h version.2 in
    let gtid = bind-ok (optional (codes "gtid") bool_in _ d) _ h moment.2 in
    let pseudo = bind-ok (optional (codes "pseudo") (number_in 0 1000000) 0 d) _ h gtid.2 in
    let nodes = bind-ok (optional (codes "nodes") (number_in 1 16) 1 d) _ h pseudo.2 in
    let block = bind-ok (optional (codes "block") period_in 3600 d) _ h nodes.2 in
    let blocks = bind-ok (optional (codes "blocks") blocks_in [] d) _ h block.2 in
    let aliases = bind-ok (optional (codes "aliases") aliases_in [] d) _ h blocks.2 in
    let filters = bind-ok (optional (codes "filters") filters_in no_filters d) _ h aliases.2 in
    let hooks = bind-ok (optional (codes "hooks") hooks_in no_hooks d) _ h filters.2 in
    let made : Head = record {
      moment = moment.0;
      gtid = gtid.0;
      pseudo = pseudo.0;
      nodes = nodes.0;
      block = block.0;
      blocks = blocks.0;
      aliases = aliases.0;
      filters = filters.0;
      hooks = hooks.0;
    } in
    subst (ReadsHead d) {x = made} (same_Ok made h hooks.2) (record {
      moment = moment.1;
      pseudo = pseudo.1;
      nodes = nodes.1;
      block = block.1;
      blocks = blocks.1;
      aliases = aliases.1;
      filters = filters.1;
      hooks = hooks.1;
    })

-- ---- the opening

never : {A : Type 0} (code : FaultCode) (parts : List (List ℕ)) (x : A) → fails_at code parts ≡ Ok x → ⊥
never code [] x e = cc
never code (part ∷ parts) x e = never code parts x (under-ok part (fails_at code parts) x e)

-- it is of the servers without a flaw, few of them
pub record Opens (servers : List ServerInit) (gtid : Bool) (o : Opened) : Type 0 where
  pub small : is_small (length servers) (listed_count servers) ≡ true
  pub sound : flaw_in servers ≡ None
  pub is : opening servers gtid ≡ o

pub opening-ok : (servers : List ServerInit) (gtid : Bool) (o : Opened) → opening_in servers gtid ≡ Ok o → Opens servers gtid o
unfolding opening_in
opening-ok servers gtid o e =
    let small = bind-ok (holds TooLarge (is_small (length servers) (listed_count servers))) _ o e in
    go (holds-ok TooLarge _ small.0 small.1) (flaw_in servers) refl small.2
  where
    go : is_small (length servers) (listed_count servers) ≡ true → (f : Option (Flaw × ℕ)) → flaw_in servers ≡ f
        → opening_or_fails (opening_or (opening servers gtid) (found_of servers f)) ≡ Ok o → Opens servers gtid o
    go small None none e = record { small = small; sound = none; is = same_Ok (opening servers gtid) o e }
    go small (Some f) some e = absurd (never (code_of f.0) (codes "servers" ∷ decimal f.1 ∷ keys_of (value_at servers f.0 f.1)) o e)

-- of these servers
pub opening-same : (servers : List ServerInit) (gtid : Bool) (o : Opened) → opening_in servers gtid ≡ Ok o → o.servers ≡ servers
opening-same servers gtid o e = sym (ap (λ (x : Opened). x.servers) (opening-ok servers gtid o e).is)

-- ---- the whole

abbrev pub made_of : Head → List Given → Opened → List Turn → Scenario
made_of head gs o ts = record {
  opening = o;
  moment = record { 0 = head.moment };
  pseudo = head.pseudo;
  nodes = head.nodes;
  block = head.block;
  blocks = head.blocks;
  aliases = head.aliases;
  filters = answered head.filters head.aliases o.servers;
  hooks = head.hooks;
  known = known_of gs;
  rules = rules_of gs;
  turns = ts;
}

pub record ReadsWith (head : Head) (given : List (Option HostPort) × List Given) (items : Items) (s : Scenario) : Type 0 where
  pub opened : Opened
  pub opens : opening_in (inits_of given.1) head.gtid ≡ Ok opened
  pub turns : List Turn
  pub lists : turns_in given.0 opened.servers head.nodes items ≡ Ok turns
  pub is : made_of head given.1 opened turns ≡ s

pub with-ok : (head : Head) (given : List (Option HostPort) × List Given) (items : Items) (s : Scenario) → scenario_with head given items ≡ Ok s → ReadsWith head given items s
unfolding scenario_with
with-ok head given items s e =
    let o = bind-ok (opening_in (inits_of given.1) head.gtid) _ s e in
    let ts = bind-ok (turns_in given.0 o.0.servers head.nodes items) _ s o.2 in
    record { opened = o.0; opens = o.1; turns = ts.0; lists = ts.1; is = same_Ok (made_of head given.1 o.0 ts.0) s ts.2 }

pub record ReadsFrom (d : Data) (s : Scenario) : Type 0 where
  pub head : Head
  pub heads : head_in d ≡ Ok head
  pub servers : Data
  pub there : get (codes "servers") d ≡ Some servers
  pub given : List (Option HostPort) × List Given
  pub gives : servers_in head.gtid servers ≡ Ok given
  pub items : Items
  pub whole : scenario_with head given items ≡ Ok s

pub from-ok : (d : Data) (s : Scenario) → scenario_from d ≡ Ok s → ReadsFrom d s
unfolding scenario_from
from-ok d s e =
    let keys = bind-ok (keys_in d) _ s e in
    let head = bind-ok (head_in d) _ s keys.2 in
    let given = bind-ok (needed (codes "servers") (servers_in head.0.gtid) d) _ s head.2 in
    let listed = bind-ok (optional (codes "turns") items_in no_items d) _ s given.2 in
    let servers = needed-ok (codes "servers") (servers_in head.0.gtid) d given.0 given.1 in
    record {
      head = head.0;
      heads = head.1;
      servers = servers.0;
      there = servers.1;
      given = given.0;
      gives = servers.2;
      items = listed.0;
      whole = listed.2;
    }
