-- What was read of a scenario reads back: what it has before its servers, its filters' answers, and its settings.
use Rattle.std.proofs.Common.{◌≡◌, ◌∙◌, ◌≤◌, ℕ, Bool, true, false, leb, List, [], map, All, Ok, Option, Some, None, IsUtf8, refl, sym, ap, subst, arith, codes, decimal, if◌then◌else◌}
use Rattle.read_back_laws.proofs.Prelude.{Alias, All-cons, All-nil, BadHook, BadPattern, Block, Data, FilterTexts, Head, Hook, Hooks, IsUtf8-are_ascii, Items}
use Rattle.read_back_laws.proofs.Prelude.{alias_in, aliases_in, bind-ok, block_in, blocks_in, everything, exit_or_fails, fails, filter_in, filter_keys}
use Rattle.read_back_laws.proofs.Prelude.{filters_in, form_of, has_pattern, head-ok, head_in, holds, holds-ok, hook-ok, hook_in, hook_list_in, hooks-ok}
use Rattle.read_back_laws.proofs.Prelude.{hooks_in, item, items_in, label_or_fails, leb-true, list_in, members_in, no_filters, no_hooks, no_items, number-ok}
use Rattle.read_back_laws.proofs.Prelude.{number_in, only_keys, optional, period_in, same_Ok, text_in, text_within, two_of, under-ok}
use Rattle.read_back_laws.proofs.Heads.{IsAlias, IsBlock, IsHookText, AreHookTexts}
use Rattle.read_back_laws.proofs.ReadData as got
use Rattle.read_back_laws.proofs.ReadData.{IsAt, IsFromText, Rise, each-item, each-value, got-read, items-are, ItemsFromText, members-are, optional-at, text-is, values-rise}
use Rattle.read_back_laws.proofs.ReadValues.{label-passed, short-passed, text-ok}

-- ---- block periods

-- what is read of members that have their labels: each has its ranges, and the labels rise
record AreBlocks (bs : List Block) : Type 0 where
  each : All IsBlock bs
  rise : Rise (map (λ b. b.cluster) bs)

block-has : (label : List ℕ) (d : Data) (b : Block) → IsUtf8 label → IsFromText d → block_in label d ≡ Ok b → IsBlock b
unfolding block_in
block-has label d b u read e =
    let cluster = bind-ok (label_or_fails label) _ b e in
    let seconds = bind-ok (period_in d) _ b cluster.2 in
    subst IsBlock (same_Ok (record { cluster = cluster.0; seconds = seconds.0 }) b seconds.2)
    (record { cluster = label-passed label cluster.0 u cluster.1; seconds = (number-ok 0 1000000000 d seconds.0 seconds.1).1 })

block-own : (label : List ℕ) (d : Data) (b : Block) → block_in label d ≡ Ok b → b.cluster ≡ label
unfolding block_in
block-own label d b e =
    let cluster = bind-ok (label_or_fails label) _ b e in
    let seconds = bind-ok (period_in d) _ b cluster.2 in
    let same : label ≡ cluster.0 = (text-ok 1 261 label cluster.0 cluster.1).same in
    sym (ap (λ (x : Block). x.cluster) (same_Ok (record { cluster = cluster.0; seconds = seconds.0 }) b seconds.2)) ∙ sym same

blocks-have : (d : Data) (bs : List Block) → IsFromText d → blocks_in d ≡ Ok bs → AreBlocks bs
unfolding blocks_in
blocks-have d bs read e =
    let members = bind-ok (members_in d) _ bs e in
    let texts = members-are d members.0 read members.1 in
    record {
      each = each-value IsBlock block_in block-has members.0 bs texts members.2;
      rise = values-rise (λ (b : Block). b.cluster) block_in block-own members.0 bs texts members.2;
    }

-- ---- aliases

record AreAliases (xs : List Alias) : Type 0 where
  each : All IsAlias xs
  rise : Rise (map (λ a. a.cluster) xs)

alias-has : (label : List ℕ) (d : Data) (a : Alias) → IsUtf8 label → IsFromText d → alias_in label d ≡ Ok a → IsAlias a
unfolding alias_in
alias-has label d a u read e =
    let cluster = bind-ok (label_or_fails label) _ a e in
    let text = bind-ok (text_in d) _ a cluster.2 in
    let alias = bind-ok (text_within 0 255 text.0) _ a text.2 in
    let short = short-passed text.0 alias.0 (text-is d text.0 read text.1) alias.1 in
    subst IsAlias (same_Ok (record { cluster = cluster.0; alias = alias.0 }) a alias.2)
    (record { cluster = label-passed label cluster.0 u cluster.1; alias = short.short; text = short.text })

alias-own : (label : List ℕ) (d : Data) (a : Alias) → alias_in label d ≡ Ok a → a.cluster ≡ label
unfolding alias_in
alias-own label d a e =
    let cluster = bind-ok (label_or_fails label) _ a e in
    let text = bind-ok (text_in d) _ a cluster.2 in
    let alias = bind-ok (text_within 0 255 text.0) _ a text.2 in
    let same : label ≡ cluster.0 = (text-ok 1 261 label cluster.0 cluster.1).same in
    sym (ap (λ (x : Alias). x.cluster) (same_Ok (record { cluster = cluster.0; alias = alias.0 }) a alias.2)) ∙ sym same

aliases-have : (d : Data) (xs : List Alias) → IsFromText d → aliases_in d ≡ Ok xs → AreAliases xs
unfolding aliases_in
aliases-have d xs read e =
    let members = bind-ok (members_in d) _ xs e in
    let texts = members-are d members.0 read members.1 in
    record {
      each = each-value IsAlias alias_in alias-has members.0 xs texts members.2;
      rise = values-rise (λ (a : Alias). a.cluster) alias_in alias-own members.0 xs texts members.2;
    }

-- ---- filters

pub record IsFilter (text : List ℕ) : Type 0 where
  pub pattern : has_pattern (form_of text) ≡ true
  pub utf8 : IsUtf8 text

filter-has : (d : Data) (text : List ℕ) → IsFromText d → filter_in d ≡ Ok text → IsFilter text
unfolding filter_in
filter-has d text read e =
    let t = bind-ok (text_in d) _ text e in
    let good = bind-ok (holds BadPattern (has_pattern (form_of t.0))) _ text t.2 in
    subst IsFilter (same_Ok t.0 text good.2) (record { pattern = holds-ok BadPattern _ good.0 good.1; utf8 = text-is d t.0 read t.1 })

list-has : (d : Data) (texts : List (List ℕ)) → IsFromText d → list_in d ≡ Ok texts → All IsFilter texts
unfolding list_in
list-has d texts read e =
    let items = bind-ok (items_in d) _ texts e in
    each-item IsFilter (λ n d. filter_in d) (λ n d t u f. filter-has d t u f) 0 items.0 texts (items-are d items.0 read items.1) items.2

all-filter : All IsFilter everything
all-filter = All-cons IsFilter (codes "*") [] (record { pattern = refl; utf8 = IsUtf8-are_ascii (codes "*") refl }) (All-nil IsFilter)

record AreFilters (f : FilterTexts) : Type 0 where
  master : All IsFilter f.master
  intermediate : All IsFilter f.intermediate

filters-have : (d : Data) (f : FilterTexts) → IsFromText d → filters_in d ≡ Ok f → AreFilters f
unfolding filters_in
filters-have d f read e =
    let members = bind-ok (members_in d) _ f e in
    let keys = bind-ok (only_keys filter_keys members.0) _ f members.2 in
    let master = bind-ok (optional (codes "master") list_in everything d) _ f keys.2 in
    let intermediate = bind-ok (optional (codes "intermediate") list_in everything d) _ f master.2 in
    subst AreFilters (same_Ok (record { master = master.0; intermediate = intermediate.0 }) f intermediate.2) (record {
      master = by (codes "master") master.0 (optional-at (codes "master") list_in everything d master.0 master.1);
      intermediate = by (codes "intermediate") intermediate.0 (optional-at (codes "intermediate") list_in everything d intermediate.0 intermediate.1);
    })
  where
    by : (key : List ℕ) (texts : List (List ℕ)) → IsAt key list_in everything d texts → All IsFilter texts
    by key texts (got.absent is) = subst (All IsFilter) (sym is) all-filter
    by key texts (got.there v at e) = list-has v texts (got-read key d v read at) e

-- ---- hooks

exit-small : (o : Option ℕ) (n : ℕ) → exit_or_fails o ≡ Ok n → n ≤ 255
exit-small None n e = absurd cc
exit-small (Some k) n e = go (leb k 255) refl e
  where
    go : (b : Bool) → leb k 255 ≡ b → (if b then Ok k else fails BadHook) ≡ Ok n → n ≤ 255
    go true low e = subst (λ (m : ℕ). m ≤ 255) (same_Ok k n e) (leb-true k 255 low)
    go false low e = absurd cc

first-from : (ds : Items) (p : Data × Data) → ItemsFromText ds → two_of ds ≡ Ok p → IsFromText p.0
first-from no_items p all e = absurd cc
first-from (item a no_items) p all e = absurd cc
first-from (item a (item b no_items)) p all e = subst (λ (q : Data × Data). IsFromText q.0) (same_Ok (a, b) p e) all.0
first-from (item a (item b (item c ds))) p all e = absurd cc

hook-has : (d : Data) (h : Hook) → IsFromText d → hook_in d ≡ Ok h → IsHookText h
hook-has d h read e =
    let r = hook-ok d h e in
    record {
      is = r.is_text;
      exit = exit-small r.whole h.exit r.exit;
      text = text-is r.parts.0 h.text (first-from r.items r.parts (items-are d r.items read r.lists) r.two) (under-ok (decimal 0) (text_in r.parts.0) h.text r.text);
    }

hooks-list-has : (d : Data) (hs : List Hook) → IsFromText d → hook_list_in d ≡ Ok hs → All IsHookText hs
unfolding hook_list_in
hooks-list-has d hs read e =
    let items = bind-ok (items_in d) _ hs e in
    each-item IsHookText (λ n d. hook_in d) (λ n d h u f. hook-has d h u f) 0 items.0 hs (items-are d items.0 read items.1) items.2

hooks-have : (d : Data) (h : Hooks) → IsFromText d → hooks_in d ≡ Ok h → AreHookTexts h
hooks-have d h read e =
    let r = hooks-ok d h e in
    record {
      pre_failover = by (codes "pre_failover") h.pre_failover (optional-at (codes "pre_failover") hook_list_in [] d h.pre_failover r.pre_failover);
      post_failover = by (codes "post_failover") h.post_failover (optional-at (codes "post_failover") hook_list_in [] d h.post_failover r.post_failover);
      post_unsuccessful = by (codes "post_unsuccessful") h.post_unsuccessful (optional-at (codes "post_unsuccessful") hook_list_in [] d h.post_unsuccessful r.post_unsuccessful);
    }
  where
    by : (key : List ℕ) (hs : List Hook) → IsAt key hook_list_in [] d hs → All IsHookText hs
    by key hs (got.absent is) = subst (All IsHookText) (sym is) (All-nil IsHookText)
    by key hs (got.there v at e) = hooks-list-has v hs (got-read key d v read at) e

-- ---- all of it

pub record IsHead (h : Head) : Type 0 where
  pub some_node : 1 ≤ h.nodes
  pub few_nodes : h.nodes ≤ 16
  pub pseudo : h.pseudo ≤ 1000000
  pub block : h.block ≤ 1000000000
  pub blocks : All IsBlock h.blocks
  pub aliases : All IsAlias h.aliases
  pub master : All IsFilter h.filters.master
  pub intermediate : All IsFilter h.filters.intermediate
  pub aliases_rise : Rise (map (λ a. a.cluster) h.aliases)
  pub blocks_rise : Rise (map (λ b. b.cluster) h.blocks)
  pub hooks : AreHookTexts h.hooks

pub head-has : (d : Data) (h : Head) → IsFromText d → head_in d ≡ Ok h → IsHead h
head-has d h read e =
    let r = head-ok d h e in
    let bs = block-list h.blocks (optional-at (codes "blocks") blocks_in [] d h.blocks r.blocks) in
    let as' = alias-list h.aliases (optional-at (codes "aliases") aliases_in [] d h.aliases r.aliases) in
    let fs = filter-lists h.filters (optional-at (codes "filters") filters_in no_filters d h.filters r.filters) in
    let of = of_nodes h.nodes (optional-at (codes "nodes") (number_in 1 16) 1 d h.nodes r.nodes) in
    record {
      some_node = of.0;
      few_nodes = of.1;
      pseudo = marks h.pseudo (optional-at (codes "pseudo") (number_in 0 1000000) 0 d h.pseudo r.pseudo);
      block = period h.block (optional-at (codes "block") period_in 3600 d h.block r.block);
      blocks = bs.each;
      aliases = as'.each;
      master = fs.master;
      intermediate = fs.intermediate;
      aliases_rise = as'.rise;
      blocks_rise = bs.rise;
      hooks = hook-lists h.hooks (optional-at (codes "hooks") hooks_in no_hooks d h.hooks r.hooks);
    }
  where
    of_nodes : (n : ℕ) → IsAt (codes "nodes") (number_in 1 16) 1 d n → (1 ≤ n) × (n ≤ 16)
    of_nodes n (got.absent is) = (omega arith, omega arith)
    of_nodes n (got.there v at e) = number-ok 1 16 v n e

    period : (n : ℕ) → IsAt (codes "block") period_in 3600 d n → n ≤ 1000000000
    period n (got.absent is) = omega arith
    period n (got.there v at e) = (number-ok 0 1000000000 v n e).1

    marks : (n : ℕ) → IsAt (codes "pseudo") (number_in 0 1000000) 0 d n → n ≤ 1000000
    marks n (got.absent is) = omega arith
    marks n (got.there v at e) = (number-ok 0 1000000 v n e).1

    block-list : (bs : List Block) → IsAt (codes "blocks") blocks_in [] d bs → AreBlocks bs
    block-list bs (got.absent is) = subst AreBlocks (sym is) (record { each = All-nil IsBlock; rise = tt })
    block-list bs (got.there v at e) = blocks-have v bs (got-read (codes "blocks") d v read at) e

    alias-list : (xs : List Alias) → IsAt (codes "aliases") aliases_in [] d xs → AreAliases xs
    alias-list xs (got.absent is) = subst AreAliases (sym is) (record { each = All-nil IsAlias; rise = tt })
    alias-list xs (got.there v at e) = aliases-have v xs (got-read (codes "aliases") d v read at) e

    hook-lists : (h : Hooks) → IsAt (codes "hooks") hooks_in no_hooks d h → AreHookTexts h
    hook-lists h (got.absent is) = subst AreHookTexts (sym is) (record { pre_failover = All-nil IsHookText; post_failover = All-nil IsHookText; post_unsuccessful = All-nil IsHookText })
    hook-lists h (got.there v at e) = hooks-have v h (got-read (codes "hooks") d v read at) e

    filter-lists : (f : FilterTexts) → IsAt (codes "filters") filters_in no_filters d f → AreFilters f
    filter-lists f (got.absent is) = subst AreFilters (sym is) (record { master = all-filter; intermediate = all-filter })
    filter-lists f (got.there v at e) = filters-have v f (got-read (codes "filters") d v read at) e
