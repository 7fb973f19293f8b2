-- What a dump has before its servers reads as the scenario has it.
use Rattle.std.proofs.Common.{◌≡◌, ◌≤◌, ◌+◌, ℕ, true, List, [], ◌∷◌, length, map, All, Ok, IsUtf8, refl, arith, leb}
use Rattle.read_back_laws.proofs.Prelude.{Alias, All-head, All-tail, Block, ClusterFilters, FilterTexts, HavePatterns, Head, Hook, Hooks, Scenario, World}
use Rattle.read_back_laws.proofs.Prelude.{alias_in, aliases_data, aliases_in, block_in, blocks_data, blocks_in, count_data, dump_data, each_from, each_member}
use Rattle.read_back_laws.proofs.Prelude.{filter_in, filters_data, filters_in, form_of, has_pattern, head_in, hook_data, hook_in, hook_list_in, hooks_data}
use Rattle.read_back_laws.proofs.Prelude.{hooks_in, is_hook_text, items_of, keys_in, label_or_fails, le-leb, list_data, list_in, object, one_in, period_in}
use Rattle.read_back_laws.proofs.Prelude.{string, whole_of}
use Rattle.read_back_laws.proofs.ReadData.{Rise}
use Rattle.read_back_laws.proofs.Values.{number-reads}

-- a label that reads
pub record IsLabel (label : List ℕ) : Type 0 where
  pub some : 1 ≤ length label
  pub short : length label ≤ 261
  pub text : IsUtf8 label

pub record IsAlias (a : Alias) : Type 0 where
  pub cluster : IsLabel a.cluster
  pub alias : length a.alias ≤ 255
  pub text : IsUtf8 a.alias

pub record IsBlock (b : Block) : Type 0 where
  pub cluster : IsLabel b.cluster
  pub seconds : b.seconds ≤ 1000000000

label-passes : (label : List ℕ) → IsLabel label → label_or_fails label ≡ Ok label
label-passes label is =
    let least : leb 1 (length label) ≡ true = le-leb 1 (length label) is.some in
    let most : leb (length label) 261 ≡ true = le-leb (length label) 261 is.short in
    rw (least, most) refl

block-reads : (b : Block) → IsBlock b → block_in b.cluster (count_data b.seconds) ≡ Ok b
unfolding block_in
block-reads b is = rw (label-passes b.cluster is.cluster) (rw (number-reads 0 1000000000 b.seconds (omega arith) is.seconds) refl)

each-block : (bs : List Block) → All IsBlock bs → each_member block_in (blocks_data bs) ≡ Ok bs
each-block [] all = refl
each-block (b ∷ bs) all = rw (block-reads b (All-head IsBlock b bs all)) (rw (each-block bs (All-tail IsBlock b bs all)) refl)

pub blocks-read : (bs : List Block) → All IsBlock bs → blocks_in (object (blocks_data bs)) ≡ Ok bs
unfolding blocks_in
blocks-read bs all = each-block bs all

alias-reads : (a : Alias) → IsAlias a → alias_in a.cluster (string a.alias) ≡ Ok a
unfolding alias_in
alias-reads a is =
    let least : leb 0 (length a.alias) ≡ true = le-leb 0 (length a.alias) (omega arith) in
    let most : leb (length a.alias) 255 ≡ true = le-leb (length a.alias) 255 is.alias in
    rw (label-passes a.cluster is.cluster) (rw (least, most) refl)

each-alias : (xs : List Alias) → All IsAlias xs → each_member alias_in (aliases_data xs) ≡ Ok xs
each-alias [] all = refl
each-alias (a ∷ xs) all = rw (alias-reads a (All-head IsAlias a xs all)) (rw (each-alias xs (All-tail IsAlias a xs all)) refl)

pub aliases-read : (xs : List Alias) → All IsAlias xs → aliases_in (object (aliases_data xs)) ≡ Ok xs
unfolding aliases_in
aliases-read xs all = each-alias xs all

-- ---- filters

abbrev HasPattern : List ℕ → Type 0
HasPattern text = has_pattern (form_of text) ≡ true

filter-reads : (text : List ℕ) → HasPattern text → filter_in (string text) ≡ Ok text
unfolding filter_in
filter-reads text has = rw has refl

each-filter : (n : ℕ) (texts : List (List ℕ)) → HavePatterns texts → each_from (λ k d. filter_in d) n (items_of string texts) ≡ Ok texts
each-filter n [] all = refl
each-filter n (t ∷ ts) all = rw (filter-reads t (All-head HasPattern t ts all)) (rw (each-filter (n + 1) ts (All-tail HasPattern t ts all)) refl)

list-reads : (texts : List (List ℕ)) → HavePatterns texts → list_in (list_data string texts) ≡ Ok texts
unfolding list_in
list-reads texts all = each-filter 0 texts all

-- the texts of the lists
abbrev pub texts_of : ClusterFilters → FilterTexts
texts_of f = record { master = f.master.texts; intermediate = f.intermediate.texts }

pub filters-read : (f : ClusterFilters) → HavePatterns f.master.texts → HavePatterns f.intermediate.texts → filters_in (filters_data f) ≡ Ok (texts_of f)
unfolding filters_in
filters-read f master intermediate = rw (list-reads f.master.texts master) (rw (list-reads f.intermediate.texts intermediate) refl)

-- ---- hooks

-- a hook that reads
pub record IsHookText (h : Hook) : Type 0 where
  pub is : is_hook_text h.text ≡ true
  pub exit : h.exit ≤ 255
  pub text : IsUtf8 h.text

hook-reads : (h : Hook) → IsHookText h → hook_in (hook_data h) ≡ Ok h
unfolding hook_in whole_of
hook-reads h is =
    let few : leb h.exit 255 ≡ true = le-leb h.exit 255 is.exit in
    rw (is.is, few) refl

each-hook : (n : ℕ) (hs : List Hook) → All IsHookText hs → each_from (λ k d. hook_in d) n (items_of hook_data hs) ≡ Ok hs
each-hook n [] all = refl
each-hook n (h ∷ hs) all = rw (hook-reads h (All-head IsHookText h hs all)) (rw (each-hook (n + 1) hs (All-tail IsHookText h hs all)) refl)

hook-list-reads : (hs : List Hook) → All IsHookText hs → hook_list_in (list_data hook_data hs) ≡ Ok hs
unfolding hook_list_in
hook-list-reads hs all = each-hook 0 hs all

pub record AreHookTexts (h : Hooks) : Type 0 where
  pub pre_failover : All IsHookText h.pre_failover
  pub post_failover : All IsHookText h.post_failover
  pub post_unsuccessful : All IsHookText h.post_unsuccessful

pub hooks-read : (h : Hooks) → AreHookTexts h → hooks_in (hooks_data h) ≡ Ok h
unfolding hooks_in
hooks-read h are =
    rw (hook-list-reads h.pre_failover are.pre_failover)
    (rw (hook-list-reads h.post_failover are.post_failover) (rw (hook-list-reads h.post_unsuccessful are.post_unsuccessful) refl))

-- ---- the keys before the servers

-- what was read of a scenario before its servers reads back
pub record SaysReadable (s : Scenario) : Type 0 where
  pub some_node : 1 ≤ s.nodes
  pub few_nodes : s.nodes ≤ 16
  pub pseudo : s.pseudo ≤ 1000000
  pub block : s.block ≤ 1000000000
  pub blocks : All IsBlock s.blocks
  pub aliases : All IsAlias s.aliases
  pub master : HavePatterns s.filters.master.texts
  pub intermediate : HavePatterns s.filters.intermediate.texts
  pub master_texts : All IsUtf8 s.filters.master.texts
  pub intermediate_texts : All IsUtf8 s.filters.intermediate.texts
  pub aliases_rise : Rise (map (λ a. a.cluster) s.aliases)
  pub blocks_rise : Rise (map (λ b. b.cluster) s.blocks)
  pub hooks : AreHookTexts s.hooks

abbrev pub dumped_head : World → Scenario → ℕ → Head
dumped_head w s now = record {
  moment = now;
  gtid = w.gtid;
  pseudo = s.pseudo;
  nodes = s.nodes;
  block = s.block;
  blocks = s.blocks;
  aliases = s.aliases;
  filters = texts_of s.filters;
  hooks = s.hooks;
}

module _ (w : World) (s : Scenario) (now : ℕ) where
  pub keys-read : keys_in (dump_data w s now) ≡ Ok tt
  unfolding keys_in dump_data
  keys-read = refl

  pub head-reads : SaysReadable s → now ≤ 1000000000000000 → head_in (dump_data w s now) ≡ Ok (dumped_head w s now)
  unfolding head_in dump_data one_in
  head-reads says early =
      let moment = number-reads 0 1000000000000000 now (omega arith) early in
      let nodes = number-reads 1 16 s.nodes says.some_node says.few_nodes in
      let pseudo = number-reads 0 1000000 s.pseudo (omega arith) says.pseudo in
      let block : period_in (count_data s.block) ≡ Ok s.block = number-reads 0 1000000000 s.block (omega arith) says.block in
      let blocks = blocks-read s.blocks says.blocks in
      let aliases = aliases-read s.aliases says.aliases in
      let filters = filters-read s.filters says.master says.intermediate in
      let hooks = hooks-read s.hooks says.hooks in
      rw moment (rw pseudo (rw nodes (rw block (rw blocks (rw aliases (rw filters (rw hooks refl)))))))
