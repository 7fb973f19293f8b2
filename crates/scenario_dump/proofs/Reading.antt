-- The value of the world reads back.
use Rattle.scenario_dump.proofs.Lines.{All-rest}
use Rattle.std.proofs.Common.{◌≡◌, ◌∙◌, ◌<◌, ℕ, zero, suc, ◌+◌, ◌^◌, true, ◌∷◌, List, [], Option, Some, None, refl, ap, arith, All, codes, map, slice_get}
use Rattle.scenario_dump.proofs.Prelude.{Alias, Block, ClusterFilters, Coord, Data, Hook, Hooks, IsReadable, IsRising, Less, Members, Part, Scenario}
use Rattle.scenario_dump.proofs.Prelude.{Server, ServerInit, ServerNo, World, aliases_data, blocks_data, count_data, dump_data, dump_text}
use Rattle.scenario_dump.proofs.Prelude.{filters_data, hook_data, hooks_data, init_by, init_of, items_of, list_data, member, nat_cmp}
use Rattle.scenario_dump.proofs.Prelude.{nat_list_cmp_total, no_members, object, opening_of, ordering_reverse, part_data, read, server_data}
use Rattle.scenario_dump.proofs.Prelude.{slice_cmp, source_in, string}
use Rattle.scenario_dump.proofs.Prelude.Promises.{HasNumbers}
use Rattle.scenario_dump.proofs.ReadBack.{is_after, EachReads, Reads, ReadsItems, above, behind, both, reads_array, reads_flag, reads_item, reads_no_items, reads_number, reads_object, reads_rising, reads_string, reads_text, rise}

-- ---- lists

All-first : {A : Type 0} (P : A → Type 0) (x : A) (xs : List A) → All P (x ∷ xs) → P x
All-first P x xs all = all 0 x (omega arith)

reads_items : {A : Type 0} (k : ℕ) (f : A → Data) (P : A → Type 0) (xs : List A) → ((x : A) → P x → Reads k (f x)) → All P xs → ReadsItems k (items_of f xs)
reads_items k f P [] each all = reads_no_items k
reads_items k f P (x ∷ xs) each all = reads_item k (f x) (items_of f xs) (each x (All-first P x xs all)) (reads_items k f P xs each (All-rest P x xs all))

reads_list : {A : Type 0} (k : ℕ) (f : A → Data) (P : A → Type 0) (xs : List A) → ((x : A) → P x → Reads k (f x)) → All P xs → Reads (k + 1) (list_data f xs)
reads_list k f P xs each all = reads_array k (items_of f xs) (reads_items k f P xs each all)

reads_texts : (k : ℕ) (xs : List (List ℕ)) → Reads (k + 1) (list_data string xs)
reads_texts k xs = reads_list k string (λ x. Unit {0}) xs (λ x u. reads_string k x) (λ i d below. tt)

-- ---- members by their labels

later_after : (a b : List ℕ) → slice_cmp nat_cmp a b ≡ Less → is_after (slice_cmp nat_cmp b a) ≡ true
later_after a b less = ap is_after (nat_list_cmp_total.antisymm b a ∙ ap ordering_reverse less)

rest_rises : (l : List ℕ) (ls : List (List ℕ)) → IsRising (l ∷ ls) → IsRising ls
rest_rises l ls rising = λ i j a b at_i at_j less. rising (suc i) (suc j) a b at_i at_j (omega arith)

-- what is before is before each of these
abbrev IsBefore : Members → List (List ℕ) → Type 0
IsBefore found ls = (j : ℕ) (b : List ℕ) → slice_get ls j ≡ Some b → above b found ≡ true

above-behind : (k l : List ℕ) (d : Data) (found : Members) → above k found ≡ true → is_after (slice_cmp nat_cmp k l) ≡ true → above k (behind found (member l d no_members)) ≡ true
above-behind k l d no_members all last = rw last refl
above-behind k l d (member m e ms) all last = let p = both (is_after (slice_cmp nat_cmp k m)) (above k ms) all in rw (p.0) (above-behind k l d ms p.1 last)

before_rest : (found : Members) (l : List ℕ) (d : Data) (ls : List (List ℕ)) → IsBefore found (l ∷ ls) → IsRising (l ∷ ls) → IsBefore (behind found (member l d no_members)) ls
before_rest found l d ls before rising = λ j b there. above-behind b l d found (before (suc j) b there) (later_after l b (rising zero (suc j) l b refl there (omega arith)))

aliases_rise : (found : Members) (xs : List Alias) → IsBefore found (map (λ a. a.cluster) xs) → IsRising (map (λ a. a.cluster) xs) → rise found (aliases_data xs) ≡ true
aliases_rise found [] before rising = refl
aliases_rise found (x ∷ xs) before rising =
    rw (before zero x.cluster refl)
    (aliases_rise (behind found (member x.cluster (string x.alias) no_members)) xs (before_rest found x.cluster (string x.alias) (map (λ a. a.cluster) xs) before rising) (rest_rises x.cluster (map (λ a. a.cluster) xs) rising))

blocks_rise : (found : Members) (xs : List Block) → IsBefore found (map (λ b. b.cluster) xs) → IsRising (map (λ b. b.cluster) xs) → rise found (blocks_data xs) ≡ true
blocks_rise found [] before rising = refl
blocks_rise found (x ∷ xs) before rising =
    rw (before zero x.cluster refl)
    (blocks_rise (behind found (member x.cluster (count_data x.seconds) no_members)) xs (before_rest found x.cluster (count_data x.seconds) (map (λ b. b.cluster) xs) before rising) (rest_rises x.cluster (map (λ b. b.cluster) xs) rising))

aliases_each : (k : ℕ) (xs : List Alias) → EachReads k (aliases_data xs)
aliases_each k [] = tt
aliases_each k (x ∷ xs) = (reads_string k x.alias, aliases_each k xs)

blocks_each : (k : ℕ) (xs : List Block) → All (λ b. b.seconds < 2 ^ 64) xs → EachReads k (blocks_data xs)
blocks_each k [] small = tt
blocks_each k (x ∷ xs) small = (reads_number k x.seconds (All-first (λ b. b.seconds < 2 ^ 64) x xs small), blocks_each k xs (All-rest (λ b. b.seconds < 2 ^ 64) x xs small))

reads_aliases : (k : ℕ) (xs : List Alias) → IsRising (map (λ a. a.cluster) xs) → Reads (k + 1) (object (aliases_data xs))
reads_aliases k xs rising = reads_object k (aliases_data xs) (reads_rising k no_members (aliases_data xs) (aliases_rise no_members xs (λ j b there. refl) rising) (aliases_each k xs))

reads_blocks : (k : ℕ) (xs : List Block) → IsRising (map (λ b. b.cluster) xs) → All (λ b. b.seconds < 2 ^ 64) xs → Reads (k + 1) (object (blocks_data xs))
reads_blocks k xs rising small = reads_object k (blocks_data xs) (reads_rising k no_members (blocks_data xs) (blocks_rise no_members xs (λ j b there. refl) rising) (blocks_each k xs small))

reads_filters : (f : ClusterFilters) → Reads 4 (filters_data f)
reads_filters f =
    reads_object 3 (member (codes "intermediate") (list_data string f.intermediate.texts) (member (codes "master") (list_data string f.master.texts) no_members))
    (reads_rising 3 no_members (member (codes "intermediate") (list_data string f.intermediate.texts) (member (codes "master") (list_data string f.master.texts) no_members)) refl
    (reads_texts 2 f.intermediate.texts, (reads_texts 2 f.master.texts, tt)))

-- ---- hooks

abbrev IsSmallHook : Hook → Type 0
IsSmallHook h = h.exit < 2 ^ 64

reads_hook : (h : Hook) → IsSmallHook h → Reads 2 (hook_data h)
reads_hook h small = reads_array 1 _ (reads_item 1 _ _ (reads_string 1 h.text) (reads_item 1 _ _ (reads_number 1 h.exit small) (reads_no_items 1)))

reads_hook_items : (hs : List Hook) → All IsSmallHook hs → ReadsItems 2 (items_of hook_data hs)
reads_hook_items [] small = reads_no_items 2
reads_hook_items (h ∷ hs) small = reads_item 2 (hook_data h) (items_of hook_data hs) (reads_hook h (All-first IsSmallHook h hs small)) (reads_hook_items hs (All-rest IsSmallHook h hs small))

reads_hook_list : (hs : List Hook) → All IsSmallHook hs → Reads 3 (list_data hook_data hs)
reads_hook_list hs small = reads_array 2 (items_of hook_data hs) (reads_hook_items hs small)

reads_hooks : (h : Hooks) → All IsSmallHook h.pre_failover → All IsSmallHook h.post_failover → All IsSmallHook h.post_unsuccessful → Reads 4 (hooks_data h)
reads_hooks h pre_failover post_failover post_unsuccessful =
    reads_object 3 _
    (reads_rising 3 no_members _ refl (reads_hook_list h.post_failover post_failover, (reads_hook_list h.post_unsuccessful post_unsuccessful, (reads_hook_list h.pre_failover pre_failover, tt))))

-- ---- servers

record IsPartOf (p : Part) : Type 0 where
  size : p.size < 2 ^ 64
  count : p.count < 2 ^ 64

parts_are : (ps : List Part) → All (λ p. p.size < 2 ^ 64) ps → All (λ p. p.count < 2 ^ 64) ps → All IsPartOf ps
parts_are ps sizes counts = λ k d below. record { size = sizes k d below; count = counts k d below }

reads_part : (servers : List ServerInit) (p : Part) → IsPartOf p → Reads 1 (part_data servers p)
reads_part servers p is =
    reads_array 0 _ (reads_item 0 _ _ (reads_string 0 _) (reads_item 0 _ _ (reads_number 0 p.size is.size) (reads_item 0 _ _ (reads_number 0 p.count is.count) (reads_no_items 0))))

reads_counts : (ns : List ℕ) → All (λ n. n < 2 ^ 64) ns → Reads 2 (list_data count_data ns)
reads_counts ns small = reads_list 1 count_data (λ n. n < 2 ^ 64) ns (reads_number 1) small

reads_parts : (servers : List ServerInit) (ps : List Part) → All (λ p. p.size < 2 ^ 64) ps → All (λ p. p.count < 2 ^ 64) ps → Reads 2 (list_data (part_data servers) ps)
reads_parts servers ps sizes counts = reads_list 1 (part_data servers) IsPartOf ps (reads_part servers) (parts_are ps sizes counts)

-- a server without a source, and one with a source
reads_root : (servers : List ServerInit) (s : Server) → HasNumbers (init_by s None) → Reads 3 (server_data servers (init_by s None))
unfolding server_data
reads_root servers s has =
    reads_object 2 _
    (reads_rising 2 no_members _ refl (
      reads_string 2 _,
      (
        reads_string 2 _,
        (
          reads_flag 2 _,
          (
            reads_flag 2 _,
            (
              reads_counts _ has.flushes,
              (
                reads_parts servers _ has.sizes has.counts,
                (
                  reads_number 2 _ has.limit,
                  (
                    reads_flag 2 _,
                    (reads_string 2 _, (reads_number 2 _ has.purged, (reads_flag 2 _, (reads_number 2 _ has.id, (reads_flag 2 _, (reads_string 2 _, (reads_string 2 _, tt))))))),
                  ),
                ),
              ),
            ),
          ),
        ),
      ),
    ))

reads_replica : (servers : List ServerInit) (s : Server) (m : ServerNo) → HasNumbers (init_by s (Some m)) → Reads 3 (server_data servers (init_by s (Some m)))
unfolding server_data
reads_replica servers s m has = go s.until refl
  where
    go : (u : Option Coord) → s.until ≡ u → Reads 3 (server_data servers (init_by s (Some m)))
    go None e =
        rw e
        (reads_object 2 _
        (reads_rising 2 no_members _ refl (
          reads_string 2 _,
          (
            reads_flag 2 _,
            (
              reads_string 2 _,
              (
                reads_string 2 _,
                (
                  reads_flag 2 _,
                  (
                    reads_flag 2 _,
                    (
                      reads_number 2 _ has.executed,
                      (
                        reads_flag 2 _,
                        (
                          reads_counts _ has.flushes,
                          (
                            reads_flag 2 _,
                            (
                              reads_number 2 _ has.limit,
                              (
                                reads_flag 2 _,
                                (reads_string 2 _, (reads_number 2 _ has.purged, (reads_string 2 _, (reads_flag 2 _, (reads_number 2 _ has.id, (reads_string 2 _, (reads_flag 2 _, (reads_flag 2 _, (reads_string 2 _, (reads_string 2 _, tt)))))))))),
                              ),
                            ),
                          ),
                        ),
                      ),
                    ),
                  ),
                ),
              ),
            ),
          ),
        )))
    go (Some c) e =
        rw e
        (reads_object 2 _
        (reads_rising 2 no_members _ refl (
          reads_string 2 _,
          (
            reads_flag 2 _,
            (
              reads_string 2 _,
              (
                reads_string 2 _,
                (
                  reads_flag 2 _,
                  (
                    reads_flag 2 _,
                    (
                      reads_number 2 _ has.executed,
                      (
                        reads_flag 2 _,
                        (
                          reads_counts _ has.flushes,
                          (
                            reads_flag 2 _,
                            (
                              reads_number 2 _ has.limit,
                              (
                                reads_flag 2 _,
                                (reads_string 2 _, (reads_number 2 _ has.purged, (reads_string 2 _, (reads_flag 2 _, (reads_number 2 _ has.id, (reads_string 2 _, (reads_flag 2 _, (reads_string 2 _, (reads_flag 2 _, (reads_string 2 _, (reads_string 2 _, tt))))))))))),
                              ),
                            ),
                          ),
                        ),
                      ),
                    ),
                  ),
                ),
              ),
            ),
          ),
        )))

reads_by : (servers : List ServerInit) (s : Server) (o : Option ServerNo) → HasNumbers (init_by s o) → Reads 3 (server_data servers (init_by s o))
reads_by servers s None has = reads_root servers s has
reads_by servers s (Some m) has = reads_replica servers s m has

reads_server : (servers : List ServerInit) (s : Server) → HasNumbers (init_of s) → Reads 3 (server_data servers (init_of s))
unfolding init_of
reads_server servers s has = reads_by servers s (source_in s.source) has

reads_servers : (servers : List ServerInit) (ss : List Server) → All HasNumbers (map init_of ss) → ReadsItems 3 (items_of (server_data servers) (map init_of ss))
reads_servers servers [] has = reads_no_items 3
reads_servers servers (s ∷ ss) has =
    reads_item 3 (server_data servers (init_of s)) (items_of (server_data servers) (map init_of ss)) (reads_server servers s (All-first HasNumbers (init_of s) (map init_of ss) has)) (reads_servers servers ss (All-rest HasNumbers (init_of s) (map init_of ss) has))

-- ---- the whole

reads_dump : (w : World) (s : Scenario) (now : ℕ) → IsReadable w s now → Reads 5 (dump_data w s now)
unfolding dump_data opening_of
reads_dump w s now is =
    reads_object 4 _
    (reads_rising 4 no_members _ refl (
      reads_aliases 3 s.aliases is.aliases,
      (
        reads_number 4 s.block is.block,
        (
          reads_blocks 3 s.blocks is.blocks is.periods,
          (
            reads_filters s.filters,
            (
              reads_flag 4 w.gtid,
              (
                reads_hooks s.hooks is.pre_failover is.post_failover is.post_unsuccessful,
                (
                  reads_number 4 s.nodes is.nodes,
                  (
                    reads_number 4 now is.moment,
                    (
                      reads_number 4 s.pseudo is.pseudo,
                      (reads_array 3 _ (reads_servers (opening_of w).servers w.servers is.servers), (reads_array 3 _ (reads_no_items 3), (reads_number 4 1 (omega arith), tt))),
                    ),
                  ),
                ),
              ),
            ),
          ),
        ),
      ),
    ))

pub dump_reads : (w : World) (s : Scenario) (now : ℕ) → IsReadable w s now → read (dump_text w s now) ≡ Some (dump_data w s now)
unfolding dump_text
dump_reads w s now is = reads_text 5 (dump_data w s now) (omega arith) (reads_dump w s now is)
