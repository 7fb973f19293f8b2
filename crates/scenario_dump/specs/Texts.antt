-- A world at a moment as a scenario without turns, as JSON: compact, in one line, the keys of each object in the order
-- of their bytes.
use Rattle.std.specs.Prelude.{ℕ, ◌++◌, List, [], ◌∷◌, Bool, codes, if◌then◌else◌, is_some, unwrap_or, option_map, slice_get, Option, Some, None}
use Rattle.scenario_dump.specs.Prelude.{Alias, Block, ClusterFilters, Coord, Data, Hook, Hooks, Items, Members, Part, Scenario, ServerInit, World}
use Rattle.scenario_dump.specs.Prelude.{array, boolean, compact_text, coord_text, item, member, no_items, no_members, number, object, printed, string}
use Rattle.scenario_dump.specs.Prelude.{unsigned, uuid_text, version_text}
use Rattle.scenario_dump.specs.Servers.{opening_of}

abbrev pub count_data : ℕ → Data
count_data n = number (unsigned n)

-- a list, item by item
abbrev pub items_of : {A : Type 0} → (A → Data) → List A → Items
items_of as_data [] = no_items
items_of as_data (x ∷ xs) = item (as_data x) (items_of as_data xs)

abbrev pub list_data : {A : Type 0} → (A → Data) → List A → Data
list_data as_data xs = array (items_of as_data xs)

-- a member that is there or not
abbrev pub member_if : Bool → List ℕ → Data → Members → Members
member_if there key d rest = if there then member key d rest else rest

abbrev pub member_for : List ℕ → Option Data → Members → Members
member_for key None rest = rest
member_for key (Some d) rest = member key d rest

-- ---- single values

abbrev pub coord_data : Coord → Data
coord_data c = string (coord_text c)

-- the printed name of the server of a number
abbrev pub name_text : List ServerInit → ℕ → List ℕ
name_text servers n = unwrap_or (option_map (λ i. printed i.settings.name) (slice_get servers n)) []

-- [origin, size, count]
abbrev pub part_data : List ServerInit → Part → Data
part_data servers p = array (item (string (name_text servers p.origin.0)) (item (count_data p.size) (item (count_data p.count) no_items)))

-- ---- servers

-- A server. One with a source has that, whether it is attached, how many of the source's transactions it has executed,
-- and how it goes on. One without has its history.
unfoldable pub server_data : List ServerInit → ServerInit → Data
server_data servers i =
    object (member_for (codes "at") (option_map coord_data i.at)
    (member_if (is_some i.source) (codes "auto") (boolean i.auto)
    (member (codes "cluster") (string i.settings.cluster)
    (member (codes "dc") (string i.settings.dc)
    (member (codes "desk") (boolean i.desk)
    (member_if (is_some i.source) (codes "detached") (boolean i.detached)
    (member_if (is_some i.source) (codes "executed") (count_data i.executed)
    (member (codes "feed") (boolean i.feed)
    (member (codes "flushes") (list_data count_data i.flushes)
    (member_for (codes "history") (option_map (list_data (part_data servers)) i.history)
    (member_if (is_some i.source) (codes "io") (boolean i.io)
    (member (codes "limit") (count_data i.settings.limit)
    (member (codes "logs") (boolean i.settings.logs)
    (member (codes "name") (string (printed i.settings.name))
    (member (codes "purged") (count_data i.purged)
    (member_for (codes "read") (option_map coord_data i.read)
    (member (codes "read_only") (boolean i.read_only)
    (member (codes "server_id") (count_data i.settings.server_id)
    (member_for (codes "source") (option_map (λ m. string (name_text servers m.0)) i.source)
    (member_if (is_some i.source) (codes "sql") (boolean i.sql)
    (member_for (codes "until") (option_map coord_data i.until)
    (member (codes "up") (boolean i.up)
    (member (codes "uuid") (string (uuid_text i.settings.uuid))
    (member (codes "version") (string (version_text i.settings.version))
    no_members))))))))))))))))))))))))

-- ---- the whole

-- a member for each alias, and for each block period
abbrev pub aliases_data : List Alias → Members
aliases_data [] = no_members
aliases_data (a ∷ rest) = member a.cluster (string a.alias) (aliases_data rest)

abbrev pub blocks_data : List Block → Members
blocks_data [] = no_members
blocks_data (b ∷ rest) = member b.cluster (count_data b.seconds) (blocks_data rest)

abbrev pub filters_data : ClusterFilters → Data
filters_data f = object (member (codes "intermediate") (list_data string f.intermediate.texts) (member (codes "master") (list_data string f.master.texts) no_members))

-- [text, exit]
abbrev pub hook_data : Hook → Data
hook_data h = array (item (string h.text) (item (count_data h.exit) no_items))

abbrev pub hooks_data : Hooks → Data
hooks_data h =
    object (member (codes "post_failover") (list_data hook_data h.post_failover)
    (member (codes "post_unsuccessful") (list_data hook_data h.post_unsuccessful)
    (member (codes "pre_failover") (list_data hook_data h.pre_failover)
    no_members)))

-- the world at a moment, with what the scenario has beside its servers and turns
unfoldable pub dump_data : World → Scenario → ℕ → Data
dump_data w s now =
    object (member (codes "aliases") (object (aliases_data s.aliases))
    (member (codes "block") (count_data s.block)
    (member (codes "blocks") (object (blocks_data s.blocks))
    (member (codes "filters") (filters_data s.filters)
    (member (codes "gtid") (boolean w.gtid)
    (member (codes "hooks") (hooks_data s.hooks)
    (member (codes "nodes") (count_data s.nodes)
    (member (codes "now") (count_data now)
    (member (codes "pseudo") (count_data s.pseudo)
    (member (codes "servers") (list_data (server_data (opening_of w).servers) (opening_of w).servers)
    (member (codes "turns") (array no_items)
    (member (codes "version") (count_data 1)
    no_members))))))))))))

-- with a newline byte at its end
unfoldable pub dump_text : World → Scenario → ℕ → List ℕ
dump_text w s now = compact_text (dump_data w s now) ++ codes "\n"
