-- Which drained replica is promoted, and which one takes its place.
use Rattle.std.specs.Prelude.{ℕ, ◌+◌, ◌*◌, if◌then◌else◌, Bool, true, false, ◌&&◌, not, List, filter, find, Option, Some, None, option_map}
use Rattle.std.specs.List.{list_all}
use Rattle.std.specs.Ordering.{is_lt, nat_cmp, ordering_then}
use Rattle.std.specs.declared.cmp.Ordering.{Ordering}
use Rattle.instance_keeper.specs.BinlogCoords.declared.Coord.{Coord}
use Rattle.instance_keeper.specs.OrchBase.Names.{HostPort}
use Rattle.instance_keeper.specs.OrchBase.declared.rule.Rule.{Rule}
use Rattle.instance_keeper.specs.OrchBase.declared.rule.Rule.TheVariants as rule
use Rattle.instance_keeper.specs.OrchBase.declared.server.ServerNo.{ServerNo}
use Rattle.instance_keeper.specs.NameOrder.NameOrder.{named, order_of}
use Rattle.promotion_rules.specs.declared.drained.Drained.{Drained}

-- ---- orders: what is first

-- by file, then by position
abbrev pub coord_order : Coord → Coord → Ordering
coord_order a b = ordering_then (nat_cmp a.file b.file) (nat_cmp a.pos b.pos)

abbrev pub precedence : Rule → ℕ
precedence rule.Prefer = 0
precedence rule.Neutral = 1
precedence rule.PreferNot = 2
precedence rule.MustNot = 3

-- of one rule, those that are in the failed server's data centre come first
abbrev pub rank : Drained → ℕ
rank d = 2 * precedence d.rule + (if d.near then 0 else 1)

-- the lower rank first
abbrev pub rank_order : Drained → Drained → Ordering
rank_order a b = nat_cmp (rank a) (rank b)

-- the first name first
abbrev pub server_order : List HostPort → ServerNo → ServerNo → Ordering
server_order names a b = order_of (named names a) (named names b)

-- the lower rank, then the first name
abbrev pub nearer_order : List HostPort → Drained → Drained → Ordering
nearer_order names a b = ordering_then (rank_order a b) (server_order names a.no b.no)

-- the greatest executed coordinate, then the lower rank, then the first name
abbrev pub advance_order : List HostPort → Drained → Drained → Ordering
advance_order names a b = ordering_then (coord_order b.exec a.exec) (nearer_order names a b)

-- ---- choices

-- the first of a list that none of it is before
abbrev pub first_by : {X : Type 0} → (X → X → Ordering) → List X → Option X
first_by order xs = find (λ x. list_all (λ y. not (is_lt (order y x))) xs) xs

-- whether one more is before the first so far
abbrev pub comes_first : {X : Type 0} → (X → X → Ordering) → X → Option X → Bool
comes_first order x None = true
comes_first order x (Some y) = is_lt (order x y)

abbrev pub is_barred : Rule → Bool
is_barred rule.Prefer = false
is_barred rule.Neutral = false
is_barred rule.PreferNot = false
is_barred rule.MustNot = true

-- it logs, and its rule doesn't bar it
abbrev pub is_eligible : Drained → Bool
is_eligible d = d.logs && not (is_barred d.rule)

abbrev pub most_advanced : List HostPort → List Drained → Option ServerNo
most_advanced names list = option_map (λ d. d.no) (first_by (advance_order names) (filter is_eligible list))

-- it logs, and has a strictly lower rank
abbrev pub is_better : Drained → Drained → Bool
is_better of d = d.logs && is_lt (rank_order d of)

abbrev pub better : List HostPort → Drained → List Drained → Option ServerNo
better names of followers = option_map (λ d. d.no) (first_by (nearer_order names) (filter (is_better of) followers))
