-- The forest of a book: a node for each server, by its rank in name order.
use Rattle.std.specs.Prelude.{ℕ, List, map, slice_get, Option, Some, None, option_and_then, if◌then◌else◌}
use Rattle.instance_keeper.specs.OrchBase.declared.server.ServerNo.{ServerNo}
use Rattle.instance_keeper.specs.Book.{BookState, instance_at}
use Rattle.topology_tree.specs.Following.{Follows}
use Rattle.topology_tree.specs.Forests.{above}
use Rattle.topology_tree.specs.Making.{forest_of}
use Rattle.instance_keeper.specs.NameOrder.NameOrder.{by_name, rank_of}
use Rattle.book_views.specs.Sources.{is_instance, seen_source, source_in}

-- a server's node
abbrev pub node_at : BookState → ServerNo → ℕ
node_at b server = rank_of (by_name b.names) server.0

-- a server's node, if it is an instance
abbrev pub node_of : BookState → ServerNo → Option ℕ
node_of b server = if is_instance b server then Some (node_at b server) else None

-- the node of the seen source, attached or detached, if that is an instance
abbrev pub source_node : BookState → ServerNo → Option ℕ
source_node b server = option_and_then (node_of b) (source_in (seen_source (instance_at b server)))

-- for each node that of its source
unfoldable pub source_nodes : BookState → List (Option ℕ)
source_nodes b = map (source_node b) (by_name b.names)

-- the parents: a source is the parent, unless the instance comes back to itself by following sources
unfoldable pub book_forest : BookState → List (Option ℕ)
book_forest b = forest_of (source_nodes b)

-- the server at a node
abbrev pub server_at : BookState → ℕ → Option ServerNo
server_at b node = slice_get (by_name b.names) node

-- a server's parent in the forest
abbrev pub parent_of : BookState → ServerNo → Option ServerNo
parent_of b server = option_and_then (server_at b) (above (book_forest b) (node_at b server))

-- a server comes to another by following parents, at least one step
abbrev pub IsBelow : BookState → ServerNo → ServerNo → Type 0
IsBelow b one other = Follows (above (book_forest b)) (node_at b other) (node_at b one)
