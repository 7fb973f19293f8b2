-- How links are spelled.
use Rattle.std.specs.Prelude.{ℕ, List, codes}
use Rattle.server_words.specs.declared.changes.Link.{Link}
use Rattle.server_words.specs.declared.changes.Link.TheVariants as link

-- a link of a server
abbrev pub link_text : Link → List ℕ
link_text link.Desk = codes "desk"
link_text link.Feed = codes "feed"
