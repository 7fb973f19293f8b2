-- What is before the servers of a drawn scenario, and the whole.
use Rattle.std.specs.Prelude.{ℕ, ◌∷◌, [], true, false, None, codes, map, replicate}
use Rattle.read_back_laws.specs.Prelude.{FilterList, Head, Scenario, no_filters, no_hooks, opening, servers_from, turns_from}
use Rattle.read_back_laws.specs.Drawn.{inits_from_drawn, turn_of}

-- every key but the version is absent
abbrev pub drawn_head : Head
drawn_head = record {
  moment = 0;
  gtid = false;
  pseudo = 0;
  nodes = 1;
  block = 3600;
  blocks = [];
  aliases = [];
  filters = no_filters;
  hooks = no_hooks;
}

-- the one filter lets each of so many servers' clusters through
abbrev pub passed_by_all : ℕ → FilterList
passed_by_all servers = record { texts = codes "*" ∷ []; passes = replicate servers true }

-- The scenario of a seed, so many servers and so many turns. It begins at moment 0 with the drawn servers, without
-- GTIDs. The book knows each of them, and none has a rule. Then come the drawn turns.
abbrev pub drawn_scenario : ℕ → ℕ → ℕ → Scenario
drawn_scenario seed servers turns =
    let first = servers_from seed servers in
    record {
      opening = opening (inits_from_drawn first.drawn) false;
      moment = record { 0 = 0 };
      pseudo = 0;
      nodes = 1;
      block = 3600;
      blocks = [];
      aliases = [];
      filters = record { master = passed_by_all servers; intermediate = passed_by_all servers };
      hooks = no_hooks;
      known = replicate servers true;
      rules = replicate servers None;
      turns = map turn_of (turns_from servers first.number turns).drawn;
    }
