use Rattle.std.proofs.Common.{◌≡◌, ◌+◌, ◌≤◌, length}
use Rattle.scenario_servers.proofs.Prelude.{into_iter_items, into_iter_len, server_in}
use Rattle.scenario_servers.proofs.Dropped.{IsReadOn}
use Rattle.scenario_servers.proofs.servers.given_in.Given as goal

abbrev pub invariant-servers : goal.invariant-servers
invariant-servers l = record {
  goes : (goal.iterator-servers).can_next l.value-iterator;
  finite : (goal.iterator-servers).is_finite l.value-iterator;
  count : into_iter_len l.value-iterator ≡ length (into_iter_items l.value-iterator);
  few : length l.given.items + length (into_iter_items l.value-iterator) ≤ 1000;
  read : IsReadOn (server_in l.gtid l.names l.uuids) l.fn.items.items (into_iter_items l.value-iterator) l.given.items;
}
