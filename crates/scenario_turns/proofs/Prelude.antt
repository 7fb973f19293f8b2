-- What its proofs cite of others.
pub use Rattle.std.proofs.lemmas.List.{length-append, length-map, map-id, map_more}
pub use Rattle.std.proofs.lemmas.List.Elements.{All-head, All-tail}
pub use Rattle.std.proofs.lemmas.Iterator.Adapters.{YieldsList-from_vec}
pub use Rattle.std.proofs.lemmas.Iterator.Consumers.{YieldsList-so_far, YieldsList-turn}
pub use Rattle.std.proofs.lemmas.List.Folds.{length-flat_map-take}
pub use Rattle.std.proofs.lemmas.List.Sums.{sum_by-append}
pub use Rattle.std.proofs.lemmas.Map.Text.{btree_map_updates_text}
pub use Rattle.name_order.proofs.Arranged.{by_name-within}
pub use Rattle.scenario_servers.proofs.Prelude.{All-cons, All-nil, IsReadTo, Value, bytes_eq-Decides, get, leb-true, nat_tests, same_Some, update}
pub use Rattle.scenario_servers.proofs.ServerSteps.{named-ok}
pub use Rattle.scenario_servers.proofs.Steps.{bind-ok, holds-ok, maybe-ok, number-ok, or_fails-ok, same_Ok, under-ok}
pub use Rattle.scenario_turns.specs.Commands.{command_keys, parts_of}
unfoldable pub use Rattle.scenario_turns.specs.Commands.{command_in, duration_in, given_in, instances_in, keys_in, name_in, pattern_in}
pub use Rattle.scenario_turns.specs.Expansion.{IsListedTurn, done_by, expanded, expansion_of, few, in_order, polls_of, server_names, steps_of}
pub use Rattle.scenario_turns.specs.Found.{found_of}
unfoldable pub use Rattle.scenario_turns.specs.Found.{found_in}
pub use Rattle.scenario_turns.specs.KnownPatterns.{AreKnown, IsKnown}
pub use Rattle.scenario_turns.specs.Prelude.{Act, Apply, BadCommand, BadNumber, BadPattern, BadTurn, BTreeMap, CommandName, CommandTurn, Cut, Data}
pub use Rattle.scenario_turns.specs.Prelude.{Fail, Fault, Fetch, Found, Gives, Global, Heal, HostPort, IsCommand, IsNumberOf, IsTurnOf, Items, Job}
pub use Rattle.scenario_turns.specs.Prelude.{Join, Keys, Link, NodeTurn, PollRead, PollStore, Purge, Restart, Rotate, Scan, ServerInit, ServerNo}
pub use Rattle.scenario_turns.specs.Prelude.{Step, Turn, Write, bytes_eq, fails, fault_of, flat_map, get_by_text, holds, is_there, is_write, item, item_count}
pub use Rattle.scenario_turns.specs.Prelude.{items_in, items_view, maybe, members_in, needs_of, no_items, only_keys, printed, seconds_at, text_in}
pub use Rattle.scenario_turns.specs.Prelude.{under_item, view}
unfoldable pub use Rattle.scenario_turns.specs.Prelude.{is_found, is_pattern, number_in, rule_in, server_named, short_in}
pub use Rattle.scenario_turns.specs.Turns.{act_of, alone, inner_from, node_or_fails, one_of, poller_in, turn_by, turn_from, turn_of, two_of}
unfoldable pub use Rattle.scenario_turns.specs.Turns.{amount_of, as_of, inner_in, inner_with, job_of, link_in, link_of, node_in, node_of, poll_of}
unfoldable pub use Rattle.scenario_turns.specs.Turns.{poller_of, seconds_of, server_of, turn_in, turn_with, whole_or_none}
pub use Rattle.scenario_turns.specs.Words.{has_parts, parts_after, stands, word_at}
pub use Rattle.scenario_turns.specs.declared.expansion.ListedTurn.{ListedTurn}
pub use Rattle.scenario_turns.specs.declared.expansion.ListedTurn.TheVariants.{One, Polls, Round}
pub use Rattle.scenario_turns.specs.declared.word.Word.{Word}
pub use Rattle.scenario_turns.specs.declared.word.Word.TheVariants as word
pub use Rattle.scenario_values.specs.Values.{text_within}
pub use Rattle.scenarios.specs.Commands.Turns.{is_within}
pub use Rattle.scenarios.specs.Commands.Values.{number_and_unit, number_at}
pub use Rattle.scenarios.specs.Commands.declared.turn.Command.{Command}
pub use Rattle.scenarios.specs.Turns.declared.turn.Act.TheVariants
pub use Rattle.scenarios.specs.Turns.declared.turn.Turn.TheVariants as turn
pub use Rattle.scenarios.specs.ValidTurns.{IsAct}
