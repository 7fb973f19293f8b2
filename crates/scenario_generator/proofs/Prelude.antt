-- What its proofs cite of others.
pub use Rattle.std.proofs.Math.Nat.{mod-add-mod}
pub use Rattle.std.proofs.Math.Seq.{drop-nil, take-append-add, take-length}
pub use Rattle.std.proofs.lemmas.Bool.{and_parts, eqb-true, false≢true, le-ltb, ne_eqb}
pub use Rattle.std.proofs.lemmas.Bool.Decides.{eqb_tells}
pub use Rattle.std.proofs.lemmas.Fmt.{IsAscii-decimal, decimal_is_IsNumeral, length-decimal-le}
pub use Rattle.std.proofs.lemmas.Grind.{common_steps}
pub use Rattle.std.proofs.lemmas.List.{append-nil, get_or-set_other, get_or-set_same, length-append, length-drop, take-append-le, take_all}
pub use Rattle.std.proofs.lemmas.Option.{slice_get_within}
pub use Rattle.std.proofs.lemmas.Str.{IsUtf8-append, IsUtf8-from_ascii, IsUtf8-nil, is_utf8-from_IsUtf8}
pub use Rattle.std.specs.Fmt.{digit_glyph, digits_onto}
unfoldable pub use Rattle.std.specs.Fmt.{digits}
pub use Rattle.std.specs.Io.KnownBytes.{Appends}
pub use Rattle.std.specs.List.{list_all, position_or_len}
pub use Rattle.std.specs.Str.{IsUtf8, is_utf8}
pub use Rattle.std.specs.Str.Parse.{digits_value}
pub use Rattle.json.proofs.Printed.Decimals.{IsNumber-decimal}
pub use Rattle.json.proofs.Printed.Numbers.{in_word-ended, lex-number}
pub use Rattle.json.proofs.Printed.Strings.{content-escape, escape_byte_plain, lex-escape}
pub use Rattle.json.proofs.Printed.Tokens.{tokens-print}
pub use Rattle.json.proofs.Printed.Trees.{ArePrintable-json_tokens, value-json_tokens}
pub use Rattle.json.proofs.Printed.Utf8.{IsUtf8-are_ascii, are_ascii}
pub use Rattle.json.specs.Json as json
pub use Rattle.json.specs.Lex.{Lexeme, between, colon, comma, fresh, punctuate, string_token, token, tokens}
unfoldable pub use Rattle.json.specs.Lex.{lex}
pub use Rattle.json.specs.Print.{IsPrintable, begins, ends, escape, print, quoted, separator, token_text}
unfoldable pub use Rattle.json.specs.Print.{ArePrintable, escape_byte, print_from}
pub use Rattle.json.specs.Token.{Token, bad, begin_array, begin_object, boolean, end_array, end_object, key, null, number, string}
pub use Rattle.json.specs.Tree.{HasNumbers, ItemsHaveNumbers, json_tokens}
pub use Rattle.json.specs.Tree as tree
pub use Rattle.json.specs.Word.{ends_word}
unfoldable pub use Rattle.json.specs.Word.{word}
pub use Rattle.orch_base.specs.Ends.{AppendsFront}
pub use Rattle.orch_base.specs.Names.{host_at, host_of, is_colon, is_host_byte, port_of}
unfoldable pub use Rattle.orch_base.specs.Names.{name_at}
pub use Rattle.scenario_generator.specs.Numbers.{Drawing}
unfoldable pub use Rattle.scenario_generator.specs.Numbers.{below, next}
pub use Rattle.scenario_generator.specs.Pieces.{IsHanded, Joins, JoinsFront, Stays, StaysFront}
pub use Rattle.scenario_generator.specs.Promises.{ArePlaced, AreTurnsOf, IsPlaced, IsTurnOf}
pub use Rattle.scenario_generator.specs.Servers.{AreCounts, AreFew, after_server, count_at, count_in, count_of, executed_by, root_of, server_by}
pub use Rattle.scenario_generator.specs.Servers.{source_by, with_server}
unfoldable pub use Rattle.scenario_generator.specs.Servers.{servers_from}
pub use Rattle.scenario_generator.specs.Texts.{listed, padded, server_data, servers_data, turn_data, turns_data}
unfoldable pub use Rattle.scenario_generator.specs.Texts.{drawn_data, scenario_text, server_name, server_text, servers_text, turn_text, turns_text}
pub use Rattle.scenario_generator.specs.Turns.{after_turn, turn_from, with_turn}
unfoldable pub use Rattle.scenario_generator.specs.Turns.{turns_from}
pub use Rattle.scenario_generator.specs.declared.server.DrawnServer.{DrawnServer}
pub use Rattle.scenario_generator.specs.declared.server.DrawnServer.TheVariants.{Replica, Root}
pub use Rattle.scenario_generator.specs.declared.turn.DrawnTurn.{DrawnTurn}
pub use Rattle.scenario_generator.specs.declared.turn.DrawnTurn.TheVariants.{Apply, Fetch, PollRead, PollStore, Rotate, Write}
pub use Rattle.serde_json.proofs.Numbers.{number_of-decimal}
pub use Rattle.serde_json.proofs.Texts.{print-outline}
pub use Rattle.serde_json.specs.Data.{Data, Items, array, item, member, no_items, no_members, object, put, unsigned}
pub use Rattle.serde_json.specs.Data as SerdeJson
pub use Rattle.serde_json.specs.Read.{max_depth, of_items, of_json, read}
pub use Rattle.serde_json.specs.Written.{comma_if, compact_text, items_outline, items_text, outline}
