-- What its proofs cite of others.
pub use Rattle.std.proofs.lemmas.Bool.{and_left, and_parts, leb-true}
pub use Rattle.std.proofs.lemmas.Str.{IsUtf8-from_is_utf8, is_utf8-from_IsUtf8}
pub use Rattle.std.specs.List.{list_all, slice_index_or}
pub use Rattle.std.specs.Str.{IsUtf8, is_utf8}
pub use Rattle.clap.proofs.WalkLemmas.{first_value-rows}
pub use Rattle.clap.specs.Faults.{fault_of, is_simple_and_free}
pub use Rattle.clap.specs.Kinds.{IsAmong, Kinds}
pub use Rattle.clap.specs.Matches.{found_of}
pub use Rattle.clap.specs.Simple.{App, app_of, is_simple, matches_of, with_rule}
pub use Rattle.clap.specs.Values.{kind_of}
pub use Rattle.clap.specs.Walk.{Row, Text, first_of}
pub use Rattle.clap.specs.declared.error.kind.ErrorKind.{ErrorKind}
pub use Rattle.clap.specs.declared.error.kind.ErrorKind.TheVariants.{OutOfMemory}
unfoldable pub use Rattle.cluster_filters.specs.Patterns.{is_pattern}
pub use Rattle.command_line.specs.Commands.{dump_in, has_needed, is_given, is_plan_word, is_taken_word, may_dump, own_at, plan_in}
unfoldable pub use Rattle.command_line.specs.Commands.{command_in, needs_at}
pub use Rattle.command_line.specs.Options.{long_rule, rows_in, unless_faulty, with_options}
unfoldable pub use Rattle.command_line.specs.Options.{orch, rows_of_texts, texts_of}
pub use Rattle.command_line.specs.Places.{drawing_by, has_flag, is_within_bound}
unfoldable pub use Rattle.command_line.specs.Places.{bounded_in, counts_in, instances_in, places_in, places_of, texts_in}
pub use Rattle.command_line.specs.Taken.{AreTaken, IsDrawn}
pub use Rattle.command_line.specs.Usages
pub use Rattle.command_line.specs.Values.{duration_in, maybe, name_in, number_in, or_bad, or_default, pattern_in, rule_in, text_in, text_within}
pub use Rattle.command_line.specs.declared.command.Own.{Own}
pub use Rattle.command_line.specs.declared.command.Own.TheVariants.{Dump, Generate, Live, Run}
pub use Rattle.command_line.specs.declared.parts.Counts.{Counts}
pub use Rattle.command_line.specs.declared.parts.Instances.{Instances}
pub use Rattle.command_line.specs.declared.parts.Places.{Places}
pub use Rattle.command_line.specs.declared.parts.Texts.{Texts}
pub use Rattle.command_line.specs.declared.usage.Usage.{Usage}
pub use Rattle.command_line.specs.declared.usage.Usage.TheVariants.{BadWords}
pub use Rattle.commands.specs.Values.{number_and_unit, number_at, number_within, seconds_at, within}
pub use Rattle.scenario_generator.specs.Bounds.{is_drawable}
