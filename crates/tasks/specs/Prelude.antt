-- What this crate's definitions and contracts cite of others.
pub use Rattle.std.specs.Io.KnownBytes.{Appends}
pub use Rattle.std.specs.List.{list_any}
pub use Rattle.std.specs.Option.{option_and_then, option_to_list, unwrap_or}
pub use Rattle.command_line.specs.Commands.{own_at}
pub use Rattle.command_line.specs.Places.{drawing_of}
unfoldable pub use Rattle.command_line.specs.Places.{places_of}
pub use Rattle.command_line.specs.declared.command.Own.{Own}
pub use Rattle.command_line.specs.declared.command.Own.TheVariants as own
pub use Rattle.command_line.specs.declared.parts.Places.{Places}
pub use Rattle.orch_core.specs.After.{after_act, step}
pub use Rattle.orch_core.specs.AskingCommands.Lines.{recovery_lines}
pub use Rattle.orch_core.specs.Commands.Names.{uses_of}
pub use Rattle.orch_core.specs.Commands.declared.refusal.Refusal.TheVariants.{NotQuiet}
pub use Rattle.orch_core.specs.Commands.declared.route.Route.TheVariants as route
pub use Rattle.orch_core.specs.Keeping.{Calls, Ran, WasCutOff}
pub use Rattle.orch_core.specs.KeptRows.Keeping.{HasKeeperCause, KeepsAll}
pub use Rattle.orch_core.specs.Knowledge.declared.fault.TurnFault.TheVariants as fault
pub use Rattle.orch_core.specs.NodeClaims.declared.claims.ClaimAnswer.TheVariants as claim
pub use Rattle.orch_core.specs.Nodes.{claimed}
pub use Rattle.orch_core.specs.OrchBase.Causes.{Rose}
pub use Rattle.orch_core.specs.OrchBase.Ends.{AppendsFront}
pub use Rattle.orch_core.specs.OrchBase.Names.{same_name}
pub use Rattle.orch_core.specs.Prelude.{Act, ClaimAnswer, Command, CommandTurn, HasTurnCause, IsCommand, IsScenario, IsTurn, Moment, NamesOneOf}
pub use Rattle.orch_core.specs.Prelude.{Reply, Route, Row, Scenario, ServerNo, Turn, TurnFault, Unended, UnknownInstance, active, changed, is_of}
pub use Rattle.orch_core.specs.Prelude.{is_open, job_at, most_turns, number_of, route_of}
pub use Rattle.orch_core.specs.RecoveryPlans.declared.means.Means.TheVariants as means
pub use Rattle.orch_core.specs.Replies.{act_reply, reply_of}
pub use Rattle.orch_core.specs.Rounds.{after_turns, round_of}
pub use Rattle.orch_core.specs.Runs.{Held, Recorded, engine, held_run, recorder}
pub use Rattle.orch_core.specs.Scenarios.Scenarios.{names_of}
pub use Rattle.orch_core.specs.Starts.{StartsBy, kept_at_start, start, start_changes, without_turns}
pub use Rattle.orch_core.specs.States.{State, nodes_of}
pub use Rattle.orch_core.specs.Turns.declared.reply.Reply.TheVariants as answered
pub use Rattle.orch_core.specs.Turns.declared.turn.Act.TheVariants as act
pub use Rattle.orch_core.specs.Turns.declared.turn.Turn.TheVariants as turn
pub use Rattle.orch_core.specs.UnendedJobs.declared.unended.Unended.TheVariants as unended
pub use Rattle.plan_lines.specs.Branches.{has_branches, recovery_plan}
unfoldable pub use Rattle.plan_lines.specs.PlanTexts.Texts.{plan_text}
pub use Rattle.plan_lines.specs.Prelude.{Ground, Line, Means, Purpose, ground_by}
pub use Rattle.plan_lines.specs.Straight.{straight_lines}
pub use Rattle.report_text.specs.Lines.{lines_text}
unfoldable pub use Rattle.report_text.specs.Lines.{line_text, plain_text_of}
pub use Rattle.report_text.specs.Summary.{summary_text}
pub use Rattle.report_text.specs.Tables.{tables_text}
pub use Rattle.report_text.specs.declared.totals.Tally.{Tally}
unfoldable pub use Rattle.scenario_dump.specs.Texts.{dump_text}
pub use Rattle.scenario_turns.specs.Found.{found_of}
pub use Rattle.scenario_turns.specs.Prelude.{CommandName, Found, HostPort, IsNumberOf, printed}
unfoldable pub use Rattle.scenario_turns.specs.Prelude.{is_pattern, name_of}
