-- What this crate's definitions and contracts cite of others.
pub use Rattle.asking_commands.specs.Asking.{switch_line}
pub use Rattle.audit_log.specs.Audits.{AuditState, acking, acknowledged, count_new}
pub use Rattle.book_views.specs.Sources.{label_at}
pub use Rattle.commands.specs.declared.line.Line.{Line}
pub use Rattle.commands.specs.declared.line.Line.TheVariants as line
pub use Rattle.commands.specs.declared.route.Decision.{Decision}
pub use Rattle.commands.specs.declared.route.Decision.TheVariants as decision
pub use Rattle.commands.specs.declared.turn.Keys.{Keys}
pub use Rattle.instance_keeper.specs.Book.{BookState, after_change, downtime_at}
pub use Rattle.instance_keeper.specs.Had.{put_change}
pub use Rattle.instance_keeper.specs.KeptRows.Recoveries.{put_recovery}
pub use Rattle.instance_keeper.specs.KeptRows.declared.row.Change.TheVariants as change
pub use Rattle.instance_keeper.specs.KeptRows.declared.row.Key.TheVariants as key
pub use Rattle.instance_keeper.specs.KeptRows.declared.row.Row.TheVariants as row
pub use Rattle.instance_keeper.specs.KeptRows.declared.row.Table.TheVariants as table
pub use Rattle.instance_keeper.specs.OrchBase.declared.rule.Rule.TheVariants as rule
pub use Rattle.instance_keeper.specs.Prelude.{Candidate, Change, Downtime, Moment, ServerNo}
