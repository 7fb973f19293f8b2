-- What this crate's definitions and contracts cite of others.
pub use Rattle.std.specs.List.{cons_option, list_all, position}
pub use Rattle.audit_log.specs.Audits.{AuditState, IsAudit, acking, acknowledged, closed, closing, longest_block, recovery_at}
pub use Rattle.audit_log.specs.Loading.{loaded_by, recoveries_in}
pub use Rattle.instance_keeper.specs.Book.{BookState, IsBook, after_addition, after_change, after_put, after_removal, book_made, book_rows}
pub use Rattle.instance_keeper.specs.Had.{put_change}
pub use Rattle.instance_keeper.specs.KeptRows.Recoveries.{as_row, put_recovery}
pub use Rattle.instance_keeper.specs.KeptRows.Rows.{changed, map_of, row_in, table_of}
pub use Rattle.instance_keeper.specs.KeptRows.Servers.{is_of_book}
pub use Rattle.instance_keeper.specs.KeptRows.declared.recovery.Recovery.{Recovery}
pub use Rattle.instance_keeper.specs.KeptRows.declared.row.Change.TheVariants as change
pub use Rattle.instance_keeper.specs.KeptRows.declared.row.Key.TheVariants as key
pub use Rattle.instance_keeper.specs.KeptRows.declared.row.Row.TheVariants as row
pub use Rattle.instance_keeper.specs.KeptRows.declared.row.Table.TheVariants as table
pub use Rattle.instance_keeper.specs.Prelude.{Candidate, Change, Instance, IsInRange, IsRising, Moment, Row, Rule, Settings, are_known, changed_by}
pub use Rattle.instance_keeper.specs.Prelude.{fits, option_to_list, row_at, row_fits, servers_of}
pub use Rattle.server_model.specs.Gtids.{shown_of}
pub use Rattle.server_model.specs.Worlds.{World, server_at}
pub use Rattle.server_model.specs.declared.server.Server.{Server}
