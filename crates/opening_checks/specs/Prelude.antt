-- What this crate's definitions and contracts cite of others.
pub use Rattle.std.specs.Option.{option_copied}
pub use Rattle.binlog_coords.specs.Index.{Index}
pub use Rattle.binlog_coords.specs.OrchBase.Gives.{Gives}
pub use Rattle.openings.specs.Flaws.{at_server, bad_coords, bad_coords_in, bad_files, bad_flushes, bad_purged, below_itself, both_given}
pub use Rattle.openings.specs.Flaws.{falls_or_passes, first_flaw, first_met, flaw_in, flaws, has_place_of, not_kin, of_source, origin_elsewhere}
pub use Rattle.openings.specs.Flaws.{other_cluster, same_cluster, source_not_logging, too_many}
pub use Rattle.openings.specs.Kin.{is_kin, links, same_before}
pub use Rattle.openings.specs.Listed.{listed_history, transactions}
pub use Rattle.openings.specs.Opening.{IsListed, Opened, opening}
pub use Rattle.openings.specs.Prelude.{Coord, Log, ServerNo, Txn, coord_after, count_own, list_all, place}
pub use Rattle.openings.specs.Servers.{count_of, exec_in, exec_of, history_at, log_at, parts_of, read_in}
pub use Rattle.openings.specs.Taking.{PartsInRange}
pub use Rattle.openings.specs.declared.init.ServerInit.{ServerInit}
pub use Rattle.openings.specs.declared.opening.Flaw.{Flaw}
pub use Rattle.openings.specs.declared.opening.Flaw.TheVariants.{BadPlace, NotKin}
pub use Rattle.openings.specs.declared.opening.Flaw.TheVariants as flaw
pub use Rattle.openings.specs.declared.part.Part.{Part}
