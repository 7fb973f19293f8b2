-- What this crate's definitions and contracts cite of others.
pub use Rattle.std.specs.List.{All, filter, fold, prefix_len}
pub use Rattle.std.specs.Option.{option_copied}
pub use Rattle.server_words.specs.BinlogCoords.Grown.{Grown}
pub use Rattle.server_words.specs.BinlogCoords.Index.{Index}
pub use Rattle.server_words.specs.BinlogCoords.Log.{Log, coord_after, end_of, file_start, flush, has_place, is_at_or_before, next_after, opened, place, push}
pub use Rattle.server_words.specs.BinlogCoords.Log.{same_coord}
pub use Rattle.server_words.specs.BinlogCoords.declared.Coord.{Coord}
pub use Rattle.server_words.specs.BinlogCoords.declared.Next.{Next}
pub use Rattle.server_words.specs.BinlogCoords.declared.Next.TheVariants as next
pub use Rattle.server_words.specs.GtidSets.Adding.{with_pair}
pub use Rattle.server_words.specs.GtidSets.Reserved.{Reserved}
pub use Rattle.server_words.specs.GtidSets.Sets.{holds}
pub use Rattle.server_words.specs.GtidSets.declared.interval.Interval.{Interval}
pub use Rattle.server_words.specs.OrchBase.Gives.{Gives}
pub use Rattle.server_words.specs.OrchBase.Histories.{count_own, same_txn}
pub use Rattle.server_words.specs.OrchBase.Histories
pub use Rattle.server_words.specs.OrchBase.declared.server.IoState.{IoState}
pub use Rattle.server_words.specs.OrchBase.declared.server.IoState.TheVariants as io
pub use Rattle.server_words.specs.OrchBase.declared.server.ServerNo.{ServerNo}
pub use Rattle.server_words.specs.OrchBase.declared.server.Settings.{Settings}
pub use Rattle.server_words.specs.OrchBase.declared.server.SourceState.{SourceState}
pub use Rattle.server_words.specs.OrchBase.declared.server.SourceState.TheVariants.{Attached, Detached, Without}
pub use Rattle.server_words.specs.OrchBase.declared.server.Txn.{Txn}
pub use Rattle.server_words.specs.declared.answers.ApplyAnswer.{ApplyAnswer}
pub use Rattle.server_words.specs.declared.answers.ApplyAnswer.TheVariants as applied_as
pub use Rattle.server_words.specs.declared.answers.FetchAnswer.{FetchAnswer}
pub use Rattle.server_words.specs.declared.answers.FetchAnswer.TheVariants as fetching
pub use Rattle.server_words.specs.declared.answers.PurgeAnswer.{PurgeAnswer}
pub use Rattle.server_words.specs.declared.answers.PurgeAnswer.TheVariants as purging
pub use Rattle.server_words.specs.declared.answers.RotateAnswer.{RotateAnswer}
pub use Rattle.server_words.specs.declared.answers.RotateAnswer.TheVariants as rotating
pub use Rattle.server_words.specs.declared.answers.Unreachable.{Unreachable}
pub use Rattle.server_words.specs.declared.answers.WriteAnswer.{WriteAnswer}
pub use Rattle.server_words.specs.declared.answers.WriteAnswer.TheVariants as wrote
pub use Rattle.server_words.specs.declared.attach.AttachFault.{AttachFault}
pub use Rattle.server_words.specs.declared.attach.AttachFault.TheVariants as attaching
pub use Rattle.server_words.specs.declared.attach.Spot.{Spot}
pub use Rattle.server_words.specs.declared.attach.Spot.TheVariants as spot
pub use Rattle.server_words.specs.declared.changes.Ask.{Ask}
pub use Rattle.server_words.specs.declared.changes.Ask.TheVariants as asking
pub use Rattle.server_words.specs.declared.changes.Event.{Event}
pub use Rattle.server_words.specs.declared.changes.Event.TheVariants as event
pub use Rattle.server_words.specs.declared.changes.Link.{Link}
pub use Rattle.server_words.specs.declared.changes.Link.TheVariants as link
pub use Rattle.server_words.specs.declared.changes.Threads.{Threads}
pub use Rattle.server_words.specs.declared.changes.Threads.TheVariants as threads
pub use Rattle.server_words.specs.declared.plain.Plain.{Plain}
pub use Rattle.server_words.specs.declared.status.Status.{Status}
pub use Rattle.server_words.specs.declared.status.StatusFault.{StatusFault}
pub use Rattle.server_words.specs.declared.status.StatusFault.TheVariants as seeing
