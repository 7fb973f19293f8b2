use Rattle.std.proofs.Common.{◌≡◌, map}
use Rattle.instance_keeper.specs.KeptRows.Recoveries.{put_recovery}
use Rattle.book_commands.proofs.deciding.acked_rows.Given as goal

abbrev pub invariant-acked : goal.invariant-acked
invariant-acked l = l.rows.items ≡ map put_recovery l.yielded
