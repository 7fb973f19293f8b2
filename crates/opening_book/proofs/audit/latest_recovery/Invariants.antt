use Rattle.std.proofs.Common.{◌≡◌, take}
use Rattle.opening_book.proofs.Prelude.{latest_recovery}
use Rattle.opening_book.proofs.audit.latest_recovery.Given as goal

abbrev pub invariant-recoveries : goal.invariant-recoveries
invariant-recoveries l = l.latest.0 ≡ latest_recovery l.fn.now.0 (take l.recovery-index l.recoveries)
