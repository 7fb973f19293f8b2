use Rattle.std.specs.Prelude.{◌+◌, ◌-◌}
use Rattle.opening_book.proofs.Prelude.{audit_of, counted, greatest_id, last_id}
use Rattle.opening_book.proofs.Recoveries.{FollowAudit-acknowledged, FollowAudit-book, FollowAudit-closed, FollowAudit-loaded, FollowAudit-loading, FollowAudit-opened}
use Rattle.opening_book.proofs.laws.kept_rows_follow_the_audit.Goals as goal

pub returns : goal.returns
returns c = record {
  opened = λ period servers rows at short few rising.
      let counting = counted servers greatest_id rows in
      FollowAudit-loading period servers rows counting (audit_of period (last_id rows + 1) counting) at
      (FollowAudit-opened period servers rows short few rising);
  loaded = λ period servers next rows at short few first most rising.
      let counting = counted servers (next - 1) rows in
      FollowAudit-loading period servers rows counting (audit_of period next counting) at
      (FollowAudit-loaded period servers next rows short few first most rising);
  book = FollowAudit-book;
  closed = FollowAudit-closed;
  acknowledged = FollowAudit-acknowledged;
}
