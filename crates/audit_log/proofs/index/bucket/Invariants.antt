use Rattle.std.proofs.Common.{◌≡◌, ◌<◌, ◌^◌, take, fold}
use Rattle.audit_log.proofs.Prelude.{mixed}
use Rattle.audit_log.proofs.index.bucket.Given as goal

abbrev pub invariant-label : goal.invariant-label
invariant-label l = record {
  number : l.number ≡ fold mixed 0 (take l.byte-index l.label);
  low : l.number < 2 ^ 32;
}
