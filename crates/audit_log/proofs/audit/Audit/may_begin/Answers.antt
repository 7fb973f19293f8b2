use Rattle.std.proofs.Common.{◌≤◌, ◌^◌, sym, ap, subst, arith, ◌&&◌, reverse}
use Rattle.audit_log.proofs.Prelude.{AuditRoom, IsAudit, Recovery, is_blocking, is_of, longest_block}
use Rattle.audit_log.proofs.Finding.{All-found, All-reverse}
use Rattle.audit_log.proofs.audit.Audit.may_begin.Goals as goal

pub overflow_add-result : goal.overflow_add-result
overflow_add-result c =
    let list = c.args.self.now.audit.recoveries in
    let last = c.in-Some-last_blocking.last.now in
    let is : IsAudit c.args.self.now.audit = subst IsAudit (ap (λ (s : AuditRoom). s.audit) c.self.view_is) c.self.invariant.audit in
    let found = sym c.in-Some-last_blocking.ensures in
    let blocks = λ (r : Recovery). is_of c.args.cluster.now r && is_blocking c.args.now.0 r in
    let early : last.begun.0 ≤ 2 ^ 63 = All-found blocks (λ (r : Recovery). r.begun.0 ≤ 2 ^ 63) (reverse list) last (All-reverse (λ (r : Recovery). r.begun.0 ≤ 2 ^ 63) list c.requires) found in
    let short : last.block ≤ longest_block = All-found blocks (λ (r : Recovery). r.block ≤ longest_block) (reverse list) last (All-reverse (λ (r : Recovery). r.block ≤ longest_block) list is.short) found in
    omega (arith, early, short)
