use Rattle.std.proofs.Common.{Some, sym, ◌∙◌, ap}
use Rattle.audit_log.proofs.Prelude.{AuditRoom, last_blocking}
use Rattle.audit_log.proofs.Stepping.{Blocks}
use Rattle.audit_log.proofs.Walking.{find-last, find-last_none}
use Rattle.audit_log.proofs.audit.Audit.last_blocking.Goals as goal

pub returns-in-Some : goal.returns-in-Some
returns-in-Some c =
    let v = c.self.inside.recoveries in
    let found = rw c.deref.ensures.value at c.in-Some.ensures in
    ap Some c.index.ensures
    ∙ sym (find-last (Blocks c.args.cluster.now c.args.now.0) v.items c.in-Some.index c.index.result.now found.0 (found.1 c.index.result.now) found.2)
    ∙ ap (λ (s : AuditRoom). last_blocking s.audit c.args.cluster.now c.args.now.0) c.self.view_is

pub returns-in-None : goal.returns-in-None
returns-in-None c =
    let v = c.self.inside.recoveries in
    let none = rw c.deref.ensures.value at c.in-None.ensures in
    sym (find-last_none (Blocks c.args.cluster.now c.args.now.0) v.items none) ∙ ap (λ (s : AuditRoom). last_blocking s.audit c.args.cluster.now c.args.now.0) c.self.view_is
