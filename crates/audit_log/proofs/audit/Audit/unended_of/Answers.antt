use Rattle.std.proofs.Common.{Some, sym, ◌∙◌, ap}
use Rattle.audit_log.proofs.Prelude.{AuditRoom, unended_of}
use Rattle.audit_log.proofs.Stepping.{Open}
use Rattle.audit_log.proofs.Walking.{find-first, find-none}
use Rattle.audit_log.proofs.audit.Audit.unended_of.Goals as goal

pub returns-in-Some : goal.returns-in-Some
returns-in-Some c =
    let v = c.self.inside.recoveries in
    let found = rw c.deref.ensures.value at c.in-Some.ensures in
    ap Some c.index.ensures
    ∙ sym (find-first (Open c.args.cluster.now c.args.now.0) v.items c.in-Some.index c.index.result.now found.0 (found.1 c.index.result.now) found.2)
    ∙ ap (λ (s : AuditRoom). unended_of s.audit c.args.cluster.now) c.self.view_is

pub returns-in-None : goal.returns-in-None
returns-in-None c =
    let v = c.self.inside.recoveries in
    let none = rw c.deref.ensures.value at c.in-None.ensures in
    sym (find-none (Open c.args.cluster.now c.args.now.0) v.items none) ∙ ap (λ (s : AuditRoom). unended_of s.audit c.args.cluster.now) c.self.view_is
