use Rattle.std.proofs.Common.{sym, ◌∙◌, ap, subst}
use Rattle.audit_log.proofs.Prelude.{AuditRoom, MayBegin, begun, extended}
use Rattle.audit_log.proofs.Extending.{extended-begun, extended-may}
use Rattle.audit_log.proofs.extended.Extended.begin.Goals as goal

pub begin-requires-clause-may : goal.begin-requires-clause-may
begin-requires-clause-may c =
    extended-may c.self.inside.audit.now.audit c.self.inside.more.audit c.args.r
    (subst (λ (s : AuditRoom). MayBegin s.audit c.args.r) (sym c.self.view_is) c.requires.may)

pub returns-clause-audit : goal.returns-clause-audit
returns-clause-audit c =
    ap (extended c.self.inside.audit.now.audit) c.begin.ensures.audit
    ∙ extended-begun c.self.inside.audit.now.audit c.self.inside.more.audit c.args.r
    ∙ ap (λ (s : AuditRoom). begun s.audit c.args.r) c.self.view_is
