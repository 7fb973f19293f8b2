use Rattle.std.proofs.Common.{◌≤◌, ◌^◌, sym, ◌∙◌, ap, subst, All}
use Rattle.audit_log.proofs.Prelude.{AuditRoom, Recovery, either_held, may_begin}
use Rattle.audit_log.proofs.Extending.{All-second, extended-held}
use Rattle.audit_log.proofs.extended.Extended.may_begin.Goals as goal

pub may_begin-requires-2 : goal.may_begin-requires-2
may_begin-requires-2 c =
    All-second (λ (r : Recovery). r.begun.0 ≤ 2 ^ 63) c.self.inside.audit.now.audit.recoveries c.self.inside.more.audit.recoveries
    (subst (λ (s : AuditRoom). All (λ (r : Recovery). r.begun.0 ≤ 2 ^ 63) s.audit.recoveries) (sym c.self.view_is) c.requires)

pub returns : goal.returns
returns c =
    c.either_held.ensures ∙ (λ i. either_held (c.may_begin.ensures i) (c.may_begin-2.ensures i))
    ∙ sym (extended-held c.self.inside.audit.now.audit c.self.inside.more.audit c.args.cluster.now c.args.now.0)
    ∙ ap (λ (s : AuditRoom). may_begin s.audit c.args.cluster.now c.args.now.0) c.self.view_is
