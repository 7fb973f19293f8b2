use Rattle.std.proofs.Common.{◌≡◌, ◌<◌, length, get_or, Some, sym, ◌∙◌, ap}
use Rattle.audit_log.proofs.Prelude.{AuditRoom, recovery_at}
use Rattle.audit_log.proofs.Changes.{found-at, none-at}
use Rattle.audit_log.proofs.audit.Audit.recovery.Goals as goal

pub returns-in-Some : goal.returns-in-Some
returns-in-Some c =
    let v = c.self.inside.recoveries in
    let same = ap (λ (s : AuditRoom). s.audit.recoveries) c.self.view_is in
    let within : c.in-Some.index < length v.items = rw same c.in-Some.ensures.0 in
    let has : (get_or v.items c.in-Some.index c.index.result.now).id ≡ c.args.id = rw same (c.in-Some.ensures.1 c.index.result.now) in
    ap Some c.index.ensures
    ∙ sym (found-at c.args.id v.items c.in-Some.index c.index.result.now c.self.invariant.audit.rising within has)
    ∙ ap (λ (s : AuditRoom). recovery_at s.audit c.args.id) c.self.view_is

pub returns-in-None : goal.returns-in-None
returns-in-None c = sym (none-at c.args.id c.args.self.now.audit.recoveries c.in-None.ensures)
