use Rattle.std.proofs.Common.{◌≡◌, List, length, map, sym, ◌∙◌, ap, subst}
use Rattle.audit_log.proofs.Prelude.{IsAudit, IsIndex, Recovery, interrupted, length-map}
use Rattle.audit_log.proofs.Changes.{IsAudit-map, lent}
use Rattle.audit_log.proofs.Kept.{interrupted-block, interrupted-id}
use Rattle.audit_log.proofs.audit.Audit.close.Goals as goal

pub invariant_of-self : goal.invariant_of-self
invariant_of-self c =
    let v = c.self.inside.recoveries in
    let is = c.interrupt_all.ensures ∙ ap (map (interrupted c.args.at)) c.deref_mut.ensures.value in
    let long : length c.interrupt_all.new.recoveries ≡ length v.items = ap length is ∙ length-map v.items (interrupted c.args.at) in
    let all = lent c.interrupt_all.new.recoveries v.items v.len long v.ok.0 ∙ is in
    record {
      audit = subst (λ (xs : List Recovery). IsAudit (record { recoveries = xs; next = c.self.inside.next })) (sym all)
          (IsAudit-map (interrupted c.args.at) (interrupted-id c.args.at) (interrupted-block c.args.at) (record { recoveries = v.items; next = c.self.inside.next }) c.self.invariant.audit);
      index = subst (λ (xs : List Recovery). IsIndex xs c.renew.new.self) c.deref.ensures.value c.renew.ensures;
    }
