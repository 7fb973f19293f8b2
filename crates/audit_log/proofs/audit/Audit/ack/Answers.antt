use Rattle.std.proofs.Common.{◌≡◌, List, length, map, sym, ◌∙◌, ap, subst}
use Rattle.audit_log.proofs.Prelude.{IsAudit, IsIndex, Recovery, acknowledged_for, length-map}
use Rattle.audit_log.proofs.Changes.{IsAudit-map, lent}
use Rattle.audit_log.proofs.Kept.{acknowledged-block, acknowledged-id}
use Rattle.audit_log.proofs.audit.Audit.ack.Goals as goal

pub settle-requires : goal.settle-requires
settle-requires c =
    let v = c.self.inside.recoveries in
    let f = acknowledged_for c.args.cluster.now in
    let is = c.acknowledge_all-count.ensures.after ∙ ap (map f) c.deref_mut.ensures.value in
    let long : length c.acknowledge_all-count.new.recoveries ≡ length v.items = ap length is ∙ length-map v.items f in
    let back = lent c.acknowledge_all-count.new.recoveries v.items v.len long v.ok.0 in
    subst (λ (xs : List Recovery). IsIndex xs c.self.inside.index) (sym (c.deref.ensures.value ∙ back)) c.acknowledge_all-count.ensures.index

pub invariant_of-self : goal.invariant_of-self
invariant_of-self c =
    let v = c.self.inside.recoveries in
    let f = acknowledged_for c.args.cluster.now in
    let is = c.acknowledge_all-count.ensures.after ∙ ap (map f) c.deref_mut.ensures.value in
    let long : length c.acknowledge_all-count.new.recoveries ≡ length v.items = ap length is ∙ length-map v.items f in
    let all = lent c.acknowledge_all-count.new.recoveries v.items v.len long v.ok.0 ∙ is in
    record {
      audit = subst (λ (xs : List Recovery). IsAudit (record { recoveries = xs; next = c.self.inside.next })) (sym all)
          (IsAudit-map f (acknowledged-id c.args.cluster.now) (acknowledged-block c.args.cluster.now) (record { recoveries = v.items; next = c.self.inside.next }) c.self.invariant.audit);
      index = subst (λ (xs : List Recovery). IsIndex xs c.settle.new.self) c.deref.ensures.value c.settle.ensures;
    }
