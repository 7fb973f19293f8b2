use Rattle.std.proofs.Common.{◌≡◌, ◌<◌, length, get_or, set, ◌-◌, vec_capacity, vec_len, sym, ◌∙◌, ap, refl, subst, IsSomeAnd, true}
use Rattle.audit_log.proofs.Prelude.{AuditRoom, Recovery, ended, ended_so, is_unended, recovery_at}
use Rattle.audit_log.proofs.Changes.{none-changed, one-changed}
use Rattle.audit_log.proofs.Changing.{found-set, unended-there}
use Rattle.audit_log.proofs.Indexing.{ended-stays}
use Rattle.audit_log.proofs.audit.Audit.end.Goals as goal

pub returns-in-Some : goal.returns-in-Some
returns-in-Some c =
    let v = c.self.inside.recoveries in
    let f = ended_so c.args.at c.args.outcome in
    let same = ap (λ (s : AuditRoom). s.audit.recoveries) c.self.view_is in
    let within : c.in-Some.index < length v.items = rw same c.in-Some.ensures.0 in
    let is = c.in-Some.ensures.1 c.index_mut.result.now in
    let has : (get_or v.items c.in-Some.index c.index_mut.result.now).id ≡ c.args.id = rw same is in
    let changed = ap (set v.items c.in-Some.index) (c.end_so.ensures ∙ ap f c.index_mut.ensures.value) ∙ one-changed c.args.id f v.items c.in-Some.index c.index_mut.result.now c.self.invariant.audit.rising within has in
    (λ i. record { audit = record { recoveries = changed i; next = c.self.inside.next }; spare = vec_capacity v - vec_len v })
    ∙ ap (λ (s : AuditRoom). record { audit = ended s.audit c.args.id c.args.at c.args.outcome; spare = s.spare }) c.self.view_is

pub returns-in_default : goal.returns-in_default
returns-in_default c =
    let now = c.args.self.now in
    λ i. record {
      audit = record { recoveries = sym (none-changed c.args.id (ended_so c.args.at c.args.outcome) now.audit.recoveries c.in_default.ensures) i; next = now.audit.next };
      spare = now.spare;
    }

pub invariant_of-self : goal.invariant_of-self
invariant_of-self c =
    let v = c.self.inside.recoveries in
    let x = c.index_mut.result.now in
    let same = ap (λ (s : AuditRoom). s.audit.recoveries) c.self.view_is in
    let within : c.in-Some.index < length v.items = rw same c.in-Some.ensures.0 in
    let is = c.in-Some.ensures.1 x in
    let has : (get_or v.items c.in-Some.index x).id ≡ c.args.id = rw same is in
    let there = subst (λ (s : AuditRoom). IsSomeAnd (recovery_at s.audit c.args.id) (λ (r : Recovery). is_unended r ≡ true)) (sym c.self.view_is) c.requires in
    let open-now = unended-there c.args.id v.items c.in-Some.index x c.self.invariant.audit.rising within c.index_mut.ensures.value has there in
    found-set c.args.id (ended_so c.args.at c.args.outcome) (λ r. refl) (λ r. refl) (record { recoveries = v.items; next = c.self.inside.next }) c.in-Some.index x c.end_so.new.recovery
    c.self.inside.index c.self.invariant within c.index_mut.ensures.value has c.end_so.ensures (ended-stays c.args.at c.args.outcome x open-now)
