use Rattle.std.proofs.Common.{rules, ap, sym}
use Rattle.audit_log.proofs.Prelude.{Recovery, answers_always}
use Rattle.audit_log.proofs.Finding.{stands}
use Rattle.audit_log.proofs.audit.Audit.index_of.Goals as goal

pub returns : goal.returns
returns c =
    let v = c.self.inside.recoveries.items in
    let bound = rw c.deref.ensures.value at c.binary_search_by_key.ensures.bound in
    let position = rw c.deref.ensures.value at (c.binary_search_by_key.ensures.position (λ (r : Recovery). r.id) (answers_always _ _ _ (λ f a r q k. search rules))) in
    rw c.ok.ensures.value (rw (ap (λ s. s.audit.recoveries) (sym c.self.view_is)) (stands c.args.id v c.binary_search_by_key.result c.self.invariant.audit.rising bound position))
