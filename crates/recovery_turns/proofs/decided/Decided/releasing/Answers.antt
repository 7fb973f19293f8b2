use Rattle.std.proofs.Common.{◌≡◌, ◌<◌, ◌++◌, ◌∷◌, [], cond, List, length, get_or, ap, subst, ◌∙◌}
use Rattle.recovery_turns.proofs.Prelude.{Recovery, ServerNo, decided_on, releases, why_of}
use Rattle.recovery_turns.proofs.Prelude.task
use Rattle.recovery_turns.proofs.Lists.{passing-onto}
use Rattle.recovery_turns.proofs.decided.Decided.releasing.Goals as goal

pub loop-no-preserved : goal.loop-no-preserved
loop-no-preserved c =
    let r = c.args.of.now in
    let lost = (decided_on r c.args.self.now).outcome.lost in
    let k = c.loop-no.no-index in
    let same : c.deref-no-items.result.now ≡ r.replicas = c.deref-no-items.ensures.value ∙ ap (λ (x : Recovery). x.replicas) c.of.view_is in
    passing-onto task.Releasing (λ n. releases r.purpose (why_of lost n)) r.replicas k (record { 0 = 0 }) c.loop-no.tasks.items c.push_if.new.tasks.items c.releases-given.result
    (subst (λ (xs : List ServerNo). k < length xs) same c.loop-no-test.true) c.loop-no.invariant
    (c.in_ok-push_if.ensures ∙ ap (λ (xs : List ServerNo). c.loop-no.tasks.items ++ cond c.releases-given.result (task.Releasing (get_or xs k (record { 0 = 0 })) ∷ []) []) same)
    (c.releases-given.ensures ∙ ap (λ (x : Recovery). releases x.purpose c.why_of.result) c.of.view_is ∙ ap (releases r.purpose) c.why_of.ensures
    ∙ ap (λ (xs : List ServerNo). releases r.purpose (why_of lost (get_or xs k (record { 0 = 0 })))) same)
