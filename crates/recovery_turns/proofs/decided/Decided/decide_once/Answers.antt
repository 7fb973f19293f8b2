use Rattle.std.proofs.Common.{◌≡◌, ◌-◌, ◌<◌, Option, drop, length, length-drop, sym, subst, ◌∙◌, arith}
use Rattle.recovery_turns.proofs.Prelude.{IsFirst, Recovery, Task, decided_on, ground_by, once}
use Rattle.recovery_turns.proofs.Decisions.{busy_due, idle_due, once_busy}
use Rattle.recovery_turns.proofs.Turned.{begun-named}
use Rattle.recovery_turns.proofs.decided.Decided.decide_once.Goals as goal
use Rattle.recovery_turns.proofs.decided.Decided.decide_once.Goals.{then-is_some-via-then-is_some, then-is_some-via-else-is_some+then-of-len}

pub returns-then-is_some-clause-value : goal.returns-then-is_some-clause-value
returns-then-is_some-clause-value c =
    let r = c.args.of.now in
    let d = c.args.self.now in
    let by = c.args.by.now in
    let a = c.of.inside in
    let long : length (drop a.core.done a.core.ops.items) ≡ length a.core.ops.items - a.core.done = length-drop a.core.done a.core.ops.items in
    elim c.then-is_some.branch as (λ _. decided_on r d ≡ once (ground_by by) (decided_on r d)) [
      | then-is_some-via-then-is_some v ↦ once_busy by.world.now by.book.now by.moment (decided_on r d) (busy_due r d (sym c.is_some.ensures ∙ v.if-is_some.true) c.requires.busy)
      | then-is_some-via-else-is_some+then-of-len v ↦
          let due : 0 < length (drop a.core.done a.core.ops.items) = omega (arith, v.if-of-len.true, v.len.ensures) in
          once_busy by.world.now by.book.now by.moment (decided_on r d)
          (idle_due r d (sym c.is_some.ensures ∙ v.if-is_some.false) (subst (λ (x : Recovery). 0 < length x.core.ops) c.of.view_is due))
    ]

pub take-requires-clause-named : goal.take-requires-clause-named
take-requires-clause-named c =
    let r = c.args.of.now in
    let d = c.args.self.now in
    begun-named (length c.args.by.now.book.now.names) (decided_on r d) (decided_on r c.pop.new.self) c.in-Some.task (drop 1 (decided_on r d).queue)
    (subst (λ (o : Option Task). IsFirst (decided_on r d).queue o) c.in-Some.is c.next.ensures) c.in_ok-pop.ensures.value c.requires.named
