use Rattle.std.proofs.Common.{◌∙◌, ℕ, List, Option, None, add-one, ap, replicate, sym, arith, slice_set}
use Rattle.orch_core.proofs.Prelude.{Observation, cleared, cleared_all, cleared_next, length-set}
use Rattle.orch_core.proofs.opening.empty_slots.Goals as goal

pub loop-poller-preserved : goal.loop-poller-preserved
loop-poller-preserved c =
    let first = c.args.slots.now.items in
    let before = c.loop-poller.slots.items in
    let k = c.loop-poller.poller in
    let here = c.loop-poller-test.true in
    let all = c.requires in
    record {
      len = length-set before k c.empty_slot.new.slot ∙ c.loop-poller.invariant.len;
      slots = ap (λ (slot : Option Observation). slice_set before k slot) c.empty_slot.ensures
          ∙ (ap (λ (xs : List (Option Observation)). slice_set xs k None) c.loop-poller.invariant.slots
          ∙ (cleared_next None k first (omega (arith, here, all)) ∙ ap (λ (n : ℕ). cleared None n first) (sym (add-one k))));
    }

pub returns : goal.returns
returns c =
    let first = c.args.slots.now.items in
    let past = c.loop-poller-test.false in
    let all = c.requires in
    c.loop-poller.invariant.slots ∙ (cleared_all None c.loop-poller.poller first (omega (arith, past, all)) ∙ ap (λ (n : ℕ). replicate n None) all)
