use Rattle.std.proofs.Common.{◌≡◌, None, length}
use Rattle.orch_core.proofs.Prelude.{cleared}
use Rattle.orch_core.proofs.opening.empty_slots.Given as goal

abbrev pub invariant-loop-poller : goal.invariant-loop-poller
invariant-loop-poller l = record {
  len : length l.slots.items ≡ length l.initial.slots.items;
  slots : l.slots.items ≡ cleared None l.poller l.initial.slots.items;
}
