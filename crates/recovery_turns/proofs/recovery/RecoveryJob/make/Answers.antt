use Rattle.std.proofs.Common.{None, ap, ◌∙◌}
use Rattle.recovery_turns.proofs.Prelude.{first_tasks}
use Rattle.recovery_turns.proofs.recovery.RecoveryJob.make.Goals as goal

pub returns : goal.returns
returns c =
    λ i. record {
      purpose = c.args.purpose;
      means = c.args.means;
      core = c.in_ok-first_job.ensures.core i;
      stage = c.first_stage.ensures i;
      queue = (c.in_ok-first_tasks.ensures ∙ ap (first_tasks c.args.purpose) c.deref.ensures.value) i;
      failed = c.args.failed;
      replicas = c.args.replicas.items;
      order = c.args.order.items;
      drained = c.in_ok-with_capacity.ensures.items i;
      chosen = c.first_source-chosen.ensures i;
      lead = None;
      eligible = c.new.ensures.items i;
      swaps = c.is_master.ensures i;
      outcome = record {
        promoted = c.first_source-chosen.ensures i;
        followers = c.in_ok-with_capacity-2.ensures.items i;
        lost = c.in_ok-with_capacity-3.ensures.items i;
      };
    }
