use Rattle.std.proofs.Common.{◌∙◌, Some, ap, refl, slice_set}
use Rattle.instance_keeper.proofs.Prelude.{values}
use Rattle.instance_keeper.proofs.Counts.{set_counts, set_same, set_values}
use Rattle.instance_keeper.proofs.book.swap_in.Goals as goal

pub returns-in_default-clause-keys : goal.returns-in_default-clause-keys
returns-in_default-clause-keys c = set_counts c.args.instances.now.entries 0 c.args.instance.now.no.0 c.index_mut.result.now c.requires.keys

pub returns-in_default-clause-none : goal.returns-in_default-clause-none
returns-in_default-clause-none c =
    λ is. (
      set_values c.args.instances.now.entries c.args.instance.now.no.0 c.index_mut.result.now
          ∙ set_same (values c.args.instances.now) c.args.instance.now.no.0 c.index_mut.result.now c.index_mut.ensures.value,
      refl,
    )

pub returns-clause-keys : goal.returns-clause-keys
returns-clause-keys c = set_counts c.args.instances.now.entries 0 c.args.instance.now.no.0 (Some c.swap.new.x) c.requires.keys

pub returns-clause-swapped : goal.returns-clause-swapped
returns-clause-swapped c =
    λ is. set_values c.args.instances.now.entries c.args.instance.now.no.0 (Some c.swap.new.x)
    ∙ ap (λ i. slice_set (values c.args.instances.now) c.args.instance.now.no.0 (Some i)) c.swap.ensures.x_after
