use Rattle.std.proofs.Common.{ap, ◌∙◌, slice_set}
use Rattle.server_model.proofs.Lists.{set_self, slice_get-index}
use Rattle.server_model.proofs.gtids.settle.Goals as goal

pub returns : goal.returns
returns c =
    let sets = c.args.sets.now.items in
    let n = c.args.no.0 in
    ap (λ x. slice_set sets n x) c.settle.ensures
    ∙ set_self sets n c.index_mut.result.now (slice_get-index sets n c.index_mut.result.now c.requires c.index_mut.ensures.value)
