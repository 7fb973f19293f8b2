use Rattle.std.proofs.Common.{ap, ◌∙◌, sym, subst, length}
use Rattle.operations.specs.Jobs.{Job}
use Rattle.operations.specs.Named.{IsNamed}
use Rattle.operations.specs.Turns.{Turned}
use Rattle.operations.proofs.Named.{named-after}
use Rattle.model_tests.proofs.jobs.turn.Goals as goal

pub returns : goal.returns
returns c =
    let count = length c.args.world.now.servers in
    let told = ap (λ (t : Turned). t.job) c.in_ok-look.ensures.turn in
    subst (λ (j : Job). IsNamed count j) (sym (c.in_ok-step.ensures.job ∙ told)) (named-after count c.args.world.now 1 (record { 0 = 0 }) c.args.job.now c.requires)
