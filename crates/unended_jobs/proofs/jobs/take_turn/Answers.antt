use Rattle.std.proofs.Common.{rules, ◌∙◌, ◌≡◌, sym, ap, subst, Option, IfSome}
use Rattle.unended_jobs.proofs.Prelude.{CanGo, Flown, Unended, observation_of}
use Rattle.unended_jobs.proofs.Looking.{foretold-observation}
use Rattle.recovery_plans.specs.ServerModel.Run.{run}
use Rattle.unended_jobs.specs.Jobs.{job_exchanges, job_observation, reads_with}
use Rattle.unended_jobs.proofs.Turning.{book-after, found-here, jobs-after, turn-here}
use Rattle.unended_jobs.proofs.jobs.take_turn.Goals as goal

pub turn-requires : goal.turn-requires
turn-requires c =
    let rise = c.requires.rising in
    let here = found-here c.args.jobs.now.items rise.0 c.args.found.id c.args.found.at c.index_mut.result.now c.args.look rise.1 c.requires.at c.requires.id c.index_mut.ensures.value in
    subst (λ (o : Option Unended). IfSome o (λ j. CanGo c.args.world.now j c.args.look)) here c.requires.can

pub returns-clause-jobs : goal.returns-clause-jobs
returns-clause-jobs c =
    let rise = c.requires.rising in
    jobs-after c.args.jobs.now.items rise.0 c.args.found.id c.args.found.at c.index_mut.result.now c.args.look rise.1 c.requires.at c.requires.id c.index_mut.ensures.value
    c.in_ok-step.step _ c.drop_ended.new.jobs.items c.turn.new.self _ _ (search rules) (search rules) c.in_ok-step.ensures.job c.drop_ended.ensures.going c.drop_ended.ensures.ended

pub returns-clause-book : goal.returns-clause-book
returns-clause-book c =
    let rise = c.requires.rising in
    book-after c.args.jobs.now.items rise.0 c.args.found.id c.args.found.at c.index_mut.result.now c.args.look rise.1 c.requires.at c.requires.id c.index_mut.ensures.value
    c.in_ok-step.step _ _ c.store.new.book c.drop_ended.new.book c.args.book.now (search rules) (search rules) c.drop_ended.ensures.going c.drop_ended.ensures.ended

pub returns-clause-world : goal.returns-clause-world
returns-clause-world c =
    let rise = c.requires.rising in
    let turned = turn-here c.args.jobs.now.items rise.0 c.args.found.id c.args.found.at c.index_mut.result.now c.args.look rise.1 c.requires.at c.requires.id c.index_mut.ensures.value in
    c.in_ok-step.ensures.world ∙ ap (λ (t : Option Flown). run c.args.world.now (job_exchanges t)) (sym turned)

pub returns-clause-reads : goal.returns-clause-reads
returns-clause-reads c =
    let rise = c.requires.rising in
    let turned = turn-here c.args.jobs.now.items rise.0 c.args.found.id c.args.found.at c.index_mut.result.now c.args.look rise.1 c.requires.at c.requires.id c.index_mut.ensures.value in
    let same : c.in_ok-step.observation ≡ observation_of c.args.look = search rules in
    c.store.ensures.reads ∙ ap (reads_with c.args.reads.now) (same ∙ sym (foretold-observation c.index_mut.result.now c.args.look)) ∙ ap (λ (t : Option Flown). reads_with c.args.reads.now (job_observation t)) (sym turned)
