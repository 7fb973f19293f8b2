use Rattle.std.proofs.Common.{◌≡◌, None, length, subst, sym, ◌∙◌}
use Rattle.recovery_turns.proofs.Prelude.{IfOk-weaker, IsNamed, Job, decided_on, fails, foretold, looked_by, settled, turned}
use Rattle.recovery_turns.proofs.Prelude.Acts.{foretold as job_told}
use Rattle.recovery_turns.proofs.Prelude.cause
use Rattle.recovery_turns.proofs.Turned.{job-named, look-ends, none-ends}
use Rattle.recovery_turns.proofs.decided.Decided.settle.Goals as goal

pub returns-in_default-clause-turn : goal.returns-in_default-clause-turn
returns-in_default-clause-turn c =
    let w = c.args.world.now in
    let a = c.args.of.now in
    let r = decided_on a c.args.self in
    IfOk-weaker c.fail.result (λ l. foretold a l ≡ fails w r cause.NoCandidate None) (λ l. foretold a l ≡ settled w c.args.read c.args.moment r)
    (λ l h. h ∙ none-ends w c.args.read c.args.moment r (sym c.ending.ensures ∙ c.in_default.is)) c.fail.ensures.turn

pub look-requires : goal.look-requires
look-requires c = record {
  named = subst (IsNamed (length c.args.world.now.servers)) (sym c.job.ensures) (job-named (length c.args.world.now.servers) (decided_on c.args.of.now c.args.self) c.requires);
}

pub returns-clause-turn : goal.returns-clause-turn
returns-clause-turn c =
    let w = c.args.world.now in
    let a = c.args.of.now in
    let r = decided_on a c.args.self in
    let told : job_told r.core c.in_ok-look.look ≡ turned w c.args.read c.args.moment r.core =
    subst (λ (j : Job). job_told j c.in_ok-look.look ≡ turned w c.args.read c.args.moment j) c.job.ensures c.in_ok-look.ensures.turn in
    let is = look-ends w c.args.read c.args.moment r c.in-Some.ending c.in_ok-look.look (sym c.ending.ensures ∙ c.in-Some.is) told in
    IfOk-weaker c.by_look.result (λ l. foretold a l ≡ looked_by w r c.in-Some.ending c.in_ok-look.look) (λ l. foretold a l ≡ settled w c.args.read c.args.moment r) (λ l h. h ∙ is) c.by_look.ensures.turn
