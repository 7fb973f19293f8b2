use Rattle.std.proofs.Common.{◌≡◌, ◌+◌, subst, sym}
use Rattle.command_outcomes.proofs.Prelude.{IfOk-weaker, LeavesIds, Outcome, allowed, begun_by, decision, discovered, forgotten, job_by, leases_by}
use Rattle.command_outcomes.proofs.Prelude.{lines_of, next_reading, permitted, question, refusal_by, removal_refusal}
use Rattle.book_commands.specs.Decisions.{decided_of}
use Rattle.command_outcomes.specs.CommandsBy.{outcome}
use Rattle.command_outcomes.specs.declared.command.Outcome.{Outcome as Inside}
use Rattle.command_outcomes.proofs.Outcomes.{asked-leaves, begun-leaves, decided-leaves, discovered-leaves, forgotten-leaves}
use Rattle.command_outcomes.proofs.command.outcome_of.Goals as goal

pub returns-in-Decides-default-clause-ids : goal.returns-in-Decides-default-clause-ids
returns-in-Decides-default-clause-ids c =
    let b = c.args.book.now in
    let a = c.args.audit.now.audit in
    let n = c.args.numbers in
    let t = c.args.t.now in
    let what = c.in-Decides-default.what in
    IfOk-weaker c.decision.result (λ (out : Inside). outcome out ≡ decision b a n t what) (λ (out : Inside). LeavesIds out.book)
    (λ out same. subst (λ (o : Outcome). LeavesIds o.book) (sym same) (decided-leaves n.reads a (permitted b t.command) (decided_of b a n.moment t.keys t.command.i what)))
    c.decision.ensures

pub returns-in-Discovers-None-clause-ids : goal.returns-in-Discovers-None-clause-ids
returns-in-Discovers-None-clause-ids c =
    let b = c.args.book.now in
    let a = c.args.audit.now.audit in
    let n = c.args.numbers in
    let t = c.args.t.now in
    IfOk-weaker c.ask.result (λ (out : Inside). outcome out ≡ question b a n.reads t) (λ (out : Inside). LeavesIds out.book)
    (λ out same. subst (λ (o : Outcome). LeavesIds o.book) (sym same) (asked-leaves n.reads (permitted b t.command) (lines_of b a.recoveries t t.command.name)))
    c.ask.ensures

pub returns-in-Discovers-Some-clause-ids : goal.returns-in-Discovers-Some-clause-ids
returns-in-Discovers-Some-clause-ids c =
    let b = c.args.book.now in
    let n = c.args.numbers in
    let o = next_reading c.args.world.now n c.in-Discovers-Some.no in
    IfOk-weaker c.discover.result (λ (out : Inside). outcome out ≡ discovered b n.reads o o.seen) (λ (out : Inside). LeavesIds out.book)
    (λ out same. subst (λ (x : Outcome). LeavesIds x.book) (sym same) (discovered-leaves b n.reads o o.seen)) c.discover.ensures

pub returns-in-Begins-default-clause-ids : goal.returns-in-Begins-default-clause-ids
returns-in-Begins-default-clause-ids c =
    let w = c.args.world.now in
    let b = c.args.book.now in
    let n = c.args.numbers in
    let given = c.args.t.now.command in
    let p = c.in-Begins-default.planner in
    IfOk-weaker c.begin_by.result (λ (out : Inside). outcome out ≡ begun_by w b n given p) (λ (out : Inside). LeavesIds out.book)
    (λ out same. subst (λ (x : Outcome). LeavesIds x.book) (sym same) (begun-leaves n (refusal_by w b n.moment n.every given p) (leases_by w b given p) (job_by w b given p (n.last_job + 1) n.wait n.every))) c.begin_by.ensures

pub returns-in-Forgets-Some-clause-ids : goal.returns-in-Forgets-Some-clause-ids
returns-in-Forgets-Some-clause-ids c =
    let b = c.args.book.now in
    let n = c.args.numbers in
    let given = c.args.t.now.command in
    let no = c.in-Forgets-Some.no in
    IfOk-weaker c.forget.result (λ (out : Inside). outcome out ≡ forgotten n.reads (allowed (removal_refusal b given)) no) (λ (out : Inside). LeavesIds out.book)
    (λ out same. subst (λ (o : Outcome). LeavesIds o.book) (sym same) (forgotten-leaves n.reads (allowed (removal_refusal b given)) no)) c.forget.ensures
