use Rattle.std.proofs.Common.{Bool, cond, sym, ap, ◌∙◌, Some}
use Rattle.recovery_turns.proofs.Prelude.{eq-eqb, ne_eqb, seen-at, seen_of}
use Rattle.recovery_turns.proofs.look.kept.Goals as goal

pub returns-then-sight-no : goal.returns-then-sight-no
returns-then-sight-no c =
    let s = c.args.sight.now in
    sym (seen-at c.args.job.now.seen s.no s.seen c.args.no.0
    ∙ ap (λ (b : Bool). cond b (Some s.seen) (seen_of c.args.job.now.seen c.args.no.0)) (eq-eqb s.no.0 c.args.no.0 c.if-sight-no.true))

pub returns-else-sight-no : goal.returns-else-sight-no
returns-else-sight-no c =
    let s = c.args.sight.now in
    c.sight.ensures
    ∙ sym (seen-at c.args.job.now.seen s.no s.seen c.args.no.0
    ∙ ap (λ (b : Bool). cond b (Some s.seen) (seen_of c.args.job.now.seen c.args.no.0)) (ne_eqb s.no.0 c.args.no.0 c.if-sight-no.false))
