use Rattle.std.proofs.Common.{[], ◌∷◌, Err, Option, ap, arith, sym, subst}
use Rattle.tasks.proofs.Prelude.{Ran, Ran-more, Ran-nil, Turn, WasCutOff, cut-at, engine, err_from_is_err_and, option_to_list}
use Rattle.tasks.proofs.single.take_one.Goals as goal

pub returns-in_err-turn-in-Some-clause-err : goal.returns-in_err-turn-in-Some-clause-err
returns-in_err-turn-in-Some-clause-err g c =
    let kept = g.K.Keeper.kept c.args.keeper.now in
    let now = g.K.Keeper.kept c.turn.new.keeper in
    let p = err_from_is_err_and c.from_residual.result c.from_residual.ensures.1 in
    rw (p.1, p.2)
    (subst (λ (o : Option Turn). WasCutOff engine kept c.args.engine.now (option_to_list o) now c.turn.new.self c.in_err-turn-in-Some.field-0.0) (sym c.in-Some.is)
    (cut-at engine kept kept now c.args.engine.now c.args.engine.now c.turn.new.self (c.in-Some.t ∷ []) 0 c.in-Some.t c.in_err-turn-in-Some.field-0.0 (omega arith) (Ran-nil engine kept c.args.engine.now) c.in_err-turn-in-Some.ensures.err c.in_err-turn-in-Some.ensures.kept
    (λ e. c.in_err-turn-in-Some.ensures.calls (ap Err e))))

pub returns-in_ok-turn-in-Some-clause-ok : goal.returns-in_ok-turn-in-Some-clause-ok
returns-in_ok-turn-in-Some-clause-ok g c =
    let kept = g.K.Keeper.kept c.args.keeper.now in
    let now = g.K.Keeper.kept c.turn.new.keeper in
    subst (λ (o : Option Turn). Ran engine kept c.args.engine.now (option_to_list o) now c.turn.new.self) (sym c.in-Some.is)
    (Ran-more engine kept kept now c.args.engine.now c.args.engine.now c.turn.new.self [] c.in-Some.t (Ran-nil engine kept c.args.engine.now) c.in_ok-turn-in-Some.ensures.ok c.in_ok-turn-in-Some.ensures.kept)

pub returns-in-None-clause-ok : goal.returns-in-None-clause-ok
returns-in-None-clause-ok g c =
    let kept = g.K.Keeper.kept c.args.keeper.now in
    subst (λ (o : Option Turn). Ran engine kept c.args.engine.now (option_to_list o) kept c.args.engine.now) (sym c.in-None.is) (Ran-nil engine kept c.args.engine.now)
