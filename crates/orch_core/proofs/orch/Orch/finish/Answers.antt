use Rattle.std.proofs.Common.{◌≡◌, ◌∙◌, ◌+◌, ◌<◌, refl, sym, ap, subst, length, List, arith, All}
use Rattle.orch_core.proofs.Prelude.{BookState, IsTurn, NamesOneOf, Ran, Recorded, ServerNo, Turn, WasCutOff, by_name, cause-fine, cause-later}
use Rattle.orch_core.proofs.Prelude.{nodes_of, recorder, round_of, round_over}
use Rattle.orch_core.proofs.Others.{closed-others}
use Rattle.orch_core.proofs.Finishing.{Finished-others, Rounds-more, cut-first, cut-round, named-round, round-less, turns-round}
use Rattle.orch_core.proofs.orch.Orch.finish.Goals as goal

pub rounds-preserved : goal.rounds-preserved
rounds-preserved g c =
    let turns : c.deref.result.now ≡ round_of c.args.self.now.state c.args.job =
    c.deref.ensures.value ∙ c.in-Ok.ensures ∙ ap (λ (ns : List ServerNo). round_over ns c.args.job) (c.order.ensures.order ∙ ap (λ (b : BookState). by_name b.names) c.book.ensures)
    ∙ ap (λ (r : Recorded). round_of r.state c.args.job) c.self.view_is in
    let opened = sym c.is_open-in-rounds.ensures ∙ c.rounds-test.true in
    let ran = subst (λ (ts : List Turn). Ran recorder (g.K.Keeper.kept c.rounds.keeper) c.rounds.self ts (g.K.Keeper.kept c.run.new.keeper) c.run.new.self) turns c.in_default-run.ensures.ok in
    let before = c.rounds.invariant.rounds in
    record {
      rounds = (
        before.0 + 1,
        Rounds-more recorder (λ (r : Recorded). r.state) (λ rows a t. refl) (g.K.Keeper.kept c.args.keeper.now) (g.K.Keeper.kept c.rounds.keeper) (g.K.Keeper.kept c.run.new.keeper) c.args.self.now c.rounds.self c.run.new.self c.args.job before.0 c.shows_state-in-rounds.ensures before.1 opened ran,
      );
      later = omega (arith, c.rounds.invariant.later, c.in_default-run.ensures.cause.later);
      servers = c.run.ensures.servers ∙ c.rounds.invariant.servers;
      nodes = c.run.ensures.nodes ∙ c.rounds.invariant.nodes;
    }

pub rounds-smaller : goal.rounds-smaller
rounds-smaller g c =
    let turns : c.deref.result.now ≡ round_of c.args.self.now.state c.args.job =
    c.deref.ensures.value ∙ c.in-Ok.ensures ∙ ap (λ (ns : List ServerNo). round_over ns c.args.job) (c.order.ensures.order ∙ ap (λ (b : BookState). by_name b.names) c.book.ensures)
    ∙ ap (λ (r : Recorded). round_of r.state c.args.job) c.self.view_is in
    let opened = sym c.is_open-in-rounds.ensures ∙ c.rounds-test.true in
    let ran = subst (λ (ts : List Turn). Ran recorder (g.K.Keeper.kept c.rounds.keeper) c.rounds.self ts (g.K.Keeper.kept c.run.new.keeper) c.run.new.self) turns c.in_default-run.ensures.ok in
    round-less recorder (λ (r : Recorded). r.state) (λ rows a t. refl) (g.K.Keeper.kept c.rounds.keeper) (g.K.Keeper.kept c.run.new.keeper) (by_name c.args.self.now.state.book.names) c.rounds.self c.run.new.self c.args.job c.shows_state-in-rounds.ensures opened ran

pub run-requires-clause-turns : goal.run-requires-clause-turns
run-requires-clause-turns g c =
    let turns : c.deref.result.now ≡ round_of c.args.self.now.state c.args.job =
    c.deref.ensures.value ∙ c.in-Ok.ensures ∙ ap (λ (ns : List ServerNo). round_over ns c.args.job) (c.order.ensures.order ∙ ap (λ (b : BookState). by_name b.names) c.book.ensures)
    ∙ ap (λ (r : Recorded). round_of r.state c.args.job) c.self.view_is in
    let names = c.shows_state.ensures.names in
    let servers : length c.args.self.now.state.book.names ≡ length c.rounds.self.state.world.servers = names ∙ sym c.rounds.invariant.servers in
    let order = subst (λ (r : Recorded). All (λ (n : ServerNo). n.0 < length r.state.book.names) (by_name r.state.book.names)) c.self.view_is
    (subst (λ (b : BookState). All (λ (n : ServerNo). n.0 < length b.names) (by_name b.names)) c.book.ensures (subst (λ (ns : List ServerNo). All (λ (n : ServerNo). n.0 < length c.book.result.now.names) ns) c.order.ensures.order c.order.ensures.within)) in
    let all = turns-round (length c.args.self.now.state.book.names) (by_name c.args.self.now.state.book.names) c.args.job order in
    subst (λ (ts : List Turn). All (IsTurn (length c.rounds.self.state.world.servers)) ts) (sym turns) (subst (λ n. All (IsTurn n) (round_of c.args.self.now.state c.args.job)) servers all)

pub run-requires-clause-named : goal.run-requires-clause-named
run-requires-clause-named g c =
    subst (λ (ts : List Turn). All (NamesOneOf (nodes_of c.rounds.self.state)) ts) (sym (c.deref.ensures.value ∙ c.in-Ok.ensures)) (named-round (nodes_of c.rounds.self.state) c.order.result.now c.args.job)

pub returns-in-Err-clause-err : goal.returns-in-Err-clause-err
returns-in-Err-clause-err g c =
    let turns : c.deref.result.now ≡ round_of c.args.self.now.state c.args.job =
    c.deref.ensures.value ∙ c.in-Ok.ensures ∙ ap (λ (ns : List ServerNo). round_over ns c.args.job) (c.order.ensures.order ∙ ap (λ (b : BookState). by_name b.names) c.book.ensures)
    ∙ ap (λ (r : Recorded). round_of r.state c.args.job) c.self.view_is in
    let opened = sym c.is_open-in-rounds.ensures ∙ c.rounds-test.true in
    let before = c.rounds.invariant.rounds in
    cut-round recorder (λ (r : Recorded). r.state) (g.K.Keeper.kept c.args.keeper.now) (g.K.Keeper.kept c.rounds.keeper) (g.K.Keeper.kept c.run.new.keeper) c.args.self.now c.rounds.self c.run.new.self c.args.job before.0 c.in-Err.fault before.1 opened
    (subst (λ (ts : List Turn). WasCutOff recorder (g.K.Keeper.kept c.rounds.keeper) c.rounds.self ts (g.K.Keeper.kept c.run.new.keeper) c.run.new.self c.in-Err.fault) turns c.in-Err.ensures.err)

pub returns-in_default-clause-err : goal.returns-in_default-clause-err
returns-in_default-clause-err g c = cut-first recorder (λ (r : Recorded). r.state) (g.K.Keeper.kept c.args.keeper.now) c.args.self.now c.args.job _ (λ same. cc) (sym c.is_open.ensures ∙ c.if-not-is_open.false)

pub returns-clause-others : goal.returns-clause-others
returns-clause-others g c =
    let closed = sym c.is_open-in-rounds.ensures ∙ c.rounds-test.false in
    let before = c.rounds.invariant.rounds in
    Finished-others recorder (λ (r : Recorded). r.state) (λ rows a t. refl) (g.K.Keeper.kept c.args.keeper.now) (g.K.Keeper.kept c.rounds.keeper) c.args.self.now c.rounds.self c.args.job before.0 before.1 closed

pub returns-then-not-is_open-clause-others : goal.returns-then-not-is_open-clause-others
returns-then-not-is_open-clause-others g c = sym (closed-others c.args.self.now.state.jobs c.args.job (sym c.is_open.ensures ∙ c.if-not-is_open.true))

pub returns-in-Err-clause-cause : goal.returns-in-Err-clause-cause
returns-in-Err-clause-cause g c = cause-later _ _ _ _ c.rounds.invariant.later c.in-Err.ensures.cause

pub returns-clause-cause : goal.returns-clause-cause
returns-clause-cause g c = cause-fine _ _ _ c.rounds.invariant.later
