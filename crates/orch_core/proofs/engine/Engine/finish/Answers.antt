use Rattle.std.proofs.Common.{◌≡◌, ◌∙◌, ◌+◌, ◌<◌, ◌∷◌, ◌++◌, refl, sym, ap, subst, length, List, arith, All}
use Rattle.orch_core.proofs.Prelude.{All-tail, IsTurn, NamesOneOf, Ran, ServerNo, State, Turn, WasCutOff, by_name, cause-fine, cause-later, engine}
use Rattle.orch_core.proofs.Prelude.{flat_map, nodes_of, polls, replicates, round_of}
use Rattle.orch_core.proofs.Prelude.act
use Rattle.orch_core.proofs.Prelude.turn
use Rattle.orch_core.proofs.Finishing.{FinishedBy-told, Rounds-more, Rounds-none, cut-first, cut-round, named-others, round-less, told-more, turns-round}
use Rattle.orch_core.proofs.engine.Engine.finish.Goals as goal

pub rounds-preserved : goal.rounds-preserved
rounds-preserved g c =
    let turns : turn.Act (act.Job c.args.job) ∷ c.deref.result.now ≡ round_of c.args.self.now c.args.job =
    ap (λ (ts : List Turn). turn.Act (act.Job c.args.job) ∷ ts) (c.deref.ensures.value ∙ c.in-Ok.ensures ∙ ap (λ (ns : List ServerNo). flat_map replicates ns ++ flat_map polls ns) c.order.ensures.order)
    ∙ ap (λ (s : State). round_of s c.args.job) c.self.view_is in
    let opened = sym c.is_open-in-rounds.ensures ∙ c.rounds-test.true in
    let ran = subst (λ (ts : List Turn). Ran engine (g.K.Keeper.kept c.rounds.keeper) c.rounds.self ts (g.K.Keeper.kept c.round.new.keeper) c.round.new.self) turns c.in-Ok-round.ensures.ok in
    let before = c.rounds.invariant.rounds in
    record {
      rounds = (
        before.0 + 1,
        Rounds-more engine (λ (s : State). s) (λ rows a t. refl) (g.K.Keeper.kept c.args.keeper.now) (g.K.Keeper.kept c.rounds.keeper) (g.K.Keeper.kept c.round.new.keeper) c.args.self.now c.rounds.self c.round.new.self c.args.job before.0 c.shows_state-in-rounds.ensures before.1 opened ran,
        told-more c.args.self.now c.rounds.self c.args.job before.0 _ before.1.here c.in-Ok-round.ensures.reply,
      );
      later = omega (arith, c.rounds.invariant.later, c.in-Ok-round.ensures.cause.later);
      servers = c.round.ensures.servers ∙ c.rounds.invariant.servers;
      nodes = c.round.ensures.nodes ∙ c.rounds.invariant.nodes;
    }

pub rounds-smaller : goal.rounds-smaller
rounds-smaller g c =
    let turns : turn.Act (act.Job c.args.job) ∷ c.deref.result.now ≡ round_of c.args.self.now c.args.job =
    ap (λ (ts : List Turn). turn.Act (act.Job c.args.job) ∷ ts) (c.deref.ensures.value ∙ c.in-Ok.ensures ∙ ap (λ (ns : List ServerNo). flat_map replicates ns ++ flat_map polls ns) c.order.ensures.order)
    ∙ ap (λ (s : State). round_of s c.args.job) c.self.view_is in
    let opened = sym c.is_open-in-rounds.ensures ∙ c.rounds-test.true in
    let ran = subst (λ (ts : List Turn). Ran engine (g.K.Keeper.kept c.rounds.keeper) c.rounds.self ts (g.K.Keeper.kept c.round.new.keeper) c.round.new.self) turns c.in-Ok-round.ensures.ok in
    round-less engine (λ (s : State). s) (λ rows a t. refl) (g.K.Keeper.kept c.rounds.keeper) (g.K.Keeper.kept c.round.new.keeper) (by_name c.args.self.now.book.names) c.rounds.self c.round.new.self c.args.job c.shows_state-in-rounds.ensures opened ran

pub round-requires-clause-turns : goal.round-requires-clause-turns
round-requires-clause-turns g c =
    let turns : turn.Act (act.Job c.args.job) ∷ c.deref.result.now ≡ round_of c.args.self.now c.args.job =
    ap (λ (ts : List Turn). turn.Act (act.Job c.args.job) ∷ ts) (c.deref.ensures.value ∙ c.in-Ok.ensures ∙ ap (λ (ns : List ServerNo). flat_map replicates ns ++ flat_map polls ns) c.order.ensures.order)
    ∙ ap (λ (s : State). round_of s c.args.job) c.self.view_is in
    let names = c.shows_state.ensures.names in
    let servers : length c.args.self.now.book.names ≡ length c.rounds.self.world.servers = names ∙ sym c.rounds.invariant.servers in
    let order = subst (λ (s : State). All (λ (n : ServerNo). n.0 < length s.book.names) (by_name s.book.names)) c.self.view_is (subst (λ (ns : List ServerNo). All (λ (n : ServerNo). n.0 < length c.self.inside.knowledge.book.names) ns) c.order.ensures.order c.order.ensures.within) in
    let all = turns-round (length c.args.self.now.book.names) (by_name c.args.self.now.book.names) c.args.job order in
    let each : All (IsTurn (length c.rounds.self.world.servers)) (turn.Act (act.Job c.args.job) ∷ c.deref.result.now) =
    subst (λ (ts : List Turn). All (IsTurn (length c.rounds.self.world.servers)) ts) (sym turns) (subst (λ n. All (IsTurn n) (round_of c.args.self.now c.args.job)) servers all) in
    All-tail (IsTurn (length c.rounds.self.world.servers)) (turn.Act (act.Job c.args.job)) c.deref.result.now each

pub round-requires-clause-named : goal.round-requires-clause-named
round-requires-clause-named g c =
    subst (λ (ts : List Turn). All (NamesOneOf (nodes_of c.rounds.self)) ts) (sym (c.deref.ensures.value ∙ c.in-Ok.ensures)) (named-others (nodes_of c.rounds.self) c.order.result.now)

pub returns-in-Err-clause-err : goal.returns-in-Err-clause-err
returns-in-Err-clause-err g c =
    let turns : turn.Act (act.Job c.args.job) ∷ c.deref.result.now ≡ round_of c.args.self.now c.args.job =
    ap (λ (ts : List Turn). turn.Act (act.Job c.args.job) ∷ ts) (c.deref.ensures.value ∙ c.in-Ok.ensures ∙ ap (λ (ns : List ServerNo). flat_map replicates ns ++ flat_map polls ns) c.order.ensures.order)
    ∙ ap (λ (s : State). round_of s c.args.job) c.self.view_is in
    let opened = sym c.is_open-in-rounds.ensures ∙ c.rounds-test.true in
    let before = c.rounds.invariant.rounds in
    cut-round engine (λ (s : State). s) (g.K.Keeper.kept c.args.keeper.now) (g.K.Keeper.kept c.rounds.keeper) (g.K.Keeper.kept c.round.new.keeper) c.args.self.now c.rounds.self c.round.new.self c.args.job before.0 c.in-Err.fault before.1 opened
    (subst (λ (ts : List Turn). WasCutOff engine (g.K.Keeper.kept c.rounds.keeper) c.rounds.self ts (g.K.Keeper.kept c.round.new.keeper) c.round.new.self c.in-Err.fault) turns c.in-Err.ensures.err)

pub returns-in_default-clause-err : goal.returns-in_default-clause-err
returns-in_default-clause-err g c = cut-first engine (λ (s : State). s) (g.K.Keeper.kept c.args.keeper.now) c.args.self.now c.args.job _ (λ same. cc) (sym c.is_open.ensures ∙ c.if-not-is_open.false)

pub returns-clause-ok : goal.returns-clause-ok
returns-clause-ok g c =
    let before = c.rounds.invariant.rounds in
    let closed = sym c.is_open-in-rounds.ensures ∙ c.rounds-test.false in
    FinishedBy-told (g.K.Keeper.kept c.args.keeper.now) (g.K.Keeper.kept c.rounds.keeper) c.args.self.now c.rounds.self c.args.job before.0 _ before.1 closed before.2

pub returns-then-not-is_open-clause-ok : goal.returns-then-not-is_open-clause-ok
returns-then-not-is_open-clause-ok g c =
    let kept = g.K.Keeper.kept c.args.keeper.now in
    let closed = sym c.is_open.ensures ∙ c.if-not-is_open.true in
    FinishedBy-told kept kept c.args.self.now c.args.self.now c.args.job 0 _ (Rounds-none engine (λ (s : State). s) (λ rows a t. refl) kept c.args.self.now c.args.job) closed refl

pub returns-in-Err-clause-cause : goal.returns-in-Err-clause-cause
returns-in-Err-clause-cause g c = cause-later _ _ _ _ c.rounds.invariant.later c.in-Err.ensures.cause

pub returns-clause-cause : goal.returns-clause-cause
returns-clause-cause g c = cause-fine _ _ _ c.rounds.invariant.later
