use Rattle.std.proofs.Common.{◌≡◌, ◌<◌, List, Some, Err, length, ap, subst, sym, ◌∙◌, arith, true, nat_lt, slice_get}
use Rattle.server_model.proofs.Prelude.{Index, Server, World, auto_readiness, chain_meets, coord_after, err_from_is_err_and, errant_set, false≢true}
use Rattle.server_model.proofs.Prelude.{held_len, kept_coord, purged_answer, purged_len, server_at, slice_get_within, sources_in, uuids, uuids_in}
use Rattle.server_model.proofs.Told.{log-logged}
use Rattle.server_model.proofs.Lists.{slice_get-index}
use Rattle.server_model.proofs.AutoAttached.{auto-ends, auto-errant, auto-found, auto-held, auto-refused, auto-target, errant-kept, fault-given, held-within, purged-fault}
use Rattle.server_model.proofs.world.World.auto_place.Goals as goal

-- the server is there, and the walk went over the world's servers
pub returns-in_err-auto_readiness-clause-answer : goal.returns-in_err-auto_readiness-clause-answer
returns-in_err-auto_readiness-clause-answer c =
    let within : c.args.no.0 < length c.self.inside.servers.items = subst (λ (w : World). c.args.no.0 < length w.servers) (sym c.self.view_is) c.requires.server in
    let here = slice_get-index c.self.inside.servers.items c.args.no.0 c.index.result.now within c.index.ensures in
    let loops = c.chain_meets-loops.ensures
    ∙ ap (λ (xs : List Server). chain_meets (sources_in xs) (length xs) c.args.to.0 c.args.no.0) (c.deref.ensures.value ∙ ap (λ (w : World). w.servers) c.self.view_is) in
    let p = err_from_is_err_and c.from_residual.result c.from_residual.ensures.1 in
    rw (p.1, p.2)
    (auto-refused c.args.self.now c.args.no.0 c.args.observed.now c.args.to.0 c.index.result.now c.in_err-auto_readiness.field-0.0
    (subst (λ (w : World). server_at w c.args.no.0 ≡ Some c.index.result.now) c.self.view_is here)
    (ap (auto_readiness c.index.result.now) (sym loops) ∙ sym c.auto_readiness.ensures ∙ c.in_err-auto_readiness.was))

pub returns-then-not-is_empty-clause-answer : goal.returns-then-not-is_empty-clause-answer
returns-then-not-is_empty-clause-answer c =
    let within : c.args.no.0 < length c.self.inside.servers.items = subst (λ (w : World). c.args.no.0 < length w.servers) (sym c.self.view_is) c.requires.server in
    let beyond : c.args.no.0 < length c.self.inside.executed.items = let e = c.self.invariant.gtids.paired in omega arith in
    let here = slice_get-index c.self.inside.servers.items c.args.no.0 c.index.result.now within c.index.ensures in
    let beside = slice_get-index c.self.inside.executed.items c.args.no.0 c.index-2.result.now beyond c.index-2.ensures in
    let loops = c.chain_meets-loops.ensures
    ∙ ap (λ (xs : List Server). chain_meets (sources_in xs) (length xs) c.args.to.0 c.args.no.0) (c.deref.ensures.value ∙ ap (λ (w : World). w.servers) c.self.view_is) in
    let on : c.self.inside.gtid ≡ true = ap (λ (w : World). w.gtid) c.self.view_is ∙ c.requires.target.gtid in
    let set : c.in_ok-errant.errant ≡ errant_set (uuids c.args.self.now) c.args.observed.now c.index.result.now.history.txns =
    errant-kept c.self.inside.servers.items c.self.inside.gtid c.index.result.now c.index-2.result.now c.args.observed.now c.in_ok-errant.errant
    (c.self.invariant.gtids.kept c.args.no.0 c.index.result.now c.index-2.result.now here beside) on c.in_ok-errant.ensures.sets.0 c.in_ok-errant.ensures.sets.1 c.in_ok-errant.ensures.rest
    ∙ ap (λ (w : World). errant_set (uuids w) c.args.observed.now c.index.result.now.history.txns) c.self.view_is in
    auto-errant c.args.self.now c.args.no.0 c.args.observed.now c.args.to.0 c.index.result.now c.in_ok-errant.errant
    (subst (λ (w : World). server_at w c.args.no.0 ≡ Some c.index.result.now) c.self.view_is here)
    (ap (auto_readiness c.index.result.now) (sym loops) ∙ sym c.auto_readiness.ensures ∙ c.in_ok-auto_readiness.was)
    set (λ e. false≢true (sym c.if-not-is_empty.true ∙ c.is_empty.ensures.list.1 e))

pub index-source-requires : goal.index-source-requires
index-source-requires c =
    let target = c.requires.target.target in
    let there : slice_get c.self.inside.servers.items c.args.to.0 ≡ Some target = subst (λ (w : World). server_at w c.args.to.0 ≡ Some target) (sym c.self.view_is) c.requires.target.there in
    let below = slice_get_within c.self.inside.servers.items c.args.to.0 target there in
    omega (arith, below)

pub coord_after-requires : goal.coord_after-requires
coord_after-requires c =
    let target = auto-target c.args.self.now c.self.inside.servers.items c.self.inside.gtid c.self.inside.errant c.args.to.0 c.index-source.result.now c.self.view_is c.requires.target c.index-source.ensures in
    let held : c.held_len-held.result ≡ held_len (uuids_in c.deref-2.result.now) c.index-3.result.now.intervals c.index-source.result.now.history.txns =
    c.held_len-held.ensures ∙ ap (λ (x : Server). held_len (uuids_in c.deref-2.result.now) c.index-3.result.now.intervals x.history.txns) c.source.view_is in
    let few = held-within (uuids_in c.deref-2.result.now) c.index-3.result.now.intervals c.index-source.result.now
    (c.self.invariant.gtids.logged c.args.to.0 c.index-source.result.now target.0 target.1) in
    let known = ap (λ (i : Index). length i.log.entries) (log-logged c.source.inside c.index-source.result.now c.source.view_is (ap (λ (x : Server). x.settings.logs) c.source.view_is ∙ target.1)) in
    omega (arith, held, few, known)

-- if no transaction is errant, the source answers by what it has purged

pub returns-in_err-purged_answer-clause-answer : goal.returns-in_err-purged_answer-clause-answer
returns-in_err-purged_answer-clause-answer c =
    let within : c.args.no.0 < length c.self.inside.servers.items = subst (λ (w : World). c.args.no.0 < length w.servers) (sym c.self.view_is) c.requires.server in
    let beyond : c.args.no.0 < length c.self.inside.executed.items = let e = c.self.invariant.gtids.paired in omega arith in
    let here = slice_get-index c.self.inside.servers.items c.args.no.0 c.index.result.now within c.index.ensures in
    let beside = slice_get-index c.self.inside.executed.items c.args.no.0 c.index-2.result.now beyond c.index-2.ensures in
    let besides = slice_get-index c.self.inside.executed.items c.args.no.0 c.index-3.result.now beyond c.index-3.ensures in
    let loops = c.chain_meets-loops.ensures
    ∙ ap (λ (xs : List Server). chain_meets (sources_in xs) (length xs) c.args.to.0 c.args.no.0) (c.deref.ensures.value ∙ ap (λ (w : World). w.servers) c.self.view_is) in
    let on : c.self.inside.gtid ≡ true = ap (λ (w : World). w.gtid) c.self.view_is ∙ c.requires.target.gtid in
    let set : c.in_ok-errant.errant ≡ errant_set (uuids c.args.self.now) c.args.observed.now c.index.result.now.history.txns =
    errant-kept c.self.inside.servers.items c.self.inside.gtid c.index.result.now c.index-2.result.now c.args.observed.now c.in_ok-errant.errant
    (c.self.invariant.gtids.kept c.args.no.0 c.index.result.now c.index-2.result.now here beside) on c.in_ok-errant.ensures.sets.0 c.in_ok-errant.ensures.sets.1 c.in_ok-errant.ensures.rest
    ∙ ap (λ (w : World). errant_set (uuids w) c.args.observed.now c.index.result.now.history.txns) c.self.view_is in
    let target = auto-target c.args.self.now c.self.inside.servers.items c.self.inside.gtid c.self.inside.errant c.args.to.0 c.index-source.result.now c.self.view_is c.requires.target c.index-source.ensures in
    let held : c.held_len-held.result ≡ held_len (uuids_in c.self.inside.servers.items) c.index-3.result.now.intervals c.index-source.result.now.history.txns =
    c.held_len-held.ensures ∙ ap (λ (x : Server). held_len (uuids_in c.deref-2.result.now) c.index-3.result.now.intervals x.history.txns) c.source.view_is
    ∙ ap (λ (xs : List Server). held_len (uuids_in xs) c.index-3.result.now.intervals c.index-source.result.now.history.txns) c.deref-2.ensures.value in
    let count = auto-held c.args.self.now c.self.inside.servers.items c.self.inside.gtid c.self.inside.errant c.index.result.now c.index-source.result.now c.index-3.result.now c.held_len-held.result c.self.view_is
    (c.self.invariant.gtids.kept c.args.no.0 c.index.result.now c.index-3.result.now here besides) on held in
    let is : purged_answer (nat_lt c.held_len-held.result (purged_len c.index-source.result.now)) c.index-source.result.now.first ≡ Err c.in_err-purged_answer.field-0.0 =
    ap (λ k. purged_answer (nat_lt c.held_len-held.result k) c.index-source.result.now.first) (sym c.purged_len.ensures)
    ∙ ap (λ (x : Server). purged_answer (nat_lt c.held_len-held.result c.purged_len.result) x.first) (sym c.source.view_is) ∙ sym c.purged_answer.ensures ∙ c.in_err-purged_answer.was in
    let p = err_from_is_err_and c.from_residual-in_err-purged_answer.result c.from_residual-in_err-purged_answer.ensures.1 in
    rw (p.1, p.2)
    (fault-given c.in_err-purged_answer.field-0.0 _ (purged-fault (nat_lt c.held_len-held.result (purged_len c.index-source.result.now)) c.index-source.result.now.first c.in_err-purged_answer.field-0.0 is)
    (auto-ends c.args.self.now c.args.no.0 c.args.observed.now c.args.to.0 c.index.result.now c.index-source.result.now c.in_ok-errant.errant c.held_len-held.result
    (subst (λ (w : World). server_at w c.args.no.0 ≡ Some c.index.result.now) c.self.view_is here) (subst (λ (w : World). server_at w c.args.to.0 ≡ Some c.index-source.result.now) c.self.view_is target.0)
    (ap (auto_readiness c.index.result.now) (sym loops) ∙ sym c.auto_readiness.ensures ∙ c.in_ok-auto_readiness.was) set (c.is_empty.ensures.list.0 c.if-not-is_empty.false) count ∙ is))

pub returns : goal.returns
returns c =
    let within : c.args.no.0 < length c.self.inside.servers.items = subst (λ (w : World). c.args.no.0 < length w.servers) (sym c.self.view_is) c.requires.server in
    let beyond : c.args.no.0 < length c.self.inside.executed.items = let e = c.self.invariant.gtids.paired in omega arith in
    let here = slice_get-index c.self.inside.servers.items c.args.no.0 c.index.result.now within c.index.ensures in
    record {
      answer =
          let beside = slice_get-index c.self.inside.executed.items c.args.no.0 c.index-2.result.now beyond c.index-2.ensures in
          let besides = slice_get-index c.self.inside.executed.items c.args.no.0 c.index-3.result.now beyond c.index-3.ensures in
          let loops = c.chain_meets-loops.ensures
          ∙ ap (λ (xs : List Server). chain_meets (sources_in xs) (length xs) c.args.to.0 c.args.no.0) (c.deref.ensures.value ∙ ap (λ (w : World). w.servers) c.self.view_is) in
          let on : c.self.inside.gtid ≡ true = ap (λ (w : World). w.gtid) c.self.view_is ∙ c.requires.target.gtid in
          let set : c.in_ok-errant.errant ≡ errant_set (uuids c.args.self.now) c.args.observed.now c.index.result.now.history.txns =
          errant-kept c.self.inside.servers.items c.self.inside.gtid c.index.result.now c.index-2.result.now c.args.observed.now c.in_ok-errant.errant
          (c.self.invariant.gtids.kept c.args.no.0 c.index.result.now c.index-2.result.now here beside) on c.in_ok-errant.ensures.sets.0 c.in_ok-errant.ensures.sets.1 c.in_ok-errant.ensures.rest
          ∙ ap (λ (w : World). errant_set (uuids w) c.args.observed.now c.index.result.now.history.txns) c.self.view_is in
          let target = auto-target c.args.self.now c.self.inside.servers.items c.self.inside.gtid c.self.inside.errant c.args.to.0 c.index-source.result.now c.self.view_is c.requires.target c.index-source.ensures in
          let held : c.held_len-held.result ≡ held_len (uuids_in c.self.inside.servers.items) c.index-3.result.now.intervals c.index-source.result.now.history.txns =
          c.held_len-held.ensures ∙ ap (λ (x : Server). held_len (uuids_in c.deref-2.result.now) c.index-3.result.now.intervals x.history.txns) c.source.view_is
          ∙ ap (λ (xs : List Server). held_len (uuids_in xs) c.index-3.result.now.intervals c.index-source.result.now.history.txns) c.deref-2.ensures.value in
          let count = auto-held c.args.self.now c.self.inside.servers.items c.self.inside.gtid c.self.inside.errant c.index.result.now c.index-source.result.now c.index-3.result.now c.held_len-held.result c.self.view_is
          (c.self.invariant.gtids.kept c.args.no.0 c.index.result.now c.index-3.result.now here besides) on held in
          auto-ends c.args.self.now c.args.no.0 c.args.observed.now c.args.to.0 c.index.result.now c.index-source.result.now c.in_ok-errant.errant c.held_len-held.result
          (subst (λ (w : World). server_at w c.args.no.0 ≡ Some c.index.result.now) c.self.view_is here) (subst (λ (w : World). server_at w c.args.to.0 ≡ Some c.index-source.result.now) c.self.view_is target.0)
          (ap (auto_readiness c.index.result.now) (sym loops) ∙ sym c.auto_readiness.ensures ∙ c.in_ok-auto_readiness.was) set (c.is_empty.ensures.list.0 c.if-not-is_empty.false) count
          ∙ ap (λ k. purged_answer (nat_lt c.held_len-held.result k) c.index-source.result.now.first) (sym c.purged_len.ensures)
          ∙ ap (λ (x : Server). purged_answer (nat_lt c.held_len-held.result c.purged_len.result) x.first) (sym c.source.view_is) ∙ sym c.purged_answer.ensures ∙ c.in_ok-purged_answer.was;
      place =
          let besides = slice_get-index c.self.inside.executed.items c.args.no.0 c.index-3.result.now beyond c.index-3.ensures in
          let target = auto-target c.args.self.now c.self.inside.servers.items c.self.inside.gtid c.self.inside.errant c.args.to.0 c.index-source.result.now c.self.view_is c.requires.target c.index-source.ensures in
          let held : c.held_len-held.result ≡ held_len (uuids_in c.self.inside.servers.items) c.index-3.result.now.intervals c.index-source.result.now.history.txns =
          c.held_len-held.ensures ∙ ap (λ (x : Server). held_len (uuids_in c.deref-2.result.now) c.index-3.result.now.intervals x.history.txns) c.source.view_is
          ∙ ap (λ (xs : List Server). held_len (uuids_in xs) c.index-3.result.now.intervals c.index-source.result.now.history.txns) c.deref-2.ensures.value in
          let count = auto-held c.args.self.now c.self.inside.servers.items c.self.inside.gtid c.self.inside.errant c.index.result.now c.index-source.result.now c.index-3.result.now c.held_len-held.result c.self.view_is
          (c.self.invariant.gtids.kept c.args.no.0 c.index.result.now c.index-3.result.now here besides) target.2 held in
          auto-found c.args.self.now c.args.no.0 c.args.to.0 c.index.result.now c.index-source.result.now c.held_len-held.result c.kept_coord.result
          (subst (λ (w : World). server_at w c.args.no.0 ≡ Some c.index.result.now) c.self.view_is here) (subst (λ (w : World). server_at w c.args.to.0 ≡ Some c.index-source.result.now) c.self.view_is target.0)
          count
          (c.kept_coord.ensures
          ∙ ap (kept_coord c.index-source.result.now)
          (c.coord_after.ensures ∙ ap (λ (i : Index). coord_after i.log c.held_len-held.result) (sym (log-logged c.source.inside c.index-source.result.now c.source.view_is
          (ap (λ (x : Server). x.settings.logs) c.source.view_is ∙ target.1)))));
    }
