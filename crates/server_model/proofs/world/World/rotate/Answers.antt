use Rattle.std.proofs.Common.{◌<◌, ◌∙◌, ◌≡◌, Some, ℕ, ap, arith, length, refl, subst, sym, true}
use Rattle.server_model.proofs.Prelude.{Index, Server, World, end_of, ne_eqb, rotated, server_at}
use Rattle.server_model.proofs.Lists.{slice_get-index}
use Rattle.server_model.proofs.Changed.{IsKept-rotated, rotated-left, rotate-answered}
use Rattle.server_model.proofs.ExecutedSets.{AreGtids-still}
use Rattle.server_model.proofs.OwnCounts.{own-still}
use Rattle.server_model.proofs.PurgedFiles.{purged_txns-rotated}
use Rattle.server_model.proofs.Told.{log-logged}
use Rattle.server_model.proofs.world.World.rotate.Goals.{After-flushes_left}
use Rattle.server_model.proofs.world.World.rotate.Goals as goal

left_over : (n : ℕ) → (n ≡ 0 → ⊥) → 0 < n
left_over n some = omega arith

-- the server logs, and a new file may be asked for
some_left : (c : After-flushes_left) → c.s.inside.settings.logs ≡ true → (c.flushes_left.result ≡ 0 → ⊥) → c.index_mut-s.result.now.log.flushes ≡ 0 → ⊥
some_left c logs some none =
    some (c.flushes_left.ensures ∙ ap (λ (i : Index). i.flushes) (sym (log-logged c.s.inside c.index_mut-s.result.now c.s.view_is logs)) ∙ none)

pub invariant_of-self-2 : goal.invariant_of-self-2
invariant_of-self-2 c =
    let within : c.args.no.0 < length c.self.inside.servers.items = subst (λ (w : World). c.args.no.0 < length w.servers) (sym c.self.view_is) c.requires in
    let here = slice_get-index c.self.inside.servers.items c.args.no.0 c.index_mut-s.result.now within c.index_mut-s.ensures.value in
    record {
      kept = rw c.rotate.ensures
          (IsKept-rotated c.self.inside.servers.items c.self.inside.errant c.args.no.0 c.index_mut-s.result.now c.self.invariant.kept here (left_over c.index_mut-s.result.now.log.flushes (some_left (goal.at.invariant_of-self-2 c).After-flushes_left c.if-not-s-2.false c.if-flushes_left-eq0.false)));
      own = rw c.rotate.ensures (own-still c.self.inside.servers.items c.self.inside.own.items c.args.no.0 c.index_mut-s.result.now (rotated c.index_mut-s.result.now) c.self.invariant.own here refl);
      gtids = rw c.rotate.ensures (AreGtids-still c.self.inside.servers.items c.self.inside.executed.items c.self.inside.purged.items c.self.inside.gtid c.args.no.0 c.index_mut-s.result.now (rotated c.index_mut-s.result.now) c.self.invariant.gtids here refl refl refl
          (purged_txns-rotated c.index_mut-s.result.now (c.self.invariant.kept.fit c.args.no.0 c.index_mut-s.result.now here)));
    }

pub returns-clause-answer : goal.returns-clause-answer
returns-clause-answer c =
    let within : c.args.no.0 < length c.self.inside.servers.items = subst (λ (w : World). c.args.no.0 < length w.servers) (sym c.self.view_is) c.requires in
    let here = slice_get-index c.self.inside.servers.items c.args.no.0 c.index_mut-s.result.now within c.index_mut-s.ensures.value in
    rotate-answered c.args.self.now c.args.no.0 c.index_mut-s.result.now c.end-end.result
    (subst (λ (w : World). server_at w c.args.no.0 ≡ Some c.index_mut-s.result.now) c.self.view_is here)
    (ap (λ (x : Server). x.up) (sym c.s.view_is) ∙ c.if-not-s.false) (ap (λ (x : Server). x.settings.logs) (sym c.s.view_is) ∙ c.if-not-s-2.false)
    (ne_eqb c.index_mut-s.result.now.log.flushes 0 (some_left (goal.at.returns-clause-answer c).After-flushes_left c.if-not-s-2.false c.if-flushes_left-eq0.false))
    (c.end-end.ensures ∙ ap (λ (i : Index). end_of i.log) (sym (log-logged c.s-2.inside c.rotate.new.self c.s-2.view_is
    (ap (λ (x : Server). x.settings.logs) (c.s-2.view_is ∙ c.rotate.ensures ∙ ap rotated (sym c.s.view_is)) ∙ c.if-not-s-2.false)))
    ∙ ap (λ (s : Server). end_of s.log.log) c.rotate.ensures)

pub returns-clause-world : goal.returns-clause-world
returns-clause-world c =
    let within : c.args.no.0 < length c.self.inside.servers.items = subst (λ (w : World). c.args.no.0 < length w.servers) (sym c.self.view_is) c.requires in
    rotated-left c.args.self.now c.self.inside.servers.items c.self.inside.gtid c.self.inside.errant c.args.no.0 c.end-end.result c.index_mut-s.result.now c.rotate.new.self c.self.view_is
    (slice_get-index c.self.inside.servers.items c.args.no.0 c.index_mut-s.result.now within c.index_mut-s.ensures.value) c.rotate.ensures
