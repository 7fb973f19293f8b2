use Rattle.std.proofs.Common.{◌≡◌, ◌∙◌, ◌+◌, ◌≤◌, ℕ, Bool, false, List, length, ap, refl, subst, sym, arith, rules, All, IsTrue, is_ok, map}
use Rattle.orch_core.proofs.Prelude.{BookState, Change, Row, ServerInit, World, audit_of, cause-carried, cause-fine, cause-stays, counted, err_from_is_err_and}
use Rattle.orch_core.proofs.Prelude.{greatest_id, holder_of, is_opening_change, kept_at_start, kept_claim, kept_if, last_id, last_id-within}
use Rattle.orch_core.proofs.Prelude.{loading, made as claims_made, opening_changes, period_by}
use Rattle.orch_core.proofs.Sources.{KnowsSources}
use Rattle.orch_core.proofs.Starts.{Fits-start, IsOpening, all-loading, IsState-made, StartsBy-made, book-names, count-made, kept_made, moment-within, opened-by, sources-start, starts-reads, world_made}
use Rattle.orch_core.proofs.engine.Engine.make.Goals as goal

pub make-requires-clause-fits : goal.make-requires-clause-fits
make-requires-clause-fits g c = rw (c.room.ensures.room, c.flushes.ensures.flushes) (Fits-start c.args.s.now)

pub complete-requires-clause-names : goal.complete-requires-clause-names
complete-requires-clause-names g c =
    book-names c.args.s.now c.in_ok-world.world c.in_ok-book.book.settings c.in_ok-rows.rows.items c.reload.new.self
    (world_made c.args.s.now c.in_ok-world.world c.room.result c.flushes.result c.in_ok-world.ensures.world c.room.ensures.room c.flushes.ensures.flushes)
    (ap (λ (b : BookState). b.settings) c.in_ok-book.ensures ∙ ap (λ (is : List ServerInit). map (λ i. i.settings) is) c.servers.ensures.value) c.reload.ensures.made

pub complete-requires-clause-sources : goal.complete-requires-clause-sources
complete-requires-clause-sources g c =
    let world = world_made c.args.s.now c.in_ok-world.world c.room.result c.flushes.result c.in_ok-world.ensures.world c.room.ensures.room c.flushes.ensures.flushes in
    subst (λ (w : World). KnowsSources w.servers) (sym world) (sources-start c.args.s.now c.requires)

pub book_of-requires : goal.book_of-requires
book_of-requires g c = subst (λ (is : List ServerInit). length is ≤ 1000) (sym c.servers.ensures.value) c.requires.checked.listed.few

pub overflow_add-next : goal.overflow_add-next
overflow_add-next g c =
    let most = last_id-within c.deref.result.now in
    let is = c.last_id-next.ensures in
    omega (arith, most, is)

pub loaded_audit-requires : goal.loaded_audit-requires
loaded_audit-requires g c =
    let given = c.in_ok-given.given.items in
    let world = world_made c.args.s.now c.in_ok-world.world c.room.result c.flushes.result c.in_ok-world.ensures.world c.room.ensures.room c.flushes.ensures.flushes in
    let count = count-made c.args.s.now c.servers.result.now c.in_ok-book.book c.servers-2.result c.servers.ensures.value c.in_ok-book.ensures c.servers-2.ensures.count in
    let counting : c.in_ok-rows.rows.items ≡ counted (length c.args.s.now.opening.servers) greatest_id given = c.in_ok-rows.ensures ∙ ap (λ (n : ℕ). counted n greatest_id given) count in
    let last : c.last_id-next.result ≡ last_id given = search rules in
    let items : c.deref-3.result.now ≡ counted (length c.args.s.now.opening.servers) greatest_id given = c.deref-3.ensures.value ∙ counting in
    opened-by c.args.s.now given c.deref-3.result.now c.last_id-next.result c.args.wait c.in_ok-configuration.configuration c.requires items last c.in_ok-configuration.ensures

pub returns-in_err-audit-clause-kept : goal.returns-in_err-audit-clause-kept
returns-in_err-audit-clause-kept g c =
    let fails : is_ok c.from_residual-in_err-audit.result ≡ false = search rules in
    c.in_ok-given.ensures.kept ∙ ap (λ (made : Bool). kept_at_start made (g.K.Keeper.kept c.args.keeper.now) c.args.s.now) (sym fails)

pub complete-requires-clause-moment : goal.complete-requires-clause-moment
complete-requires-clause-moment g c =
    let given = c.in_ok-given.given.items in
    let world = world_made c.args.s.now c.in_ok-world.world c.room.result c.flushes.result c.in_ok-world.ensures.world c.room.ensures.room c.flushes.ensures.flushes in
    let count = count-made c.args.s.now c.servers.result.now c.in_ok-book.book c.servers-2.result c.servers.ensures.value c.in_ok-book.ensures c.servers-2.ensures.count in
    let counting : c.in_ok-rows.rows.items ≡ counted (length c.args.s.now.opening.servers) greatest_id given = c.in_ok-rows.ensures ∙ ap (λ (n : ℕ). counted n greatest_id given) count in
    let last : c.last_id-next.result ≡ last_id given = search rules in
    moment-within c.args.s.now given c.in_ok-rows.rows.items c.latest_moment-moment.result.0 c.requires counting (search rules)

pub invariant_of-result : goal.invariant_of-result
invariant_of-result g c =
    let given = c.in_ok-given.given.items in
    let world = world_made c.args.s.now c.in_ok-world.world c.room.result c.flushes.result c.in_ok-world.ensures.world c.room.ensures.room c.flushes.ensures.flushes in
    let count = count-made c.args.s.now c.servers.result.now c.in_ok-book.book c.servers-2.result c.servers.ensures.value c.in_ok-book.ensures c.servers-2.ensures.count in
    let counting : c.in_ok-rows.rows.items ≡ counted (length c.args.s.now.opening.servers) greatest_id given = c.in_ok-rows.ensures ∙ ap (λ (n : ℕ). counted n greatest_id given) count in
    let last : c.last_id-next.result ≡ last_id given = search rules in
    let kept : c.kept_claim-kept.result ≡ kept_claim c.in_ok-rows.rows.items = c.kept_claim-kept.ensures ∙ ap kept_claim c.deref-5.ensures.value in
    let opening : IsOpening c.args.s.now given c.in_ok-world.world c.in_ok-book.book.settings c.in_ok-rows.rows.items c.latest_moment-moment.result c.reload.new.self c.in_ok-book-2.book c.in_ok-audit.audit.audit c.close.new.self.audit c.in_ok-recoveries.recoveries.items c.in_ok-slots.slots.items c.last_read-reads.result c.new.result.items c.args.wait c.in_ok-configuration.configuration c.in_ok-claims.claims c.holder_of.result = record {
      world = world;
      settings_made = ap (λ (b : BookState). b.settings) c.in_ok-book.ensures ∙ ap (λ (is : List ServerInit). map (λ i. i.settings) is) c.servers.ensures.value;
      counting = counting;
      moment_made = search rules;
      loads = c.reload.ensures.made;
      audits = c.in_ok-audit.ensures ∙ ap (λ (n : ℕ). audit_of (period_by c.in_ok-configuration.configuration) (n + 1) c.deref-3.result.now) last ∙ ap (audit_of (period_by c.in_ok-configuration.configuration) (last_id given + 1)) c.deref-3.ensures.value;
      keeps = c.in_ok-recoveries.ensures ∙ ap (λ (xs : List Row). loading (period_by c.in_ok-configuration.configuration) xs c.in_ok-audit.audit.audit c.latest_moment-moment.result) c.deref-4.ensures.value;
      completes = search rules;
      closes = search rules;
      empty = c.in_ok-slots.ensures;
      read = search rules;
      idle = c.new.ensures.items;
      configured = c.in_ok-configuration.ensures;
      claimed = c.in_ok-claims.ensures ∙ ap (claims_made c.args.s.now.nodes) kept;
      held = c.holder_of.ensures ∙ ap holder_of kept;
    } in
    IsState-made _ _ _ _ _ _ _ _ _ _ _ _ _ _ _ _ _ _ opening c.requires

pub returns-clause-ok : goal.returns-clause-ok
returns-clause-ok g c =
    let given = c.in_ok-given.given.items in
    let world = world_made c.args.s.now c.in_ok-world.world c.room.result c.flushes.result c.in_ok-world.ensures.world c.room.ensures.room c.flushes.ensures.flushes in
    let count = count-made c.args.s.now c.servers.result.now c.in_ok-book.book c.servers-2.result c.servers.ensures.value c.in_ok-book.ensures c.servers-2.ensures.count in
    let counting : c.in_ok-rows.rows.items ≡ counted (length c.args.s.now.opening.servers) greatest_id given = c.in_ok-rows.ensures ∙ ap (λ (n : ℕ). counted n greatest_id given) count in
    let last : c.last_id-next.result ≡ last_id given = search rules in
    let kept : c.kept_claim-kept.result ≡ kept_claim c.in_ok-rows.rows.items = c.kept_claim-kept.ensures ∙ ap kept_claim c.deref-5.ensures.value in
    let opening : IsOpening c.args.s.now given c.in_ok-world.world c.in_ok-book.book.settings c.in_ok-rows.rows.items c.latest_moment-moment.result c.reload.new.self c.in_ok-book-2.book c.in_ok-audit.audit.audit c.close.new.self.audit c.in_ok-recoveries.recoveries.items c.in_ok-slots.slots.items c.last_read-reads.result c.new.result.items c.args.wait c.in_ok-configuration.configuration c.in_ok-claims.claims c.holder_of.result = record {
      world = world;
      settings_made = ap (λ (b : BookState). b.settings) c.in_ok-book.ensures ∙ ap (λ (is : List ServerInit). map (λ i. i.settings) is) c.servers.ensures.value;
      counting = counting;
      moment_made = search rules;
      loads = c.reload.ensures.made;
      audits = c.in_ok-audit.ensures ∙ ap (λ (n : ℕ). audit_of (period_by c.in_ok-configuration.configuration) (n + 1) c.deref-3.result.now) last ∙ ap (audit_of (period_by c.in_ok-configuration.configuration) (last_id given + 1)) c.deref-3.ensures.value;
      keeps = c.in_ok-recoveries.ensures ∙ ap (λ (xs : List Row). loading (period_by c.in_ok-configuration.configuration) xs c.in_ok-audit.audit.audit c.latest_moment-moment.result) c.deref-4.ensures.value;
      completes = search rules;
      closes = search rules;
      empty = c.in_ok-slots.ensures;
      read = search rules;
      idle = c.new.ensures.items;
      configured = c.in_ok-configuration.ensures;
      claimed = c.in_ok-claims.ensures ∙ ap (claims_made c.args.s.now.nodes) kept;
      held = c.holder_of.ensures ∙ ap holder_of kept;
    } in
    StartsBy-made _ _ _ _ _ _ _ _ _ _ _ _ _ _ _ _ _ _ opening (g.K.Keeper.kept c.args.keeper.now) c.in_ok-given.ensures.told

pub returns-clause-reads : goal.returns-clause-reads
returns-clause-reads g c = starts-reads (g.K.Keeper.kept c.args.keeper.now) c.args.s.now c.args.wait _ (returns-clause-ok g c)

pub returns-clause-kept : goal.returns-clause-kept
returns-clause-kept g c =
    let given = c.in_ok-given.given.items in
    let world = world_made c.args.s.now c.in_ok-world.world c.room.result c.flushes.result c.in_ok-world.ensures.world c.room.ensures.room c.flushes.ensures.flushes in
    let count = count-made c.args.s.now c.servers.result.now c.in_ok-book.book c.servers-2.result c.servers.ensures.value c.in_ok-book.ensures c.servers-2.ensures.count in
    let counting : c.in_ok-rows.rows.items ≡ counted (length c.args.s.now.opening.servers) greatest_id given = c.in_ok-rows.ensures ∙ ap (λ (n : ℕ). counted n greatest_id given) count in
    let last : c.last_id-next.result ≡ last_id given = search rules in
    let kept : c.kept_claim-kept.result ≡ kept_claim c.in_ok-rows.rows.items = c.kept_claim-kept.ensures ∙ ap kept_claim c.deref-5.ensures.value in
    let opening : IsOpening c.args.s.now given c.in_ok-world.world c.in_ok-book.book.settings c.in_ok-rows.rows.items c.latest_moment-moment.result c.reload.new.self c.in_ok-book-2.book c.in_ok-audit.audit.audit c.close.new.self.audit c.in_ok-recoveries.recoveries.items c.in_ok-slots.slots.items c.last_read-reads.result c.new.result.items c.args.wait c.in_ok-configuration.configuration c.in_ok-claims.claims c.holder_of.result = record {
      world = world;
      settings_made = ap (λ (b : BookState). b.settings) c.in_ok-book.ensures ∙ ap (λ (is : List ServerInit). map (λ i. i.settings) is) c.servers.ensures.value;
      counting = counting;
      moment_made = search rules;
      loads = c.reload.ensures.made;
      audits = c.in_ok-audit.ensures ∙ ap (λ (n : ℕ). audit_of (period_by c.in_ok-configuration.configuration) (n + 1) c.deref-3.result.now) last ∙ ap (audit_of (period_by c.in_ok-configuration.configuration) (last_id given + 1)) c.deref-3.ensures.value;
      keeps = c.in_ok-recoveries.ensures ∙ ap (λ (xs : List Row). loading (period_by c.in_ok-configuration.configuration) xs c.in_ok-audit.audit.audit c.latest_moment-moment.result) c.deref-4.ensures.value;
      completes = search rules;
      closes = search rules;
      empty = c.in_ok-slots.ensures;
      read = search rules;
      idle = c.new.ensures.items;
      configured = c.in_ok-configuration.ensures;
      claimed = c.in_ok-claims.ensures ∙ ap (claims_made c.args.s.now.nodes) kept;
      held = c.holder_of.ensures ∙ ap holder_of kept;
    } in
    search rules ∙ kept_made _ _ _ _ _ _ _ _ _ _ _ _ _ _ _ _ _ _ opening (g.K.Keeper.kept c.args.keeper.now) c.in_ok-given.ensures.told

pub complete-requires-clause-recoveries : goal.complete-requires-clause-recoveries
complete-requires-clause-recoveries g c =
    let fits : Change → Type 0 = λ x. IsTrue (is_opening_change (length c.reload.new.self.names) x) in
    subst (All fits) (sym c.in_ok-recoveries.ensures)
    (all-loading fits (period_by c.in_ok-configuration.configuration) c.deref-4.result.now c.in_ok-audit.audit.audit c.latest_moment-moment.result (λ r. refl))

pub returns-in_err-recoveries-clause-kept : goal.returns-in_err-recoveries-clause-kept
returns-in_err-recoveries-clause-kept g c =
    let gives = err_from_is_err_and c.from_residual-in_err-recoveries.result c.from_residual-in_err-recoveries.ensures.1 in
    let fails : is_ok c.from_residual-in_err-recoveries.result ≡ false = ap is_ok gives.1 in
    c.in_ok-given.ensures.kept ∙ ap (λ (made : Bool). kept_at_start made (g.K.Keeper.kept c.args.keeper.now) c.args.s.now) (sym fails)

pub returns-in_err-book-2-clause-kept : goal.returns-in_err-book-2-clause-kept
returns-in_err-book-2-clause-kept g c =
    let gives = err_from_is_err_and c.from_residual-in_err-book-2.result c.from_residual-in_err-book-2.ensures.1 in
    let fails : is_ok c.from_residual-in_err-book-2.result ≡ false = ap is_ok gives.1 in
    let failed : is_ok c.complete.result ≡ false = ap is_ok c.in_err-book-2.was in
    c.complete.ensures.kept ∙ ap (λ (made : Bool). kept_if made (g.K.Keeper.kept c.given_rows.new.keeper) (opening_changes c.in_ok-world.world c.latest_moment-moment.result c.reload.new.self c.args.s.now.known c.args.s.now.rules c.in_ok-recoveries.recoveries.items)) failed ∙ c.in_ok-given.ensures.kept
    ∙ ap (λ (made : Bool). kept_at_start made (g.K.Keeper.kept c.args.keeper.now) c.args.s.now) (sym fails)

pub returns-in_err-book-2-clause-cause : goal.returns-in_err-book-2-clause-cause
returns-in_err-book-2-clause-cause g c =
    let p = err_from_is_err_and c.from_residual-in_err-book-2.result c.from_residual-in_err-book-2.ensures.1 in
    rw (p.1, p.2) (cause-carried _ _ _ c.complete.result _ c.in_ok-given.ensures.cause.later c.in_err-book-2.was c.complete.ensures.cause)

pub returns-in_err-claims-clause-kept : goal.returns-in_err-claims-clause-kept
returns-in_err-claims-clause-kept g c =
    let gives = err_from_is_err_and c.from_residual-in_err-claims.result c.from_residual-in_err-claims.ensures.1 in
    let fails : is_ok c.from_residual-in_err-claims.result ≡ false = ap is_ok gives.1 in
    c.in_ok-given.ensures.kept ∙ ap (λ (made : Bool). kept_at_start made (g.K.Keeper.kept c.args.keeper.now) c.args.s.now) (sym fails)

pub returns-in_err-rows-clause-cause : goal.returns-in_err-rows-clause-cause
returns-in_err-rows-clause-cause g c =
    let p = err_from_is_err_and c.from_residual-in_err-rows.result c.from_residual-in_err-rows.ensures.1 in
    rw (p.1, p.2) (cause-stays _ _ c.in_ok-given.ensures.cause.later)

pub returns-in_err-audit-clause-cause : goal.returns-in_err-audit-clause-cause
returns-in_err-audit-clause-cause g c =
    let p = err_from_is_err_and c.from_residual-in_err-audit.result c.from_residual-in_err-audit.ensures.1 in
    rw (p.1, p.2) (cause-stays _ _ c.in_ok-given.ensures.cause.later)

pub returns-in_err-recoveries-clause-cause : goal.returns-in_err-recoveries-clause-cause
returns-in_err-recoveries-clause-cause g c =
    let p = err_from_is_err_and c.from_residual-in_err-recoveries.result c.from_residual-in_err-recoveries.ensures.1 in
    rw (p.1, p.2) (cause-stays _ _ c.in_ok-given.ensures.cause.later)

pub returns-in_err-claims-clause-cause : goal.returns-in_err-claims-clause-cause
returns-in_err-claims-clause-cause g c =
    let p = err_from_is_err_and c.from_residual-in_err-claims.result c.from_residual-in_err-claims.ensures.1 in
    rw (p.1, p.2) (cause-stays _ _ c.in_ok-given.ensures.cause.later)

pub returns-clause-cause : goal.returns-clause-cause
returns-clause-cause g c =
    let first = c.in_ok-given.ensures.cause.later in
    let second = c.in_ok-book-2.ensures.cause.later in
    cause-fine _ _ _ (omega (arith, first, second))
