use Rattle.std.proofs.Common.{◌≡◌, ◌∙◌, ◌-◌, ◌≤◌, ◌^◌, ◌++◌, ℕ, true, List, Option, length, ap, arith, rules, subst, sym}
use Rattle.orch_core.proofs.Prelude.{AuditState, Change, IsAudit, Moment, Row, State, StepsTo, audit_of, book_made, cause-fine, cause-later}
use Rattle.orch_core.proofs.Prelude.{cause-stays, closed, counted, engine, err_from_is_err_and, interrupted_at, kept_if, kept_with, last_given}
use Rattle.orch_core.proofs.Prelude.{latest_recovery, loading, period_by, reloaded_audit, reloaded_moment, reloaded_rows, restart_changes, state_of}
use Rattle.orch_core.proofs.Prelude.act
use Rattle.orch_core.proofs.Prelude.turn
use Rattle.orch_core.proofs.States.{IsRestarted, IsState-restart, StepsTo-given, reloaded-is, step-restart, with_given}
use Rattle.orch_core.proofs.engine.Engine.start_again.Goals as goal

pub loaded_audit-requires : goal.loaded_audit-requires
loaded_audit-requires g c =
    let before = state_of c.self.inside in
    let given = c.in_ok-given.given.items in
    let count : c.servers.result ≡ length before.book.settings = c.servers.ensures.count ∙ c.self.invariant.names ∙ sym c.self.invariant.settings in
    let items : c.counted_in_order-rows.result.items ≡ counted (length before.book.settings) (last_given before) given =
    c.counted_in_order-rows.ensures ∙ ap (λ (n : ℕ). counted n (c.next-next.result - 1) given) count ∙ ap (λ (n : ℕ). counted (length before.book.settings) (n - 1) given) c.next-next.ensures in
    let small = c.servers.ensures.holds.small in
    let names = c.self.invariant.names in
    let settings = c.self.invariant.settings in
    let few : length before.book.settings ≤ 2 ^ 32 = omega (arith, small, names, settings) in
    let same : audit_of (period_by before.configuration) c.next-next.result c.beyond_instances-others.result.now ≡ reloaded_audit given before =
    c.beyond_instances-others.ensures.audit (period_by before.configuration) c.next-next.result
    ∙ ap (λ (n : ℕ). audit_of (period_by before.configuration) n c.deref.result.now) c.next-next.ensures ∙ ap (audit_of (period_by before.configuration) before.audit.next) (c.deref.ensures.value ∙ items) in
    subst IsAudit (sym same) (reloaded-is given before c.self.invariant few)

pub invariant_of-self : goal.invariant_of-self
invariant_of-self g c =
    let before = state_of c.self.inside in
    let given = c.in_ok-given.given.items in
    let count : c.servers.result ≡ length before.book.settings = c.servers.ensures.count ∙ c.self.invariant.names ∙ sym c.self.invariant.settings in
    let items : c.counted_in_order-rows.result.items ≡ counted (length before.book.settings) (last_given before) given =
    c.counted_in_order-rows.ensures ∙ ap (λ (n : ℕ). counted n (c.next-next.result - 1) given) count ∙ ap (λ (n : ℕ). counted (length before.book.settings) (n - 1) given) c.next-next.ensures in
    let small = c.servers.ensures.holds.small in
    let names = c.self.invariant.names in
    let settings = c.self.invariant.settings in
    let few : length before.book.settings ≤ 2 ^ 32 = omega (arith, small, names, settings) in
    let audited : c.in_ok-audit.audit.audit ≡ reloaded_audit given before =
    c.in_ok-audit.ensures ∙ c.beyond_instances-others.ensures.audit (period_by before.configuration) c.next-next.result
    ∙ ap (λ (n : ℕ). audit_of (period_by before.configuration) n c.deref.result.now) c.next-next.ensures ∙ ap (audit_of (period_by before.configuration) before.audit.next) (c.deref.ensures.value ∙ items) in
    let moment = c.latest_recovery-moment.result in
    let closes : c.close.new.self.audit ≡ closed c.in_ok-audit.audit.audit moment = search rules in
    let latest : moment.0 ≡ reloaded_moment given before =
    c.latest_recovery-moment.ensures ∙ ap (latest_recovery before.moment) (c.recoveries.ensures.list ∙ ap (λ (a : AuditState). a.recoveries) audited) in
    let when : moment ≡ interrupted_at given before = ap (λ (n : ℕ). record { 0 = n }) latest in
    let re : IsRestarted given before c.reload.new.self c.close.new.self.audit moment c.empty_slots.new.slots.items c.clear.new.self.items = record {
      book = c.reload.ensures.made ∙ ap (book_made before.book.settings) items;
      audit = closes ∙ ap (λ (a : AuditState). closed a moment) audited;
      moment_is = when;
      empty = c.empty_slots.ensures;
      dropped = c.clear.ensures.items;
    } in
    IsState-restart given before c.reload.new.self c.close.new.self.audit moment c.empty_slots.new.slots.items c.clear.new.self.items re c.self.invariant few

pub returns : goal.returns
returns g c =
    let before = state_of c.self.inside in
    let given = c.in_ok-given.given.items in
    let count : c.servers.result ≡ length before.book.settings = c.servers.ensures.count ∙ c.self.invariant.names ∙ sym c.self.invariant.settings in
    let items : c.counted_in_order-rows.result.items ≡ counted (length before.book.settings) (last_given before) given =
    c.counted_in_order-rows.ensures ∙ ap (λ (n : ℕ). counted n (c.next-next.result - 1) given) count ∙ ap (λ (n : ℕ). counted (length before.book.settings) (n - 1) given) c.next-next.ensures in
    let small = c.servers.ensures.holds.small in
    let names = c.self.invariant.names in
    let settings = c.self.invariant.settings in
    let few : length before.book.settings ≤ 2 ^ 32 = omega (arith, small, names, settings) in
    let audited : c.in_ok-audit.audit.audit ≡ reloaded_audit given before =
    c.in_ok-audit.ensures ∙ c.beyond_instances-others.ensures.audit (period_by before.configuration) c.next-next.result
    ∙ ap (λ (n : ℕ). audit_of (period_by before.configuration) n c.deref.result.now) c.next-next.ensures ∙ ap (audit_of (period_by before.configuration) before.audit.next) (c.deref.ensures.value ∙ items) in
    let moment = c.latest_recovery-moment.result in
    let closes : c.close.new.self.audit ≡ closed c.in_ok-audit.audit.audit moment = search rules in
    let latest : moment.0 ≡ reloaded_moment given before =
    c.latest_recovery-moment.ensures ∙ ap (latest_recovery before.moment) (c.recoveries.ensures.list ∙ ap (λ (a : AuditState). a.recoveries) audited) in
    let when : moment ≡ interrupted_at given before = ap (λ (n : ℕ). record { 0 = n }) latest in
    let kept = g.K.Keeper.kept c.args.keeper.now in
    record {
      ok =
          let re : IsRestarted given before c.reload.new.self c.close.new.self.audit moment c.empty_slots.new.slots.items c.clear.new.self.items = record {
            book = c.reload.ensures.made ∙ ap (book_made before.book.settings) items;
            audit = closes ∙ ap (λ (a : AuditState). closed a moment) audited;
            moment_is = when;
            empty = c.empty_slots.ensures;
            dropped = c.clear.ensures.items;
          } in
          let after : State = record before { moment = moment.0; book = c.reload.new.self; audit = c.close.new.self.audit; slots = c.empty_slots.new.slots.items; jobs = c.clear.new.self.items } in
          subst (λ (s : State). StepsTo engine kept s (turn.Act act.Restart) after) c.self.view_is
          (StepsTo-given kept given before after (turn.Act act.Restart) c.in_ok-given.ensures.told
          (step-restart given before c.reload.new.self c.close.new.self.audit moment c.empty_slots.new.slots.items c.clear.new.self.items re));
      err = search rules;
      kept =
          let period = period_by before.configuration in
          let own : c.in_ok-changes.changes.items ≡ restart_changes given before =
          c.in_ok-changes.ensures ∙ c.beyond_instances-others.ensures.loading period c.in_ok-audit.audit.audit moment
          ∙ ap (λ (xs : List Row). loading period xs c.in_ok-audit.audit.audit moment) (c.deref.ensures.value ∙ items)
          ∙ ap (λ (a : AuditState). loading period (reloaded_rows given before) a moment) audited
          ∙ ap (λ (m : Moment). loading period (reloaded_rows given before) (reloaded_audit given before) m) when in
          let changes : c.deref-2.result.now ≡ restart_changes given before ++ c.args.more.items =
          c.deref-2.ensures.value ∙ c.in_ok-append.ensures.items ∙ ap (λ (cs : List Change). cs ++ c.args.more.items) own in
          c.in_ok-keep_some.ensures.kept ∙ ap (λ (k : Option (List Row)). kept_if true k c.deref-2.result.now) c.in_ok-given.ensures.kept
          ∙ ap (λ (cs : List Change). kept_if true kept cs) changes ∙ with_given c.args.more.items kept given before c.in_ok-given.ensures.told
          ∙ ap (λ (s : State). kept_with c.args.more.items true kept s) c.self.view_is;
      cause =
          let first = c.in_ok-given.ensures.cause.later in
          let second = c.in_ok-keep_some.ensures.cause.later in
          cause-fine _ _ _ (omega (arith, first, second));
      servers = search rules;
      nodes = search rules;
    }

pub returns-in_err-audit-clause-cause : goal.returns-in_err-audit-clause-cause
returns-in_err-audit-clause-cause g c =
    let p = err_from_is_err_and c.from_residual-in_err-audit.result c.from_residual-in_err-audit.ensures.1 in
    rw (p.1, p.2) (cause-stays _ _ c.in_ok-given.ensures.cause.later)

pub returns-in_err-changes-clause-cause : goal.returns-in_err-changes-clause-cause
returns-in_err-changes-clause-cause g c =
    let p = err_from_is_err_and c.from_residual-in_err-changes.result c.from_residual-in_err-changes.ensures.1 in
    rw (p.1, p.2) (cause-stays _ _ c.in_ok-given.ensures.cause.later)

pub returns-in_err-append-clause-cause : goal.returns-in_err-append-clause-cause
returns-in_err-append-clause-cause g c =
    let p = err_from_is_err_and c.from_residual-in_err-append.result c.from_residual-in_err-append.ensures.1 in
    rw (p.1, p.2) (cause-stays _ _ c.in_ok-given.ensures.cause.later)

pub returns-in_err-keep_some-clause-cause : goal.returns-in_err-keep_some-clause-cause
returns-in_err-keep_some-clause-cause g c =
    let p = err_from_is_err_and c.from_residual-in_err-keep_some.result c.from_residual-in_err-keep_some.ensures.1 in
    rw (p.1, p.2) (cause-later _ _ _ _ c.in_ok-given.ensures.cause.later c.in_err-keep_some.ensures.cause)
