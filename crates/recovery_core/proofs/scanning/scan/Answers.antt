use Rattle.std.proofs.Common.{◌<◌, ◌≤◌, ap, arith, sym, subst, All}
use Rattle.recovery_core.proofs.Prelude.{All-nil, Attempt, Begins, Staged, attempt_of, from_start}
use Rattle.recovery_core.proofs.Steps.{more-ready, step-more}
use Rattle.recovery_core.proofs.scanning.scan.Goals as goal

pub loop-entry-init : goal.loop-entry-init
loop-entry-init g c = record {
  stage = c.in_ok-stage.ensures.stage;
  ready = record {
    leases = c.in_ok-stage.ensures.count;
    begun = subst (λ (s : Staged). All (λ r. r.begun.0 ≤ 9223372036854775808) s.audit.recoveries) (sym c.in_ok-stage.ensures.stage) c.requires.begun;
  };
  room = subst (λ (s : Staged). All (λ (x : Begins). x.entry.id < 18446744073709551615) s.begun) (sym c.in_ok-stage.ensures.stage) (All-nil (λ (x : Begins). x.entry.id < 18446744073709551615));
}

pub loop-entry-preserved : goal.loop-entry-preserved
loop-entry-preserved g c =
    let attempt = ap (λ (a : Attempt). a.now.0) c.attempt_of-attempt.ensures in
    record {
      stage = step-more c.args.world.now c.args.book.now (attempt_of c.args.by_master.now c.args.by_intermediate.now (g.P.Periods.period_of c.args.periods.now) c.args.book.now c.args.terms) c.args.terms.wait
          (from_start c.args.book.now c.args.audit.now.audit c.args.last) c.deref-entry-items.result.now c.loop-entry.entry-index _ c.attempt_of-attempt.result c.loop-entry.stage c.try_entry.new.self
          c.loop-entry-test.true c.attempt_of-attempt.ensures c.loop-entry.invariant.stage c.in_ok-try_entry.ensures.tried;
      ready = more-ready c.args.world.now c.args.book.now c.args.terms.wait c.deref-entry-items.result.now c.loop-entry.entry-index _ c.attempt_of-attempt.result c.loop-entry.stage c.try_entry.new.self
          (omega (arith, attempt, c.requires.now)) c.loop-entry.invariant.ready c.in_ok-try_entry.ensures.tried;
      room = c.in_ok-try_entry.ensures.room c.loop-entry.invariant.room;
    }
