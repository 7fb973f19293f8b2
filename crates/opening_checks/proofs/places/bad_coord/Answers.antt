use Rattle.std.proofs.Common.{◌≡◌, ◌∙◌, subst, Some, arith, IfSome, slice_get}
use Rattle.opening_checks.proofs.Prelude.{FlawedValue, bad_flushes, bad_purged, common_steps, gets, or_parts}
use Rattle.opening_checks.proofs.HeldLogs.{AreLogs-put}
use Rattle.opening_checks.proofs.Standings.{coords-under, value-under}
use Rattle.opening_checks.proofs.places.bad_coord.Goals as goal

pub take_log-requires-clause-points : goal.take_log-requires-clause-points
take_log-requires-clause-points c =
    let there : slice_get c.args.servers.now c.in-Some.m.0 ≡ Some c.in-Some-get.source.now = grind (arith, common_steps, gets, c.in-Some-get.ensures.lookup) in
    let source = c.in-Some-get.source.now in
    (or_parts (bad_flushes source) (bad_purged c.args.servers.now c.in-Some.m.0 source) (c.requires.files.each c.in-Some.m.0 source there)).0

pub returns : goal.returns
returns c = record {
  met =
      let there : slice_get c.args.servers.now c.in-Some.m.0 ≡ Some c.in-Some-get.source.now = grind (arith, common_steps, gets, c.in-Some-get.ensures.lookup) in
      c.bad_coord_under-bad.ensures.met
      ∙ coords-under c.args.servers.now c.args.init.now c.in-Some-get.source.now c.in-Some.m c.in_ok-log.log.log c.in-Some.is there c.in_ok-log.ensures.log;
  value =
      let there : slice_get c.args.servers.now c.in-Some.m.0 ≡ Some c.in-Some-get.source.now = grind (arith, common_steps, gets, c.in-Some-get.ensures.lookup) in
      subst (λ (x : FlawedValue). IfSome c.bad_coord_under-bad.result (λ v. v ≡ x))
      (value-under c.args.servers.now c.args.init.now c.in-Some-get.source.now c.in-Some.m c.in_ok-log.log.log c.in-Some.is there c.in_ok-log.ensures.log)
      c.bad_coord_under-bad.ensures.value;
  logs = AreLogs-put c.args.servers.now c.take_log.new.logs c.in-Some.m.0 c.in_ok-log.log c.in_ok-log.ensures.logs c.in_ok-log.ensures.log;
}
