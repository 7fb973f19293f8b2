use Rattle.tasks.proofs.Words.{pattern_good, pattern_told}
use Rattle.tasks.proofs.asked.pattern_for.Goals as goal

pub returns-in-Ok : goal.returns-in-Ok
returns-in-Ok c =
    pattern_told c.args.names.now c.args.uses c.args.given.now _ _ _ _ c.in-Ok.found c.if-uses.true c.in-Some.is c.as_str.ensures c.deref.ensures.value c.in_ok-printed-in-Some.ensures c.in-Ok.ensures

pub unreachable-requires : goal.unreachable-requires
unreachable-requires c = pattern_good c.args.given.now _ _ _ c.in-Err-Fault.field-0 _ c.requires c.in-Some.is c.as_str.ensures c.in-Err-Fault.field-0-is c.in-Err-Fault.ensures
