use Rattle.std.proofs.Common.{length}
use Rattle.recovery_turns.proofs.Prelude.{decided_on}
use Rattle.recovery_turns.proofs.Decisions.{idle_busy}
use Rattle.recovery_turns.proofs.Turned.{once-named}
use Rattle.recovery_turns.proofs.decided.Decided.decide.Goals as goal

pub decide_once-requires-clause-busy : goal.decide_once-requires-clause-busy
decide_once-requires-clause-busy c = idle_busy c.args.self.now c.requires.idle

pub decide_once-requires-2-clause-named : goal.decide_once-requires-2-clause-named
decide_once-requires-2-clause-named c =
    let by = c.args.by.now in
    let r = c.args.of.now in
    once-named (length by.book.now.names) by.world.now by.book.now by.moment (decided_on r c.args.self.now) (decided_on r c.decide_once.new.self) c.in_ok-decide_once.ensures.value c.requires.named

pub decide_once-requires-3-clause-named : goal.decide_once-requires-3-clause-named
decide_once-requires-3-clause-named c =
    let by = c.args.by.now in
    let n = length by.book.now.names in
    let r = c.args.of.now in
    once-named n by.world.now by.book.now by.moment (decided_on r c.decide_once.new.self) (decided_on r c.decide_once-2.new.self) c.in_ok-decide_once-2.ensures.value
    (once-named n by.world.now by.book.now by.moment (decided_on r c.args.self.now) (decided_on r c.decide_once.new.self) c.in_ok-decide_once.ensures.value c.requires.named)

pub decide_once-requires-4-clause-named : goal.decide_once-requires-4-clause-named
decide_once-requires-4-clause-named c =
    let by = c.args.by.now in
    let n = length by.book.now.names in
    let r = c.args.of.now in
    once-named n by.world.now by.book.now by.moment (decided_on r c.decide_once-2.new.self) (decided_on r c.decide_once-3.new.self) c.in_ok-decide_once-3.ensures.value
    (once-named n by.world.now by.book.now by.moment (decided_on r c.decide_once.new.self) (decided_on r c.decide_once-2.new.self) c.in_ok-decide_once-2.ensures.value
    (once-named n by.world.now by.book.now by.moment (decided_on r c.args.self.now) (decided_on r c.decide_once.new.self) c.in_ok-decide_once.ensures.value c.requires.named))
