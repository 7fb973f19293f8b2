use Rattle.std.proofs.Common.{◌≡◌, ◌+◌, refl, arith}
use Rattle.recovery_turns.proofs.Decisions.{pop_on}
use Rattle.recovery_turns.proofs.decided.Decided.pop.Goals as goal

pub returns-clause-value : goal.returns-clause-value
returns-clause-value c =
    let d = c.args.self.now in
    let more : c.in_ok-self.field-0 ≡ d.begun + 1 = grind arith in
    pop_on c.args.of.now d (record d { begun = c.in_ok-self.field-0 }) refl more c.requires.idle
