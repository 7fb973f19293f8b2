use Rattle.std.proofs.Common.{refl}
use Rattle.gtid_sets.proofs.Search.{parts_held, parts_all}
use Rattle.gtid_sets.proofs.set.are_in.Goals as goal

pub returns : goal.returns
returns c =
    (λ yes. parts_held c.args.parts.now c.args.intervals.now c.requires.parts c.requires.whole (parts_all c.args.parts.now c.args.intervals.now c.parts.part-index c.parts-test.false c.parts.invariant), λ all. refl)
