use Rattle.std.proofs.Common.{◌+◌, ◌-◌, ◌/◌, sym, ◌∙◌, arith}
use Rattle.gtid_sets.proofs.Prelude.{Interval, ltb-false, ltb-true, point}
use Rattle.gtid_sets.proofs.Search.{ends_before, ends_behind}
use Rattle.gtid_sets.proofs.set.first_reaching.Goals as goal

pub halves-preserved-then-ends_before : goal.halves-preserved-then-ends_before
halves-preserved-then-ends_before c =
    let d : Interval = record { uuid = 0; first = 0; last = 0 } in
    record {
      rises = omega arith;
      within = c.halves.invariant.within;
      below = ends_before c.args.intervals.now (c.halves.from + (c.halves.to - c.halves.from) / 2) d (point c.args.gtid.uuid c.args.gtid.n) c.requires (omega arith) (ltb-true _ _ (sym c.ends_before.ensures ∙ c.if-ends_before.true));
      above = c.halves.invariant.above;
    }

pub halves-preserved : goal.halves-preserved
halves-preserved c =
    let d : Interval = record { uuid = 0; first = 0; last = 0 } in
    record {
      rises = omega arith;
      within = omega arith;
      below = c.halves.invariant.below;
      above = ends_behind c.args.intervals.now (c.halves.from + (c.halves.to - c.halves.from) / 2) d (point c.args.gtid.uuid c.args.gtid.n) c.requires (omega arith) (ltb-false _ _ (sym c.ends_before.ensures ∙ c.if-ends_before.false));
    }
