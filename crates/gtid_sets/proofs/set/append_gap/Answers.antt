use Rattle.std.proofs.Common.{◌≡◌, Bool, sym, ap, ◌∙◌, arith, ◌||◌}
use Rattle.gtid_sets.proofs.Prelude.{low, ltb-true, on_line, point}
use Rattle.gtid_sets.proofs.Search.{same_point}
use Rattle.gtid_sets.proofs.Sweep.{gap_is, gap_test}
use Rattle.gtid_sets.proofs.set.append_gap.Goals as goal

pub append-requires : goal.append-requires
append-requires c =
    let at : point c.start.result.uuid c.start.result.n ≡ low c.args.that.now = same_point c.start.ensures.uuid c.start.ensures.n in
    let less = ltb-true _ _ (sym c.is_before.ensures ∙ c.if-is_before.true) in
    record {
      next =
          (gap_is c.args.this.now c.args.that.now c.args.start.uuid c.args.start.n c.requires.this c.requires.that (search arith) c.requires.from (omega arith) c.requires.meets).is;
      order =
          let gap = gap_is c.args.this.now c.args.that.now c.args.start.uuid c.args.start.n c.requires.this c.requires.that (search arith) c.requires.from (omega arith) c.requires.meets in
          λ k d h. let o = c.requires.order k d h in let b = gap.begins in omega arith;
    }

pub returns-in_ok-append : goal.returns-in_ok-append
returns-in_ok-append c =
    let at : point c.start.result.uuid c.start.result.n ≡ low c.args.that.now = same_point c.start.ensures.uuid c.start.ensures.n in
    let less = ltb-true _ _ (sym c.is_before.ensures ∙ c.if-is_before.true) in
    let gap = gap_is c.args.this.now c.args.that.now c.args.start.uuid c.args.start.n c.requires.this c.requires.that (search arith) c.requires.from (omega arith) c.requires.meets in
    record {
      has = λ x. c.in_ok-append.ensures.has x ∙ ap (λ (b : Bool). on_line c.args.rest.now x || b) (gap_test _ _ _ _ x gap.begins gap.ends);
      order = λ bound h. c.in_ok-append.ensures.order bound (let b = gap.begins in omega arith);
    }
