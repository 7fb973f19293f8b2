use Rattle.std.proofs.Common.{◌+◌, List, ℕ, Ok, drop, sym, ap, ◌∙◌, arith}
use Rattle.gtid_sets.proofs.Prelude.{Interval, behind, intervals_at, is_colon, pieces}
use Rattle.gtid_sets.proofs.Pieces.{interval_last, interval_more, interval_fails, fault_given, intervals_step}
use Rattle.gtid_sets.proofs.grammar.read_intervals.Goals as goal

pub returns-in-Err-clause-is : goal.returns-in-Err-clause-is
returns-in-Err-clause-is c =
    let rest = c.rest_of-rest.result.now in
    let at = c.args.offset + c.intervals.from in
    fault_given c.in-Err.fault _ (c.intervals.invariant.same ∙ (ap (λ (t : List ℕ). behind c.intervals.found.items (intervals_at c.args.uuid at (pieces is_colon t))) (sym c.rest_of-rest.ensures.is)
    ∙ interval_fails c.args.uuid at rest c.first_colon-len.result c.intervals.found.items c.in-Err.fault c.first_colon-len.ensures.is c.first_colon-len.ensures.within c.in-Err.ensures.is))

pub returns-then-len-rest-clause-is : goal.returns-then-len-rest-clause-is
returns-then-len-rest-clause-is c =
    let rest = c.rest_of-rest.result.now in
    let at = c.args.offset + c.intervals.from in
    c.intervals.invariant.same ∙ (ap (λ (t : List ℕ). behind c.intervals.found.items (intervals_at c.args.uuid at (pieces is_colon t))) (sym c.rest_of-rest.ensures.is)
    ∙ (interval_last c.args.uuid at rest c.first_colon-len.result c.intervals.found.items c.in-Ok.interval c.first_colon-len.ensures.is (omega arith) c.in-Ok.ensures.is
    ∙ ap Ok (sym c.in_ok-keep-in-Ok.ensures.items)))

pub intervals-preserved : goal.intervals-preserved
intervals-preserved c =
    let rest = c.rest_of-rest.result.now in
    let at = c.args.offset + c.intervals.from in
    let len = c.first_colon-len.result in
    let new = c.keep.new.found.items in
    record {
      each = c.in_ok-keep-in-Ok.ensures.each;
      within = omega arith;
      same = c.intervals.invariant.same ∙ (ap (λ (t : List ℕ). behind c.intervals.found.items (intervals_at c.args.uuid at (pieces is_colon t))) (sym c.rest_of-rest.ensures.is)
          ∙ (interval_more c.args.uuid at rest len c.intervals.found.items c.in-Ok.interval c.first_colon-len.ensures.is (omega arith) c.in-Ok.ensures.is
          ∙ (ap (λ (xs : List Interval). behind xs (intervals_at c.args.uuid (at + len + 1) (pieces is_colon (drop (len + 1) rest)))) (sym c.in_ok-keep-in-Ok.ensures.items)
          ∙ (ap (λ (t : List ℕ). behind new (intervals_at c.args.uuid (at + len + 1) (pieces is_colon (drop (len + 1) t)))) c.rest_of-rest.ensures.is
          ∙ intervals_step c.args.uuid c.args.offset c.intervals.from len c.args.text.now new))));
    }
