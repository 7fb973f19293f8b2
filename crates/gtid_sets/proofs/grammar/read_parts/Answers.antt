use Rattle.std.proofs.Common.{◌+◌, List, ℕ, take, drop, sym, ap, ◌∙◌, arith}
use Rattle.gtid_sets.proofs.Prelude.{behind, is_comma, part_at, parts_at, pieces}
use Rattle.gtid_sets.proofs.Pieces.{part_last, part_more, part_fails, fault_along, parts_step}
use Rattle.gtid_sets.proofs.grammar.read_parts.Goals as goal

pub returns-in-Err-clause-is : goal.returns-in-Err-clause-is
returns-in-Err-clause-is c =
    let rest = c.rest_of-rest.result.now in
    let old = c.parts.found.items in
    fault_along c.in-Err.fault (behind old (part_at c.parts.from (take c.first_comma-len.result rest))) _
    (λ f h. c.parts.invariant.same ∙ (ap (λ (t : List ℕ). behind old (parts_at c.parts.from (pieces is_comma t))) (sym c.rest_of-rest.ensures.is)
    ∙ part_fails c.parts.from rest c.first_comma-len.result old f c.first_comma-len.ensures.is c.first_comma-len.ensures.within h))
    c.in-Err.ensures.is

pub returns-then-len-rest-clause-is : goal.returns-then-len-rest-clause-is
returns-then-len-rest-clause-is c =
    let rest = c.rest_of-rest.result.now in
    let old = c.parts.found.items in
    c.parts.invariant.same ∙ (ap (λ (t : List ℕ). behind old (parts_at c.parts.from (pieces is_comma t))) (sym c.rest_of-rest.ensures.is)
    ∙ part_last c.parts.from rest c.first_comma-len.result old c.read_part.new.found.items c.first_comma-len.ensures.is (omega arith) c.in-Ok.ensures.is)

pub parts-preserved : goal.parts-preserved
parts-preserved c =
    let rest = c.rest_of-rest.result.now in
    let old = c.parts.found.items in
    let new = c.read_part.new.found.items in
    let len = c.first_comma-len.result in
    record {
      each = c.in-Ok.ensures.each;
      within = omega arith;
      same = c.parts.invariant.same ∙ (ap (λ (t : List ℕ). behind old (parts_at c.parts.from (pieces is_comma t))) (sym c.rest_of-rest.ensures.is)
          ∙ (part_more c.parts.from rest len old new c.first_comma-len.ensures.is (omega arith) c.in-Ok.ensures.is
          ∙ (ap (λ (t : List ℕ). behind new (parts_at (c.parts.from + len + 1) (pieces is_comma (drop (len + 1) t)))) c.rest_of-rest.ensures.is
          ∙ parts_step c.parts.from len c.args.text.now new)));
    }
