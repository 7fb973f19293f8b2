use Rattle.std.proofs.Common.{◌+◌, List, ℕ, Result, subst, sym, ap, ◌∙◌, arith}
use Rattle.gtid_sets.proofs.Prelude.{Gives, GtidFault, Interval, behind, fault_of, intervals_at, is_colon, pieces}
use Rattle.gtid_sets.proofs.Pieces.{filled_fails, filled_goes, listed_none, listed_some, fault_given}
use Rattle.gtid_sets.proofs.grammar.read_filled.Goals as goal

pub returns-in-Err-clause-is : goal.returns-in-Err-clause-is
returns-in-Err-clause-is c = fault_given _ _ (filled_fails c.args.found.now.items c.args.offset c.args.text.now c.first_colon-colon.result c.in-Err.fault c.first_colon-colon.ensures.is c.in-Err.ensures)

pub returns-then-colon-text-clause-is : goal.returns-then-colon-text-clause-is
returns-then-colon-text-clause-is c =
    filled_goes c.args.found.now.items c.args.offset c.args.text.now c.first_colon-colon.result c.in-Ok.uuid c.first_colon-colon.ensures.is c.in-Ok.ensures
    ∙ listed_none c.args.found.now.items c.args.offset c.args.text.now c.first_colon-colon.result c.in-Ok.uuid c.first_colon-colon.ensures.is c.if-colon-text.true

pub returns-else-colon-text-clause-is : goal.returns-else-colon-text-clause-is
returns-else-colon-text-clause-is c =
    let found = c.args.found.now.items in
    let colon = c.first_colon-colon.result in
    let e = filled_goes found c.args.offset c.args.text.now colon c.in-Ok.uuid c.first_colon-colon.ensures.is c.in-Ok.ensures
    ∙ (listed_some found c.args.offset c.args.text.now colon c.in-Ok.uuid c.first_colon-colon.ensures.is (omega arith)
    ∙ ap (λ (t : List ℕ). behind found (intervals_at c.in-Ok.uuid (c.args.offset + colon + 1) (pieces is_colon t))) (sym c.rest_of-rest.ensures.is)) in
    subst (λ (r : Result (List Interval) GtidFault). Gives (λ _. c.read_intervals.new.found.items) fault_of c.read_intervals.result r) (sym e) c.read_intervals.ensures.is
