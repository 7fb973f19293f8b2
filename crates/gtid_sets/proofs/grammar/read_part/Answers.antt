use Rattle.std.proofs.Common.{◌+◌, List, ℕ, Result, subst, sym, ap, ◌∙◌, arith}
use Rattle.gtid_sets.proofs.Prelude.{Gives, GtidFault, Interval, behind, fault_of, filled_at, inner}
use Rattle.gtid_sets.proofs.Pieces.{part_blank, part_filled}
use Rattle.gtid_sets.proofs.grammar.read_part.Goals as goal

pub returns-then-blanks-text-clause-is : goal.returns-then-blanks-text-clause-is
returns-then-blanks-text-clause-is c = part_blank c.args.found.now.items c.args.offset c.args.text.now (omega (arith, c.leading-blanks.ensures.is))

pub returns-clause-is : goal.returns-clause-is
returns-clause-is c =
    let found = c.args.found.now.items in
    let e = part_filled found c.args.offset c.args.text.now (omega (arith, c.leading-blanks.ensures.is))
    ∙ (ap (λ (n : ℕ). behind found (filled_at (c.args.offset + n) (inner c.args.text.now))) (sym c.leading-blanks.ensures.is)
    ∙ ap (λ (t : List ℕ). behind found (filled_at (c.args.offset + c.leading-blanks.result) t)) (sym c.inner.ensures.is)) in
    subst (λ (r : Result (List Interval) GtidFault). Gives (λ _. c.read_filled.new.found.items) fault_of c.read_filled.result r) (sym e) c.read_filled.ensures.is
