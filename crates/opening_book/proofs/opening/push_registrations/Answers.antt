use Rattle.std.proofs.Common.{◌++◌, ◌∙◌, ap, sym, take, List, Option, None, arith, append_assoc}
use Rattle.opening_book.proofs.Prelude.{Change, option_to_list, registering, registering_from}
use Rattle.opening_book.proofs.Missing.{from-more}
use Rattle.opening_book.proofs.opening.push_registrations.Goals as goal

pub loop-no-preserved : goal.loop-no-preserved
loop-no-preserved c =
    let at = c.args.at in
    let b = c.args.book.now in
    let rules = c.args.rules.now in
    let no = c.loop-no.no in
    let before = c.args.changes.now.items in
    c.in_ok-push_some.ensures
    ∙ ap (λ (xs : List Change). xs ++ option_to_list c.registering.result) c.loop-no.invariant
    ∙ ap (λ (o : Option Change). (before ++ registering_from at b 0 (take no rules)) ++ option_to_list o) c.registering.ensures
    ∙ append_assoc before (registering_from at b 0 (take no rules)) _
    ∙ ap (λ (xs : List Change). before ++ xs) (sym (from-more (registering at b) rules no None (omega (arith, c.loop-no-test.true, c.servers-no-end.ensures.count, c.requires.rules))))
