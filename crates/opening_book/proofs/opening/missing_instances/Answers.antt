use Rattle.std.proofs.Common.{◌++◌, ◌∙◌, ap, sym, take, false, List, Option, arith}
use Rattle.opening_book.proofs.Prelude.{Change, missing, missing_from, option_to_list}
use Rattle.opening_book.proofs.Missing.{from-more}
use Rattle.opening_book.proofs.opening.missing_instances.Goals as goal

pub loop-no-preserved : goal.loop-no-preserved
loop-no-preserved c =
    let w = c.args.world.now in
    let at = c.args.moment in
    let b = c.args.book.now in
    let ks = c.args.known.now in
    let no = c.loop-no.no in
    c.in_ok-push_some.ensures
    ∙ ap (λ (xs : List Change). xs ++ option_to_list c.in_ok-change.change) c.loop-no.invariant
    ∙ ap (λ (o : Option Change). missing_from w at b 0 (take no ks) ++ option_to_list o) c.in_ok-change.ensures
    ∙ sym (from-more (missing w at b) ks no false (omega (arith, c.loop-no-test.true, c.servers-no-end.ensures, c.requires.known)))
