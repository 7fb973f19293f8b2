use Rattle.std.proofs.Common.{◌≡◌, List, Option, Some, ap, sym, ◌∙◌}
use Rattle.pseudo_match.proofs.Prelude.{Case, Check, Refusal, case_of, first_refusal, option_or, own_refusal, permitted, refusal_about, row_of}
use Rattle.pseudo_match.proofs.permits.permit_kind.Goals as goal

pub returns-in-Some-clause-refusal : goal.returns-in-Some-clause-refusal
returns-in-Some-clause-refusal c =
    let w = c.args.world.now in
    let b = c.args.book.now in
    let x = c.args.command in
    let k = case_of b x c.args.i c.args.d in
    let refused : Some c.in-Some.refusal ≡ refusal_about w b c.args.now c.args.every x c.args.i c.args.d =
    sym c.in-Some.is ∙ (c.in_ok-refusal.ensures
    ∙ (ap (λ (m : Case). option_or (first_refusal w b m c.row_of-row.result.now) (option_or c.in_ok-own.own (first_refusal w b m c.last_row_of-last.result.now))) c.in_ok-case.ensures
    ∙ (ap (λ (r : List Check). option_or (first_refusal w b k r) (option_or c.in_ok-own.own (first_refusal w b k c.last_row_of-last.result.now))) c.row_of-row.ensures
    ∙ (ap (λ (o : Option Refusal). option_or (first_refusal w b k (row_of x)) (option_or o (first_refusal w b k c.last_row_of-last.result.now))) c.in_ok-own.ensures
    ∙ ap (λ (r : List Check). option_or (first_refusal w b k (row_of x)) (option_or (own_refusal w b c.args.now x c.args.i) (first_refusal w b k r))) c.last_row_of-last.ensures)))) in
    ap permitted (sym refused)
