use Rattle.std.proofs.Common.{List, Ok, sym, ap, ◌∙◌, arith}
use Rattle.gtid_sets.proofs.Prelude.{Interval, behind, is_comma, parts_at, pieces}
use Rattle.gtid_sets.proofs.Pieces.{text_blank, text_filled, fault_along}
use Rattle.gtid_sets.proofs.grammar.read_text.Goals as goal

pub returns-then-leading-text-clause-is : goal.returns-then-leading-text-clause-is
returns-then-leading-text-clause-is c = text_blank c.args.text.now (omega (arith, c.leading.ensures.is)) ∙ ap Ok (sym c.new-found.ensures.items)

pub returns-in-Err-clause-is : goal.returns-in-Err-clause-is
returns-in-Err-clause-is c =
    let parts = parts_at 0 (pieces is_comma c.args.text.now) in
    fault_along c.in-Err.fault (behind c.new-found.result.items parts) _
    (λ f h. text_filled c.args.text.now (omega (arith, c.leading.ensures.is)) ∙ (ap (λ (xs : List Interval). behind xs parts) (sym c.new-found.ensures.items) ∙ h)) c.in-Err.ensures.is

pub returns-in-Ok-clause-is : goal.returns-in-Ok-clause-is
returns-in-Ok-clause-is c =
    let parts = parts_at 0 (pieces is_comma c.args.text.now) in
    text_filled c.args.text.now (omega (arith, c.leading.ensures.is)) ∙ (ap (λ (xs : List Interval). behind xs parts) (sym c.new-found.ensures.items) ∙ c.in-Ok.ensures.is)
