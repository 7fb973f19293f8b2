use Rattle.std.proofs.Common.{◌≡◌, Bool, List, Option, ap, sym, ◌∙◌}
use Rattle.regroup.proofs.Prelude.{Case, Check, Refusal, case_of, first_refusal, last_row_of, option_or, own_refusal, permitted}
use Rattle.regroup.proofs.Prelude.{refusal_about, row_of}
use Rattle.regroup.proofs.permits.permit_kind.Goals as goal

pub returns-in-Some-clause-refusal : goal.returns-in-Some-clause-refusal
returns-in-Some-clause-refusal c =
    let w = c.args.world.now in
    let b = c.args.book.now in
    let kind = c.args.command in
    let around : Case → List Check → Option Refusal → List Check → Option Refusal =
    λ (m : Case) (r : List Check) (o : Option Refusal) (l : List Check). option_or (first_refusal w b m r) (option_or o (first_refusal w b m l))
    in
    let row : c.row_of-row.result.now ≡ row_of w.gtid kind = c.row_of-row.ensures ∙ ap (λ (g : Bool). row_of g kind) c.gtid.ensures in
    let last : c.last_row_of-last.result.now ≡ last_row_of w.gtid kind = c.last_row_of-last.ensures ∙ ap (λ (g : Bool). last_row_of g kind) c.gtid-2.ensures in
    let case = case_of w b kind c.args.i c.args.d in
    let own = own_refusal w b c.args.now kind c.args.i c.args.d in
    let about : around c.in_ok-case.case c.row_of-row.result.now c.in_ok-own.own c.last_row_of-last.result.now ≡ refusal_about w b c.args.now kind c.args.i c.args.d =
    ap (λ (m : Case). around m c.row_of-row.result.now c.in_ok-own.own c.last_row_of-last.result.now) c.in_ok-case.ensures
    ∙ ap (λ (r : List Check). around case r c.in_ok-own.own c.last_row_of-last.result.now) row
    ∙ ap (λ (o : Option Refusal). around case (row_of w.gtid kind) o c.last_row_of-last.result.now) c.in_ok-own.ensures
    ∙ ap (λ (l : List Check). around case (row_of w.gtid kind) own l) last
    in
    ap permitted (sym about ∙ sym c.in_ok-refusal.ensures ∙ c.in-Some.is)
