use Rattle.std.proofs.Common.{◌∙◌, ◌≤◌, true, not, length, ap, sym, arith}
use Rattle.opening_book.proofs.Prelude.{Row, audit_of, drop-length, is_instance, loading, position-Some}
use Rattle.opening_book.proofs.Prelude.row
use Rattle.opening_book.proofs.Beyond.{before_none, rest_from, same_audit, same_loading}
use Rattle.opening_book.proofs.audit.beyond_instances.Goals as goal

pub returns-in-Some : goal.returns-in-Some
returns-in-Some c =
    let rows = c.args.rows.now in
    let from = c.in-Some.from in
    let found = position-Some (λ (r : Row). not (is_instance r)) rows from (row.Switch true) (sym c.first_other.ensures ∙ c.in-Some.is) in
    let within : from ≤ length rows = let less = found.0 in omega (arith, less) in
    record {
      audit = λ period next. ap (audit_of period next) (rest_from rows from) ∙ same_audit rows from within found.2 period next;
      loading = λ period a at. ap (λ xs. loading period xs a at) (rest_from rows from) ∙ same_loading rows from within found.2 period a at;
    }

pub returns-in-None : goal.returns-in-None
returns-in-None c =
    let rows = c.args.rows.now in
    let before = before_none rows (sym c.first_other.ensures ∙ c.in-None.is) in
    record {
      audit = λ period next. ap (audit_of period next) (sym (drop-length rows)) ∙ same_audit rows (length rows) (omega arith) before period next;
      loading =
          λ period a at. ap (λ xs. loading period xs a at) (sym (drop-length rows)) ∙ same_loading rows (length rows) (omega arith) before period a at;
    }
