use Rattle.std.proofs.Common.{◌≡◌, ◌∙◌, ℕ, suc, Some, None, ap, sym, add-one, length, arith}
use Rattle.instance_keeper.proofs.Prelude.{BookState, Row, after_row, first_set, place_from, row_fits}
use Rattle.instance_keeper.proofs.Reloads.{placed, unplaced}
use Rattle.instance_keeper.proofs.book.Book.set_next.Goals as goal

pub empty_between-requires-clause-ordered : goal.empty_between-requires-clause-ordered
empty_between-requires-clause-ordered c =
    let at : place_from c.args.next c.servers.result c.args.row.now ≡ Some c.in-Some.no = sym c.place_from.ensures ∙ c.in-Some.is in
    (placed c.args.next c.servers.result c.args.row.now c.in-Some.no at).from

pub empty_between-requires-clause-within : goal.empty_between-requires-clause-within
empty_between-requires-clause-within c =
    let at : place_from c.args.next c.servers.result c.args.row.now ≡ Some c.in-Some.no = sym c.place_from.ensures ∙ c.in-Some.is in
    let within = (placed c.args.next c.servers.result c.args.row.now c.in-Some.no at).within in
    omega (arith, within, c.servers.ensures.count)

pub put_by_place-requires : goal.put_by_place-requires
put_by_place-requires c =
    let at : place_from c.args.next c.servers.result c.args.row.now ≡ Some c.in-Some.no = sym c.place_from.ensures ∙ c.in-Some.is in
    ap (λ (n : ℕ). row_fits n c.args.row.now) (ap length c.empty_between.ensures.names ∙ sym c.servers.ensures.count) ∙ (placed c.args.next c.servers.result c.args.row.now c.in-Some.no at).taken

pub returns-in-Some-clause-within : goal.returns-in-Some-clause-within
returns-in-Some-clause-within c =
    let at : place_from c.args.next c.servers.result c.args.row.now ≡ Some c.in-Some.no = sym c.place_from.ensures ∙ c.in-Some.is in
    let within = (placed c.args.next c.servers.result c.args.row.now c.in-Some.no at).within in
    let names = ap length c.put_by_place.ensures.names ∙ (ap length c.empty_between.ensures.names ∙ sym c.servers.ensures.count) in
    omega (arith, within, names)

pub returns-in-Some-clause-after : goal.returns-in-Some-clause-after
returns-in-Some-clause-after c =
    let no = c.in-Some.no in
    let emptied = c.empty_between.new.self in
    let at : place_from c.args.next c.servers.result c.args.row.now ≡ Some no = sym c.place_from.ensures ∙ c.in-Some.is in
    let len : length emptied.names ≡ c.servers.result = ap length c.empty_between.ensures.names ∙ sym c.servers.ensures.count in
    ap (λ (k : ℕ). first_set k c.put_by_place.new.self) (add-one no)
    ∙ (ap (first_set (suc no)) c.put_by_place.ensures.after
    ∙ ((placed c.args.next c.servers.result c.args.row.now no at).set emptied len
    ∙ ap (λ (b : BookState). after_row b c.args.row.now) c.empty_between.ensures.after))

pub returns-in-None-clause-after : goal.returns-in-None-clause-after
returns-in-None-clause-after c =
    let before = c.args.self.now in
    let none : place_from c.args.next (length before.names) c.args.row.now ≡ None =
    ap (λ (n : ℕ). place_from c.args.next n c.args.row.now) (sym c.servers.ensures.count) ∙ (sym c.place_from.ensures ∙ c.in-None.is) in
    ap (first_set c.args.next) c.take.ensures.after
    ∙ (ap (λ (r : Row). first_set c.args.next (after_row before r)) c.replace.ensures.value ∙ unplaced c.args.next before c.args.row.now none)
