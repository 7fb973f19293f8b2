use Rattle.std.proofs.Common.{ap, sym, ◌∙◌, Some}
use Rattle.instance_keeper.proofs.Prelude.{Instance, false≢true, renewed}
use Rattle.instance_keeper.proofs.Prelude.change
use Rattle.instance_keeper.proofs.Prelude.row
use Rattle.instance_keeper.proofs.Renewal.{renewal_none, renewal_some}
use Rattle.instance_keeper.proofs.book.renewal.Goals as goal

pub returns-then-is_same : goal.returns-then-is_same
returns-then-is_same c = sym (renewal_none c.args.kept.now (renewed c.args.kept.now c.args.o.now) (c.is_same.ensures.0 c.if-is_same.true ∙ c.in_ok-now.ensures))

pub returns-else-is_same : goal.returns-else-is_same
returns-else-is_same c =
    ap (λ (i : Instance). Some (change.Put (row.Instance i))) c.in_ok-now.ensures
    ∙ sym (renewal_some c.args.kept.now (renewed c.args.kept.now c.args.o.now) (λ h. false≢true (sym c.if-is_same.false ∙ c.is_same.ensures.1 (h ∙ sym c.in_ok-now.ensures))))
