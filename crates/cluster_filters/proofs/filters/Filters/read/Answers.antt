use Rattle.std.proofs.lemmas.Result.{err_from_is_err_and}
use Rattle.cluster_filters.proofs.FaultLemmas.{first_bad-at}
use Rattle.cluster_filters.proofs.filters.Filters.read.Goals as goal

pub returns-in_err-read-clause-refused : goal.returns-in_err-read-clause-refused
returns-in_err-read-clause-refused c =
    let p = err_from_is_err_and c.from_residual.result c.from_residual.ensures.1 in
    let bad = rw c.as_str.ensures.value at c.in_err-read.ensures.refused in
    rw (p.1, p.2)
    (first_bad-at c.args.forms.now c.loop-index.index c.index-forms-index.result c.in_err-read.field-0.0
    c.loop-index-test.true c.index-forms-index.is c.loop-index.invariant.taken bad)
