use Rattle.std.proofs.Common.{◌≡◌, Some, take, ap, sym, ◌∙◌, ◌+◌, slice_get}
use Rattle.server_model.proofs.Prelude.{count_own}
use Rattle.server_model.proofs.Lists.{take-more}
use Rattle.server_model.proofs.Takes.{count_own-push}
use Rattle.server_model.proofs.own.count_own.Goals as goal

pub loop-k-preserved : goal.loop-k-preserved
loop-k-preserved c =
    let no = c.args.no.0 in
    let txns = c.args.log.now.txns in
    let k = c.loop-k.k in
    let t = c.unwrap.result in
    let at : slice_get txns k ≡ Some t = sym c.txn.ensures ∙ c.unwrap.ensures in
    ap (λ n. n + c.own_of-own.result) c.loop-k.invariant ∙ ap (λ n. count_own no (take k txns) + n) c.own_of-own.ensures.value
    ∙ sym (count_own-push no (take k txns) t) ∙ ap (count_own no) (sym (take-more txns k t at))
