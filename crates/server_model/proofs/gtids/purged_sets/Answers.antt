use Rattle.std.proofs.Common.{◌≡◌, ◌+◌, List, [], ◌∷◌, ◌++◌, map, take, ap, sym, ◌∙◌}
use Rattle.server_model.proofs.Prelude.{Reserved, Server, map-append, purged_txns, reserved_set, take_more, uuids_in}
use Rattle.server_model.proofs.gtids.purged_sets.Goals as goal

pub loop-s-preserved : goal.loop-s-preserved
loop-s-preserved c =
    let servers = c.args.servers.now in
    let s = c.s-item.result in
    let made : Server → Reserved = λ x. reserved_set c.args.gtid (uuids_in servers) x.history.room (purged_txns x) in
    let one : c.in_ok-executed_set.field-0 ≡ made s =
    c.in_ok-executed_set.ensures
    ∙ ap (λ (x : Server). reserved_set c.args.gtid (uuids_in servers) x.history.room (take c.purged_len.result x.history.txns)) c.s.view_is
    ∙ ap (λ k. reserved_set c.args.gtid (uuids_in servers) s.history.room (take k s.history.txns)) c.purged_len.ensures in
    let more : map made (take (c.loop-s.s-index + 1) servers) ≡ map made (take c.loop-s.s-index servers) ++ made s ∷ [] =
    ap (map made) (take_more servers c.loop-s.s-index s c.loop-s-test.true)
    ∙ map-append made (take c.loop-s.s-index servers) _ ∙ ap (λ (x : Server). map made (take c.loop-s.s-index servers) ++ made x ∷ []) (sym c.s-item.is) in
    rw c.in_ok-push.ensures.items
    (ap (λ (xs : List Reserved). xs ++ c.in_ok-executed_set.field-0 ∷ []) c.loop-s.invariant ∙ ap (λ (x : Reserved). map made (take c.loop-s.s-index servers) ++ x ∷ []) one ∙ sym more)
