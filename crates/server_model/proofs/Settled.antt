-- Sets that are settled are as they were.
use Rattle.std.proofs.Common.{◌≡◌, Bool, List, subst, sym}
use Rattle.server_model.proofs.Prelude.{AreGtids, Reserved, Server}

pub settled : (servers : List Server) (executed purged executed_now purged_now : List Reserved) (gtid : Bool) → executed_now ≡ executed → purged_now ≡ purged → AreGtids servers executed purged gtid
    → AreGtids servers executed_now purged_now gtid
settled servers executed purged executed_now purged_now gtid e p are =
    subst (λ (xs : List Reserved). AreGtids servers executed_now xs gtid) (sym p) (subst (λ (xs : List Reserved). AreGtids servers xs purged gtid) (sym e) are)
