-- No exchange adds a server or takes one away.
use Rattle.std.proofs.Common.{◌≡◌, ◌∙◌, List, [], ◌∷◌, length, refl}
use Rattle.server_model.proofs.Prelude.{Exchange, World, after, length-set, own_txn, run, took}
use Rattle.server_model.proofs.Changes as changes
use Rattle.server_model.proofs.Changes.{Leaves, leaves}

servers-leaves : (w : World) (e : Exchange) (w' : World) → Leaves w e w' → length w'.servers ≡ length w.servers
servers-leaves w e w' changes.Still = refl
servers-leaves w e w' (changes.Writes n size s seq at is) = length-set w.servers n (took s (own_txn n seq size))
servers-leaves w e w' (changes.Puts n s t at change) = length-set w.servers n t

pub servers-after : (w : World) (e : Exchange) → length (after w e).servers ≡ length w.servers
servers-after w e = servers-leaves w e (after w e) (leaves w e)

-- over some exchanges
pub servers-run : (w : World) (es : List Exchange) → length (run w es).servers ≡ length w.servers
servers-run w [] = refl
servers-run w (e ∷ es) = servers-run (after w e) es ∙ servers-after w e
