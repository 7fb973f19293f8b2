-- No exchange changes whether GTIDs are used.
use Rattle.std.proofs.Common.{◌≡◌, List, [], ◌∷◌, refl, ◌∙◌}
use Rattle.job_laws.proofs.Prelude.{Exchange, Leaves, World, after, leaves, run}
use Rattle.job_laws.proofs.Prelude.changes

gtid-leaves : (w : World) (e : Exchange) (w' : World) → Leaves w e w' → w'.gtid ≡ w.gtid
gtid-leaves w e w' changes.Still = refl
gtid-leaves w e w' _ = refl

pub gtid-after : (w : World) (e : Exchange) → (after w e).gtid ≡ w.gtid
gtid-after w e = gtid-leaves w e (after w e) (leaves w e)

pub gtid-run : (w : World) (es : List Exchange) → (run w es).gtid ≡ w.gtid
gtid-run w [] = refl
gtid-run w (e ∷ es) = gtid-run (after w e) es ∙ gtid-after w e
