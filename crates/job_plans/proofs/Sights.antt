-- The latest that was seen of each server.
use Rattle.std.proofs.Common.{◌≡◌, ℕ, Bool, true, false, cond, List, [], ◌∷◌, refl, ◌∙◌, ap, Option, Some, None, ◌==◌}
use Rattle.job_plans.proofs.Prelude.{Position, Sight, or_seen, seen-at, seen_after, seen_last, seen_of, with_seen}

-- what was seen after these were seen
pub seen-later : (xs ys : List Sight) (k : ℕ) → seen_of (seen_after xs ys) k ≡ or_seen (seen_last ys k) (seen_of xs k)
seen-later xs [] k = refl
seen-later xs (y ∷ ys) k =
    seen-later (with_seen xs y.no y.seen) ys k ∙ ap (or_seen (seen_last ys k)) (seen-at xs y.no y.seen k) ∙ either (seen_last ys k) (y.no.0 == k)
  where
    either : (o : Option Position) (b : Bool) → or_seen o (cond b (Some y.seen) (seen_of xs k)) ≡ or_seen (or_seen o (cond b (Some y.seen) None)) (seen_of xs k)
    either (Some s) b = refl
    either None true = refl
    either None false = refl
