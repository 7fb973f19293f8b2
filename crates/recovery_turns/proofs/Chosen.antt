-- Who is chosen is there.
use Rattle.std.proofs.Common.{◌≡◌, ℕ, ◌<◌, List, All, sym, subst, Some}
use Rattle.recovery_turns.proofs.Prelude.{All-chosen, BookState, Moment, ServerNo, Stopped, World, chosen_of, ground_of}

pub chosen-there : (n : ℕ) (w : World) (b : BookState) (now : Moment) (f : ServerNo) (xs ys : List Stopped) (p : Stopped)
    → ys ≡ xs → chosen_of (ground_of w b now) f ys ≡ Some p → All (λ (d : Stopped). d.no.0 < n) xs → p.no.0 < n
chosen-there n w b now f xs ys p same is all =
    All-chosen w b now f (λ (d : Stopped). d.no.0 < n) ys p (subst (All (λ (d : Stopped). d.no.0 < n)) (sym same) all) is
