-- Recoveries that begin.
use Rattle.recovery_laws.proofs.Prelude.{All, All-cons, All-nil, HeldRecovery, IsPlaced, IsReady, IsReadyStage, IsSoundStage, IsSoundStop}
use Rattle.recovery_laws.proofs.Prelude.{IsSoundTask, IsStopped, Means, Meets, NamesLogging, Purpose, ServerNo, SoundRecovery, World, are_held}
use Rattle.recovery_laws.proofs.Prelude.{are_matched, begun-fits as first-fits, begun_recovery, but, first-all, first_ops, first_stage}
use Rattle.recovery_laws.proofs.Prelude.{footing, matched_in}
use Rattle.recovery_laws.proofs.Prelude.purpose
use Rattle.recovery_laws.proofs.Prelude.stage
use Rattle.std.proofs.Common.{◌≡◌, ℕ, true, List, [], ◌∷◌, refl}

each : (P : ServerNo → Type 0) (ns : List ServerNo) → ((n : ServerNo) → P n) → All P ns
each P [] h = All-nil P
each P (n ∷ ns) h = All-cons P n ns (h n) (each P ns h)

-- ---- `Held` and `Sound`

first-ready : (w : World) (u : Purpose) (f : ServerNo) → IsReadyStage w (first_stage u f)
first-ready w purpose.Regroup f = tt
first-ready w _ f = tt

pub first-held : (w : World) (u : Purpose) (f : ServerNo) → are_held (footing w []) (first_ops u f) ≡ true
first-held w purpose.Regroup f = refl
first-held w _ f = refl

pub first-free : (u : Purpose) (f : ServerNo) → are_matched (matched_in []) (first_ops u f) ≡ true
first-free purpose.Regroup f = refl
first-free _ f = refl

pub begun-held : (w : World) (u : Purpose) (by : Means) (id wait : ℕ) (f : ServerNo) (ns order : List ServerNo) → NamesLogging w u
    → HeldRecovery w (begun_recovery u by id wait f ns order)
begun-held w u by id wait f ns order logs = record {
  core = record { left = first-held w u f; shown = λ n s h. cc; matched = first-free u f; ends = All-nil (IsPlaced w) };
  stage = first-ready w u f;
  fits = first-fits u f;
  queue = first-all (IsReady w []) tt tt tt u ns (λ n e. tt) (each (λ n. Unit {0}) ns (λ n. tt)) (λ d. each (λ n. Unit {0}) (but ns d) (λ n. tt)) (λ d e. tt);
  drained = All-nil (IsStopped w [] f);
  lead = tt;
  named = logs;
}

first-sound : (w : World) (u : Purpose) (f : ServerNo) → IsSoundStage w (first_stage u f)
first-sound w purpose.Regroup f = tt
first-sound w _ f = tt

pub begun-sound : (w : World) (u : Purpose) (by : Means) (id wait : ℕ) (f : ServerNo) (ns order : List ServerNo) → SoundRecovery w (begun_recovery u by id wait f ns order)
begun-sound w u by id wait f ns order = record {
  core = λ n s h. cc;
  met = All-nil (Meets w);
  stage = first-sound w u f;
  queue = first-all (IsSoundTask w) tt tt tt u ns (λ n e. tt) (each (λ n. Unit {0}) ns (λ n. tt)) (λ d. each (λ n. Unit {0}) (but ns d) (λ n. tt)) (λ d e. tt);
  drained = All-nil (IsSoundStop w f);
  lead = tt;
}
