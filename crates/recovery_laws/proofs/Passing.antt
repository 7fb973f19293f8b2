-- A recovery's turn keeps what its job's own would.
use Rattle.std.proofs.Common.{◌≡◌, ℕ, Bool, true, false, [], refl, sym, subst, Option, Some, None, IfSome}
use Rattle.recovery_laws.proofs.Prelude.{All-nil, All-weaker, AllBridged, AllMeet, BookState, Bridged-run, Flight, Held, HeldJob, HeldRecovery}
use Rattle.recovery_laws.proofs.Prelude.{HeldRings, IsAny, IsBridged, IsLeased, IsOpOf, IsPlaced, IsShown, IsShownBridged, KeepsLeased, KeepsLeases}
use Rattle.recovery_laws.proofs.Prelude.{KeepsRecovery, KeepsSoundRecovery, LeasedRecovery, Leases, MayChange, MayTake, Meets, Moment, Observation}
use Rattle.recovery_laws.proofs.Prelude.{Recovery, Safe, Shows, Shows-run, Sound, SoundRecovery, SoundRings, Taken, TakesWell, World, as_turn}
use Rattle.recovery_laws.proofs.Prelude.{core_by, is_going, job_with, observed-bridged, observed-shown, position_of, run, taken}
use Rattle.recovery_laws.proofs.Leasing.{taken-leased}
use Rattle.recovery_laws.proofs.Observing.{taken-observes}
use Rattle.recovery_laws.proofs.Sounding.{taken-sound}
use Rattle.recovery_laws.proofs.Taking.{taken-held}

-- nothing is left of a job that is ended, and it saw nothing

none-held : (w : World) (id : ℕ) → HeldJob w (job_with id 0 [])
none-held w id = record { left = refl; shown = λ n s h. cc; matched = refl; ends = All-nil (IsPlaced w) }

held-core : (w : World) (id : ℕ) (r : Recovery) (b : Bool) → (b ≡ true → HeldRecovery w r) → HeldJob w (core_by id r b)
held-core w id r true held = (held refl).core
held-core w id r false held = none-held w id

bridged-core : (w : World) (id : ℕ) (r : Recovery) (b : Bool) → (b ≡ true → SoundRecovery w r) → AllBridged w (core_by id r b).seen
bridged-core w id r true sound = (sound refl).core
bridged-core w id r false sound = λ n s h. cc

met-core : (w : World) (id : ℕ) (r : Recovery) (b : Bool) → (b ≡ true → SoundRecovery w r) → AllMeet w (core_by id r b).matches
met-core w id r true sound = (sound refl).met
met-core w id r false sound = All-nil (Meets w)

leased-core : (l : Leases) (id : ℕ) (t : Taken) → KeepsLeased l id t → (b : Bool) → (b ≡ true → is_going t.step ≡ true) → KeepsLeases l id (record (as_turn id t) { job = core_by id t.recovery b })
leased-core l id t keeps true going =
    let has = keeps.servers (going refl) in
    record {
      id = has.number;
      ops = All-weaker (IsOpOf (IsLeased l id) IsAny) (MayChange l id) (λ o h. h.0) t.recovery.core.ops has.ops;
      hands = has.hands;
      exchanges = keeps.exchanges;
    }
leased-core l id t keeps false going = record {
  id = refl;
  ops = All-nil (MayChange l id);
  hands = All-nil (λ n. IsLeased l id n.0);
  exchanges = keeps.exchanges;
}

by-some : (P : Observation → Type 0) (o : Option Observation) → ((x : Observation) → o ≡ Some x → P x) → IfSome o P
by-some P None f = tt
by-some P (Some x) f = f x refl

module _ (f : Flight) (b : BookState) (id read : ℕ) (now : Moment) (r : Recovery) (held : Held f) (rings : HeldRings f.world b.rings) (mine : HeldRecovery f.world r) where
  abbrev turn : Taken
  turn = taken f.world b read now r

  kept : KeepsRecovery f.world (taken f.world b read now r)
  kept = taken-held f.world b read now r held.placed rings mine

  shown-after : (x : Observation) → (taken f.world b read now r).observation ≡ Some x → IsShown (run f.world (taken f.world b read now r).exchanges) x
  shown-after x h s is =
      let n = taken-observes f.world b read now r x h in
      let shown : Shows f.world x.no.0 s = subst (λ (y : Observation). IsShown f.world y) (sym n.1) (observed-shown f.world read now n.0 held.placed) s is in
      Shows-run f.world (taken f.world b read now r).exchanges x.no.0 s held.placed kept.allowed shown

  bridged-after : Safe f.world → (x : Observation) → (taken f.world b read now r).observation ≡ Some x → IsShownBridged (run f.world (taken f.world b read now r).exchanges) x
  bridged-after safe x h s is =
      let n = taken-observes f.world b read now r x h in
      let bridged : IsBridged f.world x.no.0 (position_of s) = subst (λ (y : Observation). IsShownBridged f.world y) (sym n.1) (observed-bridged f.world read now n.0 safe) s is in
      Bridged-run f.world (taken f.world b read now r).exchanges x.no.0 (position_of s) held.placed kept.allowed bridged

  sound-turn : Sound f → SoundRings f.world b.rings → SoundRecovery f.world r → KeepsSoundRecovery f.world (taken f.world b read now r)
  sound-turn sound standing good = taken-sound f.world b read now r sound.safe held.placed rings standing mine good

  pub recovery-passes : LeasedRecovery f.leases id r → MayTake f id (as_turn id (taken f.world b read now r))
  recovery-passes leased = record {
    held = record { allowed = kept.allowed; held = held-core _ id (taken f.world b read now r).recovery (is_going (taken f.world b read now r).step) kept.held };
    leases = leased-core f.leases id (taken f.world b read now r) (taken-leased f.leases id f.world b read now r leased) (is_going (taken f.world b read now r).step) (λ h. h);
    shown = by-some _ (taken f.world b read now r).observation shown-after;
  }

  pub recovery-passes-well : Sound f → SoundRings f.world b.rings → SoundRecovery f.world r → TakesWell f (as_turn id (taken f.world b read now r))
  recovery-passes-well sound standing good =
      let after = sound-turn sound standing good in
      record {
        sound = record {
          joins = after.joins;
          bridged = bridged-core _ id (taken f.world b read now r).recovery (is_going (taken f.world b read now r).step) after.sound;
          met = met-core _ id (taken f.world b read now r).recovery (is_going (taken f.world b read now r).step) after.sound;
        };
        bridged = by-some _ (taken f.world b read now r).observation (bridged-after sound.safe);
      }
