-- Hooks that get what begins change nothing else of it.
use Rattle.std.proofs.Common.{◌<◌, ◌-◌, ◌^◌, ℕ, List, [], ◌∷◌, Option, map}
use Rattle.std.proofs.lemmas.List.Elements.{All-map}
use Rattle.recovery_core.specs.AuditLog.Audits.{AuditState, begun}
use Rattle.recovery_core.specs.InstanceKeeper.Book.{BookState}
use Rattle.recovery_core.specs.InstanceKeeper.Leases.{taken}
use Rattle.recovery_core.specs.Begun.{BeginInTurn, CanBegin}
use Rattle.recovery_core.specs.Scans.{HasRoom}
use Rattle.recovery_core.specs.Tries.{Begins}
use Rattle.command_outcomes.specs.HookTelling.{with_told}
use Rattle.command_outcomes.specs.declared.configuration.Configuration.{Configuration}

module _ (c : Configuration) (b : BookState) where
  pub told-can : (count : ℕ) (leases : List (Option ℕ)) (a : AuditState) (last : ℕ) (x : Begins) → CanBegin count leases a last x → CanBegin count leases a last (with_told c b x)
  told-can count leases a last x can = record {
    within = can.within;
    free = can.free;
    idle = can.idle;
    list = can.list;
    listed = can.listed;
    fresh = can.fresh;
    named = can.named;
    number = can.number;
    may = can.may;
    failed = can.failed;
    ended = can.ended;
    outcome = can.outcome;
  }

  pub told-in-turn : (count : ℕ) (leases : List (Option ℕ)) (a : AuditState) (last : ℕ) (xs : List Begins) → BeginInTurn count leases a last xs → BeginInTurn count leases a last (map (with_told c b) xs)
  told-in-turn count leases a last [] each = tt
  told-in-turn count leases a last (x ∷ xs) each =
      (told-can count leases a last x each.0, told-in-turn count (taken leases x.list x.job.core.id) (begun a x.entry) x.job.core.id xs each.1)

  pub told-room : (xs : List Begins) → HasRoom xs → HasRoom (map (with_told c b) xs)
  told-room xs all = All-map (λ (x : Begins). x.entry.id < 2 ^ 64 - 1) (with_told c b) xs all
