-- If the kept rows follow the audit, a restart loads it whole.
use Rattle.std.proofs.Common.{◌≡◌, ◌∙◌, ℕ, List, length, ap, arith}
use Rattle.run_laws.proofs.Prelude.{ComesTo, FollowAudit, IsRising, Recovery, Row, Scenario, State, Turn, counted, last_given, period_by}
use Rattle.run_laws.proofs.Prelude.{recoveries_in, reloaded_audit}
use Rattle.run_laws.proofs.Ready.{settings-count}
use Rattle.run_laws.proofs.Counting.{IsReckoned, counting-recoveries, reckoned-comes}
use Rattle.run_laws.proofs.Periods.{short-by}
use Rattle.run_laws.proofs.Sameness.{same-loaded}

reloaded-is : (count : ℕ) (rows : List Row) (s : State) → IsReckoned count s → IsRising rows → FollowAudit count rows s.audit → reloaded_audit rows s ≡ s.audit
reloaded-is count rows s is rising follow = ap (λ (xs : List Recovery). record { recoveries = xs; next = s.audit.next }) loads
  where
    settings : length s.book.settings ≡ count
    settings = settings-count s.book is.ready.book ∙ is.ready.names

    loads : (reloaded_audit rows s).recoveries ≡ s.audit.recoveries
    loads =
        let few = is.ready.book.small in
        let names = is.ready.names in
        ap (λ (n : ℕ). recoveries_in (period_by s.configuration) (counted n (last_given s) rows)) settings
        ∙ same-loaded count s.audit.next (period_by s.configuration) (short-by s.configuration is.ready.periods) rows s.audit.recoveries (omega (arith, few, names)) rising follow
        (counting-recoveries count s is)

pub reloaded-comes : (s : Scenario) (xs : List (List Row × Turn)) (now : State) (rows : List Row) → ComesTo s xs now → IsRising rows → FollowAudit (length s.opening.servers) rows now.audit
    → reloaded_audit rows now ≡ now.audit
reloaded-comes s xs now rows comes rising follow = reloaded-is (length s.opening.servers) rows now (reckoned-comes s xs now comes) rising follow
