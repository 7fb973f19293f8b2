-- A turn promotes only a server that the recovery names.
use Rattle.std.proofs.Common.{ℕ, [], ◌∷◌, subst, Option, Some, None, IfSome}
use Rattle.recovery_plans.proofs.Prelude.{All, All-head, All-tail, Bearing, BookState, Decision, Ending, IsOf, MayDecide, MayEnd, Moment, Recovery}
use Rattle.recovery_plans.proofs.Prelude.{ServerNo, Stage, Stopped, World, borne, changed_by, decided_by, ended_by, entered, fate_of, follows_no_more}
use Rattle.recovery_plans.proofs.Prelude.{ground_of, leaver, moved, taken}
use Rattle.recovery_plans.proofs.Prelude.by
use Rattle.recovery_plans.proofs.Choices.{All-chosen}
use Rattle.recovery_plans.proofs.Naming.{keeps-of}
use Rattle.recovery_plans.proofs.Walking.{KeepsAlways, always, kept-whole, weakened}

module _ (P : ℕ → Type 0) (id : ℕ) where
  abbrev Leads : Recovery → Type 0
  Leads r = IfSome r.outcome.promoted (λ n. P n.0)

  abbrev Named : Recovery → Type 0
  Named r = IsOf P P id r × Leads r

  decides-leads : (w : World) (b : BookState) (now : Moment) (r : Recovery) (d : Decision) → MayDecide (ground_of w b now) r d → Named r → Leads (decided_by (ground_of w b now) r d)
  decides-leads w b now r (by.Chooses p ts) g h = All-chosen w b now r.failed (λ (d : Stopped). P d.no.0) r.drained p h.0.drained g.1
  decides-leads w b now r (by.ChoosesNobody ts) g h = tt
  decides-leads w b now r d g h = h.1

  completes-leads : (r : Recovery) (e : Ending) → MayEnd r e → Named r → Leads (ended_by r e)
  completes-leads r (by.Swaps p q) is h =
      let both = subst (λ (s : Stage). All (λ n. P n.0) (changed_by s)) is h.0.stage in
      All-head (λ (n : ServerNo). P n.0) q [] (All-tail (λ (n : ServerNo). P n.0) p (q ∷ []) both)
  completes-leads r e g h = h.1

  enters-leads : (r : Recovery) (s : Stage) → Leads r → Leads (entered r s)
  enters-leads r s h = go (leaver s)
    where
      go : (o : Option ServerNo) → Leads (record (follows_no_more r o) { stage = s })
      go None = h
      go (Some n) = h

  bears-leads : (r : Recovery) (e : Bearing) → Leads r → Leads (borne r (fate_of e))
  bears-leads r by.Drops h = h
  bears-leads r e h = h

  keeps-leads : (w : World) (b : BookState) (read : ℕ) (now : Moment) → KeepsAlways w b read now (λ v r. Named r)
  keeps-leads w b read now =
      let named = keeps-of P P id (λ n p. p) w b read now in
      record {
        decides = λ r d may h. (named.decides r d may h.0, decides-leads w b now r d may h);
        does = λ r o rest ob es j did h. (named.does r o rest ob es j did h.0, h.1);
        enters = λ v r h. (named.enters v r h.0, enters-leads r (moved r.stage) h.1);
        completes = λ v r e none may h. (named.completes v r e none may h.0, completes-leads r e may h);
        bears = λ r o rest c ob e stops is may h. (named.bears r o rest c ob e stops is may h.0, bears-leads r e h.1);
      }

  -- whatever the turn comes to
  pub taken-leads : (w : World) (b : BookState) (read : ℕ) (now : Moment) (r : Recovery) → IsOf P P id r → Leads r → Leads (taken w b read now r).recovery
  taken-leads w b read now r has h =
      kept-whole w b read now Named (λ v s. Named s) (λ v s. Leads s)
      (weakened w b read now Named (λ v s. Named s) (λ v s. Named s) (λ v s. Leads s) (λ v s k. k.1) (always w b read now (λ v s. Named s) (keeps-leads w b read now)))
      (record { fails = λ s c ob why k. k.1; finishes = λ s o rest lines is e k. k.1 }) r (has, h)
