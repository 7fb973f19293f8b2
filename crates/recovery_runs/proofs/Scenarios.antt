-- The hooks of recoveries are the scenario's.
use Rattle.std.proofs.Common.{◌≡◌, ◌∙◌, ℕ, List, sym, ap, take, Option, Some, None}
use Rattle.recovery_runs.proofs.Prelude.{AreHooksOf, AreScenarios, Began, Configuration, Docket, HasHooks, Hooks, HookState, Purpose, Recovery, Row}
use Rattle.recovery_runs.proofs.Prelude.{Scenario, State, Turn, Values, alias_of, configuration_of, configured, engine, label_at, none-some, plan_of}
use Rattle.recovery_runs.proofs.Prelude.{run_turns, same_Some, start, told_of}
use Rattle.recovery_runs.proofs.Prelude.purpose

module _ (s : Scenario) (wait : ℕ) (rows : List Row) (xs : List (List Row × Turn)) (r : Recovery) (docket : Docket) (began : Began (start s wait rows) xs r docket) (h : HookState) (has : docket.hooks ≡ Some h) where
  abbrev then : State
  then = run_turns engine (start s wait rows) (take began.place xs)

  same : then.configuration ≡ configuration_of wait s
  same = configured (start s wait rows) (take began.place xs)

  plan : (o : Option HookState) → began.begins.had.hooks ≡ o → Some (h.hooks, h.told) ≡ plan_of o
  plan o is = sym (ap plan_of has) ∙ (began.begins.same.hooks ∙ ap plan_of is)

  by-hooks : AreHooksOf then r.failed began.begins.had.hooks → AreScenarios s h
  by-hooks are =
      let told = told_of then.configuration are.name (label_at then.book r.failed) are.code in
      let both : (h.hooks, h.told) ≡ (then.configuration.hooks, told) = same_Some (h.hooks, h.told) (then.configuration.hooks, told) (plan _ are.hooks) in
      let cluster : h.told.cluster ≡ label_at then.book r.failed = ap (λ (p : Hooks × Values). p.1.cluster) both in
      record {
        hooks = ap (λ (p : Hooks × Values). p.0) both ∙ ap (λ (c : Configuration). c.hooks) same;
        alias =
            ap (λ (p : Hooks × Values). p.1.alias) both
            ∙ (ap (λ (c : Configuration). alias_of c.aliases (label_at then.book r.failed)) same
            ∙ ap (λ (label : List ℕ). alias_of s.aliases label) (sym cluster));
      }

  pub are-scenarios : AreScenarios s h
  are-scenarios = go r.purpose began.begins.hooks
    where
      go : (u : Purpose) → HasHooks then u r.failed began.begins.had.hooks → AreScenarios s h
      go purpose.Regroup none = absurd (none-some (h.hooks, h.told) (sym (plan None none)))
      go purpose.Master are = by-hooks are
      go (purpose.Intermediate n) are = by-hooks are
      go (purpose.Takeover d) none = absurd (none-some (h.hooks, h.told) (sym (plan None none)))
