use Rattle.std.proofs.Common.{◌≡◌, ◌∙◌, ℕ, true, false, List, length, sym, ap, subst}
use Rattle.live_desk.proofs.Prelude.{IsAt, IsScenario, Reply, Scenario, Turn, changed, commands_in, left_from, others_in, same_Some, start}
use Rattle.live_desk.proofs.Prelude.{start_changes}
use Rattle.live_desk.proofs.Desks.{made-desk, shown, shown-made}
use Rattle.live_desk.proofs.desk.Desk.make.Goals as goal

pub invariant_of-result : goal.invariant_of-result
invariant_of-result c =
    let s : Scenario = c.in_ok-scenario.scenario in
    let same : s ≡ c.args.s.now = c.in_ok-scenario.ensures in
    let none = c.in_ok-rows.rows in
    let state : c.in-Ok.orch.state ≡ start s c.args.wait none = c.in-Ok.ensures.ok ∙ ap (λ (x : Scenario). start x c.args.wait none) (sym same) in
    let rows : c.make.new.keeper ≡ changed none (start_changes s none) = same_Some _ _ c.in-Ok.ensures.kept ∙ ap (λ (x : Scenario). changed none (start_changes x none)) (sym same) in
    let first : c.as_slice.result.now ≡ s.turns = c.as_slice.ensures ∙ ap (λ (x : Scenario). x.turns) (sym same) in
    let second : c.as_slice-2.result.now ≡ s.turns = c.as_slice-2.ensures ∙ ap (λ (x : Scenario). x.turns) (sym same) in
    let commands : left_from true s.turns c.next_at-command.result ≡ commands_in s.turns = subst (λ (ts : List Turn). left_from true ts c.next_at-command.result ≡ left_from true ts 0) first c.next_at-command.ensures.left in
    let others : left_from false s.turns c.next_at-listed.result ≡ others_in s.turns = subst (λ (ts : List Turn). left_from false ts c.next_at-listed.result ≡ left_from false ts 0) second c.next_at-listed.ensures.left in
    let opens = shown-made s c.args.wait c.make.new.keeper none c.in-Ok.orch c.new-2.result.items c.next_at-command.result c.next_at-listed.result c.in_ok-rows.ensures c.new-2.ensures.items state c.in-Ok.ensures.journal rows commands others in
    record {
      desk = made-desk (shown s c.args.wait c.make.new.keeper c.in-Ok.orch c.new-2.result.items c.next_at-command.result c.next_at-listed.result) (subst IsScenario (sym same) c.requires) opens (c.in-Ok.ensures.servers ∙ ap (λ (x : Scenario). length x.opening.servers) (sym same))
          (c.in-Ok.ensures.nodes ∙ ap (λ (x : Scenario). x.nodes) (sym same));
      numbers = ap (λ (ns : List ℕ). length ns) c.new-2.ensures.items ∙ sym (ap (λ (ps : List (Turn × Reply)). length ps) c.in-Ok.ensures.journal);
      command = subst (λ (ts : List Turn). IsAt true ts c.next_at-command.result) first c.next_at-command.ensures.at;
      listed = subst (λ (ts : List Turn). IsAt false ts c.next_at-listed.result) second c.next_at-listed.ensures.at;
    }
