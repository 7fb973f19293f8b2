use Rattle.std.proofs.Common.{◌≡◌, ◌∙◌, ap, false, refl, subst, sym}
use Rattle.scenario_reader.proofs.Prelude.{All-push, Judged}
use Rattle.scenario_reader.specs.AliasTable.{alias_at, AreUnjudged}
use Rattle.scenario_reader.proofs.answers.clusters_of.Goals.{then-branch+in_ok-push, else-branch}
use Rattle.scenario_reader.proofs.answers.clusters_of.Goals as goal

pub loop-server-preserved : goal.loop-server-preserved
loop-server-preserved c =
    let alias = alias_at c.args.aliases.now in
    elim c.if-branch.branch [
      | then-branch+in_ok-push w ↦
          subst (AreUnjudged alias) (sym (ap (λ v. v.items) w.clusters-is ∙ w.in_ok-push.ensures.items))
          (All-push (λ (j : Judged). (j.alias.now ≡ alias j.name.now) × (j.matches ≡ false)) c.loop-server.clusters.items _ c.loop-server.invariant (w.alias_of.ensures, refl))
      | else-branch w ↦ subst (AreUnjudged alias) (sym (ap (λ v. v.items) w.clusters-is)) c.loop-server.invariant
    ]
