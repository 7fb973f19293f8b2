use Rattle.std.proofs.Common.{◌∙◌, ap, map}
use Rattle.std.proofs.lemmas.List.{map-append}
use Rattle.report_text.proofs.ServerLines.{names_go_on}
use Rattle.report_text.proofs.table.names_in.Goals as goal

pub loop-no-preserved : goal.loop-no-preserved
loop-no-preserved c =
    names_go_on c.args.world.now.servers c.loop-no.no c.settings.result.now (map (λ n. n.now) c.loop-no.names.items) _ c.loop-no.invariant c.settings.ensures
    (ap (map (λ n. n.now)) c.in_ok-push.ensures.items ∙ map-append (λ n. n.now) c.loop-no.names.items _)
