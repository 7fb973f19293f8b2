use Rattle.std.proofs.Common.{◌≡◌, ap, sym, ◌∙◌}
use Rattle.recovery_turns.proofs.Prelude.{IfOk-weaker, Purpose, decided_on, fate, foretold, looked_by, met, stepped_to}
use Rattle.recovery_turns.proofs.Prelude.Acts.{foretold as job_told}
use Rattle.recovery_turns.proofs.Purposes.{decided-purpose}
use Rattle.recovery_turns.proofs.decided.Decided.by_look.Goals as goal

pub returns-in-Failed-clause-turn : goal.returns-in-Failed-clause-turn
returns-in-Failed-clause-turn c =
    let w = c.args.world.now in
    let a = c.args.of.now in
    let r = decided_on a c.args.self in
    let o = c.args.look.observation in
    let why = c.in-Failed.cause in
    let same : met w r why o (fate w a.purpose r.stage why) ≡ looked_by w r c.args.ending c.args.look =
    ap (λ (u : Purpose). met w r why o (fate w u r.stage why)) (sym (decided-purpose a c.args.self))
    ∙ ap (stepped_to w r c.args.ending (job_told r.core c.args.look)) (sym c.in-Failed.is) in
    IfOk-weaker c.meet.result (λ l. foretold a l ≡ met w r why o (fate w a.purpose r.stage why)) (λ l. foretold a l ≡ looked_by w r c.args.ending c.args.look) (λ l h. h ∙ same) c.meet.ensures.turn
