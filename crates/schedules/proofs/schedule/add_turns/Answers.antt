use Rattle.std.proofs.Common.{◌∙◌, ℕ, ap, length, map, refl, option_map}
use Rattle.std.proofs.lemmas.Option.{slice_get-map, slice_get_read}
use Rattle.serde_json.specs.Written.{compact_text}
use Rattle.scenario_dump.proofs.Lists.{list_goes_on}
use Rattle.scenarios.specs.Turns.declared.turn.Turn.{Turn}
use Rattle.scenarios.specs.Turns.declared.reply.Reply.{Reply}
use Rattle.schedules.specs.Turns.{turn_data}
use Rattle.schedules.proofs.schedule.add_turns.Goals as goal

pub loop-n-preserved : goal.loop-n-preserved
loop-n-preserved c =
    let names = c.args.names.now in
    let t : Turn = c.index-entries-n.result.1 in
    list_goes_on (turn_data names) (map (λ (e : ℕ × Turn × Reply). e.1) c.args.entries.now) c.loop-n.n t c.loop-n.line.items c.add_turn.new.line.items (compact_text (turn_data names t)) _
    (slice_get-map (λ (e : ℕ × Turn × Reply). e.1) c.args.entries.now c.loop-n.n ∙ ap (option_map (λ (e : ℕ × Turn × Reply). e.1)) (slice_get_read c.args.entries.now (length c.args.entries.now) c.loop-n.n c.index-entries-n.result refl c.loop-n-test.true c.index-entries-n.is))
    refl c.in_ok-add_turn.ensures c.loop-n.invariant
