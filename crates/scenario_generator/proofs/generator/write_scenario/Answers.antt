use Rattle.std.proofs.Common.{ℕ, List, ◌++◌, refl, subst, sym, codes}
use Rattle.scenario_generator.proofs.Prelude.{AppendsFront, servers_from, servers_text, turns_from, turns_text}
use Rattle.scenario_generator.proofs.Sends.{front_of_longer, handed_is_front, on_err}
use Rattle.scenario_generator.proofs.Wholes.{all_held, all_taken, front_of_two, front_of_whole, more_held, rest_front, scenario_parts}
use Rattle.scenario_generator.proofs.generator.write_scenario.Goals as goal

pub returns-in_err-add_servers-clause-err : goal.returns-in_err-add_servers-clause-err
returns-in_err-add_servers-clause-err g c =
    let w = g.K.Sink.written c.args.sink.now in
    let head = codes "{\"servers\":[" in
    let ss = servers_text (servers_from c.args.seed c.args.servers).drawn in
    let ts = turns_text (turns_from c.args.servers (servers_from c.args.seed c.args.servers).number c.args.turns).drawn in
    on_err _ c.from_residual-in_err-add_servers.result
    (front_of_two w (g.K.Sink.written c.add_servers.new.sink) ((head ++ ss) ++ codes "],\"turns\":[") ts (codes "],\"version\":1}\n") _ (scenario_parts c.args.seed c.args.servers c.args.turns _ refl)
    (front_of_longer w _ (head ++ ss) (codes "],\"turns\":[") (c.in_err-add_servers.ensures.err w head (all_held w _ head c.in_ok-held.ensures.items))))

pub returns-in_err-extend_from_slice-clause-err : goal.returns-in_err-extend_from_slice-clause-err
returns-in_err-extend_from_slice-clause-err g c =
    let w = g.K.Sink.written c.args.sink.now in
    let head = codes "{\"servers\":[" in
    let ss = servers_text (servers_from c.args.seed c.args.servers).drawn in
    let ts = turns_text (turns_from c.args.servers (servers_from c.args.seed c.args.servers).number c.args.turns).drawn in
    on_err _ c.from_residual-in_err-extend_from_slice.result
    (front_of_two w (g.K.Sink.written c.add_servers.new.sink) ((head ++ ss) ++ codes "],\"turns\":[") ts (codes "],\"version\":1}\n") _ (scenario_parts c.args.seed c.args.servers c.args.turns _ refl)
    (handed_is_front w _ _ (head ++ ss) (codes "],\"turns\":[") (c.in_ok-add_servers.ensures.ok w head (all_held w _ head c.in_ok-held.ensures.items))))

pub returns-in_err-add_turns-clause-err : goal.returns-in_err-add_turns-clause-err
returns-in_err-add_turns-clause-err g c =
    let w = g.K.Sink.written c.args.sink.now in
    let head = codes "{\"servers\":[" in
    let mid = codes "],\"turns\":[" in
    let ss = servers_text (servers_from c.args.seed c.args.servers).drawn in
    let ts = turns_text (turns_from c.args.servers c.add_servers.new.numbers.last c.args.turns).drawn in
    let before = c.in_ok-add_servers.ensures.ok w head (all_held w _ head c.in_ok-held.ensures.items) in
    on_err _ c.from_residual-in_err-add_turns.result
    (front_of_whole w (g.K.Sink.written c.add_turns.new.sink) (((head ++ ss) ++ mid) ++ ts) (codes "],\"version\":1}\n") _ (scenario_parts c.args.seed c.args.servers c.args.turns _ c.in_ok-add_servers.ensures.numbers)
    (c.in_err-add_turns.ensures.err w ((head ++ ss) ++ mid) (more_held w _ _ _ (head ++ ss) mid c.in_ok-extend_from_slice.ensures.items before)))

pub returns-in_err-extend_from_slice-2-clause-err : goal.returns-in_err-extend_from_slice-2-clause-err
returns-in_err-extend_from_slice-2-clause-err g c =
    let w = g.K.Sink.written c.args.sink.now in
    let head = codes "{\"servers\":[" in
    let mid = codes "],\"turns\":[" in
    let ss = servers_text (servers_from c.args.seed c.args.servers).drawn in
    let ts = turns_text (turns_from c.args.servers c.add_servers.new.numbers.last c.args.turns).drawn in
    let before = c.in_ok-add_servers.ensures.ok w head (all_held w _ head c.in_ok-held.ensures.items) in
    let all = c.in_ok-add_turns.ensures.ok w ((head ++ ss) ++ mid) (more_held w _ _ _ (head ++ ss) mid c.in_ok-extend_from_slice.ensures.items before) in
    on_err _ c.from_residual-in_err-extend_from_slice-2.result
    (subst (λ (v : List ℕ). AppendsFront w (g.K.Sink.written c.add_turns.new.sink) v) (sym (scenario_parts c.args.seed c.args.servers c.args.turns _ c.in_ok-add_servers.ensures.numbers))
    (handed_is_front w _ _ (((head ++ ss) ++ mid) ++ ts) (codes "],\"version\":1}\n") all))

pub returns-in_err-write_all-clause-err : goal.returns-in_err-write_all-clause-err
returns-in_err-write_all-clause-err g c =
    let w = g.K.Sink.written c.args.sink.now in
    let head = codes "{\"servers\":[" in
    let mid = codes "],\"turns\":[" in
    let tail = codes "],\"version\":1}\n" in
    let ss = servers_text (servers_from c.args.seed c.args.servers).drawn in
    let ts = turns_text (turns_from c.args.servers c.add_servers.new.numbers.last c.args.turns).drawn in
    let before = c.in_ok-add_servers.ensures.ok w head (all_held w _ head c.in_ok-held.ensures.items) in
    let all = c.in_ok-add_turns.ensures.ok w ((head ++ ss) ++ mid) (more_held w _ _ _ (head ++ ss) mid c.in_ok-extend_from_slice.ensures.items before) in
    on_err _ c.from_residual-in_err-write_all.result
    (rest_front w _ (g.K.Sink.written c.write_all.new.sink) _ _ _ _ (scenario_parts c.args.seed c.args.servers c.args.turns _ c.in_ok-add_servers.ensures.numbers) c.deref.ensures.value
    (more_held w _ _ _ (((head ++ ss) ++ mid) ++ ts) tail c.in_ok-extend_from_slice-2.ensures.items all) c.in_err-write_all.ensures.err)

pub returns-clause-ok : goal.returns-clause-ok
returns-clause-ok g c =
    let w = g.K.Sink.written c.args.sink.now in
    let head = codes "{\"servers\":[" in
    let mid = codes "],\"turns\":[" in
    let tail = codes "],\"version\":1}\n" in
    let ss = servers_text (servers_from c.args.seed c.args.servers).drawn in
    let ts = turns_text (turns_from c.args.servers c.add_servers.new.numbers.last c.args.turns).drawn in
    let before = c.in_ok-add_servers.ensures.ok w head (all_held w _ head c.in_ok-held.ensures.items) in
    let all = c.in_ok-add_turns.ensures.ok w ((head ++ ss) ++ mid) (more_held w _ _ _ (head ++ ss) mid c.in_ok-extend_from_slice.ensures.items before) in
    all_taken w _ (g.K.Sink.written c.write_all.new.sink) _ _ _ _ (scenario_parts c.args.seed c.args.servers c.args.turns _ c.in_ok-add_servers.ensures.numbers) c.deref.ensures.value
    (more_held w _ _ _ (((head ++ ss) ++ mid) ++ ts) tail c.in_ok-extend_from_slice-2.ensures.items all) c.in_ok-write_all.ensures.ok
