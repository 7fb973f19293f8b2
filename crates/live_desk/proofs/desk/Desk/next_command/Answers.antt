use Rattle.std.proofs.Common.{length, List, subst, sym, All}
use Rattle.live_desk.proofs.Prelude.{DeskState, IfSome_then, IsTurn, NamesOneOf, Turn}
use Rattle.live_desk.proofs.desk.Desk.next_command.Goals as goal

pub returns-clause-turn : goal.returns-clause-turn
returns-clause-turn c =
    let count = length c.args.self.now.scenario.opening.servers in
    let all : All (IsTurn count) c.as_slice-turns.result.now =
    subst (λ (ts : List Turn). All (IsTurn count) ts) (sym c.as_slice-turns.ensures)
    (subst (λ (d : DeskState). All (IsTurn (length d.scenario.opening.servers)) c.self.inside.scenario.turns) c.self.view_is c.self.invariant.desk.scenario.turns) in
    IfSome_then c.turn_at.result c.turn_at.ensures.turn (λ t turn. turn count all)

pub returns-clause-named : goal.returns-clause-named
returns-clause-named c =
    let nodes = c.args.self.now.scenario.nodes in
    let all : All (NamesOneOf nodes) c.as_slice-turns.result.now =
    subst (λ (ts : List Turn). All (NamesOneOf nodes) ts) (sym c.as_slice-turns.ensures)
    (subst (λ (d : DeskState). All (NamesOneOf d.scenario.nodes) c.self.inside.scenario.turns) c.self.view_is c.self.invariant.desk.scenario.named) in
    IfSome_then c.turn_at.result c.turn_at.ensures.named (λ t named. named nodes all)
