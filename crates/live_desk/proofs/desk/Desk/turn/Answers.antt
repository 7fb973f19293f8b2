use Rattle.std.proofs.Common.{◌≡◌, ◌∙◌, ℕ, List, [], ◌∷◌, ◌++◌, Bool, true, false, cond, drop, length, sym, ap, subst, arith}
use Rattle.live_desk.proofs.Prelude.{DeskState, Entry, IsAt, IsDesk, IsTurn, MayTake, NamesOneOf, Recorded, Reply, Stands, Turn, desk_of, drives}
use Rattle.live_desk.proofs.Prelude.{entries_of, is_command, left_from, length-append, nodes_of, reply_of, same_Some, taken}
use Rattle.live_desk.proofs.Desks.{shown, shown-taken, taken-desk}
use Rattle.live_desk.proofs.Entries.{length-entries, stands-push}
use Rattle.live_desk.proofs.desk.Desk.turn.Goals as goal

after : (c : goal.After-push_reserved-2) → shown c.self.inside.scenario c.self.inside.wait c.turn.new.keeper c.turn.new.self c.push_reserved.new.self.items c.moved-self-inside.result c.moved-self-inside-2.result ≡ taken (desk_of c.self.inside) c.args.pass.now.by c.args.t
after c =
    let a = c.self.inside in
    let turns = a.scenario.turns in
    let by = c.args.pass.now.by in
    let numbers : c.push_reserved.new.self.items ≡ a.numbers.items ++ by ∷ [] = c.push_reserved.ensures.items ∙ ap (λ (xs : List ℕ). xs ++ by ∷ []) c.in_ok-reserve.ensures.items in
    let commands : left_from true turns c.moved-self-inside.result ≡ cond (is_command c.args.t) (drop 1 (left_from true turns a.command)) (left_from true turns a.command) =
    subst (λ (us : List Turn). left_from true us c.moved-self-inside.result ≡ cond c.is_command-command.result (drop 1 (left_from true us a.command)) (left_from true us a.command)) c.as_slice-turns.ensures c.moved-self-inside.ensures.left
    ∙ ap (λ (b : Bool). cond b (drop 1 (left_from true turns a.command)) (left_from true turns a.command)) c.is_command-command.ensures in
    let others : left_from false turns c.moved-self-inside-2.result ≡ cond (drives by c.args.t) (drop 1 (left_from false turns a.listed)) (left_from false turns a.listed) =
    subst (λ (us : List Turn). left_from false us c.moved-self-inside-2.result ≡ cond c.drives-listed.result (drop 1 (left_from false us a.listed)) (left_from false us a.listed)) c.as_slice-turns.ensures c.moved-self-inside-2.ensures.left
    ∙ ap (λ (b : Bool). cond b (drop 1 (left_from false turns a.listed)) (left_from false turns a.listed)) c.drives-listed.ensures in
    shown-taken a.scenario a.wait a.rows c.turn.new.keeper a.orch c.turn.new.self a.numbers.items c.push_reserved.new.self.items a.command c.moved-self-inside.result a.listed c.moved-self-inside-2.result by c.args.t
    c.self.invariant.numbers c.in-Ok.ensures.ok (same_Some _ _ c.in-Ok.ensures.kept) numbers commands others

long : (c : goal.After-push_reserved-2) → length c.push_reserved.new.self.items ≡ length c.turn.new.self.journal
long c =
    let a = c.self.inside in
    let by = c.args.pass.now.by in
    let p : Turn × Reply = (c.args.t, reply_of a.orch.state c.args.t) in
    let numbers : c.push_reserved.new.self.items ≡ a.numbers.items ++ by ∷ [] = c.push_reserved.ensures.items ∙ ap (λ (xs : List ℕ). xs ++ by ∷ []) c.in_ok-reserve.ensures.items in
    let one = ap (λ (xs : List ℕ). length xs) numbers ∙ length-append a.numbers.items (by ∷ []) in
    let two = ap (λ (r : Recorded). length r.journal) c.in-Ok.ensures.ok ∙ length-append a.orch.journal (p ∷ []) in
    let before = c.self.invariant.numbers in
    omega (arith, one, two, before)

seen : (c : goal.After-push_reserved-2) → c.len.result ≡ length (entries_of c.push_reserved.new.self.items c.turn.new.self.journal)
seen c =
    let count = c.len.ensures in
    let ok = c.push_reserved.new.self.ok in
    omega (arith, count, ok, long c, length-entries c.push_reserved.new.self.items c.turn.new.self.journal)

mine : (c : goal.After-push_reserved-2) → c.push_reserved-2.new.self.items ≡ c.args.pass.now.mine.items ++ length (entries_of c.push_reserved.new.self.items c.turn.new.self.journal) ∷ []
mine c =
    c.push_reserved-2.ensures.items ∙ ap (λ (xs : List ℕ). xs ++ c.len.result ∷ []) c.in_ok-reserve-2.ensures.items
    ∙ ap (λ (n : ℕ). c.args.pass.now.mine.items ++ n ∷ []) (seen c)

pub turn-requires-clause-named : goal.turn-requires-clause-named
turn-requires-clause-named c =
    subst (λ (n : ℕ). NamesOneOf n c.args.t) (sym c.self.invariant.desk.nodes) (subst (λ (d : DeskState). NamesOneOf d.scenario.nodes c.args.t) (sym c.self.view_is) c.requires.named)

pub invariant_of-self-2 : goal.invariant_of-self-2
invariant_of-self-2 c =
    let a = c.self.inside in
    let by = c.args.pass.now.by in
    let same = after c in
    let may = subst (λ (d : DeskState). MayTake d by c.args.t) (sym c.self.view_is) c.requires.may in
    let over = subst (λ (d : DeskState). IsTurn (length d.scenario.opening.servers) c.args.t) (sym c.self.view_is) c.requires.turn in
    let names = subst (λ (d : DeskState). NamesOneOf d.scenario.nodes c.args.t) (sym c.self.view_is) c.requires.named in
    let servers : length (taken (desk_of a) by c.args.t).run.state.world.servers ≡ length a.orch.state.world.servers = ap (λ (d : DeskState). length d.run.state.world.servers) (sym same) ∙ c.turn.ensures.servers in
    let nodes : nodes_of (taken (desk_of a) by c.args.t).run.state ≡ nodes_of a.orch.state = ap (λ (d : DeskState). nodes_of d.run.state) (sym same) ∙ c.turn.ensures.nodes in
    record {
      desk = subst IsDesk (sym same) (taken-desk (desk_of a) by c.args.t c.self.invariant.desk may over names servers nodes);
      numbers = long c;
      command = subst (λ (us : List Turn). IsAt true us c.moved-self-inside.result) c.as_slice-turns.ensures c.moved-self-inside.ensures.at;
      listed = subst (λ (us : List Turn). IsAt false us c.moved-self-inside-2.result) c.as_slice-turns.ensures c.moved-self-inside-2.ensures.at;
    }

pub returns-clause-ok : goal.returns-clause-ok
returns-clause-ok c = after c ∙ ap (λ (d : DeskState). taken d c.args.pass.now.by c.args.t) c.self.view_is

pub returns-clause-seen : goal.returns-clause-seen
returns-clause-seen c = seen c

pub returns-clause-mine : goal.returns-clause-mine
returns-clause-mine c = mine c

pub returns-clause-stands : goal.returns-clause-stands
returns-clause-stands c =
    let entries : entries_of c.push_reserved.new.self.items c.turn.new.self.journal ≡ c.args.self.now.entries ++ (c.args.pass.now.by, c.args.t, reply_of c.args.self.now.run.state c.args.t) ∷ [] =
    ap (λ (d : DeskState). d.entries) (after c ∙ ap (λ (d : DeskState). taken d c.args.pass.now.by c.args.t) c.self.view_is) in
    stands-push c.args.pass.now.by c.args.pass.now.seen c.len.result c.args.pass.now.mine.items c.push_reserved-2.new.self.items c.args.self.now.entries (entries_of c.push_reserved.new.self.items c.turn.new.self.journal) c.args.t (reply_of c.args.self.now.run.state c.args.t) entries (seen c) (mine c)

pub returns-clause-later : goal.returns-clause-later
returns-clause-later c = λ (stands : Stands c.args.pass.now.by c.args.pass.now.seen c.args.pass.now.mine.items c.args.self.now.entries).
    let e : Entry = (c.args.pass.now.by, c.args.t, reply_of c.args.self.now.run.state c.args.t) in
    let entries : entries_of c.push_reserved.new.self.items c.turn.new.self.journal ≡ c.args.self.now.entries ++ e ∷ [] =
    ap (λ (d : DeskState). d.entries) (after c ∙ ap (λ (d : DeskState). taken d c.args.pass.now.by c.args.t) c.self.view_is) in
    let long = ap (λ (es : List Entry). length es) entries ∙ length-append c.args.self.now.entries (e ∷ []) in
    let seen = stands.behind in
    omega (arith, long, seen)
