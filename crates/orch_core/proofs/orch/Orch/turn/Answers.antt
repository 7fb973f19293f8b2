use Rattle.std.proofs.Common.{◌≡◌, ◌∙◌, ◌+◌, ◌<◌, ◌≤◌, ℕ, ◌++◌, ◌∷◌, [], List, Ok, Err, length, map, ap, subst, sym, arith}
use Rattle.orch_core.proofs.Prelude.{Recorded, Reply, Takes, Turn, err_from_is_err_and, last_poll, length-map, map-append}
use Rattle.orch_core.proofs.Prelude.{polled_at, recorder, reply_of, same_Some}
use Rattle.orch_core.proofs.LastPolls.{last_poll-push}
use Rattle.orch_core.proofs.Taking.{Takes-recorded, Takes-unrecorded}
use Rattle.orch_core.proofs.orch.Orch.turn.Goals as goal

pub returns : goal.returns
returns g c =
    let journal = c.self.inside.journal.items in
    let reply = reply_of c.self.inside.engine c.args.t in
    let written : c.unwrap-written.result ≡ reply = sym (same_Some reply c.unwrap-written.result (sym c.in_ok-replies.ensures.reply.written_too ∙ c.unwrap-written.ensures)) in
    let joins : c.push_reserved.new.self.items ≡ journal ++ (c.args.t, reply) ∷ [] =
    c.push_reserved.ensures.items
    ∙ ap (λ (xs : List (Turn × Reply)). xs ++ (c.args.t, c.unwrap-written.result) ∷ []) c.in_ok-reserve.ensures.items
    ∙ ap (λ (r : Reply). journal ++ (c.args.t, r) ∷ []) written in
    subst (λ (r : Recorded). Takes recorder (λ x. x.state) g.K.Keeper.kept g.K.Keeper.faults c.args.keeper.now c.replies.new.keeper r c.args.t (record { state = c.replies.new.self; journal = c.push_reserved.new.self.items }) (λ r said. said ≡ r) (Ok c.in_ok-replies.replies.told)) c.self.view_is
    (Takes-recorded _ _ _ _ c.self.inside.engine c.replies.new.self journal c.push_reserved.new.self.items c.args.t c.in_ok-replies.replies joins c.in_ok-replies.ensures)

pub returns-in_err-replies : goal.returns-in_err-replies
returns-in_err-replies g c =
    let p = err_from_is_err_and c.from_residual-in_err-replies.result c.from_residual-in_err-replies.ensures.1 in
    rw (p.1, p.2)
    (subst (λ (r : Recorded). Takes {R = Reply} recorder (λ x. x.state) g.K.Keeper.kept g.K.Keeper.faults c.args.keeper.now c.replies.new.keeper r c.args.t (record { state = c.replies.new.self; journal = c.reserve.new.self.items }) (λ r said. said ≡ r) (Err c.in_err-replies.field-0.0)) c.self.view_is
    (Takes-unrecorded _ _ _ _ c.self.inside.engine c.replies.new.self c.self.inside.journal.items c.reserve.new.self.items c.args.t c.in_err-replies.field-0.0 c.in_ok-reserve.ensures.items c.in_err-replies.ensures))

pub invariant_of-self-2 : goal.invariant_of-self-2
invariant_of-self-2 g c =
    let before = c.self.inside.journal.items in
    let turns : List Turn = map (λ (e : Turn × Reply). e.0) before in
    let polls = c.self.inside.polls.items in
    let count = c.note_poll.ensures.count in
    let joined : c.push_reserved.new.self.items ≡ before ++ (c.args.t, c.unwrap-written.result) ∷ [] =
    c.push_reserved.ensures.items ∙ ap (λ (xs : List (Turn × Reply)). xs ++ (c.args.t, c.unwrap-written.result) ∷ []) c.in_ok-reserve.ensures.items in
    let all : map (λ (e : Turn × Reply). e.0) c.push_reserved.new.self.items ≡ turns ++ c.args.t ∷ [] =
    ap (map (λ (e : Turn × Reply). e.0)) joined ∙ map-append (λ (e : Turn × Reply). e.0) before ((c.args.t, c.unwrap-written.result) ∷ []) in
    let place : c.len.result + 1 ≡ length turns + 1 =
    let len = c.len.ensures in
    let same = ap (λ (xs : List (Turn × Reply)). length xs) c.in_ok-reserve.ensures.items in
    omega (arith, len, same, length-map before (λ (e : Turn × Reply). e.0), c.reserve.new.self.ok) in
    record {
      count = count ∙ c.self.invariant.count ∙ sym c.replies.ensures.servers;
      some = subst (λ (n : ℕ). 0 < n) (sym count) c.self.invariant.some;
      few = subst (λ (n : ℕ). n ≤ 1000) (sym count) c.self.invariant.few;
      each = λ n h.
          let within : n < length polls = subst (λ (k : ℕ). n < k) count h in
          c.note_poll.ensures.each n within
          ∙ ap (λ k. polled_at n k (c.len.result + 1) c.args.t) (c.self.invariant.each n within)
          ∙ ap (λ k. polled_at n (last_poll n turns) k c.args.t) place
          ∙ sym (ap (last_poll n) all ∙ last_poll-push n turns c.args.t);
    }
