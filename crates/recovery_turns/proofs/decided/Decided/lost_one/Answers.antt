use Rattle.std.proofs.Common.{Some, None, sym, ap, ◌∙◌, ◌==◌, find}
use Rattle.recovery_turns.proofs.Prelude.{LostReplica, Recovery}
use Rattle.recovery_turns.proofs.Decisions.{lost_on}
use Rattle.recovery_turns.proofs.decided.Decided.lost_one.Goals as goal

pub returns-in-Some : goal.returns-in-Some
returns-in-Some c =
    let p = λ (l : LostReplica). l.no.0 == c.args.no.0 in
    sym (lost_on c.args.of.now c.args.self.now p (Some c.in-Some.replica)
    (ap (λ (x : Recovery). find p x.outcome.lost) (sym c.of.view_is) ∙ ap (find p) (sym c.deref.ensures.value) ∙ sym c.lost_in.ensures ∙ c.in-Some.is))

pub returns-in-None : goal.returns-in-None
returns-in-None c =
    let p = λ (l : LostReplica). l.no.0 == c.args.no.0 in
    c.lost_in-in-None.ensures ∙ ap (find p) c.deref-in-None.ensures.value
    ∙ sym (lost_on c.args.of.now c.args.self.now p None
    (ap (λ (x : Recovery). find p x.outcome.lost) (sym c.of.view_is) ∙ ap (find p) (sym c.deref.ensures.value) ∙ sym c.lost_in.ensures ∙ c.in-None.is))
