use Rattle.std.proofs.Common.{◌≡◌, ◌∙◌, ◌<◌, ◌++◌, [], rules, refl, sym, ap, subst, inr, length, Bool, false, List, Ok, Option, IfSome, is_ok, slice_get}
use Rattle.orch_core.proofs.Prelude.{AreReply, CanGo, Change, Closing, IsOpenAt, Keeps, Reply, State, Unended, changes_by, changes_of, closed_by, closing_changes}
use Rattle.orch_core.proofs.Prelude.{job_at, job_exchanges, kept_if, observation_of, ready-of, reply_of, servers-run, state_of, step, step_of, step_reply, turned_at}
use Rattle.orch_core.proofs.Prelude.act
use Rattle.orch_core.proofs.Prelude.turn
use Rattle.orch_core.proofs.Taking.{Takes-kept}
use Rattle.orch_core.proofs.Turned.{Looked, IsState-taken, changes-here, ends, ends-open, found-one, here, looked-as, none-kept, observed-book, observed-place, reply-is, step-here}
use Rattle.orch_core.proofs.engine.Engine.job_at.Goals as goal

pub look-requires : goal.look-requires
look-requires g c =
    let before = state_of c.self.inside in
    let within = subst (λ (s : State). c.args.found.at < length s.jobs) (sym c.self.view_is) c.requires.at in
    let found = subst (λ (s : State). job_at s.jobs c.args.found.id ≡ slice_get s.jobs c.args.found.at) (sym c.self.view_is) c.requires.id in
    record {
      ready = ready-of (length before.world.servers) c.index-job.result.now (found-one before c.args.found.id c.args.found.at c.index-job.result.now c.self.invariant within found c.index-job.ensures);
      known = c.self.invariant.names;
    }

pub keep_turn-requires : goal.keep_turn-requires
keep_turn-requires g c =
    let before = state_of c.self.inside in
    let id = c.args.found.id in
    let at = c.args.found.at in
    let j = c.index-job.result.now in
    let look = c.in_ok-look.look in
    let looked : Looked before id at j look =
    looked-as before c.args.self.now c.self.view_is id at j look c.saturating_add-read.result c.requires.at c.requires.id c.index-job.ensures c.saturating_add-read.ensures c.in_ok-look.ensures.turn in
    observed-place before id at j look c.self.invariant looked

pub returns-in_err-replies : goal.returns-in_err-replies
returns-in_err-replies g c =
    let before = state_of c.self.inside in
    let id = c.args.found.id in
    let at = c.args.found.at in
    let j = c.index-job.result.now in
    let look = c.in_ok-look.look in
    let looked : Looked before id at j look =
    looked-as before c.args.self.now c.self.view_is id at j look c.saturating_add-read.result c.requires.at c.requires.id c.index-job.ensures c.saturating_add-read.ensures c.in_ok-look.ensures.turn in
    let now = c.self.inside.moment in
    let closes = c.closing_of-closing.ensures in
    let items : changes_by before.book (observation_of look) ++ closing_changes before.audit now c.closing_of-closing.result ≡ changes_by before.book (observation_of look) ++ closing_changes before.audit now (ends before id at j look c.self.invariant looked) =
    ap (λ (k : Option Closing). changes_by before.book (observation_of look) ++ closing_changes before.audit now k) closes in
    record {
      reply = search rules;
      ok = search rules;
      err = search rules;
      kept = search rules;
      cause = search rules;
      idle = (λ silent none. c.keep_turn.ensures.keeps.idle (items ∙ changes-here before id at j look c.self.invariant looked ∙ subst (λ (s : State). changes_of [] s (turn.Act (act.Job id)) ≡ []) (sym c.self.view_is) none));
      calls = λ failed. inr ([], λ none. c.keep_turn.ensures.keeps.calls (search rules) (items ∙ changes-here before id at j look c.self.invariant looked ∙ subst (λ (s : State). changes_of [] s (turn.Act (act.Job id)) ≡ []) (sym c.self.view_is) none));
      servers = search rules;
      nodes = search rules;
    }

pub take_turn-requires-clause-can : goal.take_turn-requires-clause-can
take_turn-requires-clause-can g c =
    let before = state_of c.self.inside in
    let id = c.args.found.id in
    let at = c.args.found.at in
    let j = c.index-job.result.now in
    let look = c.in_ok-look.look in
    let looked : Looked before id at j look =
    looked-as before c.args.self.now c.self.view_is id at j look c.saturating_add-read.result c.requires.at c.requires.id c.index-job.ensures c.saturating_add-read.ensures c.in_ok-look.ensures.turn in
    subst (λ (o : Option Unended). IfSome o (λ k. CanGo before.world k look)) (sym (here before id at j look c.self.invariant looked)) c.in_ok-look.ensures.can

pub take_turn-requires-clause-known : goal.take_turn-requires-clause-known
take_turn-requires-clause-known g c =
    let before = state_of c.self.inside in
    let id = c.args.found.id in
    let at = c.args.found.at in
    let j = c.index-job.result.now in
    let look = c.in_ok-look.look in
    let looked : Looked before id at j look =
    looked-as before c.args.self.now c.self.view_is id at j look c.saturating_add-read.result c.requires.at c.requires.id c.index-job.ensures c.saturating_add-read.ensures c.in_ok-look.ensures.turn in
    observed-book before id at j look c.self.invariant looked

pub returns-in_err-take_turn : goal.returns-in_err-take_turn
returns-in_err-take_turn g c =
    let before = state_of c.self.inside in
    let id = c.args.found.id in
    let at = c.args.found.at in
    let j = c.index-job.result.now in
    let look = c.in_ok-look.look in
    let looked : Looked before id at j look =
    looked-as before c.args.self.now c.self.view_is id at j look c.saturating_add-read.result c.requires.at c.requires.id c.index-job.ensures c.saturating_add-read.ensures c.in_ok-look.ensures.turn in
    let now = c.self.inside.moment in
    let closes = c.closing_of-closing.ensures in
    let items : changes_by before.book (observation_of look) ++ closing_changes before.audit now c.closing_of-closing.result ≡ changes_by before.book (observation_of look) ++ closing_changes before.audit now (ends before id at j look c.self.invariant looked) =
    ap (λ (k : Option Closing). changes_by before.book (observation_of look) ++ closing_changes before.audit now k) closes in
    let empty = items ∙ none-kept before id at j look c.self.invariant looked c.in_err-take_turn.ensures.memory c.in_err-take_turn.ensures.going in
    record {
      reply = search rules;
      ok = search rules;
      err = search rules;
      kept =
          let fails : is_ok c.from_residual-in_err-take_turn.result ≡ false = search rules in
          ap g.K.Keeper.kept (c.keep_turn.ensures.keeps.idle empty)
          ∙ ap (λ (made : Bool). kept_if made (g.K.Keeper.kept c.args.keeper.now) (changes_of [] c.args.self.now (turn.Act (act.Job id)))) (sym fails);
      cause = search rules;
      idle = (λ silent none. c.keep_turn.ensures.keeps.idle empty);
      calls = search rules;
      servers = search rules;
      nodes = search rules;
    }

pub close_entry-requires : goal.close_entry-requires
close_entry-requires g c =
    let before = state_of c.self.inside in
    let id = c.args.found.id in
    let at = c.args.found.at in
    let j = c.index-job.result.now in
    let look = c.in_ok-look.look in
    let looked : Looked before id at j look =
    looked-as before c.args.self.now c.self.view_is id at j look c.saturating_add-read.result c.requires.at c.requires.id c.index-job.ensures c.saturating_add-read.ensures c.in_ok-look.ensures.turn in
    subst (λ (o : Option Closing). IfSome o (λ x. IsOpenAt before.audit x.id)) (sym c.closing_of-closing.ensures) (ends-open before id at j look c.self.invariant looked)

pub invariant_of-self-2 : goal.invariant_of-self-2
invariant_of-self-2 g c =
    let before = state_of c.self.inside in
    let id = c.args.found.id in
    let at = c.args.found.at in
    let j = c.index-job.result.now in
    let look = c.in_ok-look.look in
    let looked : Looked before id at j look =
    looked-as before c.args.self.now c.self.view_is id at j look c.saturating_add-read.result c.requires.at c.requires.id c.index-job.ensures c.saturating_add-read.ensures c.in_ok-look.ensures.turn in
    let closed : c.close_entry.new.audit.audit ≡ closed_by before.audit c.self.inside.moment (ends before id at j look c.self.invariant looked) =
    c.close_entry.ensures ∙ ap (closed_by before.audit c.self.inside.moment) c.closing_of-closing.ensures in
    IsState-taken before id at j look c.self.invariant looked c.take_turn.new.world c.take_turn.new.book c.close_entry.new.audit.audit c.take_turn.new.jobs.items c.take_turn.new.reads
    c.in_ok-take_turn.ensures.world c.in_ok-take_turn.ensures.book closed c.in_ok-take_turn.ensures.jobs

pub returns : goal.returns
returns g c =
    let before = state_of c.self.inside in
    let id = c.args.found.id in
    let at = c.args.found.at in
    let j = c.index-job.result.now in
    let look = c.in_ok-look.look in
    let looked : Looked before id at j look =
    looked-as before c.args.self.now c.self.view_is id at j look c.saturating_add-read.result c.requires.at c.requires.id c.index-job.ensures c.saturating_add-read.ensures c.in_ok-look.ensures.turn in
    let now = c.self.inside.moment in
    let closes = c.closing_of-closing.ensures in
    let items : changes_by before.book (observation_of look) ++ closing_changes before.audit now c.closing_of-closing.result ≡ changes_by before.book (observation_of look) ++ closing_changes before.audit now (ends before id at j look c.self.invariant looked) =
    ap (λ (k : Option Closing). changes_by before.book (observation_of look) ++ closing_changes before.audit now k) closes in
    let said : step_reply (step_of look) ≡ reply_of c.args.self.now (turn.Act (act.Job id)) =
    sym (reply-is before id at j look c.self.invariant looked) ∙ ap (λ (s : State). reply_of s (turn.Act (act.Job id))) c.self.view_is in
    let closed : c.close_entry.new.audit.audit ≡ closed_by before.audit c.self.inside.moment (ends before id at j look c.self.invariant looked) =
    c.close_entry.ensures ∙ ap (closed_by before.audit c.self.inside.moment) c.closing_of-closing.ensures in
    let kept : changes_by before.book (observation_of look) ++ closing_changes before.audit now c.closing_of-closing.result ≡ changes_of [] c.args.self.now (turn.Act (act.Job id)) =
    items ∙ changes-here before id at j look c.self.invariant looked ∙ ap (λ (s : State). changes_of [] s (turn.Act (act.Job id))) c.self.view_is in
    Takes-kept _ _ _ _ c.args.self.now _ (step [] c.args.self.now (turn.Act (act.Job id))) (act.Job id) (changes_of [] c.args.self.now (turn.Act (act.Job id))) (AreReply c.args.written) _ refl (λ given. refl) (λ given. refl)
    (subst (λ (r : Reply). AreReply c.args.written r c.in_ok-replies.replies) said c.in_ok-replies.ensures.reply)
    (step-here before id at j look c.self.invariant looked c.take_turn.new.world c.take_turn.new.book c.close_entry.new.audit.audit c.take_turn.new.jobs.items c.take_turn.new.reads
    c.in_ok-take_turn.ensures.world c.in_ok-take_turn.ensures.book closed c.in_ok-take_turn.ensures.jobs c.in_ok-take_turn.ensures.reads
    ∙ ap (λ (s : State). step [] s (turn.Act (act.Job id))) c.self.view_is)
    tt (subst (λ (cs : List Change). Keeps g.K.Keeper.kept g.K.Keeper.faults c.args.keeper.now c.keep_turn.new.keeper cs (Ok c.in_ok-replies.replies)) kept c.in_ok-replies.ensures.keeps)
    (servers-run c.args.self.now.world (job_exchanges (turned_at c.args.self.now id))) refl
