-- What a call with `--dump` writes: the servers that its command leaves.
use Rattle.std.proofs.Common.{◌≡◌, ◌∙◌, ℕ, Bool, true, false, cond, List, [], Option, Some, None, refl, sym, ap, subst, ◌==◌, ◌&&◌, ◌||◌, is_some, not}
use Rattle.live_calls.proofs.Prelude.{Answer, AreTaken, Asked, CommandName, DumpsAreOfWhatIsLeft, Extra, HostPort, IsQuiet, NotQuiet, Own, Places}
use Rattle.live_calls.proofs.Prelude.{Recorded, Scenario, ServerNo, State, Takes, Task, and_parts, answer_of, asked_about, asked_answer, asked_at}
use Rattle.live_calls.proofs.Prelude.{asked_named, asked_of, asked_turn, dump_of, dump_text, eqb-true, name_of, names_of, not-true, own_at, places_of}
use Rattle.live_calls.proofs.Prelude.{taken_have, told_answer, turn_for, whole_comes}
use Rattle.live_calls.proofs.Prelude.answered
use Rattle.live_calls.proofs.Prelude.asked
use Rattle.live_calls.proofs.Prelude.extra
use Rattle.live_calls.proofs.Ends.{both_ok}

-- ---- what is asked

-- a command, or one whose instance no server is
IsSingle : Asked → Type 0
IsSingle (asked.Turn t) = Unit {0}
IsSingle asked.Unknown = Unit {0}
IsSingle _ = ⊥

none-there : (o : Option Own) → not (is_some o) ≡ true → o ≡ None
none-there None e = refl
none-there (Some x) e = absurd cc

module _ (p : Places) (names : List HostPort) (unplanned : p.plan ≡ false) where
  about : (name : CommandName) (i d : Option (Option ServerNo)) → IsSingle (asked_about p names name i d)
  unfolding IsSingle
  about name None d = tt
  about name (Some i) None = tt
  about name (Some i) (Some d) = subst (λ (plan : Bool). IsSingle (asked_turn plan (turn_for p names name i d))) (sym unplanned) tt

  named : (o : Option CommandName) → is_some o ≡ true → IsSingle (asked_named p names o)
  named None there = absurd cc
  named (Some name) there = about name _ _

single : (p : Places) (names : List HostPort) → AreTaken p → p.dump ≡ true → IsSingle (asked_of p names)
unfolding asked_of
single p names has dump =
    let others = and_parts (not (is_some (own_at p.command)) && not p.plan) (not p.tables) (has.dump dump) in
    let first = and_parts (not (is_some (own_at p.command))) (not p.plan) others.0 in
    let none = none-there (own_at p.command) first.0 in
    let word : is_some (name_of p.command) ≡ true = ap (λ (o : Option Own). is_some o || is_some (name_of p.command)) (sym none) ∙ has.word in
    subst (λ (o : Option Own). IsSingle (asked_at p names o)) (sym none) (named p names (not-true p.plan first.1) (name_of p.command) word)

-- ---- what is answered

-- out gets what is dumped of the last state
dumped : (a : Asked) (names : List HostPort) (s : Scenario) (run : Recorded) → IsSingle a → (asked_answer a extra.Dump names s run).out ≡ (dump_of names s run.state).out
unfolding IsSingle
dumped (asked.Turn t) names s run is = refl
dumped asked.Unknown names s run is = refl
dumped _ names s run is = absurd is

module _ (names : List HostPort) (s : Scenario) (at : State) where
  abbrev refused : Answer
  refused = told_answer false names at (answered.Refused (NotQuiet at.world.errant))

  abbrev told : Bool → List ℕ
  told b = (cond {A = Answer} b (record { out = dump_text at.world s at.moment; err = []; is_refused = false }) refused).out

  quiet-text : IsQuiet at.world → (dump_of names s at).out ≡ dump_text at.world s at.moment
  quiet-text quiet = ap (λ (n : ℕ). told (n == 0)) quiet

  errant-text : (IsQuiet at.world → ⊥) → (dump_of names s at).out ≡ []
  errant-text loud = by (at.world.errant == 0) refl
    where
      by : (b : Bool) → (at.world.errant == 0) ≡ b → told b ≡ []
      by true is = absurd (loud (eqb-true at.world.errant 0 is))
      by false is = refl

-- ---- the law

pub dumps-left : DumpsAreOfWhatIsLeft
dumps-left c refused r ask =
    let w = r.work in
    let is = r.asks.is in
    let run = r.written.run in
    let names = names_of w.scenario in
    let flag : is.places.dump ≡ true = ap (λ (p : Places). p.dump) (both_ok (places_of c.words) is.places ask.places is.taken ask.taken) ∙ ask.dump in
    let has = taken_have c.words is.places is.taken in
    let asks : IsSingle w.task.asked = subst (λ (t : Task). IsSingle t.asked) (sym is.task) (single is.places names has flag) in
    let dumps : w.task.extra ≡ extra.Dump = ap (λ (t : Task). t.extra) is.task ∙ ap (λ b. cond b extra.Dump (cond is.places.tables extra.Tables extra.Nothing)) flag in
    let told : (answer_of w.task names w.scenario run).out ≡ (dump_of names w.scenario run.state).out = ap (λ (x : Extra). (asked_answer w.task.asked x names w.scenario run).out) dumps ∙ dumped w.task.asked names w.scenario run asks in
    let out : Takes c.out (dump_of names w.scenario run.state).out = subst (Takes c.out) told r.written.on_out in
    let comes = whole_comes c.words c.bytes w run is r.written.whole in
    record {
      xs = comes.0;
      comes = comes.1;
      quiet = λ quiet. subst (Takes c.out) (quiet-text names w.scenario run.state quiet) out;
      errant = λ loud. subst (Takes c.out) (errant-text names w.scenario run.state loud) out;
    }
