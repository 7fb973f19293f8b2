-- Turns that the engine takes.
use Rattle.std.proofs.Common.{◌≡◌, ◌∙◌, ◌++◌, ◌∷◌, ℕ, Bool, true, false, List, [], length, Option, Some, None, Result, Ok, Err, is_ok, IfOk, OnOk, OnErr, refl, sym, ap, subst, inl, inr, arith}
use Rattle.orch_core.proofs.Prelude.{Act, AreReply, Calls, Change, Keeps, Outcome, Replies, Reply, Row, State, StepsTo, Takes, Turn, TurnFault, act_asks, act_changes, act_reply}
use Rattle.orch_core.proofs.Prelude.{after_act, asks, cause-fine, cause-later, changed, changes_of, engine, kept_by, kept_if, nodes_of, on_ok_weaker, recorder, reply_of, settled, step}
use Rattle.orch_core.proofs.Prelude.fault
use Rattle.orch_core.proofs.Prelude.turn
use Rattle.orch_core.proofs.Runs.{StepsTo-recorded}

-- it leads to one state, whatever rows the row store has
StepsTo-each : (kept : Option (List Row)) (s now : State) (t : Turn) → ((given : List Row) → now ≡ step given s t) → StepsTo engine kept s t now
StepsTo-each None s now t steps = ([], steps [])
StepsTo-each (Some given) s now t steps = steps given

-- and so do the kept rows
kept-each : (s : State) (t : Turn) (changes : List Change) (made : Bool) (kept : Option (List Row)) → ((given : List Row) → changes ≡ changes_of given s t) → kept_if made kept changes ≡ kept_by engine made kept s t
kept-each s t changes false kept each = refl
kept-each s t changes true None each = refl
kept-each s t changes true (Some given) each = ap (λ (cs : List Change). Some (changed given cs)) (each given)

-- the same of the state, whether it is as after the turn or as before
same-either : {R : Type 0} (r : Result R TurnFault) (s now after : State) (f : State → ℕ) → f after ≡ f s → OnOk r (now ≡ after) → OnErr r (now ≡ s) → f now ≡ f s
same-either (Ok x) s now after f same is err = ap f is ∙ same
same-either (Err e) s now after f same is err = ap f err

-- a call that keeps changes is what orchestrator does, if it makes the same of the state
pub Takes-kept : {K R : Type 0} (rows : K → Option (List Row)) (faults : K → ℕ) (k k' : K) (s now after : State) (a : Act) (changes : List Change) (AreReplies : Reply → R → Type 0) (r : Result R TurnFault)
    → act_asks a ≡ false → ((given : List Row) → changes ≡ act_changes given s a) → ((given : List Row) → after ≡ after_act given s a)
    → IfOk r (AreReplies (act_reply s a)) → OnOk r (now ≡ after) → OnErr r (now ≡ s) → Keeps rows faults k k' changes r → length after.world.servers ≡ length s.world.servers → nodes_of after ≡ nodes_of s
    → Takes engine (λ x. x) rows faults k k' s (turn.Act a) now AreReplies r
Takes-kept rows faults k k' s now after a changes AreReplies r silent each leads reply ok err keeps servers nodes = record {
  reply = reply;
  ok = on_ok_weaker r (λ is. StepsTo-each (rows k) s now (turn.Act a) (λ given. is ∙ leads given)) ok;
  err = err;
  kept = keeps.kept ∙ kept-each s (turn.Act a) changes (is_ok r) (rows k) each;
  cause = keeps.cause;
  idle = λ _ none. keeps.idle (each [] ∙ none);
  calls = λ failed. inr ([], λ none. keeps.calls failed (each [] ∙ none));
  servers = same-either r s now after (λ x. length x.world.servers) servers ok err;
  nodes = same-either r s now after nodes_of nodes ok err;
}

-- and so is what settles this outcome
pub Takes-settled : {K : Type 0} (rows : K → Option (List Row)) (faults : K → ℕ) (k k' : K) (s now : State) (a : Act) (written : Bool) (o o' : Outcome) (r : Result Replies TurnFault)
    → o ≡ o' → act_asks a ≡ false → ((given : List Row) → o'.rows ≡ act_changes given s a) → ((given : List Row) → settled s o' ≡ after_act given s a) → o'.reply ≡ act_reply s a
    → IfOk r (AreReply written o.reply) → OnOk r (now ≡ settled s o) → OnErr r (now ≡ s) → Keeps rows faults k k' o.rows r → Takes engine (λ x. x) rows faults k k' s (turn.Act a) now (AreReply written) r
Takes-settled rows faults k k' s now a written o o' r same silent each leads replies reply ok err keeps =
    Takes-kept rows faults k k' s now (settled s o') a o'.rows (AreReply written) r silent each leads (subst (λ y. IfOk r (AreReply written y)) (ap (λ (x : Outcome). x.reply) same ∙ replies) reply)
    (on_ok_weaker r (λ is. is ∙ ap (settled s) same) ok) err (subst (λ (x : Outcome). Keeps rows faults k k' x.rows r) same keeps) refl refl

-- ---- a turn that is as another

StepsTo-same : (kept : Option (List Row)) (s now : State) (t u : Turn) → ((given : List Row) → step given s t ≡ step given s u) → StepsTo engine kept s t now → StepsTo engine kept s u now
StepsTo-same None s now t u same steps = (steps.0, steps.1 ∙ same steps.0)
StepsTo-same (Some given) s now t u same steps = steps ∙ same given

kept-same : (s : State) (t u : Turn) (made : Bool) (kept : Option (List Row)) → ((given : List Row) → changes_of given s t ≡ changes_of given s u) → kept_by engine made kept s t ≡ kept_by engine made kept s u
kept-same s t u false kept same = refl
kept-same s t u true None same = refl
kept-same s t u true (Some given) same = ap (λ (cs : List Change). Some (changed given cs)) (same given)

Calls-same : (s : State) (t u : Turn) → asks s t ≡ asks s u → ((given : List Row) → changes_of given s t ≡ changes_of given s u) → Calls engine s t → Calls engine s u
Calls-same s t u asked same (inl asking) = inl (sym asked ∙ asking)
Calls-same s t u asked same (inr some) = inr (some.0, λ none. some.1 (same some.0 ∙ none))

pub Takes-same : {K R : Type 0} (rows : K → Option (List Row)) (faults : K → ℕ) (k k' : K) (s now : State) (t u : Turn) (AreReplies : Reply → R → Type 0) (r : Result R TurnFault)
    → reply_of s t ≡ reply_of s u → ((given : List Row) → step given s t ≡ step given s u) → ((given : List Row) → changes_of given s t ≡ changes_of given s u) → asks s t ≡ asks s u
    → Takes engine (λ x. x) rows faults k k' s t now AreReplies r → Takes engine (λ x. x) rows faults k k' s u now AreReplies r
Takes-same rows faults k k' s now t u AreReplies r replies steps same asked takes = record {
  reply = subst (λ (a : Reply). IfOk r (AreReplies a)) replies takes.reply;
  ok = on_ok_weaker r (StepsTo-same (rows k) s now t u steps) takes.ok;
  err = takes.err;
  kept = takes.kept ∙ kept-same s t u (is_ok r) (rows k) same;
  cause = takes.cause;
  idle = λ silent none. takes.idle (asked ∙ silent) (same [] ∙ none);
  calls = λ failed. Calls-same s t u asked same (takes.calls failed);
  servers = takes.servers;
  nodes = takes.nodes;
}

-- ---- the journal beside

pub Takes-recorded : {K : Type 0} (rows : K → Option (List Row)) (faults : K → ℕ) (k k' : K) (s s' : State) (journal journal' : List (Turn × Reply)) (t : Turn) (both : Replies)
    → journal' ≡ journal ++ (t, reply_of s t) ∷ [] → Takes engine (λ x. x) rows faults k k' s t s' (AreReply true) (Ok both)
    → Takes recorder (λ x. x.state) rows faults k k' (record { state = s; journal = journal }) t (record { state = s'; journal = journal' }) (λ r said. said ≡ r) (Ok both.told)
Takes-recorded rows faults k k' s s' journal journal' t both joins takes = record {
  reply = takes.reply.told;
  ok = StepsTo-recorded (rows k) s s' journal journal' t takes.ok joins;
  err = tt;
  kept = takes.kept;
  cause = cause-fine _ _ _ takes.cause.later;
  idle = takes.idle;
  calls = λ failed. absurd cc;
  servers = takes.servers;
  nodes = takes.nodes;
}

pub Takes-unrecorded : {K : Type 0} (rows : K → Option (List Row)) (faults : K → ℕ) (k k' : K) (s s' : State) (journal journal' : List (Turn × Reply)) (t : Turn) (e : TurnFault)
    → journal' ≡ journal → Takes engine (λ x. x) rows faults k k' s t s' (AreReply true) (Err e)
    → Takes recorder (λ x. x.state) rows faults k k' (record { state = s; journal = journal }) t (record { state = s'; journal = journal' }) (λ r said. said ≡ r) (Err e)
Takes-unrecorded rows faults k k' s s' journal journal' t e same takes = record {
  reply = tt;
  ok = tt;
  err = λ i. record { state = takes.err i; journal = same i };
  kept = takes.kept;
  cause = cause-later (faults k) (faults k) (faults k') e (omega arith) takes.cause;
  idle = takes.idle;
  calls = λ failed. takes.calls (let is : e ≡ fault.Keeper = cc in ap Err is);
  servers = takes.servers;
  nodes = takes.nodes;
}
