-- A refused command leaves the state that the scenario's turns left.
use Rattle.std.proofs.Common.{◌≡◌, ◌∙◌, Bool, true, cond, List, [], ◌∷◌, ◌++◌, Option, Some, None, refl, sym, ap, subst}
use Rattle.live_calls.proofs.Prelude.{AllTaken, Asked, LeadsTo, Recorded, RefusedCommandsLeaveTheState, Reply, Row, State, Turn, active_in, begun_by}
use Rattle.live_calls.proofs.Prelude.{claim_ahead, claim_without, closing, closing_by, command_as, is_alone, obeys_at, option_and_then, option_to_list}
use Rattle.live_calls.proofs.Prelude.{own_stages, own_turn, recorder, reply_of, run_turns, stages, step, taker, told_none, told_one, turns_of}
use Rattle.live_calls.proofs.Prelude.act
use Rattle.live_calls.proofs.Prelude.turn

-- the state after one turn, by some rows
one-state : (kept : Option (List Row)) (mid run : Recorded) (t : Turn) → LeadsTo recorder kept mid (t ∷ []) run → (rows : List Row) × (run.state ≡ step rows mid.state t)
one-state None mid run t leads = by leads.0 leads.1 leads.2
  where
    by : (xs : List (List Row × Turn)) → turns_of xs ≡ t ∷ [] → run ≡ run_turns recorder mid xs → (rows : List Row) × (run.state ≡ step rows mid.state t)
    by [] is to = absurd cc
    by (x ∷ []) is to = let same : x.1 ≡ t = cc in (x.0, ap (λ (r : Recorded). r.state) to ∙ ap (λ (u : Turn). step x.0 mid.state u) same)
    by (x ∷ y ∷ ys) is to = absurd cc
one-state (Some rows) mid run t leads = (rows, ap (λ (r : Recorded). r.state) leads)

pub refused-leave : RefusedCommandsLeaveTheState
refused-leave w run whole c r is lone refused =
    let t : Turn = turn.Act (act.Command c) in
    let mid = whole.mid in
    let own : AllTaken w.new run (own_stages c ++ closing ∷ []) whole.rows mid whole.ts = subst (λ (a : Asked). AllTaken w.new run (stages a) whole.rows mid whole.ts) is whole.own in
    let unclaimed : claim_ahead mid.state ≡ None = ap (λ (b : Bool). cond b None (claim_without (active_in mid.state))) lone in
    let at-mid : own.at ≡ mid = told_none whole.rows mid own.at (subst (λ (o : Option Turn). LeadsTo recorder whole.rows mid (option_to_list o) own.at) unclaimed own.taken.state) in
    let second = own.on in
    let alone : is_alone own.at.state ≡ true = ap (λ (x : Recorded). is_alone x.state) at-mid ∙ lone in
    let taken : own_turn c own.at.state ≡ Some t = ap (λ (b : Bool). cond b (Some t) (command_as c (taker own.at.state))) alone in
    let leads = subst (λ (o : Option Turn). LeadsTo recorder own.at_rows own.at (option_to_list o) second.at) taken second.taken.state in
    let stepped = one-state own.at_rows own.at second.at t leads in
    let here : own.at.state ≡ mid.state = ap (λ (x : Recorded). x.state) at-mid in
    let reply = ap (λ (s : State). reply_of s t) here ∙ refused in
    let last = told_one own.at_rows own.at second.at t refl leads in
    let third = second.on in
    let closed : closing second.at ≡ [] = ap (λ (o : Option Reply). closing_by (option_and_then begun_by o) second.at.state) (last ∙ ap Some reply) in
    let at-second : third.at ≡ second.at = told_none second.at_rows second.at third.at (subst (λ (ts : List Turn). LeadsTo recorder second.at_rows second.at ts third.at) closed third.taken.state) in
    ap (λ (x : Recorded). x.state) (sym third.on.run_is ∙ at-second) ∙ (stepped.1 ∙ (((obeys_at stepped.0 own.at.state c).refused r reply).1 ∙ here))
