use Rattle.std.proofs.Common.{◌≡◌, ◌≤◌, List, arith, inl, subst, sym}
use Rattle.live_calls.proofs.Prelude.{Entry, IsLive, rows_after, state_after}
use Rattle.live_calls.proofs.Ends.{few_threads}
use Rattle.live_calls.proofs.Reports.{tells}
use Rattle.live_calls.proofs.delivery.live_ending.Goals as goal

pub live_to_end-ran-requires-clause-pollers : goal.live_to_end-ran-requires-clause-pollers
live_to_end-ran-requires-clause-pollers g c = let few : c.args.places.now.pollers ≤ 16 = (few_threads c.args.places.now c.requires.words).0 in omega (arith, few)

pub live_to_end-ran-requires-clause-workers : goal.live_to_end-ran-requires-clause-workers
live_to_end-ran-requires-clause-workers g c = let few : c.args.places.now.workers ≤ 16 = (few_threads c.args.places.now c.requires.words).1 in omega (arith, few)

pub returns-clause-tells : goal.returns-clause-tells
returns-clause-tells g c =
    let s = c.args.scenario.now in
    let wait = c.args.places.now.wait in
    let ended = c.in-Ok.ended in
    let same = sym c.deref.ensures.value in
    inl
    (tells s wait _ c.deref.result.now ended.engine ended.rows.items _ _ _ c.deliver.result c.names-names.ensures
    (subst (λ (es : List Entry). IsLive s wait es) same c.in-Ok.ensures.live)
    (subst (λ (es : List Entry). ended.engine ≡ state_after s wait es) same c.in-Ok.ensures.state)
    (subst (λ (es : List Entry). ended.rows.items ≡ rows_after s wait es) same c.in-Ok.ensures.rows) c.deliver.ensures.delivers)
