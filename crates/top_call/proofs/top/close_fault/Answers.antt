use Rattle.std.proofs.Common.{◌∙◌, ℕ, List, inl, refl, subst}
use Rattle.top_call.proofs.Prelude.{End, TakesLine, between, taken}
use Rattle.top_call.proofs.top.close_fault.Goals as goal

pub returns-in-Ok : goal.returns-in-Ok
returns-in-Ok g c =
    let e : End = between (taken (g.E.Sink.written c.args.err.now) (g.E.Sink.faults c.args.err.now)) (taken (g.E.Sink.written c.close.new.err) (g.E.Sink.faults c.close.new.err)) in
    inl (refl, subst (λ (v : List ℕ). TakesLine e v) (c.deref.ensures.value ∙ c.in-Ok.ensures) c.close.ensures.took)
