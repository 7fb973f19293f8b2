use Rattle.std.proofs.Common.{◌∙◌, ap, inl, inr, refl, Err}
use Rattle.top_call.proofs.Prelude.{takes_nothing}
use Rattle.top_call.proofs.top.draw.Goals as goal

pub returns-in-Ok-clause-ends : goal.returns-in-Ok-clause-ends
returns-in-Ok-clause-ends g c = inl (refl, c.in-Ok.ensures.ok, takes_nothing (g.E.Sink.written c.args.err.now))

pub returns-in-Err-Sink-clause-ends : goal.returns-in-Err-Sink-clause-ends
returns-in-Err-Sink-clause-ends g c = inr (inl (refl, record { failed = c.write_scenario.ensures.cause.failed (c.in-Err-Sink.is ∙ ap Err c.in-Err-Sink.field-0-is); front = c.in-Err-Sink.ensures.err }, c.close.ensures.took))

pub returns-in-Err-Memory-clause-ends : goal.returns-in-Err-Memory-clause-ends
returns-in-Err-Memory-clause-ends g c = inr (inr (refl, c.in-Err-Memory.ensures.err, c.close-in-Err-Memory.ensures.took))
