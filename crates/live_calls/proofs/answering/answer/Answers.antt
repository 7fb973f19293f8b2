use Rattle.std.proofs.Common.{Err, inl, refl, subst}
use Rattle.live_calls.proofs.Prelude.{OfRead, ReadsAs, Stop, each, idles, lifted, live_scenario, told_of_faults, unmoved}
use Rattle.live_calls.proofs.Prelude.way
use Rattle.live_calls.proofs.Ends.{faulty}
use Rattle.live_calls.proofs.answering.answer.Goals as goal

pub returns-in-Err-Source-clause-ends : goal.returns-in-Err-Source-clause-ends
returns-in-Err-Source-clause-ends g c = λ words t ask. each (g.S.Source.left c.args.source.now) _ (λ bytes. idles words bytes _ _ _ _ c.close-in-Err-Source.ensures.took)

pub returns-in-Err-Memory-clause-ends : goal.returns-in-Err-Memory-clause-ends
returns-in-Err-Memory-clause-ends g c = λ words t ask. each (g.S.Source.left c.args.source.now) _ (λ bytes. inl (idles words bytes _ _ _ _ c.close.ensures.took))

pub returns-in-Ok-clause-ends : goal.returns-in-Ok-clause-ends
returns-in-Ok-clause-ends g c = λ words t ask. lifted (g.S.Source.left c.args.source.now) _ _ (λ bytes r. c.report.ensures.ends words bytes t r) c.in-Ok.ensures.read

pub returns-in-Err-Fault-clause-ends : goal.returns-in-Err-Fault-clause-ends
returns-in-Err-Fault-clause-ends g c = λ words t ask.
    lifted (g.S.Source.left c.args.source.now) _ _
    (λ bytes r. faulty words bytes _ _ _ _ _ r c.close_fault.ensures)
    (subst (λ (why : Stop). OfRead (g.S.Source.left c.args.source.now) (λ bytes. ReadsAs (live_scenario bytes) (Err why))) c.in-Err-Fault.field-0-is c.in-Err-Fault.ensures.read)

pub returns-in-Err-Memory-clause-keeper : goal.returns-in-Err-Memory-clause-keeper
returns-in-Err-Memory-clause-keeper g c = unmoved _ _ way.Memory (λ is. absurd cc) refl

pub returns-in-Err-Source-clause-keeper : goal.returns-in-Err-Source-clause-keeper
returns-in-Err-Source-clause-keeper g c = unmoved _ _ way.Source (λ is. absurd cc) refl

pub returns-in-Err-Fault-clause-keeper : goal.returns-in-Err-Fault-clause-keeper
returns-in-Err-Fault-clause-keeper g c = unmoved _ _ c.close_fault.result (told_of_faults c.close_fault.result _ _ c.close_fault.ensures) refl
