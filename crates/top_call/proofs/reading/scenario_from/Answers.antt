use Rattle.std.proofs.Common.{ℕ, List, subst}
use Rattle.top_call.proofs.Prelude.{ReadsAs, scenario_in}
use Rattle.top_call.proofs.Ends.{each}
use Rattle.top_call.proofs.Long.{of_read, too_long_read}
use Rattle.top_call.proofs.reading.scenario_from.Goals as goal

pub returns-in-Err-TooLong-clause-read : goal.returns-in-Err-TooLong-clause-read
returns-in-Err-TooLong-clause-read g c = too_long_read _ _ _ _ c.in-Err-TooLong.field-0-is c.too_long.ensures c.stop_by.ensures c.in-Err-TooLong.ensures.told

pub returns-in-Ok-clause-read : goal.returns-in-Ok-clause-read
returns-in-Ok-clause-read g c =
    of_read (g.S.Source.left c.args.source.now) c.in-Ok.bytes.items c.scenario_in.result c.in-Ok.ensures.told
    (subst (λ (bytes : List ℕ). ReadsAs (scenario_in bytes) c.scenario_in.result) c.deref.ensures.value c.scenario_in.ensures.read)

pub returns-in-Err-Memory-clause-read : goal.returns-in-Err-Memory-clause-read
returns-in-Err-Memory-clause-read g c = each (g.S.Source.left c.args.source.now) _ (λ bytes. tt)

pub returns-in-Err-Source-clause-read : goal.returns-in-Err-Source-clause-read
returns-in-Err-Source-clause-read g c = each (g.S.Source.left c.args.source.now) _ (λ bytes. tt)
