use Rattle.std.proofs.Common.{refl}
use Rattle.cluster_filters.proofs.PatternLemmas.{is_pattern-read, is_pattern-refused}
use Rattle.cluster_filters.proofs.pattern.Pattern.read_at.Goals as goal

pub returns-in-Ok-clause-taken : goal.returns-in-Ok-clause-taken
returns-in-Ok-clause-taken c =
    let made = c.in-Ok.ensures in
    is_pattern-read c.in-Ok.regex made.config made.read c.args.text.now made.source

pub returns-in-Err-Syntax-clause-refused : goal.returns-in-Err-Syntax-clause-refused
returns-in-Err-Syntax-clause-refused c =
    let failed = rw c.in-Err-Syntax.field-0-is at c.in-Err-Syntax.ensures in
    (refl, is_pattern-refused c.args.text.now c.in-Err-Syntax.field-0-0.kind failed.kind (failed.by_grammar c.in-Err-Syntax.field-0-0 refl))
