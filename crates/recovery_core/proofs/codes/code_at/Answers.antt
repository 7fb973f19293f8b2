use Rattle.std.proofs.Common.{◌∙◌, ap, ◌==◌, find}
use Rattle.recovery_core.proofs.Prelude.{Entry, option_map}
use Rattle.recovery_core.proofs.Entries.{code_found}
use Rattle.recovery_core.proofs.codes.code_at.Goals as goal

pub returns : goal.returns
returns c =
    c.code_in.ensures
    ∙ ap (λ xs. option_map (λ (e : Entry). e.code) (find (λ (e : Entry). e.no.0 == c.args.no.0) xs)) (c.deref.ensures.value ∙ c.in_ok-entries.ensures)
    ∙ code_found c.args.book.now c.args.no c.requires
