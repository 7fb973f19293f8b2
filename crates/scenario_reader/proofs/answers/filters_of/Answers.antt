use Rattle.std.proofs.Common.{◌≡◌, None, sym, ◌∙◌}
use Rattle.cluster_filters.specs.Forms.{forms_of, first_bad}
use Rattle.scenario_reader.proofs.PatternLemmas.{none_bad}
use Rattle.scenario_reader.proofs.answers.filters_of.Goals as goal

pub unreachable-requires : goal.unreachable-requires
unreachable-requires c =
    let none : first_bad (forms_of c.args.texts.now) ≡ None = none_bad c.args.texts.now c.requires in
    let bad = rw (c.in-Err-BadPattern.field-0-is, c.as_slice.ensures) at c.in-Err-BadPattern.ensures.refused in
    let both = sym none ∙ bad in
    cc
