use Rattle.std.proofs.Common.{sym, ap, ◌∙◌}
use Rattle.std.specs.Option.{option_copied}
use Rattle.instance_keeper.proofs.Counts.{found_there, place_is}
use Rattle.instance_keeper.proofs.book.instance_in.Goals as goal

pub returns-in_err-get : goal.returns-in_err-get
returns-in_err-get c =
    absurd (found_there c.args.instances.now.entries c.args.no c.requires.keys c.requires.within (sym c.get.ensures.value ∙ ap option_copied c.in_err-get.was))

pub returns : goal.returns
returns c =
    c.as_ref.ensures.value
    ∙ place_is c.args.instances.now.entries c.args.no c.in_ok-get.field-0.now c.requires.keys c.requires.within (sym (ap option_copied c.in_ok-get.was) ∙ c.get.ensures.value)
