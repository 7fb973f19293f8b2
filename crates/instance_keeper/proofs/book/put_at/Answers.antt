use Rattle.std.proofs.Common.{sym, ap, ◌∙◌}
use Rattle.std.specs.Option.{option_copied_mut}
use Rattle.instance_keeper.proofs.Counts.{found_there, put_counts, put_values}
use Rattle.instance_keeper.proofs.book.put_at.Goals as goal

pub returns-in-Some-clause-keys : goal.returns-in-Some-clause-keys
returns-in-Some-clause-keys c =
    put_counts c.args.instances.now.entries (c.get_mut.follows.lender c.args.instance).entries c.args.no c.args.instance c.requires.keys (c.get_mut.follows.holds c.args.instance).0

pub returns-in-Some-clause-values : goal.returns-in-Some-clause-values
returns-in-Some-clause-values c =
    put_values c.args.instances.now.entries (c.get_mut.follows.lender c.args.instance).entries c.args.no c.args.instance c.requires.keys (c.get_mut.follows.holds c.args.instance).0

pub returns-in_default-clause-values : goal.returns-in_default-clause-values
returns-in_default-clause-values c =
    absurd (found_there c.args.instances.now.entries c.args.no c.requires.keys c.requires.within (sym c.get_mut.ensures.value ∙ ap option_copied_mut c.in_default.is))
