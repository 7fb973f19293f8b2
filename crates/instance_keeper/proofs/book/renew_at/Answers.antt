use Rattle.std.proofs.Common.{sym, ap, ◌∙◌, option_map, slice_set}
use Rattle.instance_keeper.proofs.Prelude.{option_copied_mut, renewed, values}
use Rattle.instance_keeper.proofs.Counts.{found_there, place_is, put_counts, put_values}
use Rattle.instance_keeper.proofs.book.renew_at.Goals as goal

pub returns-in-Some-clause-keys : goal.returns-in-Some-clause-keys
returns-in-Some-clause-keys c =
    put_counts c.args.instances.now.entries (c.get_mut.follows.lender c.renew_place.new.place).entries c.args.o.no.0 c.renew_place.new.place c.requires.keys (c.get_mut.follows.holds c.renew_place.new.place).0

pub returns-in-Some-clause-values : goal.returns-in-Some-clause-values
returns-in-Some-clause-values c =
    put_values c.args.instances.now.entries (c.get_mut.follows.lender c.renew_place.new.place).entries c.args.o.no.0 c.renew_place.new.place c.requires.keys (c.get_mut.follows.holds c.renew_place.new.place).0
    ∙ ap (slice_set (values c.args.instances.now) c.args.o.no.0)
    (c.renew_place.ensures ∙ ap (option_map (λ i. renewed i c.args.o)) (place_is c.args.instances.now.entries c.args.o.no.0 c.in-Some.place.now c.requires.keys c.requires.within c.in-Some.ensures.value))

pub returns-in_default-clause-values : goal.returns-in_default-clause-values
returns-in_default-clause-values c =
    absurd (found_there c.args.instances.now.entries c.args.o.no.0 c.requires.keys c.requires.within (sym c.get_mut.ensures.value ∙ ap option_copied_mut c.in_default.is))
